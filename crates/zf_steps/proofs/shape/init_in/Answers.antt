use Rattle.zf_steps.proofs.Prelude.{◌≡◌, map, subst, comp_of, schema_of, before_of, init_in, IsInit, Lacks, operation_of}
use Rattle.zf_steps.proofs.Shapes.{if_ok, init_plain}
use Rattle.zf_steps.proofs.shape.init_in.Goals as goal

pub returns-in-Some : goal.returns-in-Some
returns-in-Some c =
    let cs = before_of c.args.states in
    let name = c.args.name.now in
    let a = schema_of c.args.schema.now in
    let component = c.in-Some.field-0.now in
    let lacks = subst (λ ws. Lacks a.comps ws component) c.requires.states
    (subst (λ ks. Lacks (map comp_of ks) (map comp_of c.args.states.after.now) component) c.as_slice.ensures c.in-Some.ensures) in
    if_ok c.init_of-in-Some.result (λ o. operation_of schema_of o ≡ init_in cs name a) (λ o. IsInit cs name a (operation_of schema_of o))
    (λ o is. init_plain cs name component a (operation_of schema_of o) lacks c.requires.has is) c.init_of-in-Some.ensures
