use Rattle.zf_typing.proofs.Prelude.{◌+◌, ◌∙◌, ap, map, Some, last_named, variable_of}
use Rattle.zf_typing.proofs.Halves.{last_behind, none_in_many}
use Rattle.zf_typing.proofs.locals.Locals.find.Goals as goal

pub returns-in-Some : goal.returns-in-Some
returns-in-Some c =
    let few = c.self.inside.few.items in
    let many = c.self.inside.many in
    let v = variable_of c.in-Some.variable.now in
    ap (λ n. Some (n + c.in-Some.place, v)) (c.len.ensures ∙ c.self.inside.few.ok.0)
    ∙ last_behind variable_of c.args.name.now few many c.in-Some.place v c.in-Some.ensures.last
    ∙ ap (λ vs. last_named (λ u. u.name) c.args.name.now (map variable_of vs)) c.self.view_is

pub returns : goal.returns
returns c =
    let few = c.self.inside.few.items in
    let many = c.self.inside.many in
    c.last_of.ensures
    ∙ ap (λ vs. last_named (λ u. u.name) c.args.name.now (map variable_of vs)) c.as_slice.ensures.value
    ∙ none_in_many variable_of c.args.name.now few many c.in_default.ensures.last
    ∙ ap (λ vs. last_named (λ u. u.name) c.args.name.now (map variable_of vs)) c.self.view_is
