use Rattle.zf_steps.proofs.Prelude.{map, subst, MatchOption, comp_of, schema_of, before_of, both_states, HasAll, Lacks, LacksStep, with_strokes}
use Rattle.zf_steps.proofs.Shapes.{has_both, lacks_behind, lacks_front, match_option}
use Rattle.zf_steps.proofs.shape.step_lacks.Goals as goal

pub returns-in-Some : goal.returns-in-Some
returns-in-Some c =
    let cs = before_of c.args.states in
    let a = schema_of c.args.schema.now in
    lacks_front a.comps cs (with_strokes cs) c.in-Some.name.now (subst (λ ks. Lacks (map comp_of ks) cs c.in-Some.name.now) c.as_slice-components.ensures c.in-Some.ensures)

pub returns-in-None : goal.returns-in-None
returns-in-None c =
    let cs = before_of c.args.states in
    let a = schema_of c.args.schema.now in
    let whole = c.as_slice-components.ensures in
    let has = subst (λ ks. HasAll (map comp_of ks) cs) whole c.in-None.ensures in
    let told = subst (λ ws. MatchOption c.lacking-in-None.result (HasAll a.comps ws) (λ name. Lacks a.comps ws name.now)) c.requires
    (subst (λ ks. MatchOption c.lacking-in-None.result (HasAll (map comp_of ks) (map comp_of c.args.states.after.now))
    (λ name. Lacks (map comp_of ks) (map comp_of c.args.states.after.now) name.now)) whole c.lacking-in-None.ensures) in
    match_option c.lacking-in-None.result (HasAll a.comps (with_strokes cs)) (HasAll a.comps (both_states cs)) (λ name. Lacks a.comps (with_strokes cs) name.now) (λ name. LacksStep cs a name.now)
    (λ all. has_both a.comps cs (with_strokes cs) has all) (λ name lacks. lacks_behind a.comps cs (with_strokes cs) name.now has lacks) told
