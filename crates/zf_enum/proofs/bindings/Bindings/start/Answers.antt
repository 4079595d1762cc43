-- A search begins before all events of the schema.
use Rattle.zf_enum.proofs.Prelude.{◌∙◌, ap, List, map, subst, sym, option_copied, Value, comp_of, conjunct_of, schema_of, Resolved, resolved_of, environment_of, AreAllRanges, AreRanges, Property}
use Rattle.zf_term.specs.declared.schema.Component.{Component}
use Rattle.zf_enum.proofs.Started.{ranges_ascend, named_within, due_within, ahead_of, say_alike}
use Rattle.zf_enum.proofs.bindings.Bindings.start.Goals as goal

pub over-requires : goal.over-requires
over-requires c =
    let e = environment_of c.args.env.now in
    let s = schema_of c.args.flat.now in
    let rs = c.in_ok-ranges.ranges.items in
    let all = subst (λ (ds : List Component). AreAllRanges e (map comp_of ds) c.args.held.now rs) c.as_slice.ensures c.in_ok-ranges.ensures.is in
    record {
      ascending = ranges_ascend e s.comps c.args.held.now rs all.0;
      named = named_within e s.comps c.args.held.now rs (option_copied c.args.after) all.0 c.requires.named;
      due = due_within e s.comps c.args.held.now rs s.conjuncts (map resolved_of c.plain.result) all.0
          (ap (λ (ts : List Resolved). map resolved_of ts) c.plain.ensures ∙ c.in_ok-conjuncts.ensures ∙ ap (map conjunct_of) (c.as_slice-2.ensures ∙ c.in_ok-all.ensures)) c.requires.due;
    }

pub returns-clause-begins : goal.returns-clause-begins
returns-clause-begins c =
    let e = environment_of c.args.env.now in
    let s = schema_of c.args.flat.now in
    let all = subst (λ (ds : List Component). AreAllRanges e (map comp_of ds) c.args.held.now c.in_ok-ranges.ranges.items) c.as_slice.ensures c.in_ok-ranges.ensures.is in
    let conjuncts = ap (λ (ts : List Resolved). map resolved_of ts) c.plain.ensures ∙ c.in_ok-conjuncts.ensures ∙ ap (map conjunct_of) (c.as_slice-2.ensures ∙ c.in_ok-all.ensures) in
    let walk = c.in_ok-over.field-0.walk in
    let problem = c.in_ok-over.ensures.problem in
    let here = ap (λ (j : Property). environment_of j.env.now) problem.0 in
    let these = ap (λ (j : Property). map resolved_of j.conjuncts) problem.0 ∙ conjuncts in
    record {
      begins = record {
        environment = here;
        same = say_alike _ e _ s.conjuncts here these;
        ranges = subst (λ (rs : List (List Value)). AreRanges e s.comps c.args.held.now rs) (sym problem.1) all.0;
        named = problem.2;
        none_out = all.1;
        ahead = ahead_of e s.conjuncts (map resolved_of c.plain.result) c.in_ok-ranges.ranges.items walk.stage.ranges
            (option_copied c.args.after) walk.stage.ahead conjuncts problem.1 c.in_ok-over.ensures.events;
        first = c.in_ok-over.ensures.first.0;
      };
      conjuncts = these;
      untested = c.in_ok-over.ensures.first.1;
    }
