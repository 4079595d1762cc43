-- A search begins before all events of the schema.
use Rattle.zf_instances.proofs.Prelude.{◌∙◌, ap, arith, length, List, map, subst, sym, option_copied, AreAllAhead, all_ahead, SayTheSame, Grove, trees_of, HaveLeavesWithin, planted, exact, value_order, Value, comp_of, schema_of, resolved_of, Resolved, ArePlanted, environment_of, AreAllRanges, property, AreRanges, judged, with_first, Property}
use Rattle.zf_term.specs.declared.schema.Component.{Component}
use Rattle.zf_instances.proofs.Naming.{as_many, dues_at, first_names, lifted_alike, named_alike, needs_no_more}
use Rattle.zf_lift.proofs.Longer.{further}
use Rattle.zf_enum.proofs.Started.{ranges_ascend, named_within}
use Rattle.zf_instances.proofs.Needs.{needs_within}
use Rattle.zf_instances.proofs.Planted.{say_the_same, leaves_within}
use Rattle.zf_instances.proofs.instances.Instances.start.Goals as goal

pub lifted-requires : goal.lifted-requires
lifted-requires c =
    let e = environment_of c.args.env.now in
    let s = schema_of c.args.flat.now in
    let rs = c.in_ok-ranges.ranges.items in
    let all = subst (λ (ds : List Component). AreAllRanges e (map comp_of ds) c.args.held.now rs) c.as_slice.ensures c.in_ok-ranges.ensures.is in
    let p = c.in_ok-planting.planting in
    let u = c.in_ok-unfolded.unfolded in
    let d = environment_of u.env.now in
    let us = map resolved_of u.terms.items in
    let unfolded = c.in_ok-unfolded.ensures in
    let are_planted = subst (λ (ts : List Resolved). ArePlanted (map resolved_of ts) p.leaves.items (trees_of p.forest)) c.deref.ensures.value c.in_ok-planting.ensures in
    record { small = λ k. omega (arith, are_planted.needs (length rs) (needs_no_more d e us s.conjuncts unfolded.each (length rs) (needs_within e s.comps c.args.held.now rs s.conjuncts all.0 c.requires.due)) k, c.in_ok-ranges.ranges.small) }

pub start-requires : goal.start-requires
start-requires c =
    let e = environment_of c.args.env.now in
    let s = schema_of c.args.flat.now in
    let rs = c.in_ok-ranges.ranges.items in
    let all = subst (λ (ds : List Component). AreAllRanges e (map comp_of ds) c.args.held.now rs) c.as_slice.ensures c.in_ok-ranges.ensures.is in
    let p = c.in_ok-planting.planting in
    let u = c.in_ok-unfolded.unfolded in
    let d = environment_of u.env.now in
    let us = map resolved_of u.terms.items in
    let unfolded = c.in_ok-unfolded.ensures in
    let are_planted = subst (λ (ts : List Resolved). ArePlanted (map resolved_of ts) p.leaves.items (trees_of p.forest)) c.deref.ensures.value c.in_ok-planting.ensures in
    let named = c.in_ok-property.property in
    let f = environment_of named.env.now in
    let terms = map resolved_of named.conjuncts in
    let each = c.in_ok-property.ensures.each in
    record {
      ascending = ranges_ascend e s.comps c.args.held.now rs all.0;
      ties = exact;
      named = named_within e s.comps c.args.held.now rs (option_copied c.args.after) all.0 c.requires.named;
      due = λ k l. omega (
        arith,
        dues_at f d terms (map resolved_of p.leaves.items) each k,
        are_planted.needs (length rs) (needs_no_more d e us s.conjuncts unfolded.each (length rs) (needs_within e s.comps c.args.held.now rs s.conjuncts all.0 c.requires.due)) k,
      );
      leaves = subst (λ n. HaveLeavesWithin n (trees_of p.forest)) (sym (as_many f d terms (map resolved_of p.leaves.items) each))
          (leaves_within us p.leaves.items (trees_of p.forest) are_planted);
    }

pub returns-clause-begins : goal.returns-clause-begins
returns-clause-begins c =
    let e = environment_of c.args.env.now in
    let s = schema_of c.args.flat.now in
    let rs = c.in_ok-ranges.ranges.items in
    let all = subst (λ (ds : List Component). AreAllRanges e (map comp_of ds) c.args.held.now rs) c.as_slice.ensures c.in_ok-ranges.ensures.is in
    let p = c.in_ok-planting.planting in
    let u = c.in_ok-unfolded.unfolded in
    let d = environment_of u.env.now in
    let us = map resolved_of u.terms.items in
    let unfolded = c.in_ok-unfolded.ensures in
    let are_planted = subst (λ (ts : List Resolved). ArePlanted (map resolved_of ts) p.leaves.items (trees_of p.forest)) c.deref.ensures.value c.in_ok-planting.ensures in
    let named = c.in_ok-property.property in
    let f = environment_of named.env.now in
    let terms = map resolved_of named.conjuncts in
    let lifted = c.in_ok-property.ensures in
    let trees = trees_of p.forest in
    let written = named_alike f d terms (map resolved_of p.leaves.items) us trees (leaves_within us p.leaves.items trees are_planted) lifted
    (say_the_same us p.leaves.items trees are_planted d) in
    let same = lifted_alike d e us s.conjuncts (planted (property f terms) trees) unfolded written in
    let search = c.in_ok-search.search in
    let problem = c.in_ok-search.ensures.problem in
    let ahead = all_ahead value_order (planted (property f terms) (trees_of p.forest)) (property e s.conjuncts) same rs (option_copied c.args.after) search.stage.ahead c.in_ok-search.ensures.events in
    record {
      environment = ap (λ (j : Property). with_first c.count-names.result (environment_of j.env.now)) problem.0 ∙ first_names e f c.count-names.result c.count-names.ensures (further e d f unfolded.longer lifted.longer);
      same = subst (λ (j : Property). SayTheSame (planted (judged j) (trees_of search.forest)) (property e s.conjuncts)) (sym problem.0)
          (subst (λ (g : Grove). SayTheSame (planted (property f terms) (trees_of g)) (property e s.conjuncts)) (sym problem.1) same);
      ranges = subst (λ (ws : List (List Value)). AreRanges e s.comps c.args.held.now ws) (sym problem.2) all.0;
      named = problem.3;
      none_out = all.1;
      ahead = subst (λ (ws : List (List Value)). AreAllAhead value_order (property e s.conjuncts) ws (option_copied c.args.after) search.stage.ahead) (sym problem.2) ahead;
      first = c.in_ok-search.ensures.first;
    }
