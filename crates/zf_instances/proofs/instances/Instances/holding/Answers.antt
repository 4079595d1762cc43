-- The search begins before all events that have these values.
use Rattle.zf_instances.proofs.Prelude.{◌∙◌, ap, List, map, None, subst, sym, AreAllAhead, all_ahead, SayTheSame, Grove, trees_of, planted, value_order, Value, comp_of, schema_of, environment_of, property, AreRanges, judged, with_first, Property, exchanged, AreHeldRanges, IsNoneOut}
use Rattle.zf_term.specs.declared.schema.Component.{Component}
use Rattle.zf_instances.proofs.Held.{as_many_held, exchange_held}
use Rattle.zf_enum.proofs.Started.{ranges_ascend}
use Rattle.zf_instances.proofs.instances.Instances.holding.Goals as goal

pub held_ranges-requires-clause-none_out : goal.held_ranges-requires-clause-none_out
held_ranges-requires-clause-none_out c =
    subst (λ (ds : List Component). IsNoneOut (environment_of c.args.env.now) (map comp_of ds)) (sym c.as_slice.ensures) c.requires.again.none_out

pub exchange-requires : goal.exchange-requires
exchange-requires c =
    let e = environment_of c.args.env.now in
    let cs = (schema_of c.args.flat.now).comps in
    let held = c.args.held.now in
    let ranges = c.args.self.search.stage.ranges in
    let others = c.in_ok-others.others.items in
    let can = c.requires.again in
    let are_held = subst (λ (ds : List Component). AreHeldRanges e (map comp_of ds) held others) c.as_slice.ensures c.in_ok-others.ensures in
    record {
      each = as_many_held e cs can.before held ranges others can.of_components are_held;
      ascending = ranges_ascend e cs held (exchanged ranges others) (exchange_held e cs can.before held ranges others can.of_components can.again are_held);
    }

pub returns : goal.returns
returns c =
    let e = environment_of c.args.env.now in
    let s = schema_of c.args.flat.now in
    let held = c.args.held.now in
    let old = c.args.self.search in
    let others = c.in_ok-others.others.items in
    let can = c.requires.again in
    let are_held = subst (λ (ds : List Component). AreHeldRanges e (map comp_of ds) held others) c.as_slice.ensures c.in_ok-others.ensures in
    let are = exchange_held e s.comps can.before held old.stage.ranges others can.of_components can.again are_held in
    let search = c.in_ok-search.search in
    let problem = c.in_ok-search.ensures.problem in
    let ahead = all_ahead value_order (planted (judged old.judge) (trees_of old.forest)) (property e s.conjuncts) can.same
    (exchanged old.stage.ranges others) None search.stage.ahead c.in_ok-search.ensures.events in
    record {
      environment = ap (λ (j : Property). with_first c.args.self.names (environment_of j.env.now)) problem.0 ∙ can.environment;
      same = subst (λ (j : Property). SayTheSame (planted (judged j) (trees_of search.forest)) (property e s.conjuncts)) (sym problem.0)
          (subst (λ (g : Grove). SayTheSame (planted (judged old.judge) (trees_of g)) (property e s.conjuncts)) (sym problem.1) can.same);
      ranges = subst (λ (ws : List (List Value)). AreRanges e s.comps held ws) (sym problem.2) are;
      named = problem.3;
      none_out = can.none_out;
      ahead = subst (λ (ws : List (List Value)). AreAllAhead value_order (property e s.conjuncts) ws None search.stage.ahead) (sym problem.2) ahead;
      first = c.in_ok-search.ensures.first;
    }
