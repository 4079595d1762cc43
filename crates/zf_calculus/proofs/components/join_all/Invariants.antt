use Rattle.zf_calculus.proofs.Prelude.{◌≡◌, map, into_iter_items, comp_of, with_comps, AreFew}
use Rattle.zf_calculus.proofs.Placing.{ArePlaced}
use Rattle.zf_calculus.proofs.components.join_all.Given as goal

abbrev pub invariant-loop-component : goal.invariant-loop-component
invariant-loop-component l =
    let first = into_iter_items l.initial.component-iterator in
    let all = with_comps (map comp_of l.initial.components) (map comp_of first) in
    record {
      room : AreFew (map comp_of l.components);
      whole : with_comps (map comp_of l.components) (map comp_of (into_iter_items l.component-iterator)) ≡ all;
      places : ArePlaced all l.places (into_iter_items l.component-iterator) first;
    }
