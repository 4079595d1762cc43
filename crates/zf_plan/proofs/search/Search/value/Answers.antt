use Rattle.zf_plan.proofs.Prelude.{◌<◌, length, subst, sym, take, IsSomeAnd, placed}
use Rattle.zf_plan.proofs.search.Search.value.Goals as goal

pub pick-requires-clause-index : goal.pick-requires-clause-index
pick-requires-clause-index g c =
    let w = c.self.inside in
    let h = subst (λ z. IsSomeAnd z.stage.last (λ row. c.args.i < length row)) (sym c.self.view_is) c.requires in
    subst (λ is. c.args.i < length (take w.place.depth is)) (sym c.deref-2.ensures.value)
    (placed w.ranges.items w.place.places.items w.place.depth w.given c.args.i c.self.invariant.stands.at.within h)
