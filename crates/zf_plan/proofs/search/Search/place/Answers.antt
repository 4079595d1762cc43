use Rattle.zf_plan.proofs.Prelude.{◌<◌, ◌≡◌, [], get_or, length, rules, subst, sym, IfSome, IsSomeAnd, slice_get, placed_at, stands_there}
use Rattle.zf_plan.proofs.search.Search.place.Goals as goal

pub index-requires : goal.index-requires
index-requires g c =
    let w = c.self.inside in
    let h = subst (λ z. IsSomeAnd z.stage.last (λ row. c.args.i < length row)) (sym c.self.view_is) c.requires in
    let within = placed_at w.ranges.items w.place.places.items w.place.depth w.given c.args.i c.self.invariant.stands.at.within h in
    search rules

pub returns : goal.returns
returns g c =
    let w = c.self.inside in
    let h = subst (λ z. IsSomeAnd z.stage.last (λ row. c.args.i < length row)) (sym c.self.view_is) c.requires in
    subst (λ z. IfSome z.stage.last (λ row. slice_get row c.args.i ≡ slice_get (get_or z.stage.ranges c.args.i []) c.index.result.now)) c.self.view_is
    (stands_there w.ranges.items w.place.places.items w.place.depth w.given c.args.i c.self.invariant.stands.at.within h c.index.result.now c.index.ensures)
