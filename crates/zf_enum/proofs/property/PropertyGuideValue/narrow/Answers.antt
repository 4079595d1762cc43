use Rattle.zf_enum.proofs.Prelude.{Option, ap, arith, length, map, refl, subst, IfOk-weaker, IfSome, ResolvedTree, resolved_of, environment_of, due_of, IsSpread}
use Rattle.zf_enum.proofs.Fixed.{side_due, side_before, candidates_left}
use Rattle.zf_enum.proofs.Judging.{at_place, need_at}
use Rattle.zf_enum.proofs.Spreading.{spread_due, members_left}
use Rattle.zf_enum.proofs.property.PropertyGuideValue.narrow.Goals as goal

pub gather_value-requires-clause-due : goal.gather_value-requires-clause-due
gather_value-requires-clause-due c =
    let self = c.args.self.now in
    let at = at_place self.conjuncts c.args.leaf c.get-term.result.now c.get-term.ensures c.requires.leaf in
    let needs = need_at self.dues.items (map resolved_of self.conjuncts) c.args.leaf c.index.result.now self.needed c.requires.leaf c.index.ensures in
    side_before (length c.args.places.now) (resolved_of c.get-term.result.now) (resolved_of c.in-Some.side.now) c.in-Some.ensures
    (omega (arith, c.if-index-next.true, needs, ap due_of at))

pub returns-then-index-next-clause-leaves : goal.returns-then-index-next-clause-leaves
returns-then-index-next-clause-leaves c =
    let ts = map resolved_of c.args.self.now.conjuncts in
    let at = at_place c.args.self.now.conjuncts c.args.leaf c.get-term.result.now c.get-term.ensures c.requires.leaf in
    IfOk-weaker c.gather_value.result _ _
    (λ found h u. candidates_left (environment_of c.args.self.now.env.now) ts c.args.leaf (length c.args.places.now) (resolved_of c.get-term.result.now)
    (resolved_of c.in-Some.side.now) c.args.ranges.now c.args.places.now c.gather_value.new.gathered.items at refl c.in-Some.ensures c.requires.within
    (h u)) c.gather_value.ensures.candidates

pub is_tried-requires-clause-due : goal.is_tried-requires-clause-due
is_tried-requires-clause-due c =
    let at = at_place c.args.self.now.conjuncts c.args.leaf c.get-term.result.now c.get-term.ensures c.requires.leaf in
    omega (arith, side_due (length c.args.places.now) (resolved_of c.get-term.result.now) (resolved_of c.in-Some.side.now) c.in-Some.ensures, c.requires.due, ap due_of at)

pub gather_candidates-requires-clause-due : goal.gather_candidates-requires-clause-due
gather_candidates-requires-clause-due c =
    let at = at_place c.args.self.now.conjuncts c.args.leaf c.get-term.result.now c.get-term.ensures c.requires.leaf in
    omega (arith, side_due (length c.args.places.now) (resolved_of c.get-term.result.now) (resolved_of c.in-Some.side.now) c.in-Some.ensures, c.requires.due, ap due_of at)

pub returns-then-is_tried-clause-leaves : goal.returns-then-is_tried-clause-leaves
returns-then-is_tried-clause-leaves c =
    let ts = map resolved_of c.args.self.now.conjuncts in
    let at = at_place c.args.self.now.conjuncts c.args.leaf c.get-term.result.now c.get-term.ensures c.requires.leaf in
    IfOk-weaker c.gather_candidates.result _ _
    (λ found h u. candidates_left (environment_of c.args.self.now.env.now) ts c.args.leaf (length c.args.places.now) (resolved_of c.get-term.result.now)
    (resolved_of c.in-Some.side.now) c.args.ranges.now c.args.places.now c.gather_candidates.new.gathered.items at refl c.in-Some.ensures c.requires.within
    (h u)) c.gather_candidates.ensures.candidates

pub returns-then-balances-clause-leaves : goal.returns-then-balances-clause-leaves
returns-then-balances-clause-leaves c =
    let ts = map resolved_of c.args.self.now.conjuncts in
    let at = at_place c.args.self.now.conjuncts c.args.leaf c.get-term.result.now c.get-term.ensures c.requires.leaf in
    IfOk-weaker c.gather_balanced.result _ _ (λ found h u. h u ts c.args.leaf at) c.gather_balanced.ensures.leaves

pub gather_spread-requires-clause-due : goal.gather_spread-requires-clause-due
gather_spread-requires-clause-due c =
    let at = at_place c.args.self.now.conjuncts c.args.leaf c.get-term.result.now c.get-term.ensures c.requires.leaf in
    let is = subst (λ (o : Option ResolvedTree). IfSome o (λ p. IsSpread p (length c.args.places.now) (resolved_of c.in-Some-spread.set.now))) at c.in-Some-spread.ensures in
    omega (arith, spread_due (length c.args.places.now) (resolved_of c.get-term.result.now) (resolved_of c.in-Some-spread.set.now) is, c.requires.due, ap due_of at)

pub returns-in-Some-spread-clause-leaves : goal.returns-in-Some-spread-clause-leaves
returns-in-Some-spread-clause-leaves c =
    let ts = map resolved_of c.args.self.now.conjuncts in
    let at = at_place c.args.self.now.conjuncts c.args.leaf c.get-term.result.now c.get-term.ensures c.requires.leaf in
    let is = subst (λ (o : Option ResolvedTree). IfSome o (λ p. IsSpread p (length c.args.places.now) (resolved_of c.in-Some-spread.set.now))) at c.in-Some-spread.ensures in
    IfOk-weaker c.gather_spread.result _ _
    (λ found h u. members_left (environment_of c.args.self.now.env.now) ts c.args.leaf (length c.args.places.now) (resolved_of c.get-term.result.now)
    (resolved_of c.in-Some-spread.set.now) c.args.ranges.now c.args.places.now c.gather_spread.new.gathered.items at refl is c.requires.within (h u))
    c.gather_spread.ensures.candidates
