use Rattle.zf_enum.proofs.Prelude.{◌≡◌, ◌-◌, ◌^◌, ◌<◌, ap, arith, due, due_of, environment_of, IfOk, IfSome, IfOk-weaker, length, map, Option, property, resolved_of, rules, subst, sym, ℕ, IsKeyOf, IsKeyOfValue}
use Rattle.zf_enum.proofs.Equations.{some_weaker}
use Rattle.zf_enum.proofs.Judging.{as_many, at_place, need_at}
use Rattle.zf_enum.proofs.Keying.{is-key-of, is-wanted}
use Rattle.zf_enum.proofs.property.PropertyGuideValue.key.Goals as goal

pub index-requires : goal.index-requires
index-requires c =
    let l : c.args.leaf < length c.args.self.now.dues.items = subst (λ n. c.args.leaf < n)
    (sym (as_many c.args.self.now.dues.items (map resolved_of c.args.self.now.conjuncts) c.args.self.now.needed)) c.requires.leaf in
    search (rules, l)

pub keyed-requires : goal.keyed-requires
keyed-requires c =
    subst (λ (n : ℕ). n < 2 ^ 64) (ap due_of (at_place c.args.self.now.conjuncts c.args.leaf c.get.result.now c.get.ensures c.requires.leaf)) (c.args.self.now.small c.args.leaf)

pub key_at-requires : goal.key_at-requires
key_at-requires c = let keyed = c.in-Some.ensures in (keyed.4).key

pub returns-in-None : goal.returns-in-None
returns-in-None c =
    let self = c.args.self.now in
    let leaf = c.args.leaf in
    let e = environment_of self.env.now in
    let ts = map resolved_of self.conjuncts in
    let p = resolved_of c.get.result.now in
    let at = at_place self.conjuncts leaf c.get.result.now c.get.ensures c.requires.leaf in
    let needs = need_at self.dues.items ts leaf c.index.result.now self.needed c.requires.leaf c.index.ensures in
    let due_is = ap due_of at in
    let last : c.saturating_sub-last.result ≡ due p - 1 = omega (arith, c.saturating_sub-last.ensures, needs, due_is) in
    let IsIt = IsKeyOf (property e ts) (IsKeyOfValue e ts leaf) leaf c.args.ranges.now c.args.places.now in
    subst (λ (o : Option ℕ). IfOk c.key_of_row.result (λ found. IfSome found (IsIt o))) (sym c.in-None.is)
    (IfOk-weaker c.key_of_row.result _ _ (λ found h. some_weaker found _ _
    (λ n key. is-wanted e ts leaf c.saturating_sub-last.result p (resolved_of c.in-Some.sides.key.now) (resolved_of c.in-Some.sides.other.now)
    c.args.ranges.now c.args.places.now n at last c.in-Some.ensures c.requires.within key) h) c.key_of_row.ensures)

pub returns-in-Some-of : goal.returns-in-Some-of
returns-in-Some-of c =
    let self = c.args.self.now in
    let leaf = c.args.leaf in
    let e = environment_of self.env.now in
    let ts = map resolved_of self.conjuncts in
    let p = resolved_of c.get.result.now in
    let at = at_place self.conjuncts leaf c.get.result.now c.get.ensures c.requires.leaf in
    let needs = need_at self.dues.items ts leaf c.index.result.now self.needed c.requires.leaf c.index.ensures in
    let due_is = ap due_of at in
    let last : c.saturating_sub-last.result ≡ due p - 1 = omega (arith, c.saturating_sub-last.ensures, needs, due_is) in
    let IsIt = IsKeyOf (property e ts) (IsKeyOfValue e ts leaf) leaf c.args.ranges.now c.args.places.now in
    subst (λ (o : Option ℕ). IfOk c.key_at.result (λ found. IfSome found (IsIt o))) (sym c.in-Some-of.is)
    (IfOk-weaker c.key_at.result _ _ (λ found h. some_weaker found _ _
    (λ n key. is-key-of e ts leaf c.saturating_sub-last.result p (resolved_of c.in-Some.sides.key.now) (resolved_of c.in-Some.sides.other.now)
    c.args.ranges.now c.args.places.now c.in-Some-of.place n at last c.in-Some.ensures key) h) c.key_at.ensures)
