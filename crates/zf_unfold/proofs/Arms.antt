-- What is made of a predicate's parts says what the predicate says, as the program's terms.
use Rattle.zf_unfold.proofs.Prelude.{◌+◌, ◌<◌, ◌∙◌, ◌∷◌, ◌≡◌, ◌≤◌, ap, arith, List, map, None, Option, refl, subst, suc, sym, zero, ℕ, binary, part_of, quantified, range, Ranges, range_of, ranges, resolved_of, ResolvedTree, unary, Environment, IsBase, IsUnfolded, named, renamed, Connective, Not, ForAll, of-Binary, of-Bracket, of-Quantified, of-Unary, range-seen, Range, Resolved, fewer, Span}
use Rattle.zf_tree.specs.declared.operator.Operator.{Operator}
use Rattle.zf_tree.specs.declared.operator.Unary.{Unary}
use Rattle.zf_tree.specs.declared.symbol.Connective as connective
use Rattle.zf_tree.specs.declared.symbol.Quantifier.{Quantifier}
use Rattle.zf_term.specs.declared.resolved.Resolved.TheVariants as v
use Rattle.zf_unfold.proofs.WrittenOut.{unfold_bracket, unfold_connected, unfold_not, unfold_outside}

across : (f e : Environment) (t t' u u' : ResolvedTree) → t' ≡ t → u' ≡ u → IsUnfolded f e t u → IsUnfolded f e t' u'
across f e t t' u u' p q h = subst (λ x. IsUnfolded f e x u') (sym p) (subst (λ y. IsUnfolded f e t y) (sym q) h)

-- a part by what it was taken from and what it is put in
boxed : (f e : Environment) (inner got part box : Resolved) → got ≡ inner → box ≡ part → IsUnfolded f e (resolved_of part) (resolved_of got) → IsUnfolded f e (resolved_of box) (resolved_of inner)
boxed f e inner got part box p q h = across f e (resolved_of part) (resolved_of box) (resolved_of got) (resolved_of inner) (ap resolved_of q) (ap resolved_of (sym p)) h

pub plain : (n : ℕ) (e f : Environment) (part whole : Resolved) → resolved_of part ≡ renamed (named n None) (resolved_of whole) → IsBase n e f → IsUnfolded f e (resolved_of part) (resolved_of whole)
plain n e f part whole is b = across f e _ _ _ _ is refl (unfold_outside n e f (resolved_of whole) b)

pub bare : (f e : Environment) (l : Span) (inner got part whole : Resolved) → whole ≡ v.Bracket l inner → got ≡ inner
    → IsUnfolded f e (resolved_of part) (resolved_of got) → IsUnfolded f e (resolved_of part) (resolved_of whole)
bare f e l inner got part whole is p h =
    across f e _ _ _ _ refl (ap resolved_of is ∙ of-Bracket l inner) (unfold_bracket f e l (resolved_of part) (resolved_of inner) (boxed f e inner got part part p refl h))

pub opposed : (f e : Environment) (l : Span) (op : Unary) (inner got part box whole : Resolved) → whole ≡ v.Unary l op inner → op ≡ Not → got ≡ inner → box ≡ part
    → IsUnfolded f e (resolved_of part) (resolved_of got) → IsUnfolded f e (resolved_of (v.Unary l Not box)) (resolved_of whole)
opposed f e l op inner got part box whole is same p q h =
    across f e _ _ _ _ (of-Unary l Not box) (ap resolved_of is ∙ of-Unary l op inner ∙ ap (λ o. unary l o (resolved_of inner)) same)
    (unfold_not f e l (resolved_of box) (resolved_of inner) (boxed f e inner got part box p q h))

pub joined : (f e : Environment) (l : Span) (op : Operator) (k : connective.Connective) (left got_left part_left box_left right got_right part_right box_right whole : Resolved)
    → whole ≡ v.Binary l op left right → op ≡ Connective k → got_left ≡ left → box_left ≡ part_left → got_right ≡ right → box_right ≡ part_right
    → IsUnfolded f e (resolved_of part_left) (resolved_of got_left) → IsUnfolded f e (resolved_of part_right) (resolved_of got_right)
    → IsUnfolded f e (resolved_of (v.Binary l (Connective k) box_left box_right)) (resolved_of whole)
joined f e l op k x gx px bx y gy py by whole is same p q r s h i =
    across f e _ _ _ _ (of-Binary l (Connective k) bx by) (ap resolved_of is ∙ of-Binary l op x y ∙ ap (λ o. binary l o (resolved_of x) (resolved_of y)) same)
    (unfold_connected f e l k (resolved_of bx) (resolved_of by) (resolved_of x) (resolved_of y) (boxed f e x gx px bx p q h) (boxed f e y gy py by r s i))

-- ---- ranges without their first variable

pub left_none : (n : ℕ) (t : ResolvedTree) (rs : Ranges) → n ≤ 1 → fewer n t rs ≡ rs
left_none zero t rs k = refl
left_none (suc zero) t rs k = refl
left_none (suc (suc n)) t rs k = absurd (omega (arith, k))

pub left_some : (n m : ℕ) (t : ResolvedTree) (rs : Ranges) → 1 < n → m + 1 ≡ n → fewer n t rs ≡ range m t rs
left_some zero m t rs h k = absurd (omega (arith, h))
left_some (suc zero) m t rs h k = absurd (omega (arith, h))
left_some (suc (suc n)) m t rs h k = let is : m ≡ suc n = omega (arith, k) in ap (λ i. range i t rs) (sym is)

-- ---- universal quantifiers

pub universal_seen : (l : Span) (q : Quantifier) (rs : List Range) (first : Range) (rest : List Range) (p : Option Resolved) (body got whole : Resolved) → whole ≡ v.Quantified q l rs p body
    → q ≡ ForAll → rs ≡ first ∷ rest → got ≡ body
    → resolved_of whole ≡ quantified l ForAll (range first.variables (resolved_of first.set) (ranges (map range_of rest))) (part_of p) (resolved_of got)
universal_seen l q rs first rest p body got whole is same list seen =
    ap resolved_of is ∙ of-Quantified l q rs p body
    ∙ ap (λ w. quantified l w (ranges (map range_of rs)) (part_of p) (resolved_of body)) same
    ∙ ap (λ (ds : List Range). quantified l ForAll (ranges (map range_of ds)) (part_of p) (resolved_of body)) list
    ∙ ap (λ (d : ℕ × ResolvedTree). quantified l ForAll (range d.0 d.1 (ranges (map range_of rest))) (part_of p) (resolved_of body)) (range-seen first)
    ∙ ap (λ (t : Resolved). quantified l ForAll (range first.variables (resolved_of first.set) (ranges (map range_of rest))) (part_of p) (resolved_of t)) (sym seen)
