-- What a universal quantifier says of members, as the program's terms.
use Rattle.zf_unfold.proofs.Prelude.{◌++◌, ◌+◌, ◌<◌, ◌∙◌, ◌∷◌, ◌≡◌, ◌≤◌, [], add-one, ap, arith, length, List, map, Option, refl, Some, subst, suc, sym, zero, ℕ, binary, part_of, part_renamed, quantified, range, Ranges, range_of, ranges, ranges_renamed, range_renamed, Reference, renamed, resolved_of, ResolvedPart, ResolvedTree, ◌==◌, false, Connective, And, Implies, ForAll, of-Binary, of-Quantified, range-seen, Range, Resolved, fewer, implied, instance, instances, over, Span}
use Rattle.zf_term.specs.declared.resolved.Resolved.TheVariants as v
use Rattle.zf_unfold.proofs.Arms.{left_none, left_some}
use Rattle.zf_resolved.proofs.Renamings.{all-ranges}

-- ---- ranges without their first variable

pub others_none : (f : Reference → Reference) (n : ℕ) (t : ResolvedTree) (rest all made : List Range) → n ≤ 1 → all ≡ []
    → map range_of made ≡ map range_of all ++ map (range_renamed f) (map range_of rest)
    → ranges (map range_of made) ≡ fewer n t (ranges_renamed f (ranges (map range_of rest)))
others_none f n t rest all made few none is =
    ap ranges (is ∙ ap (λ (rs : List Range). map range_of rs ++ map (range_renamed f) (map range_of rest)) none)
    ∙ sym (all-ranges f (map range_of rest)) ∙ sym (left_none n t (ranges_renamed f (ranges (map range_of rest))) few)

pub others_some : (f : Reference → Reference) (n : ℕ) (t : ResolvedTree) (rest all made : List Range) (r : Range) → 1 < n → r.variables + 1 ≡ n → resolved_of r.set ≡ t → all ≡ r ∷ []
    → map range_of made ≡ map range_of all ++ map (range_renamed f) (map range_of rest)
    → ranges (map range_of made) ≡ fewer n t (ranges_renamed f (ranges (map range_of rest)))
others_some f n t rest all made r many count set one is =
    ap ranges (is ∙ ap (λ (rs : List Range). map range_of rs ++ map (range_renamed f) (map range_of rest)) one)
    ∙ ap (λ (d : ℕ × ResolvedTree). range d.0 d.1 (ranges (map (range_renamed f) (map range_of rest)))) (range-seen r)
    ∙ ap (λ (s : ResolvedTree). range r.variables s (ranges (map (range_renamed f) (map range_of rest)))) set
    ∙ ap (λ (rs : Ranges). range r.variables t rs) (sym (all-ranges f (map range_of rest)))
    ∙ sym (left_some n r.variables t (ranges_renamed f (ranges (map range_of rest))) many count)

-- ---- what it says of a member

pub implied_seen : (f : Reference → Reference) (l : Span) (p : Option Resolved) (q got left_part left body right_part right : Resolved) → p ≡ Some q → got ≡ q
    → resolved_of left_part ≡ renamed f (resolved_of got) → left ≡ left_part → resolved_of right_part ≡ renamed f (resolved_of body) → right ≡ right_part
    → resolved_of (v.Binary l (Connective Implies) left right) ≡ implied l (part_renamed f (part_of p)) (renamed f (resolved_of body))
implied_seen f l p q got a' a body b' b is same a_is a_box b_is b_box =
    subst (λ (o : Option Resolved). resolved_of (v.Binary l (Connective Implies) a b) ≡ implied l (part_renamed f (part_of o)) (renamed f (resolved_of body))) (sym is)
    (of-Binary l (Connective Implies) a b
    ∙ ap (λ (x : ResolvedTree). binary l (Connective Implies) x (resolved_of b)) (ap resolved_of a_box ∙ a_is ∙ ap (λ (t : Resolved). renamed f (resolved_of t)) same)
    ∙ ap (λ (x : ResolvedTree). binary l (Connective Implies) (renamed f (resolved_of q)) x) (ap resolved_of b_box ∙ b_is))

pub some_there : (rs : List Range) → (length rs == 0) ≡ false → rs ≡ [] → ⊥
some_there [] e none = cc
some_there (r ∷ rs) e none = cc

pub instance_seen : (l : Span) (rs : Ranges) (p : ResolvedPart) (t : ResolvedTree) (variables boxed : List Range) (part : Option Resolved) (made body : Resolved) → (variables ≡ [] → ⊥)
    → ranges (map range_of variables) ≡ rs → boxed ≡ variables → part_of part ≡ p → resolved_of made ≡ t → body ≡ made
    → resolved_of (v.Quantified ForAll l boxed part body) ≡ over l rs p t
instance_seen l rs p t [] boxed part made body some is same part_is made_is box = absurd (some refl)
instance_seen l rs p t (d ∷ ds) boxed part made body some is same part_is made_is box =
    of-Quantified l ForAll boxed part body
    ∙ ap (λ (xs : List Range). quantified l ForAll (ranges (map range_of xs)) (part_of part) (resolved_of body)) same
    ∙ ap (λ (x : ResolvedPart). quantified l ForAll (ranges (map range_of (d ∷ ds))) x (resolved_of body)) part_is
    ∙ ap (λ (x : ResolvedTree). quantified l ForAll (ranges (map range_of (d ∷ ds))) p x) (ap resolved_of box ∙ made_is)
    ∙ ap (λ (x : Ranges). over l x p t) is

-- of this member and of the others
pub instances_seen : (n m more others : ℕ) (l : Span) (rs : Ranges) (p : ResolvedPart) (t : ResolvedTree) (left_part left right_part right : Resolved) → others + 1 ≡ more
    → resolved_of left_part ≡ instance n m l rs p t → left ≡ left_part → resolved_of right_part ≡ instances n (m + 1) others l rs p t → right ≡ right_part
    → resolved_of (v.Binary l (Connective And) left right) ≡ instances n m more l rs p t
instances_seen n m zero others l rs p t a' a b' b is a_is a_box b_is b_box = absurd (omega (arith, is))
instances_seen n m (suc more) others l rs p t a' a b' b is a_is a_box b_is b_box =
    let count : others ≡ more = omega (arith, is) in
    of-Binary l (Connective And) a b
    ∙ ap (λ (x : ResolvedTree). binary l (Connective And) x (resolved_of b)) (ap resolved_of a_box ∙ a_is)
    ∙ ap (λ (x : ResolvedTree). binary l (Connective And) (instance n m l rs p t) x) (ap resolved_of b_box ∙ b_is
    ∙ ap (λ (i : ℕ). instances n (m + 1) i l rs p t) count ∙ ap (λ (i : ℕ). instances n i more l rs p t) (add-one m))
