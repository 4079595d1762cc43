-- The conjuncts of `\Xi`: what the program makes is what is wanted.
use Rattle.zf_calculus.proofs.Prelude.{place_in, Equal, new_link, of-Chain, of-link, of-Name, dropped, Comp, Schema, chain, link, links, no_links, reference, resolved_link_of, resolved_of, ResolvedTree, Offence, Resolved, ResolvedLink, all_unchanged, new_place, unchanged, constrained, equalities, equality, IsTooLarge, KeepsTo, Span}
use Rattle.std.proofs.Common.{◌≡◌, ℕ, zero, suc, ◌+◌, ◌<◌, List, [], ◌∷◌, ◌++◌, length, map, drop, get_or, refl, sym, ap, ◌∙◌, subst, arith, append_assoc}
use Rattle.zf_reference.specs.declared.reference.Reference.TheVariants.{Component}
use Rattle.zf_term.specs.declared.resolved.Resolved.TheVariants as v
use Rattle.zf_calculus.specs.Calculus as calculus
use Rattle.zf_calculus.proofs.Monotony.{before_conjuncts, still_large}

pub equality_seen : (l : Span) (i p : ℕ) (t : Resolved) (ks : List ResolvedLink) → t ≡ v.Name l (Component i) → ks ≡ new_link Equal (v.Name l (Component p)) ∷ [] → resolved_of (v.Chain l t ks) ≡ equality l i p
equality_seen l i p t ks e f =
    of-Chain l t ks
    ∙ ap (λ (u : ResolvedTree). chain l u (links (map resolved_link_of ks))) (ap resolved_of e ∙ of-Name l (Component i))
    ∙ ap (λ (ls : List ResolvedLink). chain l (reference l (Component i)) (links (map resolved_link_of ls))) f
    ∙ ap (λ q. chain l (reference l (Component i)) (links (q ∷ []))) (of-link Equal (v.Name l (Component p)))
    ∙ ap (λ (u : ResolvedTree). chain l (reference l (Component i)) (link Equal u no_links)) (of-Name l (Component p))

-- one equality for each component from that place on
pub all_equal : (l : Span) (i : ℕ) (primed all cs : List Comp) (ps : List ℕ) → length ps ≡ length cs
    → ((k : ℕ) → k < length ps → get_or ps k 0 ≡ new_place primed all (i + k)) → equalities l i ps ≡ all_unchanged l primed all i cs
all_equal l i primed all [] [] e h = refl
all_equal l i primed all [] (p ∷ ps) e h = absurd (omega arith)
all_equal l i primed all (c ∷ cs) [] e h = absurd (omega arith)
all_equal l i primed all (c ∷ cs) (p ∷ ps) e h =
    let first : p ≡ new_place primed all i = h 0 (omega arith) ∙ ap (new_place primed all) (omega arith) in
    let rest = all_equal l (i + 1) primed all cs ps (omega arith) (λ k m. h (suc k) (omega arith) ∙ ap (new_place primed all) (omega arith)) in
    ap (λ (q : ℕ). equality l i q ∷ equalities l (i + 1) ps) first ∙ ap (λ (ts : List ResolvedTree). unchanged l primed all i ∷ ts) rest

pub same_equalities : (l : Span) (primed all cs : List Comp) (ps : List ℕ) → length ps ≡ length cs → place_in ps ≡ new_place primed all → equalities l 0 ps ≡ all_unchanged l primed all 0 cs
same_equalities l primed all cs ps e h = all_equal l 0 primed all cs ps e (λ k m. other ps k 0 k m ∙ ap (λ (f : ℕ → ℕ). f k) h ∙ ap (new_place primed all) (omega arith))
  where
    other : (xs : List ℕ) (k d e : ℕ) → k < length xs → get_or xs k d ≡ get_or xs k e
    other [] k d e m = absurd (omega arith)
    other (x ∷ xs) zero d e m = refl
    other (x ∷ xs) (suc k) d e m = other xs k d e (omega arith)

pub stops_equalities : (a b : Schema) (l : Span) (ps : List ℕ) (i p : ℕ) (t : ResolvedTree) → i < length ps → p ≡ get_or ps i p → t ≡ equality l i p
    → constrained a (equalities l i (drop i ps)) ≡ constrained b (equalities l 0 ps) → (k : Offence) → IsTooLarge (constrained a (t ∷ [])) k
    → IsTooLarge (constrained b (equalities l 0 ps)) k
stops_equalities a b l ps i p t m e g whole k h = still_large (constrained a (t ∷ [])) (constrained b (equalities l 0 ps)) k
    (λ x w.
    let rest = equalities l (i + 1) (drop (i + 1) ps) in
    let now : KeepsTo x (constrained a (equalities l i (drop i ps))) = subst (KeepsTo x) (sym whole) w in
    let next : KeepsTo x (constrained a (equality l i p ∷ rest)) = subst (λ (qs : List ℕ). KeepsTo x (constrained a (equalities l i qs))) (dropped ps i p m e) now in
    let parted : KeepsTo x (calculus.schema_with a.comps ((a.conjuncts ++ equality l i p ∷ []) ++ rest)) = subst
    (λ (ts : List ResolvedTree). KeepsTo x (calculus.schema_with a.comps ts)) (sym (append_assoc a.conjuncts (equality l i p ∷ []) rest)) next in
    let one : KeepsTo x (constrained a (equality l i p ∷ [])) = before_conjuncts x a.comps (a.conjuncts ++ equality l i p ∷ []) rest parted in
    subst (λ (u : ResolvedTree). KeepsTo x (constrained a (u ∷ []))) (sym g) one) h
