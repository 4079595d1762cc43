-- The ranges of held components, one more at a time.
use Rattle.zf_ranges.proofs.Prelude.{◌++◌, ◌+◌, ◌∷◌, ◌≡◌, ◌≤◌, [], add-one, length, length-map, List, map, Option, Some, subst, suc, sym, take, zero, ℕ, slice_get, Value, Comp, comp_of, sets_of, Environment, held_at, IsOneOut, IsNoneOut, later_held, Component, AreHeldRanges, IsHeldRange}
use Rattle.zf_ranges.proofs.Comps.{whole}

next : (e : Environment) (cs : List Comp) (held : List (Option Value)) (i : ℕ) (c : Comp) (ranges : List (Option (List Value))) (x : Option (List Value))
    → slice_get cs i ≡ Some c → AreHeldRanges e (take i cs) held ranges → IsHeldRange e c (held_at i held) x → AreHeldRanges e (take (suc i) cs) held (ranges ++ x ∷ [])
next e [] held i c ranges x g h k = (cc)
next e (d ∷ ds) held zero c [] x g h k = let s : c ≡ d = (cc) in (subst (λ z. IsHeldRange e z (held_at zero held) x) s k, tt)
next e (d ∷ ds) held zero c (r ∷ rs) x g h k = absurd h
next e (d ∷ ds) held (suc i) c [] x g h k = absurd h
next e (d ∷ ds) held (suc i) c (r ∷ rs) x g h k = (h.0, next e ds (later_held held) i c rs x g h.1 k)

pub held_next : (e : Environment) (cs : List Comp) (held : List (Option Value)) (i : ℕ) (c : Comp) (ranges : List (Option (List Value))) (x : Option (List Value))
    → slice_get cs i ≡ Some c → AreHeldRanges e (take i cs) held ranges → IsHeldRange e c (held_at i held) x → AreHeldRanges e (take (i + 1) cs) held (ranges ++ x ∷ [])
held_next e cs held i c ranges x g h k = rw add-one (next e cs held i c ranges x g h k)

pub held_none_yet : (e : Environment) (cs : List Comp) (held : List (Option Value)) (rs : List (Option (List Value))) → rs ≡ [] → AreHeldRanges e (take 0 cs) held rs
held_none_yet e cs held rs s = subst (λ (ys : List (Option (List Value))). AreHeldRanges e [] held ys) (sym s) tt

pub held_done : (e : Environment) (xs : List Component) (held : List (Option Value)) (i : ℕ) (rs : List (Option (List Value))) → length xs ≤ i
    → AreHeldRanges e (take i (map comp_of xs)) held rs → AreHeldRanges e (map comp_of xs) held rs
held_done e xs held i rs l h = subst (λ (ds : List Comp). AreHeldRanges e ds held rs) (whole (map comp_of xs) i (rw (length-map xs comp_of) l)) h

-- none is out, nor the one at this place
pub not_out_at : (e : Environment) (cs : List Comp) (i : ℕ) (c : Comp) → slice_get cs i ≡ Some c → IsNoneOut e cs → IsOneOut e (sets_of c.sets) → ⊥
not_out_at e cs i c g h o = h i (c, g, o)
