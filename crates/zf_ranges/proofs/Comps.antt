-- The ranges of components, one more at a time, and the first component that is out.
use Rattle.zf_ranges.proofs.Prelude.{◌++◌, ◌+◌, ◌<◌, ◌∙◌, ◌∷◌, ◌≡◌, ◌≤◌, [], add-one, ap, arith, Err, get_or, length, List, map, None, Ok, Option, refl, Result, Some, subst, suc, sym, take, zero, ℕ, length-map, AllByRecursion, IfErr, IsErrAnd, slice_get, Value, Comp, comp_of, sets_of, Environment, AreAllRanges, held_at, IsOneRange, IsOutBy, IsOneOut, AreRanges, IsFirstOut, IsNoneOut, IsComponentRange, later_held, Component, RefusesStart}
use Rattle.zf_ranges.specs.declared.start_fault.StartFault.{StartFault}
use Rattle.zf_ranges.specs.declared.start_fault.StartFault.TheVariants.{DeclaredOut, OutOfMemory}

-- ---- what is held

pub held_got : (held : List (Option Value)) (place : ℕ) (h : Option Value) → place < length held → h ≡ get_or held place h → held_at place held ≡ h
held_got [] place h l g = absurd (omega (arith, l))
held_got (x ∷ held) zero h l g = sym g
held_got (x ∷ held) (suc place) h l g = held_got held place h (omega (arith, l)) g

pub held_none : (held : List (Option Value)) (place : ℕ) → length held ≤ place → held_at place held ≡ None
held_none [] zero l = refl
held_none [] (suc place) l = held_none [] place (omega arith)
held_none (x ∷ held) zero l = absurd (omega (arith, l))
held_none (x ∷ held) (suc place) l = held_none held place (omega (arith, l))

-- ---- ranges

ranges_next : (e : Environment) (cs : List Comp) (held : List (Option Value)) (i : ℕ) (c : Comp) (ranges : List (List Value)) (xs : List Value)
    → slice_get cs i ≡ Some c → AreRanges e (take i cs) held ranges → IsComponentRange e c (held_at i held) xs
    → AreRanges e (take (suc i) cs) held (ranges ++ xs ∷ [])
ranges_next e [] held i c ranges xs g h k = (cc)
ranges_next e (d ∷ ds) held zero c [] xs g h k = let s : c ≡ d = (cc) in (subst (λ z. IsComponentRange e z (held_at zero held) xs) s k, tt)
ranges_next e (d ∷ ds) held zero c (r ∷ rs) xs g h k = absurd h
ranges_next e (d ∷ ds) held (suc i) c [] xs g h k = absurd h
ranges_next e (d ∷ ds) held (suc i) c (r ∷ rs) xs g h k = (h.0, ranges_next e ds (later_held held) i c rs xs g h.1 k)

none_next : (e : Environment) (cs : List Comp) (i : ℕ) (c : Comp) → slice_get cs i ≡ Some c → IsNoneOut e (take i cs) → (IsOneOut e (sets_of c.sets) → ⊥) → IsNoneOut e (take (suc i) cs)
none_next e [] i c g h k place o = (cc (o.1))
none_next e (d ∷ ds) zero c g h k zero o = let s : o.0 ≡ c = (cc (o.1)) in k (subst (λ z. IsOneOut e (sets_of z.sets)) s o.2)
none_next e (d ∷ ds) zero c g h k (suc place) o = (cc (o.1))
none_next e (d ∷ ds) (suc i) c g h k zero o = h zero o
none_next e (d ∷ ds) (suc i) c g h k (suc place) o = none_next e ds i c g (λ p q. h (suc p) q) k place o

pub all_next : (e : Environment) (cs : List Comp) (held : List (Option Value)) (i : ℕ) (c : Comp) (ranges : List (List Value)) (xs : List Value)
    → slice_get cs i ≡ Some c → AreAllRanges e (take i cs) held ranges → IsOneRange e c (held_at i held) xs
    → AreAllRanges e (take (i + 1) cs) held (ranges ++ xs ∷ [])
all_next e cs held i c ranges xs g h k = rw add-one (ranges_next e cs held i c ranges xs g h.0 k.0, none_next e cs i c g h.1 k.1)

taken : (cs : List Comp) (i k : ℕ) → k < i → slice_get (take i cs) k ≡ slice_get cs k
taken [] zero k l = absurd (omega arith)
taken [] (suc i) k l = refl
taken (c ∷ cs) zero k l = absurd (omega arith)
taken (c ∷ cs) (suc i) zero l = refl
taken (c ∷ cs) (suc i) (suc k) l = taken cs i k (omega arith)

pub first_out : (e : Environment) (cs : List Comp) (i : ℕ) (c : Comp) → slice_get cs i ≡ Some c → IsNoneOut e (take i cs) → IsOneOut e (sets_of c.sets) → IsFirstOut e cs i
first_out e cs i c g h o = record {
  here = (c, g, o);
  first = λ k l p. h k (p.0, taken cs i k l ∙ p.1, p.2);
}

-- ---- the loop over components

pub comp_at : (xs : List Component) (i : ℕ) (x : Component) → x ≡ get_or xs i x → i < length xs → slice_get (map comp_of xs) i ≡ Some (comp_of x)
comp_at [] i x at l = absurd (omega arith)
comp_at (y ∷ ys) zero x at l = ap (λ z. Some (comp_of z)) (sym at)
comp_at (y ∷ ys) (suc i) x at l = comp_at ys i x at (omega arith)

pub all_at : (P : Comp → Type 0) (cs : List Comp) (i : ℕ) (c : Comp) → slice_get cs i ≡ Some c → AllByRecursion P cs → P c
all_at P [] i c g h = (cc)
all_at P (d ∷ ds) zero c g h = let same : d ≡ c = (cc) in subst P same h.0
all_at P (d ∷ ds) (suc i) c g h = all_at P ds i c g h.1

pub none_yet : (e : Environment) (cs : List Comp) (held : List (Option Value)) (rs : List (List Value)) → rs ≡ [] → AreAllRanges e (take 0 cs) held rs
none_yet e cs held rs s = subst (λ (ys : List (List Value)). AreAllRanges e [] held ys) (sym s) (tt, λ place o. (cc (o.1)))

pub whole : (cs : List Comp) (i : ℕ) → length cs ≤ i → take i cs ≡ cs
whole [] zero l = refl
whole [] (suc i) l = refl
whole (c ∷ cs) zero l = absurd (omega arith)
whole (c ∷ cs) (suc i) l = ap (λ ds. c ∷ ds) (whole cs i (omega arith))

pub all_done : (e : Environment) (xs : List Component) (held : List (Option Value)) (i : ℕ) (rs : List (List Value)) → length xs ≤ i
    → AreAllRanges e (take i (map comp_of xs)) held rs → AreAllRanges e (map comp_of xs) held rs
all_done e xs held i rs l h = subst (λ (ds : List Comp). AreAllRanges e ds held rs) (whole (map comp_of xs) i (rw (length-map xs comp_of) l)) h

refuses : (e : Environment) (cs : List Comp) (i : ℕ) (c : Comp) (f : StartFault) → slice_get cs i ≡ Some c → IsNoneOut e (take i cs) → IsOutBy e c i f → RefusesStart e cs f
refuses e cs i c (DeclaredOut place) g n h = subst (λ k. IsFirstOut e cs k) (sym h.0) (first_out e cs i c g n h.1)
refuses e cs i c OutOfMemory g n h = tt

pub refused : {X : Type 0} (e : Environment) (cs : List Comp) (i : ℕ) (c : Comp) (f : StartFault) (r : Result X StartFault) → IsErrAnd r (λ y. y ≡ f)
    → slice_get cs i ≡ Some c → IsNoneOut e (take i cs) → IsOutBy e c i f → IfErr r (RefusesStart e cs)
refused e cs i c f (Ok x) is g n h = tt
refused e cs i c f (Err y) is g n h = subst (RefusesStart e cs) (sym is) (refuses e cs i c f g n h)
