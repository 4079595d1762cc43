-- Rows by the places of their values in ranges.
use Rattle.zf_walk.proofs.Prelude.{◌++◌, ◌<◌, ◌∙◌, ◌∷◌, ◌≡◌, ◌≤◌, [], ap, arith, get_or, length, List, refl, Some, subst, suc, sym, take, zero, ℕ, get_or-take, get_or_default, length-take, take_all, slice_get-get_or, slice_get, AreWithin, picked, IsFrontOf, IsRowOf}
use Rattle.zf_walk.proofs.Order.{IsNth}

pub slice_get-nth : {V : Type 0} (range : List V) (i : ℕ) (x : V) → IsNth range i x → slice_get range i ≡ Some x
slice_get-nth range i x n = slice_get-get_or range i x n.within ∙ ap Some n.is

pub nth-at : {V : Type 0} (range : List V) (i : ℕ) → i < length range → (x : V) × IsNth range i x
nth-at [] i h = absurd (omega arith)
nth-at (v ∷ range) zero h = (v, record { within = h; is = refl })
nth-at (v ∷ range) (suc i) h = let n = nth-at range i (omega arith) in let m = n.1 in (n.0, record { within = omega (arith, m.within); is = m.is })

pub AreWithin-tail : {V : Type 0} (r : List V) (ranges : List (List V)) (i : ℕ) (places : List ℕ) → AreWithin (r ∷ ranges) (i ∷ places) → AreWithin ranges places
AreWithin-tail r ranges i places w = record { few = let h = w.few in omega arith; each = λ k h. w.each (suc k) (omega arith) }

pub AreWithin-take : {V : Type 0} (ranges : List (List V)) (places : List ℕ) (n : ℕ) → AreWithin ranges places → AreWithin ranges (take n places)
AreWithin-take ranges places n w = record {
  few = let h = w.few in omega (arith, length-take n places);
  each = λ k h. let a : k < n = omega (arith, length-take n places) in let b : k < length places = omega (arith, length-take n places) in
      subst (λ i. i < length (get_or ranges k [])) (sym (get_or-take n places k 0 a)) (w.each k b);
}

pub picked-nil : {V : Type 0} (ranges : List (List V)) → picked ranges [] ≡ []
picked-nil [] = refl
picked-nil (r ∷ ranges) = refl

-- one value more
pub picked-cons : {V : Type 0} (r : List V) (ranges : List (List V)) (i : ℕ) (places : List ℕ) → AreWithin (r ∷ ranges) (i ∷ places)
    → (x : V) × IsNth r i x × (picked (r ∷ ranges) (i ∷ places) ≡ x ∷ picked ranges places)
picked-cons r ranges i places w =
    let n = nth-at r i (w.each 0 (omega arith)) in
    let e = slice_get-nth r i n.0 n.1 in (n.0, n.1, rw e refl)

pub length-picked : {V : Type 0} (ranges : List (List V)) (places : List ℕ) → AreWithin ranges places → length (picked ranges places) ≡ length places
length-picked [] [] w = refl
length-picked [] (i ∷ places) w = absurd (let h = w.few in omega arith)
length-picked (r ∷ ranges) [] w = refl
length-picked (r ∷ ranges) (i ∷ places) w =
    let c = picked-cons r ranges i places w in ap length c.2 ∙ ap suc (length-picked ranges places (AreWithin-tail r ranges i places w))

pub slice_get-picked : {V : Type 0} (ranges : List (List V)) (places : List ℕ) (k : ℕ) → AreWithin ranges places → k < length places
    → slice_get (picked ranges places) k ≡ slice_get (get_or ranges k []) (get_or places k 0)
slice_get-picked [] [] k w h = absurd (omega arith)
slice_get-picked [] (i ∷ places) k w h = absurd (let f = w.few in omega arith)
slice_get-picked (r ∷ ranges) [] k w h = absurd (omega arith)
slice_get-picked (r ∷ ranges) (i ∷ places) zero w h =
    let c = picked-cons r ranges i places w in ap (λ xs. slice_get xs 0) c.2 ∙ sym (slice_get-nth r i c.0 c.1)
slice_get-picked (r ∷ ranges) (i ∷ places) (suc k) w h =
    let c = picked-cons r ranges i places w in ap (λ xs. slice_get xs (suc k)) c.2 ∙ slice_get-picked ranges places k (AreWithin-tail r ranges i places w) (omega arith)

-- one place more, after
pub AreWithin-push : {V : Type 0} (ranges : List (List V)) (places : List ℕ) (i : ℕ) (x : V) → AreWithin ranges places → length places < length ranges → IsNth (get_or ranges (length places) []) i x
    → AreWithin ranges (places ++ i ∷ [])
AreWithin-push [] places i x w h n = absurd (omega arith)
AreWithin-push (r ∷ ranges) [] i x w h n = record { few = omega arith; each = λ k l. let e : k ≡ 0 = omega arith in rw e n.within }
AreWithin-push (r ∷ ranges) (j ∷ places) i x w h n =
    let v = AreWithin-push ranges places i x (AreWithin-tail r ranges j places w) (omega arith) n in
    record { few = let f = v.few in omega arith; each = each v } where
      each : AreWithin ranges (places ++ i ∷ []) → (k : ℕ) → k < length (j ∷ (places ++ i ∷ [])) → get_or (j ∷ (places ++ i ∷ [])) k 0 < length (get_or (r ∷ ranges) k [])
      each v zero l = w.each zero (omega arith)
      each v (suc k) l = v.each k (omega arith)

pub picked-push : {V : Type 0} (ranges : List (List V)) (places : List ℕ) (i : ℕ) (x : V) → AreWithin ranges places → length places < length ranges → IsNth (get_or ranges (length places) []) i x
    → picked ranges (places ++ i ∷ []) ≡ picked ranges places ++ x ∷ []
picked-push [] places i x w h n = absurd (omega arith)
picked-push (r ∷ ranges) [] i x w h n = let e = slice_get-nth r i x n in rw e (ap (λ xs. x ∷ xs) (picked-nil ranges))
picked-push (r ∷ ranges) (j ∷ places) i x w h n =
    let c = picked-cons r ranges j places w in
    let e = slice_get-nth r j c.0 c.1 in
    rw e (ap (λ xs. c.0 ∷ xs) (picked-push ranges places i x (AreWithin-tail r ranges j places w) (omega arith) n))

-- the values are those of a row of the first ranges, and of all where they are as many
pub IsFrontOf-picked : {V : Type 0} (ranges : List (List V)) (places : List ℕ) → AreWithin ranges places → IsFrontOf ranges (picked ranges places)
IsFrontOf-picked [] places w = tt
IsFrontOf-picked (r ∷ ranges) [] w = tt
IsFrontOf-picked (r ∷ ranges) (i ∷ places) w =
    let c = picked-cons r ranges i places w in
    let n = c.1 in
    subst (IsFrontOf (r ∷ ranges)) (sym c.2) ((i, n.within, n.is), IsFrontOf-picked ranges places (AreWithin-tail r ranges i places w))

pub IsRowOf-front : {V : Type 0} (ranges : List (List V)) (row : List V) → IsFrontOf ranges row → length row ≡ length ranges → IsRowOf ranges row
IsRowOf-front ranges row f l = subst (λ rs. IsRowOf rs row) (take_all (length row) ranges (omega arith)) f

pub IsRowOf-length : {V : Type 0} (ranges : List (List V)) (row : List V) → IsRowOf ranges row → length row ≡ length ranges
IsRowOf-length [] [] m = refl
IsRowOf-length [] (v ∷ row) m = absurd m
IsRowOf-length (r ∷ ranges) [] m = absurd m
IsRowOf-length (r ∷ ranges) (v ∷ row) m = let ih = IsRowOf-length ranges row m.1 in omega arith

pub IsFrontOf-length : {V : Type 0} (ranges : List (List V)) (row : List V) → IsFrontOf ranges row → length row ≤ length ranges
IsFrontOf-length ranges row f = let e = IsRowOf-length (take (length row) ranges) row f in omega (arith, length-take (length row) ranges)

-- a range that is read
pub range-is : {V : Type 0} (ranges : List (List V)) (k : ℕ) (r : List V) → k < length ranges → r ≡ get_or ranges k r → get_or ranges k [] ≡ r
range-is ranges k r h e = get_or_default ranges k [] r h ∙ sym e
