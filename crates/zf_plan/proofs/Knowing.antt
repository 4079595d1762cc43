-- What is known of leaves, from what was found of them.
use Rattle.zf_plan.proofs.Prelude.{◌++◌, ◌<◌, ◌∙◌, ◌∷◌, ◌≡◌, ◌≤◌, [], ap, append_assoc, arith, drop, get_or, length, List, None, Option, refl, Some, subst, suc, sym, take, zero, ℕ, length-take-le, take-append-drop, AreWithin-tail, AreWithin-take, length-picked, picked-cons, slice_get-nth, Conjuncts, KeepTruths, AreWithin, picked, Truth, IsKnown, IsSettled, Tells, leaf}

take-none : {V : Type 0} (k : ℕ) → take {A = V} k [] ≡ []
take-none zero = refl
take-none (suc k) = refl

-- the first values are those at the first places
pub picked-take : {V : Type 0} (ranges : List (List V)) (places : List ℕ) (k : ℕ) → AreWithin ranges places → picked ranges (take k places) ≡ take k (picked ranges places)
picked-take [] places k w = sym (take-none k)
picked-take (r ∷ ranges) [] k w = ap (picked (r ∷ ranges)) (take-none k) ∙ sym (take-none k)
picked-take (r ∷ ranges) (i ∷ places) zero w = refl
picked-take (r ∷ ranges) (i ∷ places) (suc k) w =
    let c = picked-cons r ranges i places w in
    let e = slice_get-nth r i c.0 c.1 in
    rw e (ap (λ xs. c.0 ∷ xs) (picked-take ranges places k (AreWithin-tail r ranges i places w)))

module _ {V : Type 0} (l : Conjuncts V) (keep : KeepTruths l) (ranges : List (List V)) (places : List ℕ) (w : AreWithin ranges places) where
  -- a truth on what a leaf needs is settled
  pub settled-leaf : (c : ℕ) (t : Truth) → c < l.number → l.due c ≤ length places → l.says c (picked ranges (take (l.due c) places)) t → IsSettled l (leaf c) (picked ranges places) t
  settled-leaf c t h d s more =
      let part = picked ranges (take (l.due c) places) in
      let rest = drop (l.due c) (picked ranges places) in
      let long : length part ≡ l.due c = length-picked ranges (take (l.due c) places) (AreWithin-take ranges places (l.due c) w) ∙ length-take-le (l.due c) places d in
      let whole : part ++ (rest ++ more) ≡ picked ranges places ++ more =
      sym (append_assoc part rest more) ∙ ap (λ xs. xs ++ more) (ap (λ xs. xs ++ rest) (picked-take ranges places (l.due c) w) ∙ take-append-drop (l.due c) (picked ranges places)) in
      subst (λ r. l.says c r t) whole (keep c part (rest ++ more) t h (omega arith) s)

  pub known-told : (told : List (Option Truth)) (c : ℕ) (t : Truth) → Tells l ranges places told → c < l.number → l.due c ≤ length places
      → get_or told c None ≡ Some t → IsKnown l (leaf c) (picked ranges places) (Some t)
  known-told told c t tells h d e = settled-leaf c t h d (tells.right c t h d e)

  pub known-later : (c : ℕ) → length places < l.due c → IsKnown l (leaf c) (picked ranges places) None
  known-later c h = omega (arith, length-picked ranges places w)
