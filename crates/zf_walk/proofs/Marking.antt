-- The truths that a table has marked, a bit each.
use Rattle.zf_walk.proofs.Prelude.{◌*◌, ◌++◌, ◌+◌, ◌-◌, ◌<◌, ◌∙◌, ◌∷◌, ◌≡◌, ◌⊎◌, [], ap, arith, drop, get_or, inl, inr, length, List, refl, subst, sym, ℕ, cases_eq, drop_more, get_or_append_left, Contains, combinations, HavePlaces, number, Truth, False, Out, True, Table, Used, ◌/◌, ◌%◌, bit_and, bit_or, max, min, get_or-append_seam, drop_all, mod-lt, bit_at-lt, bit_at-zero, bit_at_and, bit_at_or, HasBit, IsMarked, IsSeen, unseen}
use Rattle.std.specs.Int.{bit_at}
use Rattle.std.proofs.lemmas.Nat.{div-add-mod'}
use Rattle.zf_walk.proofs.Numbering.{digit_small, next_digit, one_digit}

pub unseen-nothing : (i : ℕ) (t : Truth) → IsSeen unseen i t → ⊥
unseen-nothing i False m = let z = bit_at-zero i in omega (arith, z, m)
unseen-nothing i True m = let z = bit_at-zero i in omega (arith, z, m)
unseen-nothing i Out m = m

-- in a new table nothing is marked
pub unmarked-new : (t : Table) (n : ℕ) (u : Truth) → t.seen.items ≡ [] → IsMarked t n u → ⊥
unmarked-new t n u none m = unseen-nothing (n % t.width) u (subst (λ ss. IsSeen (get_or ss (n / t.width) unseen) (n % t.width) u) none m.1)

-- numbers with the same digits are the same
one_number : (n m w : ℕ) → n / w ≡ m / w → n % w ≡ m % w → n ≡ m
one_number n m w a b = sym (div-add-mod' n w) ∙ ap (λ d. d * w + n % w) a ∙ ap (λ r. m / w * w + r) b ∙ div-add-mod' m w

-- ---- several conjuncts

either-bit : (a b : ℕ) → a < 2 → b < 2 → max a b ≡ 1 → (a ≡ 1) ⊎ (b ≡ 1)
either-bit a b p q e = elim (cases_eq a 1) [ inl one ↦ inl one | inr other ↦ inr (omega arith) ]

pub or-has : (a b i : ℕ) → HasBit (bit_or a b) i → HasBit a i ⊎ HasBit b i
or-has a b i h = either-bit (bit_at a i) (bit_at b i) (bit_at-lt a i) (bit_at-lt b i) (sym (bit_at_or a b i) ∙ h)

both-bits : (a b : ℕ) → a < 2 → b < 2 → min a b ≡ 1 → (a ≡ 1) × (b ≡ 1)
both-bits a b p q e = (omega arith, omega arith)

pub and-has : (a b i : ℕ) → HasBit (bit_and a b) i → HasBit a i × HasBit b i
and-has a b i h = both-bits (bit_at a i) (bit_at b i) (bit_at-lt a i) (bit_at-lt b i) (sym (bit_at_and a b i) ∙ h)

-- ---- the rows that go on from some places with one more

-- what is marked is so
digits : (w n front i : ℕ) → i < w → n ≡ front * w + i → (n / w ≡ front) × (n % w ≡ i)
digits w n front i low is = one_digit (n / w) front w (n % w) i (mod-lt n {m = w} (omega arith)) low (div-add-mod' n w ∙ is)

pub seen-marked : (t : Table) (places : List ℕ) (front count i : ℕ) (last : Used) (u : Truth) → count ≡ length t.used.items → 0 < count
    → last ≡ get_or t.used.items (count - 1) last → last.component ≡ length places → last.count ≡ t.width
    → number front (drop (count - 1) t.used.items) (places ++ i ∷ []) ≡ number 0 t.used.items (places ++ i ∷ []) → HavePlaces t.used.items (places ++ i ∷ [])
    → IsSeen (get_or t.seen.items front unseen) i u → IsMarked t (number 0 t.used.items (places ++ i ∷ [])) u
seen-marked t places front count i last u all some is at wide whole have seen =
    let near : count - 1 < length t.used.items = omega arith in
    let one : drop (count - 1) t.used.items ≡ last ∷ [] =
    drop_more t.used.items (count - 1) last near ∙ ap (λ w. w ∷ drop (count - 1 + 1) t.used.items) (sym is) ∙ ap (λ us. last ∷ us) (drop_all (count - 1 + 1) t.used.items (omega arith)) in
    let place : get_or (places ++ i ∷ []) last.component 0 ≡ i = ap (λ k. get_or (places ++ i ∷ []) k 0) at ∙ get_or-append_seam places i [] 0 in
    let n : number 0 t.used.items (places ++ i ∷ []) ≡ front * t.width + i =
    sym whole ∙ ap (λ us. number front us (places ++ i ∷ [])) one ∙ ap (λ p. front * last.count + p) place ∙ ap (λ w. front * w + i) wide in
    let member : Contains t.used.items last = (count - 1, near, sym is) in
    let low : i < t.width = let h = have last member in omega (arith, h.1, place, wide) in
    let d = digits t.width (number 0 t.used.items (places ++ i ∷ [])) front i low n in (
      omega arith,
      subst (λ k. IsSeen (get_or t.seen.items k unseen) (number 0 t.used.items (places ++ i ∷ []) % t.width) u) (sym d.0)
          (subst (λ k. IsSeen (get_or t.seen.items front unseen) k u) (sym d.1) seen),
    )

-- the number of the first places, with one more of them
module _ (us : List Used) (places : List ℕ) (n k : ℕ) (u : Used) (is : u ≡ get_or us k u) (near : k < length us) (low : u.component < length places) where
  early : (i : ℕ) → get_or (places ++ i ∷ []) u.component 0 ≡ get_or places u.component 0
  early i = get_or_append_left places (i ∷ []) 0 u.component low

  pub front-next : (i : ℕ) → number n (drop k us) (places ++ i ∷ []) ≡ number 0 us (places ++ i ∷ [])
      → number (n * u.count + get_or places u.component 0) (drop (k + 1) us) (places ++ i ∷ []) ≡ number 0 us (places ++ i ∷ [])
  front-next i e =
      subst (λ p. number (n * u.count + p) (drop (k + 1) us) (places ++ i ∷ []) ≡ number 0 us (places ++ i ∷ [])) (early i)
      (subst (λ (w : Used). number (n * w.count + get_or (places ++ i ∷ []) w.component 0) (drop (k + 1) us) (places ++ i ∷ []) ≡ number 0 us (places ++ i ∷ [])) (sym is)
      (next_digit us (places ++ i ∷ []) n k (number 0 us (places ++ i ∷ [])) u near e))

  pub front-small : HavePlaces us (places ++ 0 ∷ []) → number n (drop k us) (places ++ 0 ∷ []) ≡ number 0 us (places ++ 0 ∷ []) → n * u.count + get_or places u.component 0 < combinations us
  front-small have e =
      subst (λ p. n * u.count + p < combinations us) (early 0)
      (subst (λ (w : Used). n * w.count + get_or (places ++ 0 ∷ []) w.component 0 < combinations us) (sym is)
      (digit_small us us (places ++ 0 ∷ []) n k u refl have near e))
