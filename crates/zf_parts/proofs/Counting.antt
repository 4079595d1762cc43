-- Digits that count numbers: one that changes, and what is carried over from it.
use Rattle.zf_parts.proofs.Prelude.{◌+◌, ◌<◌, ◌∙◌, ◌∷◌, ◌≡◌, [], ap, arith, inl, inr, length, List, refl, subst, suc, sym, Value, zero, ℕ, ◌*◌, ◌-◌, ◌≤◌, add-mul, drop, get_or, mul_assoc, replicate, set, mul-le-mul_right, cases_eq, cases_lt, drop_all, drop_more, get_or-set_other, get_or-set_same, length-set, AreWithin-tail, picked-cons, slice_get-nth, AreWithin, picked, counted, IsNumber, ranges_at, total}
use Rattle.zf_parts.proofs.Numbering.{length_ranges, range_there, some_rest, within_more}

-- the values at digits have the number that these count
pub counted_number : (ranges : List (List Value)) (ds : List ℕ) → AreWithin ranges ds → length ds ≡ length ranges → IsNumber ranges (picked ranges ds) (counted ranges ds)
counted_number [] [] w long = refl
counted_number [] (d ∷ ds) w long = absurd (omega (arith, long))
counted_number (r ∷ ranges) [] w long = absurd (omega (arith, long))
counted_number (r ∷ ranges) (d ∷ ds) w long =
    let (x, at, is) = picked-cons r ranges d ds w in
    subst (λ vs. IsNumber (r ∷ ranges) vs (d * total ranges + counted ranges ds)) (sym is)
    (d, counted ranges ds, slice_get-nth r d x at, counted_number ranges ds (AreWithin-tail r ranges d ds w) (omega (arith, long)), refl)

pub some_first : (r : List Value) (ranges : List (List Value)) → 0 < total (r ∷ ranges) → 0 < length r
some_first r ranges some = elim (cases_lt 0 (length r)) [
  | inl is ↦ is
  | inr none ↦ absurd (omega (arith, some, mul-le-mul_right {m = length r} {n = 0} (total ranges) (omega (arith, none))))
]

-- at first
pub first_digits : (ranges : List (List Value)) (n : ℕ) → n ≡ length ranges → 0 < total ranges → AreWithin ranges (replicate n 0) × (counted ranges (replicate n 0) ≡ 0)
first_digits [] zero is some = (record { few = omega arith; each = λ k h. absurd (omega (arith, h)) }, refl)
first_digits [] (suc n) is some = absurd (omega (arith, is))
first_digits (r ∷ ranges) zero is some = absurd (omega (arith, is))
first_digits (r ∷ ranges) (suc n) is some =
    let (within, none) = first_digits ranges n (omega (arith, is)) (some_rest (length r) (total ranges) some).0 in
    (within_more r ranges 0 (replicate n 0) (some_first r ranges some) within, omega (arith, none))

-- ---- one digit changes

pub counted_set : (ranges : List (List Value)) (ds : List ℕ) (j v : ℕ) → j < length ds → length ds ≤ length ranges
    → counted ranges (set ds j v) + get_or ds j 0 * total (drop (suc j) ranges) ≡ counted ranges ds + v * total (drop (suc j) ranges)
counted_set ranges [] j v near few = absurd (omega (arith, near))
counted_set [] (d ∷ ds) j v near few = absurd (omega (arith, few))
counted_set (r ∷ ranges) (d ∷ ds) zero v near few = omega arith
counted_set (r ∷ ranges) (d ∷ ds) (suc j) v near few = omega (arith, counted_set ranges ds j v (omega (arith, near)) (omega (arith, few)))

pub within_set : (ranges : List (List Value)) (ds : List ℕ) (j v : ℕ) → AreWithin ranges ds → j < length ds → v < length (get_or ranges j []) → AreWithin ranges (set ds j v)
within_set ranges ds j v w near low = record { few = let few = w.few in omega (arith, few, length-set ds j v); each = each } where
  each : (k : ℕ) → k < length (set ds j v) → get_or (set ds j v) k 0 < length (get_or ranges k [])
  each k l = elim (cases_eq k j) [
    | inl same ↦ subst (λ d. d < length (get_or ranges k [])) (sym (ap (λ i. get_or (set ds j v) i 0) same ∙ get_or-set_same ds j v 0 near))
        (subst (λ i. v < length (get_or ranges i [])) (sym same) low)
    | inr other ↦ subst (λ d. d < length (get_or ranges k [])) (sym (get_or-set_other ds j k v 0 other)) (w.each k (omega (arith, l, length-set ds j v)))
  ]

pub some_behind : (ranges : List (List Value)) (i : ℕ) → 0 < total ranges → 0 < total (drop i ranges)
some_behind ranges zero some = some
some_behind [] (suc i) some = some
some_behind (r ∷ ranges) (suc i) some = some_behind ranges i (some_rest (length r) (total ranges) some).0

pub some_value : (ranges : List (List Value)) (j : ℕ) → j < length ranges → 0 < total ranges → 0 < length (get_or ranges j [])
some_value [] j near some = absurd (omega (arith, near))
some_value (r ∷ ranges) zero near some = some_first r ranges some
some_value (r ∷ ranges) (suc j) near some = some_value ranges j (omega (arith, near)) (some_rest (length r) (total ranges) some).0

-- ---- counting on

module _ (ranges : List (List Value)) (places : List ℕ) (whole : ℕ) where
  abbrev all : List (List Value)
  all = ranges_at ranges places

  -- what is left is to be added before the digits from i on
  pub record Counting (i left : ℕ) (ds : List ℕ) : Type 0 where
    pub near : i ≤ length places
    pub long : length ds ≡ length places
    pub within : AreWithin all ds
    pub is : counted all ds + left * total (drop i all) ≡ whole

  pub counting_first : (ds : List ℕ) (more : ℕ) → length ds ≡ length places → AreWithin all ds → counted all ds + more ≡ whole → Counting (length places) more ds
  counting_first ds more long within is =
      let none : drop (length places) all ≡ [] = drop_all (length places) all (omega (arith, length_ranges ranges places)) in
      record { near = omega arith; long = long; within = within; is = ap (λ rs. counted all ds + more * total rs) none ∙ (omega (arith, is)) }

  module _ (i left : ℕ) (ds : List ℕ) (h : Counting i left ds) (some : 0 < left) (fits : whole < total all) where
    -- before the first digit nothing is left
    pub not_first : 0 < i
    not_first = elim (cases_eq i 0) [
      | inr more ↦ omega (arith, more)
      | inl none ↦
          let first : left * total (drop i all) ≡ left * total all = ap (λ k. left * total (drop k all)) none in
          absurd (omega (arith, first, h.is, fits, mul-le-mul_right {m = 1} {n = left} (total all) (omega (arith, some))))
    ]

    module _ (j : ℕ) (next : i ≡ suc j) (d : ℕ) (at : d ≡ get_or ds j 0) (some_all : 0 < total all) where
      deep : j < length places
      deep = omega (arith, next, h.near)

      weight : ℕ
      weight = total (drop i all)

      old_digit : counted all (set ds j 0) + d * total (drop i all) ≡ counted all ds + 0 * total (drop i all)
      old_digit = ap (λ e. counted all (set ds j 0) + e * total (drop i all)) at ∙ ap (λ k. counted all (set ds j 0) + get_or ds j 0 * total (drop k all)) next
          ∙ counted_set all ds j 0 (omega (arith, deep, h.long)) (omega (arith, h.long, length_ranges ranges places)) ∙ ap (λ k. counted all ds + 0 * total (drop k all)) (sym next)

      pub sum_fits : d + left ≤ whole
      sum_fits =
          let one = some_behind all i some_all in
          omega (arith, old_digit, h.is, mul-le-mul_right {m = 1} {n = total (drop i all)} d one, mul-le-mul_right {m = 1} {n = total (drop i all)} left one)

      pub counting_next : (digit over many : ℕ) → many ≡ length (get_or ranges (get_or places j 0) []) → digit + over * many ≡ d + left → digit < many → Counting j over (set ds j digit)
      counting_next digit over many is carried low =
          let values : many ≡ length (get_or all j []) = is ∙ ap length (sym (range_there ranges places j deep)) in
          let rest : drop j all ≡ get_or all j [] ∷ drop i all = drop_more all j [] (omega (arith, deep, length_ranges ranges places)) ∙ ap (λ k. get_or all j [] ∷ drop k all) (ap (λ k. k) (omega (arith, next))) in
          let behind : over * total (drop j all) ≡ over * (many * total (drop i all)) = ap (λ rs. over * total rs) rest ∙ ap (λ l. over * (l * total (drop i all))) (sym values) in
          let new : counted all (set ds j digit) + d * total (drop i all) ≡ counted all ds + digit * total (drop i all) =
          ap (λ e. counted all (set ds j digit) + e * total (drop i all)) at ∙ ap (λ k. counted all (set ds j digit) + get_or ds j 0 * total (drop k all)) next
          ∙ counted_set all ds j digit (omega (arith, deep, h.long)) (omega (arith, h.long, length_ranges ranges places)) ∙ ap (λ k. counted all ds + digit * total (drop k all)) (sym next) in
          let sums : digit * total (drop i all) + over * many * total (drop i all) ≡ d * total (drop i all) + left * total (drop i all) =
          sym (add-mul digit (over * many) (total (drop i all))) ∙ ap (λ k. k * total (drop i all)) carried ∙ add-mul d left (total (drop i all)) in
          record {
            near = omega (arith, deep);
            long = length-set ds j digit ∙ h.long;
            within = within_set all ds j digit h.within (omega (arith, deep, h.long)) (subst (λ l. digit < l) values low);
            is = omega (arith, behind, new, sums, h.is, mul_assoc over many (total (drop i all)));
          }

-- the row of a number, from that of the last one on
pub at_number : (all rs old : List (List Value)) (ds was : List ℕ) (n last : ℕ) → rs ≡ old → old ≡ all → IsNumber rs (picked rs ds) (counted rs ds) → counted rs ds ≡ counted old was + (n - last)
    → counted old was ≡ last → last ≤ n → IsNumber all (picked rs ds) n
at_number all rs old ds was n last same over h is at low =
    let number : counted rs ds ≡ n = omega (arith, is, at, low) in
    subst (λ q. IsNumber q (picked rs ds) n) (same ∙ over) (subst (IsNumber rs (picked rs ds)) number h)
