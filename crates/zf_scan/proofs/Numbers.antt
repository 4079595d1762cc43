-- The value of digits, one more at a time.
use Rattle.zf_scan.proofs.Prelude.{◌*◌, ◌++◌, ◌+◌, ◌-◌, ◌/◌, ◌<◌, ◌∙◌, ◌∷◌, ◌≡◌, ◌≤◌, [], ap, arith, drop, get_or, length, List, None, Some, sym, take, take-append-drop, ℕ, nat_tests, take_all, fold, if◌then◌else◌, nat_le, number_max, value}
use Rattle.std.proofs.lemmas.List.Sums.{fold_more, fold-append}

abbrev with_digit : ℕ → ℕ → ℕ
with_digit n b = 10 * n + (b - 48)

pub value-more : (s : List ℕ) (i : ℕ) → i < length s → value (take (i + 1) s) ≡ 10 * value (take i s) + (get_or s i 0 - 48)
value-more s i h = fold_more with_digit 0 s i 0 h

grows : (n : ℕ) (xs : List ℕ) → n ≤ fold with_digit n xs
grows n [] = omega arith
grows n (x ∷ xs) = omega (arith, grows (with_digit n x) xs)

pub value_le : (s : List ℕ) (i : ℕ) → value (take i s) ≤ value s
value_le s i =
    let e : value (take i s ++ drop i s) ≡ fold with_digit (value (take i s)) (drop i s) = fold-append with_digit 0 (take i s) (drop i s) in
    let f : value s ≡ value (take i s ++ drop i s) = ap value (sym (take-append-drop i s)) in
    omega (arith, e, f, grows (value (take i s)) (drop i s))

capped : (v m : ℕ) → m < v → None ≡ (if nat_le v m then Some v else None)
capped v m h = grind (arith, nat_tests)

kept : (v m : ℕ) → v ≤ m → Some v ≡ (if nat_le v m then Some v else None)
kept v m h = grind (arith, nat_tests)

pub too_large : (s : List ℕ) (i n d : ℕ) → n ≡ value (take i s) → i < length s → d ≡ get_or s i 0 - 48 → (number_max - d) / 10 < n
    → None ≡ (if nat_le (value s) number_max then Some (value s) else None)
too_large s i n d e h f over = capped (value s) number_max (omega (arith, value_le s (i + 1), value-more s i h))

pub one_more : (s : List ℕ) (i n d : ℕ) → n ≡ value (take i s) → i < length s → d ≡ get_or s i 0 - 48 → d < 256 → n ≤ (number_max - d) / 10
    → (10 * n + d ≡ value (take (i + 1) s)) × (10 * n + d ≤ number_max)
one_more s i n d e h f small fits = (omega (arith, value-more s i h), omega arith)

pub all_read : (s : List ℕ) (i n : ℕ) → n ≡ value (take i s) → length s ≤ i → n ≤ number_max → Some n ≡ (if nat_le (value s) number_max then Some (value s) else None)
all_read s i n e h fits = ap Some same ∙ kept (value s) number_max (omega (arith, same))
  where
    same : n ≡ value s
    same = e ∙ ap value (take_all i s h)
