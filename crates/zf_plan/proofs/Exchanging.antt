-- Ranges that are exchanged one after another.
use Rattle.zf_plan.proofs.Prelude.{◌≡◌, ◌<◌, ◌+◌, ℕ, zero, suc, List, [], ◌∷◌, ◌++◌, length, take, drop, slice_set, Option, None, Some, ap, refl, subst, arith, exchanged}

stays : {V : Type 0} (ranges : List (List V)) (others : List (Option (List V))) (place : ℕ) → place < length ranges
    → take place ranges ++ exchanged (drop place ranges) (None ∷ others) ≡ take (suc place) ranges ++ exchanged (drop (suc place) ranges) others
stays [] others place h = absurd (omega (arith, h))
stays (xs ∷ ranges) others zero h = refl
stays (xs ∷ ranges) others (suc place) h = ap (λ l. xs ∷ l) (stays ranges others place (omega (arith, h)))

replaced : {V : Type 0} (ranges : List (List V)) (ys : List V) (others : List (Option (List V))) (place : ℕ) → place < length ranges
    → take place ranges ++ exchanged (drop place ranges) (Some ys ∷ others) ≡ take (suc place) (slice_set ranges place ys) ++ exchanged (drop (suc place) (slice_set ranges place ys)) others
replaced [] ys others place h = absurd (omega (arith, h))
replaced (xs ∷ ranges) ys others zero h = refl
replaced (xs ∷ ranges) ys others (suc place) h = ap (λ l. xs ∷ l) (replaced ranges ys others place (omega (arith, h)))

next : (place : ℕ) → suc place ≡ place + 1
next place = omega arith

-- a range that stays
pub passes : {V : Type 0} (ranges : List (List V)) (others : List (Option (List V))) (place : ℕ) → place < length ranges
    → take place ranges ++ exchanged (drop place ranges) (None ∷ others) ≡ take (place + 1) ranges ++ exchanged (drop (place + 1) ranges) others
passes ranges others place h =
    subst (λ n. take place ranges ++ exchanged (drop place ranges) (None ∷ others) ≡ take n ranges ++ exchanged (drop n ranges) others) (next place) (stays ranges others place h)

-- one that is exchanged
pub takes : {V : Type 0} (ranges : List (List V)) (ys : List V) (others : List (Option (List V))) (place : ℕ) → place < length ranges
    → take place ranges ++ exchanged (drop place ranges) (Some ys ∷ others) ≡ take (place + 1) (slice_set ranges place ys) ++ exchanged (drop (place + 1) (slice_set ranges place ys)) others
takes ranges ys others place h =
    let new = slice_set ranges place ys in
    subst (λ n. take place ranges ++ exchanged (drop place ranges) (Some ys ∷ others) ≡ take n new ++ exchanged (drop n new) others) (next place) (replaced ranges ys others place h)

pub as_many : {V : Type 0} (ranges : List (List V)) (others : List (Option (List V))) → length (exchanged ranges others) ≡ length ranges
as_many [] others = refl
as_many (xs ∷ ranges) [] = refl
as_many (xs ∷ ranges) (None ∷ others) = ap suc (as_many ranges others)
as_many (xs ∷ ranges) (Some ys ∷ others) = ap suc (as_many ranges others)
