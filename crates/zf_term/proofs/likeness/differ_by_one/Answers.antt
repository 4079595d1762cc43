-- What is left of the names where one of them ends.
use Rattle.std.proofs.Common.{◌∙◌, ◌∷◌, ◌≡◌, [], ap, arith, drop, length, List, min, suc, sym, zero, ℕ}
use Rattle.std.specs.Prelude.{nat_le}
use Rattle.std.specs.Int.{abs_diff}
use Rattle.zf_term.specs.{differ_by_one}
use Rattle.zf_term.proofs.likeness.differ_by_one.Goals as goal

ended : (xs ys : List ℕ) (n k : ℕ) → n ≡ min (length xs) (length ys) → k ≡ abs_diff (length xs) (length ys) → nat_le k 1 ≡ differ_by_one (drop n xs) (drop n ys)
ended [] ys zero k e f = let same : k ≡ length ys = omega (arith, f) in ap (λ m. nat_le m 1) same
ended [] ys (suc n) k e f = absurd (omega (arith, e))
ended (x ∷ xs) [] zero k e f = let same : k ≡ suc (length xs) = omega (arith, f) in ap (λ m. nat_le m 1) same
ended (x ∷ xs) [] (suc n) k e f = absurd (omega (arith, e))
ended (x ∷ xs) (y ∷ ys) zero k e f = absurd (omega (arith, e))
ended (x ∷ xs) (y ∷ ys) (suc n) k e f = ended xs ys n k (omega (arith, e)) (omega (arith, f))

pub returns : goal.returns
returns c =
    let place : c.loop-place.place ≡ min (length c.args.name.now) (length c.args.other.now) = omega (arith, c.min-place-end.ensures, c.loop-place-test.false, c.loop-place.auto.place-end) in
    ended c.args.name.now c.args.other.now c.loop-place.place c.abs_diff.result place c.abs_diff.ensures ∙ sym c.loop-place.invariant
