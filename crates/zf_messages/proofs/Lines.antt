-- The lines of a source, counted on from a place.
use Rattle.zf_messages.proofs.Prelude.{◌+◌, ◌++◌, ◌-◌, ◌∙◌, ◌≡◌, ◌≤◌, ap, arith, drop, List, sym, take, ℕ}
use Rattle.std.proofs.lemmas.List.Sums.{sum_by-append}
use Rattle.std.proofs.Math.Seq.{take-add}
use Rattle.zf_messages.specs.Places.{line_at, newlines}

newlines-append : (bs cs : List ℕ) → newlines (bs ++ cs) ≡ newlines bs + newlines cs
newlines-append bs cs = sum_by-append _ bs cs

newlines_passed : (source : List ℕ) (start n : ℕ)
    → newlines (take (start + n) source) ≡ newlines (take start source) + newlines (take n (drop start source))
newlines_passed source start n = ap newlines (take-add start n source) ∙ newlines-append (take start source) (take n (drop start source))

pub lines_passed : (source : List ℕ) (start end : ℕ) → start ≤ end
    → line_at source start + newlines (take (end - start) (drop start source)) ≡ line_at source end
lines_passed source start end h =
    let e : start + (end - start) ≡ end = omega arith in
    let n = ap (λ k. newlines (take k source)) (sym e) ∙ newlines_passed source start (end - start) in
    omega arith
