-- How deep a value is: a measure for what goes over its members. No public clause rests on this file.
use Rattle.std.specs.Prelude.{◌≡◌, ◌+◌, ◌≤◌, ℕ, max, List, [], ◌∷◌}
use Rattle.std.proofs.Common.{sym, ap, ◌∙◌, arith, map}
use denote.Param.Weighed.{most}
use Rattle.zf_value.specs.declared.plain.Value.{Value, Tuple, SetOf, fold-Value, fold-roll-Value}
use Rattle.zf_value.specs.declared.plain.Value.TheOpen.{Value-F}
use Rattle.zf_value.specs.declared.plain.Value.TheVariants.{rolls-Tuple, rolls-SetOf}

abbrev pub greatest : List ℕ → ℕ
greatest [] = 0
greatest (n ∷ ns) = max n (greatest ns)

abbrev pub height_step : Value-F ℕ → ℕ
height_step (Value-F.Int n) = 0
height_step (Value-F.Elem t i) = 0
height_step (Value-F.Tuple ns) = greatest ns + 1
height_step (Value-F.SetOf ns) = greatest ns + 1

unfoldable pub height : Value → ℕ
height = fold-Value ℕ height_step

pub height-Tuple : (xs : List Value) → height (Tuple xs) ≡ greatest (map height xs) + 1
unfolding height
height-Tuple xs = ap height (sym (rolls-Tuple xs)) ∙ fold-roll-Value ℕ height_step (Value-F.Tuple xs)

pub height-SetOf : (xs : List Value) → height (SetOf xs) ≡ greatest (map height xs) + 1
unfolding height
height-SetOf xs = ap height (sym (rolls-SetOf xs)) ∙ fold-roll-Value ℕ height_step (Value-F.SetOf xs)

pub most-greatest : (xs : List Value) → most (λ v. height v + 1) xs ≤ greatest (map height xs) + 1
most-greatest [] = omega arith
most-greatest (x ∷ xs) = omega (arith, most-greatest xs)
