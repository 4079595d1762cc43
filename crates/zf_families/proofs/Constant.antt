-- Functions to a set of one member.
use Rattle.zf_families.proofs.Prelude.{◌<◌, ◌∙◌, ◌∷◌, ◌≡◌, ◌≤◌, [], ap, arith, get_or, length, List, map, refl, sym, pair, Value, arrow_rows, fits_any, pairs, whole}
use Rattle.zf_tree.specs.declared.symbol.Arrow.TheVariants as kind

-- of functions to one member there is one, which is constant
constant : (a : List Value) (y : Value) → whole fits_any (map (pairs (y ∷ [])) a) ≡ map (λ x. pair x y) a ∷ []
constant [] y = refl
constant (x ∷ a) y = let rest = constant a y in cc

pub alone : (b : List Value) (y : Value) → 1 ≤ length b → length b < 2 → y ≡ get_or b 0 y → b ≡ y ∷ []
alone [] y h k e = absurd (omega arith)
alone (x ∷ []) y h k e = ap (λ u. u ∷ []) (sym e)
alone (x ∷ u ∷ b) y h k e = absurd (omega arith)

pub constant_rows : (a b : List Value) (y : Value) (row : List Value) → 1 ≤ length b → length b < 2 → y ≡ get_or b 0 y → row ≡ map (λ x. pair x y) a → row ∷ [] ≡ arrow_rows kind.TotalFunction a b
constant_rows a b y row h k e r = ap (λ s. s ∷ []) r ∙ sym (constant a y) ∙ ap (arrow_rows kind.TotalFunction a) (sym (alone b y h k e))
