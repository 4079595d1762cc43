-- The line of a part that is the first values of a row.
use Rattle.zf_parts.proofs.Prelude.{◌++◌, ◌∙◌, ◌∷◌, ◌≡◌, [], ap, arith, length, List, refl, suc, sym, zero, ℕ, Value, values_at, ◌≤◌, take, codes, Format, row_line, Comp, Spelling, AreFirst}
use Rattle.zf_format.specs.declared.format.Format.TheVariants.{Lines, Objects}
use Rattle.zf_print.specs.{component_in, components_in, parted}
use Rattle.zf_parts.proofs.Fronting.{first_values}

of_front : (f : Format) (ss : List Spelling) (cs : List Comp) (n : ℕ) (row : List Value) → length cs ≤ n → components_in f ss cs row ≡ components_in f ss cs (take n row)
of_front f ss [] n row few = refl
of_front f ss (c ∷ cs) zero row few = absurd (omega (arith, few))
of_front f ss (c ∷ cs) (suc n) [] few = refl
of_front f ss (c ∷ cs) (suc n) (v ∷ row) few = ap (λ texts. component_in f ss c v ∷ texts) (of_front f ss cs n row (omega (arith, few)))

line_in : (f : Format) (ss : List Spelling) (cs : List Comp) (row other : List Value) → ((g : Format) → components_in g ss cs row ≡ components_in g ss cs other) → row_line f ss cs row ≡ row_line f ss cs other
line_in Lines ss cs row other same = ap (λ texts. parted texts ++ codes "\n") (same Lines)
line_in Objects ss cs row other same = ap (λ texts. (codes "{" ++ parted texts ++ codes "}") ++ codes "\n") (same Objects)

pub front_line : (f : Format) (ss : List Spelling) (cs : List Comp) (places : List ℕ) → AreFirst places → length cs ≤ length places → (row : List Value)
    → row_line f ss cs row ≡ row_line f ss cs (values_at places row)
front_line f ss cs places first few row =
    line_in f ss cs row (values_at places row) (λ g. of_front g ss cs (length places) row few ∙ ap (components_in g ss cs) (sym (first_values places first row)))
