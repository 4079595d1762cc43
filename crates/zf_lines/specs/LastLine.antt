-- The line that was printed last, and its parts. No public clause but those of printing rests on this file.
use Rattle.std.specs.Prelude.{◌≡◌, ◌+◌, ℕ, List, [], ◌++◌, codes, length, Some, slice_get, slice_index_or, take}
use Rattle.zf_lines.specs.Prelude.{Format, Lines, Objects, Comp, Value, Spelling, components_in, parted}
use Rattle.zf_lines.specs.Columns.{AreColumns}
use Rattle.zf_lines.specs.declared.printed.Part.{Part}
use Rattle.zf_lines.specs.declared.printed.Printed.{Printed}

-- what stands before the first part of a line
abbrev pub opening : Format → List ℕ
opening Lines = []
opening Objects = codes "{"

-- the line of a row up to so many parts
abbrev pub front : Format → List Spelling → List Comp → List Value → ℕ → List ℕ
front f ss cs row n = opening f ++ parted (take n (components_in f ss cs row))

-- each part is that of the row's value, and ends where the line up to it does
pub record AreParts (f : Format) (ss : List Spelling) (cs : List Comp) (ranges : List (List Value)) (row : List Value) (parts : List Part) : Type 0 where
  pub places : (i : ℕ) (part : Part) → slice_get parts i ≡ Some part → slice_get row i ≡ slice_get (slice_index_or ranges i []) part.place
  pub ends : (i : ℕ) (part : Part) → slice_get parts i ≡ Some part → part.end ≡ length (front f ss cs row (i + 1))

-- what stands in the line is the row's up to so many parts
pub record IsFront (f : Format) (ss : List Spelling) (cs : List Comp) (ranges : List (List Value)) (row : List Value) (n : ℕ) (printed : Printed) : Type 0 where
  pub columns : AreColumns f ss cs ranges printed.columns.items
  pub line : printed.line.items ≡ front f ss cs row n
  pub count : length printed.parts.items ≡ n
  pub parts : AreParts f ss cs ranges row printed.parts.items

-- the line is that of some row up to its last part, with anything after
pub record IsPrinted (f : Format) (ss : List Spelling) (cs : List Comp) (ranges : List (List Value)) (printed : Printed) : Type 0 where
  pub columns : AreColumns f ss cs ranges printed.columns.items
  pub line : (row : List Value) × AreParts f ss cs ranges row printed.parts.items × (rest : List ℕ) × (printed.line.items ≡ front f ss cs row (length printed.parts.items) ++ rest)
