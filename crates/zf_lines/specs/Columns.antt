-- What is kept of the lines that were printed. No public clause rests on this file.
use Rattle.std.specs.Prelude.{◌≡◌, ℕ, List, [], ◌++◌, length, Option, Some, option_map, slice_get, slice_index_or, unwrap_or}
use Rattle.zf_lines.specs.Prelude.{Format, Comp, Value, Spelling, comma_before, name_in, value_in}
use Rattle.zf_lines.specs.declared.column.Column.{Column}
use Rattle.zf_lines.specs.declared.column.Kept.{Kept}

-- what stands before the value of a component, after so many others
abbrev pub head_of : Format → ℕ → Comp → List ℕ
head_of f count c = comma_before count ++ name_in f c.name

-- the part of a line for the value at a place
abbrev pub part_at : List ℕ → Format → List Spelling → List Value → ℕ → List ℕ
part_at head f ss values place = unwrap_or (option_map (λ v. head ++ value_in f ss v) (slice_get values place)) []

-- each text that is kept is that of its place
unfoldable pub AreTexts : (ℕ → List ℕ) → List (Option Kept) → Type 0
AreTexts f slots = (n : ℕ) (k : Kept) → slice_get slots n ≡ Some (Some k) → k.text ≡ f k.place

abbrev pub Keeps : (ℕ → List ℕ) → Column → Type 0
Keeps f column = AreTexts f column.slots.items

-- a column for each component, with parts of lines for the values of its range
pub record AreColumns (f : Format) (ss : List Spelling) (cs : List Comp) (ranges : List (List Value)) (columns : List Column) : Type 0 where
  pub all : length columns ≡ length cs
  pub heads : (i : ℕ) (c : Comp) (column : Column) → slice_get cs i ≡ Some c → slice_get columns i ≡ Some column → column.head ≡ head_of f i c
  pub kept : (i : ℕ) (column : Column) → slice_get columns i ≡ Some column → Keeps (part_at column.head f ss (slice_index_or ranges i [])) column
