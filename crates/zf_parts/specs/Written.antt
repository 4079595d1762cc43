-- What is written of parts: their lines up to the last one that is written, and how it ends there.
use Rattle.std.specs.Prelude.{◌≡◌, ℕ, List, [], ◌∷◌, ◌++◌, length, Option, Some, All}
use Rattle.zf_parts.specs.Prelude.{Format, Comp, Value, True, Out, Spelling, Status, Done, PastBounds, IsBelow, row_wording, Wording}
use Rattle.std.specs.List.{flat_map}
use Rattle.zf_parts.specs.Parts.{Part}

-- the first event of each is True
abbrev pub AllHold : List Part → Type 0
AllHold parts = All (λ (p : Part). p.first.truth ≡ True) parts

-- one line a part
abbrev pub part_lines : Wording Value → List Part → List ℕ
part_lines w parts = flat_map (λ (p : Part). w.line p.values) parts

-- The text and the status of parts: the limit is reached, or the first event of the next one is out, or no part is left.
pub data ArePartsWritten (w : Wording Value) (limit : Option ℕ) (parts : List Part) (text : List ℕ) (status : Status) : Type 0 where
  pauses : (front rest : List Part) → parts ≡ front ++ rest → AllHold front → limit ≡ Some (length front)
      → text ≡ part_lines w front ++ w.more → status ≡ Done → ArePartsWritten w limit parts text status
  breaks : (front : List Part) (p : Part) (rest : List Part) → parts ≡ front ++ p ∷ rest → AllHold front → p.first.truth ≡ Out → IsBelow limit (length front)
      → text ≡ part_lines w front ++ w.out p.first.row → status ≡ PastBounds → ArePartsWritten w limit parts text status
  ends : AllHold parts → IsBelow limit (length parts) → text ≡ part_lines w parts ++ w.end → status ≡ Done
      → ArePartsWritten w limit parts text status

-- the line of a part is that of its components; of an event that is out the whole row is reported
abbrev pub part_wording : Format → List Spelling → (part whole : List Comp) → Wording Value
part_wording f ss part whole = record {
  line = (row_wording f ss part).line;
  out = (row_wording f ss whole).out;
  more = (row_wording f ss whole).more;
  end = (row_wording f ss whole).end;
  tests = (row_wording f ss whole).tests;
}
