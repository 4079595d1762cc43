-- What `why` shows a conjunct by.
use Rattle.std.specs.Prelude.{ℕ, Bool, if◌then◌else◌, List, [], ◌++◌, codes, slice_get}
use Rattle.std.specs.Option.{option_map_or}
use Rattle.zf_answers.specs.Prelude.{At, Comes, Comp, Detail, Line, line_at, line_range, Member, Operand, Outcome, Part, quoted, Span, Spelling, Stands, Text, Unchanged, value_text}
use Rattle.zf_value.specs.declared.value.Outcome.TheVariants as outcome

-- the name of the component at a place
abbrev pub name_in : List Comp → ℕ → List ℕ
name_in cs i = option_map_or (λ c. c.name) (slice_get cs i) []

abbrev pub part_place : Part → Span
part_place (Text s) = s
part_place (Unchanged s i j) = s
part_place (Member i s) = s

-- the predicate as the source has it, on one line; `S: x' = x` where it comes of `\Xi S`; `x : T` where it comes of a declaration
abbrev pub part_text : (source : List ℕ) → List Comp → Part → List ℕ
part_text source cs (Text s) = quoted source s
part_text source cs (Unchanged s i j) = quoted source s ++ codes ": " ++ name_in cs j ++ codes " = " ++ name_in cs i
part_text source cs (Member i s) = name_in cs i ++ codes " : " ++ quoted source s

abbrev pub at_line : (source : List ℕ) → Span → At
at_line source s = Line (line_at source s.start)

-- with details, the lines of a predicate that goes over more than one
abbrev pub range_details : (details : Bool) → (source : List ℕ) → Part → List Detail
range_details details source p = if details then line_range (line_at source (part_place p).start) (line_at source (part_place p).stop) else []

-- what an expression comes to, as `show` writes values
abbrev pub outcome_text : List Spelling → Outcome → List ℕ
outcome_text ss (outcome.Is v) = value_text ss v
outcome_text ss outcome.Undefined = codes "undefined"
outcome_text ss outcome.Out = codes "out of bounds"

-- or, of a set that is not listed, how the source has it
abbrev pub operand_text : (source : List ℕ) → List Spelling → Operand → List ℕ
operand_text source ss (Comes o) = outcome_text ss o
operand_text source ss (Stands s) = quoted source s
