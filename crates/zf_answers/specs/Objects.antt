-- The objects of a cause: what `why` tells of a conjunct, for programs.
use Rattle.std.specs.Prelude.{ℕ, Bool, List, [], ◌∷◌, ◌++◌, codes, decimal, map, Option, Some, None}
use Rattle.zf_answers.specs.Prelude.{Comes, Comp, detail_member, flat_map, line_at, member, Operand, Operands, Outcome, Part, parted, place_members, quoted, Side, Spelling, Stands, Told, value_object}
use Rattle.zf_value.specs.declared.value.Outcome.TheVariants as outcome
use Rattle.zf_answers.specs.Parts.{at_line, part_place, part_text, range_details}

-- `{"line": LINE, "source": PREDICATE}`
abbrev pub part_object : (source : List ℕ) → List Comp → Part → List ℕ
part_object source cs p = codes "{\"line\": " ++ decimal (line_at source (part_place p).start) ++ codes ", " ++ member (codes "source") (part_text source cs p) ++ codes "}"

-- `{"side": SIDE, "predicates": [..]}`
abbrev pub side_object : (source : List ℕ) → List Comp → Side → List ℕ
side_object source cs s =
    codes "{" ++ member (codes "side") (quoted source s.span) ++ codes ", \"predicates\": [" ++ parted (map (part_object source cs) s.blamed.items) ++ codes "]}"

-- the sides of a disjunction of schemas, if it is one
abbrev pub sides_member : (source : List ℕ) → List Comp → List Side → List ℕ
sides_member source cs [] = []
sides_member source cs (s ∷ sides) = codes ", \"sides\": [" ++ parted (map (side_object source cs) (s ∷ sides)) ++ codes "]"

-- what an expression comes to
abbrev pub outcome_object : List Spelling → Outcome → List ℕ
outcome_object ss (outcome.Is v) = value_object ss v
outcome_object ss outcome.Undefined = codes "null"
outcome_object ss outcome.Out = codes "{\"out of bounds\": true}"

-- or, of a set that is not listed, how the source has it
abbrev pub operand_object : (source : List ℕ) → List Spelling → Operand → List ℕ
operand_object source ss (Comes o) = outcome_object ss o
operand_object source ss (Stands s) = codes "{" ++ member (codes "set") (quoted source s) ++ codes "}"

-- both operands, if they are reported
abbrev pub operands_members : (source : List ℕ) → List Spelling → Option Operands → List ℕ
operands_members source ss None = []
operands_members source ss (Some o) = codes ", \"left\": " ++ outcome_object ss o.left ++ codes ", \"right\": " ++ operand_object source ss o.right

-- what follows the predicate: its lines, its sides, and its operands
abbrev pub told_members : (details : Bool) → (source : List ℕ) → List Comp → List Spelling → Told → List ℕ
told_members details source cs ss t = flat_map detail_member (range_details details source t.part) ++ sides_member source cs t.sides.items ++ operands_members source ss t.operands

-- a conjunct, with the line of its first symbol
abbrev pub told_object : (details : Bool) → (file source : List ℕ) → List Comp → List Spelling → Told → List ℕ
told_object details file source cs ss t =
    codes "{" ++ place_members file (at_line source (part_place t.part)) ++ member (codes "source") (part_text source cs t.part) ++ told_members details source cs ss t ++ codes "}\n"
