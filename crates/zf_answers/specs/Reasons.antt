-- What `why` tells of a search: its first event, or why there is none.
use Rattle.std.specs.Prelude.{◌≡◌, ℕ, Bool, List, [], ◌∷◌, ◌++◌, codes, Option, Some, None}
use Rattle.zf_answers.specs.Prelude.{At, flat_map, Format, Lines, Objects, Comp, Defined, ResolvedTree, Schema, sets_of, first_plain, Span, Value, Event, Environment, Portion, Spelling, spellings, chosen_of, Operands, Part, Side, Split, Told, AreTold, detail_line, member, place_members, place_text, quoted, EmptiedBy, nothing_beside, others_beside, RefutedBy, RefutedTogetherBy, Status, Done, PastBounds, HasEvents, out_line, row_line}
use Rattle.zf_walk.specs.declared.judge.Truth.TheVariants.{True, Out}
use Rattle.zf_answers.specs.Objects.{told_object}
use Rattle.zf_answers.specs.Parts.{at_line, outcome_text, operand_text, part_place, part_text, range_details}

-- ---- the lines of a cause

-- `FILE:LINE: PREDICATE`
abbrev pub part_line : (file source : List ℕ) → List Comp → Part → List ℕ
part_line file source cs p = place_text file (at_line source (part_place p)) ++ part_text source cs p ++ codes "\n"

-- `    SIDE: FILE:LINE: PREDICATE` of a side that stands there
abbrev pub side_line : (file source : List ℕ) → List Comp → Span → Part → List ℕ
side_line file source cs s p = codes "    " ++ quoted source s ++ codes ": " ++ part_line file source cs p

-- for each predicate of one side of a disjunction of schemas
abbrev pub side_lines : (file source : List ℕ) → List Comp → Side → List ℕ
side_lines file source cs s = flat_map (side_line file source cs s.span) s.blamed.items

-- both operands of a relation, if they are reported
abbrev pub operands_lines : (source : List ℕ) → List Spelling → Option Operands → List ℕ
operands_lines source ss None = []
operands_lines source ss (Some o) = codes "    left: " ++ outcome_text ss o.left ++ codes "\n    right: " ++ operand_text source ss o.right ++ codes "\n"

-- a conjunct's line, and after it its lines, those of its sides, and of its operands
abbrev pub told_line : Format → (details : Bool) → (file source : List ℕ) → List Comp → List Spelling → Told → List ℕ
told_line Lines details file source cs ss t =
    part_line file source cs t.part ++ flat_map detail_line (range_details details source t.part) ++ flat_map (side_lines file source cs) t.sides.items ++ operands_lines source ss t.operands
told_line Objects details file source cs ss t = told_object details file source cs ss t

abbrev pub told_lines : Format → (details : Bool) → (file source : List ℕ) → List Comp → List Spelling → List Told → List ℕ
told_lines f details file source cs ss told = flat_map (told_line f details file source cs ss) told

-- where the component's first declared set stands
abbrev pub at_component : (source : List ℕ) → Comp → At
at_component source c = at_line source (first_plain (sets_of c.sets))

-- `FILE:LINE: x: empty`
abbrev pub empty_line : Format → (file source : List ℕ) → Comp → List ℕ
empty_line Lines file source c = place_text file (at_component source c) ++ c.name ++ codes ": empty\n"
empty_line Objects file source c = codes "{" ++ place_members file (at_component source c) ++ member (codes "empty") c.name ++ codes "}\n"

-- a line each, in their order
abbrev pub empty_lines : Format → (file source : List ℕ) → List Comp → List ℕ
empty_lines f file source cs = flat_map (empty_line f file source) cs

-- ---- the last line

abbrev pub satisfied_line : Format → List ℕ
satisfied_line Lines = codes "satisfied\n"
satisfied_line Objects = codes "{\"satisfied\": true}\n"

-- with why there is none
abbrev pub no_binding_line : Format → (cause : List ℕ) → List ℕ
no_binding_line Lines cause = codes "no binding: " ++ cause ++ codes "\n"
no_binding_line Objects cause = codes "{" ++ member (codes "no binding") cause ++ codes "}\n"

-- ---- the answer

-- The text tells these conjuncts, each beside others, and then this cause. Which minimal sets are reported of the sides of a disjunction is open. So are the sides of each conjunct:
-- those of the disjunctions of schemas, as `why` of `zf_why` has them, which a schema's predicates do not show.
abbrev pub TellsConjuncts : Format → (details : Bool) → (file source : List ℕ) → Schema → Environment → (held : List (Option Value)) → (beside : ℕ → List ResolvedTree) → (chosen : List Bool) → (cause text : List ℕ) → Type 0
TellsConjuncts f details file source a e held beside chosen cause text =
    (splits : ℕ → Split) × (told : List Told) × AreTold e a.comps held details beside splits a.conjuncts chosen told
    × (text ≡ told_lines f details file source a.comps (spellings e.globals) told ++ no_binding_line f cause)

-- The text and the status of a search for bindings of a schema among these globals: its first event, as a binding or as one that is out of bounds; or, where there is none, a cause.
-- Which minimal set of conjuncts is reported, where there are several, is open.
pub data TellsWhy (f : Format) (details : Bool) (file source : List ℕ) (globals : List Defined) (a : Schema) (e : Environment) (p : Portion) (text : List ℕ) (status : Status) : Type 0 where
  satisfied : (event : Event Value) → HasEvents e a p (Some event.row) (event ∷ []) → event.truth ≡ True
      → text ≡ row_line f (spellings globals) a.comps event.row ++ satisfied_line f → status ≡ Done → TellsWhy f details file source globals a e p text status
  doubtful : (event : Event Value) → HasEvents e a p (Some event.row) (event ∷ []) → event.truth ≡ Out
      → text ≡ out_line f (spellings globals) a.comps event.row → status ≡ PastBounds → TellsWhy f details file source globals a e p text status
  emptied : (empty : List Bool) → HasEvents e a p None [] → EmptiedBy e a p.held empty
      → text ≡ empty_lines f file source (chosen_of a.comps empty) ++ no_binding_line f (codes "empty") → status ≡ Done → TellsWhy f details file source globals a e p text status
  refuted : (alone : List Bool) → HasEvents e a p None [] → RefutedBy e a p.held alone → TellsConjuncts f details file source a e p.held nothing_beside alone (codes "each alone") text → status ≡ Done
      → TellsWhy f details file source globals a e p text status
  refuted_together : (core : List Bool) → HasEvents e a p None [] → RefutedTogetherBy e a p.held core
      → TellsConjuncts f details file source a e p.held (others_beside a.conjuncts core) core (codes "only together") text → status ≡ Done
      → TellsWhy f details file source globals a e p text status
