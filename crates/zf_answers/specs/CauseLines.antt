-- The lines of a cause, as the program has it. No public clause rests on this file.
use Rattle.std.specs.Prelude.{ℕ, Bool, List, ◌++◌, codes}
use Rattle.zf_answers.specs.Prelude.{Format, Spelling, Schema, chosen_of, Cause, Empty, Alone, Together}
use Rattle.zf_answers.specs.Reasons.{empty_lines, no_binding_line, told_lines}

-- the components without a value, or what is reported of the conjuncts that are to blame
abbrev pub reasons : Format → (details : Bool) → (file source : List ℕ) → List Spelling → Schema → Cause → List ℕ
reasons f details file source ss a (Empty empty) = empty_lines f file source (chosen_of a.comps empty.items)
reasons f details file source ss a (Alone told) = told_lines f details file source a.comps ss told.items
reasons f details file source ss a (Together told) = told_lines f details file source a.comps ss told.items

-- which of these it is
abbrev pub cause_text : Cause → List ℕ
cause_text (Empty empty) = codes "empty"
cause_text (Alone told) = codes "each alone"
cause_text (Together told) = codes "only together"

abbrev pub cause_lines : Format → (details : Bool) → (file source : List ℕ) → List Spelling → Schema → Cause → List ℕ
cause_lines f details file source ss a cause = reasons f details file source ss a cause ++ no_binding_line f (cause_text cause)
