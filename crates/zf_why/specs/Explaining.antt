-- What a cause, as the program has it, says. No answer rests on this file.
use Rattle.std.specs.Prelude.{ℕ, Bool, List, Option}
use Rattle.zf_why.specs.Prelude.{Schema, Value, Environment}
use Rattle.zf_why.specs.declared.cause.Cause.{Cause}
use Rattle.zf_why.specs.declared.cause.Cause.TheVariants.{Empty, Alone, Together}
use Rattle.zf_why.specs.Disjunctions.{Split}
use Rattle.zf_why.specs.Told.{AreTold, nothing_beside, others_beside}
use Rattle.zf_why.specs.Causes.{EmptiedBy, RefutedBy, RefutedTogetherBy}

-- Where a range is empty, the components of all such ranges; else, where a conjunct rules out everything alone, what is reported of all that do; else what is reported of a minimal set
-- of conjuncts that can't hold together, of each beside the others. The conjuncts that are disjunctions of schemas are split so.
abbrev pub Explains : Environment → Schema → (held : List (Option Value)) → (details : Bool) → (splits : ℕ → Split) → Cause → Type 0
Explains e a held details splits (Empty empty) = EmptiedBy e a held empty.items
Explains e a held details splits (Alone told) = (alone : List Bool) × RefutedBy e a held alone × AreTold e a.comps held details nothing_beside splits a.conjuncts alone told.items
Explains e a held details splits (Together told) =
    (core : List Bool) × RefutedTogetherBy e a held core × AreTold e a.comps held details (others_beside a.conjuncts core) splits a.conjuncts core told.items
