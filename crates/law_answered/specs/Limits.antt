-- The limits that the definitions speak of, as numbers.
use Rattle.std.specs.Prelude.{◌≡◌, ◌↔◌, ℕ, Some}
use Rattle.law_answered.specs.Prelude.{number_max, components_max, conjuncts_max, height_max, nodes_max, sets_max, type_nodes_max, IsNumberSet, AreTooLarge}
use Rattle.zf_command.specs.declared.limit.TheConstants.{LIMIT_MAX, STATES_MAX}
use Rattle.zf_scan.specs.declared.scan.TheConstants.{SOURCE_MAX}
use Rattle.zf_grammar.specs.{height_limit}
use Rattle.zf_value.specs.declared.TheConstants.{SET_MAX}
use Rattle.zf_value.specs.declared.value.Outcome.TheVariants.{Out}
use Rattle.zf_term.specs.declared.extent.Infinite.TheVariants.{Num}
use Rattle.zf_answers.specs.declared.numbers.TheConstants.{NUMBERS_MAX}

-- a set has at most so many members, a source so many bytes, and a limit is at most so many bindings or states
abbrev pub LimitsOfRuns : Type 0
LimitsOfRuns = (SET_MAX ≡ 65536) × (SOURCE_MAX ≡ 1048576) × (LIMIT_MAX ≡ 1000000000) × (STATES_MAX ≡ 1000000)

-- numbers end at most at so great a one: they are too large exactly where the set of all of them would be out of bounds
abbrev pub LimitOfNumbers : Type 0
LimitOfNumbers = (NUMBERS_MAX ≡ 32767) × ((n : ℕ) → AreTooLarge (Some n) ↔ IsNumberSet (Some n) Num Out)

-- a numeral is at most so great, and a term or schema expression so high
abbrev pub LimitsOfTexts : Type 0
LimitsOfTexts = (number_max ≡ 9223372036854775807) × (height_limit ≡ 128)

-- a type has at most so many nodes, and a schema so many components, declared sets, conjuncts and nodes, and conjuncts so high
abbrev pub LimitsOfSchemas : Type 0
LimitsOfSchemas =
    (type_nodes_max ≡ 256) × (components_max ≡ 64) × (sets_max ≡ 4096) × (conjuncts_max ≡ 4096) × (nodes_max ≡ 65536) × (height_max ≡ 256)

abbrev pub LimitsAre : Type 0
LimitsAre = LimitsOfRuns × LimitOfNumbers × LimitsOfTexts × LimitsOfSchemas
