-- What is made of a look-up that may find nothing. No public clause rests on this.
use Rattle.std.specs.Prelude.{◌≡◌, ℕ, Option, MatchOption, unwrap_or}
use Rattle.zf_meaning.specs.Prelude.{option_and_then, option_map_or, Defined, Value, Outcome, Is, Undefined, AreElements}
use Rattle.zf_meaning.specs.Environments.{Environment, IsTypeSet, definition_number}

abbrev pub value_or : Option Value → Outcome
value_or found = option_map_or Is found Undefined

abbrev pub outcome_or : Option Outcome → Outcome
outcome_or found = unwrap_or found Undefined

abbrev pub found_number : Option (ℕ × Defined) → Option ℕ
found_number = option_and_then (λ p. definition_number p.1.definition)

abbrev pub AreElementsIf : ℕ → Option ℕ → Outcome → Type 0
AreElementsIf n count o = MatchOption count (o ≡ Undefined) (λ k. AreElements n k o)

abbrev pub IsTypeSetIf : Environment → Option ℕ → Outcome → Type 0
IsTypeSetIf e number o = MatchOption number (o ≡ Undefined) (λ n. IsTypeSet e n o)
