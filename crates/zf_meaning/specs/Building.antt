-- What one row adds to a comprehension. No public clause rests on this.
use Rattle.std.specs.Prelude.{◌≡◌, ◌⊎◌, Bool, true, false, List, [], ◌∷◌, ◌++◌}
use Rattle.zf_meaning.specs.Prelude.{Value, Outcome, Is, Undefined, Out, Truth}
use Rattle.zf_value.specs.declared.value.Truth.TheVariants as truth

-- T says the outcome of the term; the list grows by its value
abbrev pub AddsValue : (Outcome → Type 0) → List Value → List Value → Bool → Type 0
AddsValue T old new true = (T Undefined × (new ≡ old)) ⊎ ((z : Value) × T (Is z) × (new ≡ old ++ z ∷ []))
AddsValue T old new false = T Out

-- F says the truth of the filter
abbrev pub AddsRow : (Truth → Type 0) → (Outcome → Type 0) → List Value → List Value → Bool → Type 0
AddsRow F T old new true = (F truth.False × (new ≡ old)) ⊎ (F truth.True × AddsValue T old new true)
AddsRow F T old new false = F truth.Out ⊎ (F truth.True × T Out)
