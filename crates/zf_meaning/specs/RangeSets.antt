-- The declared sets of variables, one after another. No public clause rests on this.
use Rattle.std.specs.Prelude.{◌≡◌, ℕ, List, [], ◌∷◌, ◌++◌, replicate}
use Rattle.zf_meaning.specs.Prelude.{Value, Outcome, lack_with, Several, several_by}
use Rattle.zf_value.specs.declared.value.Outcome.TheVariants as outcome
use Rattle.zf_meaning.specs.declared.evaluate.ranges.Declared.{Declared}
use Rattle.zf_meaning.specs.declared.evaluate.ranges.Spread.{Spread}

-- the set of each variable
abbrev pub spread : List Spread → List Value
spread [] = []
spread (s ∷ ss) = replicate s.variables s.set ++ spread ss

-- the sets with that of so many further variables
abbrev pub sets_with : List Value → ℕ → Outcome → List Value
sets_with vs n (outcome.Is v) = vs ++ replicate n v
sets_with vs n outcome.Undefined = vs
sets_with vs n outcome.Out = vs

abbrev pub Adds : Declared → ℕ → Outcome → Declared → Type 0
Adds old n o new = (new.lack ≡ lack_with old.lack o) × (spread new.sets.items ≡ sets_with (spread old.sets.items) n o)

abbrev pub declared_of : Declared → Several
declared_of d = several_by d.lack (spread d.sets.items)
