-- The values of several terms, one after another. No public clause rests on this.
use Rattle.std.specs.Prelude.{◌≡◌, List, [], ◌∷◌, ◌++◌}
use Rattle.zf_outcome.specs.Prelude.{Value, Outcome}
use Rattle.zf_value.specs.declared.value.Outcome.TheVariants as outcome
use Rattle.zf_outcome.specs.declared.gathered.Gathered.{Gathered}
use Rattle.zf_outcome.specs.declared.gathered.Lack.{Lack}
use Rattle.zf_outcome.specs.declared.gathered.Lack.TheVariants.{Nothing, Undefined, Out}
use Rattle.zf_outcome.specs.Outcomes.{Several, values, one_undefined, one_out}

abbrev pub or_undefined : Lack → Lack
or_undefined Nothing = Undefined
or_undefined Undefined = Undefined
or_undefined Out = Out

-- the lack with a further outcome
abbrev pub lack_with : Lack → Outcome → Lack
lack_with l (outcome.Is v) = l
lack_with l outcome.Undefined = or_undefined l
lack_with l outcome.Out = Out

-- the values with a further outcome
abbrev pub values_with : List Value → Outcome → List Value
values_with vs (outcome.Is v) = vs ++ v ∷ []
values_with vs outcome.Undefined = vs
values_with vs outcome.Out = vs

abbrev pub Adds : Gathered → Outcome → Gathered → Type 0
Adds old o new = (new.lack ≡ lack_with old.lack o) × (new.values.items ≡ values_with old.values.items o)

-- these values, unless there is a lack
abbrev pub several_by : Lack → List Value → Several
several_by Nothing vs = values vs
several_by Undefined vs = one_undefined
several_by Out vs = one_out

abbrev pub several_of : Gathered → Several
several_of g = several_by g.lack g.values.items
