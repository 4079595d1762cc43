-- How the program's types are seen as those of `Types`.
use Rattle.zf_term.specs.declared.ztype.ZType.{ZType, fold-ZType}
use Rattle.zf_term.specs.declared.ztype.ZType.TheOpen.{ZType-F}
use Rattle.zf_term.specs.Types.{Ty, types, int, basic, power, product}

-- one level, with a type in the place of each type in it
abbrev pub type_step : ZType-F Ty → Ty
type_step ZType-F.Int = int
type_step (ZType-F.Basic name) = basic name
type_step (ZType-F.Power t) = power t
type_step (ZType-F.Product ts) = product (types ts)

unfoldable pub type_of : ZType → Ty
type_of = fold-ZType Ty type_step
