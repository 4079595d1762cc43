-- The value that is lent or owned.
use Rattle.zf_value.specs.declared.plain.Value.{Value}
use Rattle.zf_value.specs.declared.held.Held.{Held}
use Rattle.zf_value.specs.declared.held.Held.TheVariants.{Lent, Own}

abbrev pub held_value : Held → Value
held_value (Lent v) = v.now
held_value (Own v) = v
