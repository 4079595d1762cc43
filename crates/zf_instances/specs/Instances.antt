-- That trees over leaves have the events of a schema.
use Rattle.std.specs.Prelude.{◌↔◌, List, Option}
use Rattle.zf_instances.specs.Prelude.{ResolvedTree, Value, value_order, Event, IsEvent, planted, SayTheSame, Tree, Environment}
use Rattle.zf_enum.specs.{property}

-- Trees over leaves that say the same as the conjuncts of a schema have its events.
abbrev pub HaveSameEvents : Type 0
HaveSameEvents = (e f : Environment) (ps leaves : List ResolvedTree) (trees : List Tree) → SayTheSame (planted (property f leaves) trees) (property e ps)
    → (ranges : List (List Value)) (after : Option (List Value)) (x : Event Value) → IsEvent value_order (planted (property f leaves) trees) ranges after x ↔ IsEvent value_order (property e ps) ranges after x
