-- What is explored of a specification, with nodes that are one where they are equal, and which states are sought.
use Rattle.std.specs.Prelude.{Bool}
use Rattle.zf_steps.specs.Prelude.{Explored, Sought}
use Rattle.zf_steps.specs.contracts.node.NodePartialEq.TheImpl as nodes
use Rattle.zf_steps.specs.declared.node.Label.{Label}
use Rattle.zf_steps.specs.declared.node.Node.{Node}
use Rattle.zf_steps.specs.declared.node.Node.TheVariants.{Root, State}
use Rattle.zf_steps.specs.Steps.{exploration, IsDoubtful, IsStray}
use Rattle.zf_steps.specs.Systems.{System}

abbrev pub explored_in : System → Explored Node Label
explored_in m = exploration m nodes.ghosts.eq

module _ (m : System) where
  -- A state is sought where it is no stray by the schema by which states are tested. What is before the initial states is not.
  abbrev pub IsSought : Node → Type 0
  IsSought Root = ⊥
  IsSought (State values) = IsStray m (State values) Bool.false

  abbrev pub IsOther : Node → Type 0
  IsOther Root = Unit {0}
  IsOther (State values) = IsStray m (State values) Bool.true

  abbrev pub sought_in : Sought Node
  sought_in = record { IsSought = IsSought; IsOther = IsOther; IsUntold = IsDoubtful m }
