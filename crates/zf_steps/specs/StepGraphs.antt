-- The graph of a specification, and which can be explored. No text of an exploration rests on this.
use Rattle.std.specs.Prelude.{Bool}
use Rattle.zf_steps.specs.Prelude.{AllByRecursion, IsFinite, Graph, graph_of}
use Rattle.zf_steps.specs.declared.node.Label.{Label}
use Rattle.zf_steps.specs.declared.node.Node.{Node}
use Rattle.zf_steps.specs.Steps.{searched}
use Rattle.zf_steps.specs.Systems.{System}

-- A step from a state leads by a binding of an operation that has the state's values; what is before leads to the initial states.
abbrev pub steps : System → (Node → Node → Bool) → Graph Node Label
steps m eq = graph_of (searched m eq)

-- each of its schemas is finite
pub record CanExplore (m : System) : Type 0 where
  pub test : IsFinite m.environment.numbers m.environment.globals m.test.schema
  pub init : IsFinite m.environment.numbers m.environment.globals m.init.schema
  pub operations : AllByRecursion (λ o. IsFinite m.environment.numbers m.environment.globals o.schema) m.operations
