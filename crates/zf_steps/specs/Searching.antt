-- Where the search for the steps of a node stands. No public clause rests on this file.
use Rattle.std.specs.Prelude.{◌≡◌, ℕ, Bool, List, ◌++◌, map, take, None, Some, slice_get}
use Rattle.zf_steps.specs.Prelude.{EachHolds, Edge, HasParts, Turn, Value, value_order, Event, Stage, property, AreRanges}
use Rattle.zf_lines.proofs.Behind.{Behind}
use Rattle.zf_steps.specs.declared.node.Label.{Label}
use Rattle.zf_steps.specs.declared.node.Node.{Node}
use Rattle.zf_steps.specs.Steps.{held_by, IsStray, parts_of, searched, step, values_of}
use Rattle.zf_steps.specs.Systems.{Operation, System}

module _ (m : System) (eq : Node → Node → Bool) where
  -- the turn of the node begins with the steps of so many parts
  abbrev pub HasPassed : Node → ℕ → Turn Node Label → Type 0
  HasPassed a number now = IsStray m a now.stray × HasParts (searched m eq) a 0 (take number (parts_of m a)) now.edges

  -- the search for the steps of the part of this number stands here, and its steps so far, after those of the parts before, are the beginning of the turn
  pub record HasFound (a : Node) (number : ℕ) (o : Operation) (b : Stage Value) (now : Turn Node Label) : Type 0 where
    pub stands : slice_get (parts_of m a) number ≡ Some o
    pub of_components : AreRanges m.environment o.schema.comps (held_by o.sources (values_of m a)) b.ranges
    pub named : b.after ≡ None
    pub done : List (Edge Node Label)
    pub whole : HasParts (searched m eq) a 0 (take number (parts_of m a)) done
    pub found : List (Event Value)
    pub behind : Behind value_order (property m.environment o.schema.conjuncts) b.ranges None b.ahead found
    pub hold : EachHolds (searched m eq) found
    pub stray : IsStray m a now.stray
    pub edges : now.edges ≡ done ++ map (step m number o) found
