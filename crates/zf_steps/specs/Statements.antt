-- The statements of a graph for Graphviz: its nodes are the states, by their numbers, its edges the steps.
use Rattle.std.specs.Prelude.{ℕ, ◌++◌, List, [], codes, cond, decimal, eqb, Option, slice_get}
use Rattle.zf_steps.specs.Prelude.{Words, Value}
use Rattle.zf_steps.specs.declared.node.Label.{Label}
use Rattle.zf_steps.specs.declared.node.Node.{Node}
use Rattle.zf_steps.specs.declared.node.Node.TheVariants.{Root, State}
use Rattle.zf_steps.specs.Labels.{label_of, column_text}
use Rattle.zf_steps.specs.Lines.{count_line, ending_line, label_text}
use Rattle.zf_steps.specs.Systems.{Operation, System}

abbrev pub graph_head : List ℕ
graph_head = codes "digraph {\n  node [shape=box, style=filled, fillcolor=white];\n"

-- a state that is met from what is before the initial ones has a double frame
abbrev pub frame_text : (from : ℕ) → List ℕ
frame_text from = cond (eqb from 0) (codes ", peripheries=2") []

abbrev pub stray_statement : (number : ℕ) → List ℕ
stray_statement number = codes "  " ++ decimal number ++ codes " [style=\"filled,dashed\"];\n"

-- where there is no initial state there is no statement
abbrev pub stuck_statement : (number : ℕ) → List ℕ
stuck_statement number = cond (eqb number 0) [] (codes "  " ++ decimal number ++ codes " [fillcolor=lightgrey];\n")

-- how it ended and the counts, each a line, as comments
abbrev pub graph_last : (ending counts : List ℕ) → List ℕ
graph_last ending counts = codes "  // " ++ ending ++ codes "  // " ++ counts ++ codes "}\n"

module _ (m : System) where
  -- `2 [label="x == 1\ly == {}\l"];`
  abbrev pub node_statement : (from number : ℕ) → Node → List ℕ
  node_statement from number Root = []
  node_statement from number (State values) =
      codes "  " ++ decimal number ++ codes " [label=\"" ++ label_of (column_text m.elements m.state.comps values) ++ codes "\"" ++ frame_text from ++ codes "];\n"

  -- `OPERATION: BINDING`, where there is such an operation
  abbrev pub step_text : Option Operation → List Value → List ℕ
  step_text Option.None values = []
  step_text (Option.Some o) values = o.name ++ label_text m o.label values

  -- `1 -> 2 [label="OPERATION: BINDING"];`; that a state is initial has no statement but the state's
  abbrev pub edge_statement : (from : ℕ) → Label → (number : ℕ) → List ℕ
  edge_statement from label number =
      cond (eqb from 0) [] (codes "  " ++ decimal from ++ codes " -> " ++ decimal number ++ codes " [label=\"" ++ label_of (step_text (slice_get m.operations label.operation) label.values) ++ codes "\"];\n")

  abbrev pub graph : Words Node Label
  graph = record {
    head = graph_head;
    node = node_statement;
    edge = edge_statement;
    stray = stray_statement;
    stuck = stuck_statement;
    last = λ ending states steps. graph_last (ending_line ending) (count_line states steps);
  }
