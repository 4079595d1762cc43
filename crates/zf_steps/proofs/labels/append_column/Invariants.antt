-- What is still to be appended.
use Rattle.zf_steps.proofs.Prelude.{◌++◌, ◌≡◌, ◌≤◌, drop, length, map, column, column_text, comp_of, component_texts}
use Rattle.zf_steps.proofs.labels.append_column.Given as goal

abbrev pub invariant-loop-place : goal.invariant-loop-place
invariant-loop-place g l =
    (l.place ≤ length (g.R.Row.values l.row))
    × (l.text.items ++ column (component_texts l.elements (map comp_of (drop l.place l.flat.components)) (drop l.place (g.R.Row.values l.row)))
    ≡ l.fn.text.items ++ column_text l.elements (map comp_of l.flat.components) (g.R.Row.values l.row))
