-- What is still to be printed.
use Rattle.zf_print.proofs.Prelude.{◌++◌, ◌≡◌, ◌≤◌, drop, length, map, comp_of, components_in, goes_on, parted}
use Rattle.zf_print.proofs.printed.append_components.Given as goal

abbrev pub invariant-loop-place : goal.invariant-loop-place
invariant-loop-place g l =
    (l.place ≤ length (g.R.Row.values l.row))
    × (l.text.items ++ goes_on l.place (components_in l.format l.spellings (map comp_of (drop l.place l.flat.components)) (drop l.place (g.R.Row.values l.row)))
    ≡ l.fn.text.items ++ parted (components_in l.format l.spellings (map comp_of l.flat.components) (g.R.Row.values l.row)))
