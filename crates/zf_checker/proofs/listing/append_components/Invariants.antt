-- The text has grown by the lines so far.
use Rattle.zf_checker.proofs.Prelude.{◌++◌, ◌≡◌, flat_map, map, take, comp_of, component_line}
use Rattle.zf_checker.proofs.listing.append_components.Given as goal

abbrev pub invariant-loop-component : goal.invariant-loop-component
invariant-loop-component l = l.text.items ≡ l.initial.text.items ++ flat_map component_line (map comp_of (take l.component-index l.components))
