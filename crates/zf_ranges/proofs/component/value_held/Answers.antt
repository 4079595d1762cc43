use Rattle.std.proofs.Common.{sym, ◌∙◌}
use Rattle.zf_ranges.proofs.Comps.{held_got, held_none}
use Rattle.zf_ranges.proofs.component.value_held.Goals as goal

pub returns-in-Some : goal.returns-in-Some
returns-in-Some c = c.as_ref.ensures.value ∙ sym (held_got c.args.held.now c.args.place c.in-Some.value.now c.in-Some.ensures.lookup.3.0 c.in-Some.ensures.lookup.1)

pub returns-in-None : goal.returns-in-None
returns-in-None c = sym (held_none c.args.held.now c.args.place c.in-None.ensures.lookup.3)
