use Rattle.std.proofs.Common.{sym, ◌∙◌}
use Rattle.zf_families.proofs.Injections.{no_injections}
use Rattle.zf_families.proofs.arrow.total_injection_rows.Goals as goal

pub returns-then-a-b : goal.returns-then-a-b
returns-then-a-b c = c.new.ensures.items ∙ sym (no_injections c.args.a.now c.args.b.now c.requires c.if-a-b.true)
