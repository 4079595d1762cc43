use Rattle.std.proofs.Common.{sym, ◌∙◌}
use Rattle.zf_read.proofs.HeldSoFar.{ends_not}
use Rattle.zf_read.proofs.held.ends.Goals as goal

pub returns-then-is_in_word : goal.returns-then-is_in_word
returns-then-is_in_word c = ends_not c.args.bytes.now c.in-Some.byte.now (sym c.in-Some.ensures.value) (sym c.is_in_word.ensures ∙ c.if-is_in_word.true)
