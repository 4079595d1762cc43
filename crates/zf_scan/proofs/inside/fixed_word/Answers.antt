use Rattle.std.proofs.Common.{sym, ◌∙◌, rules}
use Rattle.zf_scan.proofs.FirstLetters.{no_fixed_word}
use Rattle.zf_scan.proofs.inside.fixed_word.Goals as goal

pub returns-in_default-first : goal.returns-in_default-first
returns-in_default-first c = sym (no_fixed_word c.args.word.now c.in-len1-up.len_at_least (sym c.is_letter.ensures ∙ c.if-is_letter.true) (search rules) (search rules))
