use Rattle.zf_print.proofs.Prelude.{◌++◌, ◌∙◌, ap, sym, decimal_digit}
use Rattle.zf_print.proofs.printed.append_digit.Goals as goal

pub returns : goal.returns
returns c = c.in_ok-push.ensures.items ∙ ap (λ d. c.args.text.now.items ++ d) (sym (decimal_digit c.args.digit c.requires))
