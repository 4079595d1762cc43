use Rattle.zf_parts.proofs.Prelude.{[], arith, inl, inr, replicate}
use Rattle.zf_parts.proofs.Marking.{empty_page, one_in_page, zeros_behind}
use Rattle.zf_parts.proofs.page.page_of.Goals as goal

pub returns-then-entry-eq0-clause-bits : goal.returns-then-entry-eq0-clause-bits
returns-then-entry-eq0-clause-bits c = λ n. empty_page (record { number = c.args.number; words = replicate 16 0 }) c.args.entry n (zeros_behind [] 16) (inl c.if-entry-eq0.true)

pub returns-then-entry-gt1024-clause-bits : goal.returns-then-entry-gt1024-clause-bits
returns-then-entry-gt1024-clause-bits c = λ n. empty_page (record { number = c.args.number; words = replicate 16 0 }) c.args.entry n (zeros_behind [] 16) (inr (omega (arith, c.if-entry-gt1024.true)))

pub returns-clause-bits : goal.returns-clause-bits
returns-clause-bits c = λ n. one_in_page (record { number = c.args.number; words = replicate 16 0 }) c.set_bit.new.page c.args.entry n (zeros_behind [] 16)
    (omega (arith, c.if-entry-eq0.false)) (omega (arith, c.if-entry-gt1024.false)) c.set_bit.ensures.there (c.set_bit.ensures.others n)
