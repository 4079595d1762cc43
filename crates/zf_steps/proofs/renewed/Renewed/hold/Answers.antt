-- The search is still one for its schema.
use Rattle.std.proofs.Common.{refl}
use Rattle.zf_steps.proofs.Renewing.{begins_again, is_for}
use Rattle.zf_steps.proofs.renewed.Renewed.hold.Goals as goal

pub returns-clause-kept : goal.returns-clause-kept
returns-clause-kept c = λ e a f.
    is_for c.args.self.now _ e a c.in_ok-begun.begun c.args.held.now c.last-last.ensures.same.0 c.last-last.ensures.same.1 refl c.in_ok-given.ensures c.in_ok-begun.ensures f

pub returns-clause-begins : goal.returns-clause-begins
returns-clause-begins c = λ e a f.
    begins_again c.args.self.now c.last-last.new.self e a c.in_ok-begun.begun c.args.held.now c.last-last.ensures.same.0 c.last-last.ensures.same.1 c.in_ok-begun.ensures f
