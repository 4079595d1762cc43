use Rattle.zf_reach.proofs.Prelude.{◌∙◌, ap}
use Rattle.zf_reach.proofs.Passing.{full_new, text_after}
use Rattle.zf_reach.proofs.run.pass.Goals as goal

pub returns-then-is_new-clause-text : goal.returns-then-is_new-clause-text
returns-then-is_new-clause-text g c =
    ap (λ v. v.items) c.count.ensures.same.3
    ∙ text_after (g.M.Machine.words c.args.machine.now) _ _ (g.met.M.Machine.same_nodes c.args.machine.now) _ _ _ _ _ c.in_ok-number.ensures.added
    c.in_ok-number.ensures.index c.in_ok-number.ensures.keys c.args.run.now.place c.args.label.now _ c.in_ok-lay_out.ensures.text

pub returns-then-is_new-clause-full : goal.returns-then-is_new-clause-full
returns-then-is_new-clause-full g c =
    full_new _ _ (g.met.M.Machine.same_nodes c.args.machine.now) _ _ _ _ c.in_ok-number.ensures.added c.in_ok-number.ensures.index c.args.limit c.if-is_new.true

pub returns-else-is_new-clause-text : goal.returns-else-is_new-clause-text
returns-else-is_new-clause-text g c =
    ap (λ v. v.items) c.count.ensures.same.3
    ∙ text_after (g.M.Machine.words c.args.machine.now) _ _ (g.met.M.Machine.same_nodes c.args.machine.now) _ _ _ _ _ c.in_ok-number.ensures.added
    c.in_ok-number.ensures.index c.in_ok-number.ensures.keys c.args.run.now.place c.args.label.now _ c.in_ok-lay_out.ensures.text
