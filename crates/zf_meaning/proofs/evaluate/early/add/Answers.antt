use Rattle.zf_meaning.proofs.Prelude.{arith}
use Rattle.zf_meaning.proofs.Early.{one-piece-more}
use Rattle.zf_meaning.proofs.evaluate.early.add.Goals as goal

pub returns : goal.returns
returns c =
    λ whole p h.
    one-piece-more whole c.args.frame (record { term = c.args.term; front = c.saturating_sub-front.result; wanted = c.wanted_by-wanted.result })
    c.args.pieces.now.items c.push.new.self.items c.in_ok-push.ensures.items
    (record { part = p; needs = omega (arith, c.last_local-last.ensures, c.saturating_sub-front.ensures); wanted = c.wanted_by-wanted.ensures }) h
