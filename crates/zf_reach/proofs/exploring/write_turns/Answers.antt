use Rattle.zf_reach.proofs.Prelude.{◌<◌, arith, subst}
use Rattle.zf_reach.proofs.Parts.{closes_all, due_within}
use Rattle.zf_reach.proofs.exploring.write_turns.Goals as goal

pub turns-init : goal.turns-init
turns-init g c = (c.requires.1.1.1.1.1.1.0, c.requires.1.1.1.1.1.0, c.requires.1.1.1.1.1.1.1)

pub turns-smaller : goal.turns-smaller
turns-smaller g c = let l = due_within _ _ _ _ _ _ _ _ c.turns.invariant.0 (subst (λ n. c.turns.run.place < n) c.len.ensures.len c.turns-test.true) in omega (arith, l, c.in_ok-ending.ensures.place)

pub returns-clause-ok : goal.returns-clause-ok
returns-clause-ok g c = closes_all _ _ _ _ _ _ _ _ c.turns.invariant.0 (λ lt. let t = c.turns-test.false in let e = c.len.ensures.len in omega (arith, lt, t, e))
