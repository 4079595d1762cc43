use Rattle.zf_reach.proofs.Prelude.{◌<◌, arith, subst}
use Rattle.zf_reach.proofs.Seeks.{search_missing, search_within}
use Rattle.zf_reach.proofs.seeking.seek_turns.Goals as goal

pub turns-init : goal.turns-init
turns-init g c = (c.requires.before, c.requires.fits)

pub turns-smaller : goal.turns-smaller
turns-smaller g c = let l = search_within _ _ _ _ _ _ _ c.turns.invariant.0
    (subst (λ n. c.turns.search.run.place < n) c.len.ensures.len c.turns-test.true) in omega (arith, l, c.in_ok-finding.ensures.place)

pub returns : goal.returns
returns g c = search_missing (g.M.Machine.explored c.args.machine.now) (g.M.Machine.sought c.args.machine.now) c.args.limit _
    (g.met.M.Machine.of_graph c.args.machine.now) (g.M.Machine.words c.args.machine.now) (g.M.Machine.verdict c.args.machine.now) _ _ _ _ c.turns.invariant.0
    (λ lt. let t = c.turns-test.false in let e = c.len.ensures.len in omega (arith, lt, t, e))
