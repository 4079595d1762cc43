use Rattle.zf_reach.proofs.Prelude.{ap, arith, refl, rules}
use Rattle.zf_reach.proofs.Fronts.{always_on_err}
use Rattle.zf_reach.proofs.Parts.{keeps_same, part_of, part_within, parts_done, parts_started, stops_in_part}
use Rattle.zf_reach.proofs.exploring.write_parts.Goals as goal

pub parts_of-count-requires : goal.parts_of-count-requires
parts_of-count-requires g c = part_within _ _ _ _ _ _ _ _ _ _ c.requires.1.1.1.1.1.1.0

pub loop-which-init : goal.loop-which-init
loop-which-init g c = let r = c.requires.1.1.1.1.1 in (r.1.0, refl, r.0, keeps_same _, r.1.1)

pub start_part-requires-clause-node : goal.start_part-requires-clause-node
start_part-requires-clause-node g c = part_within _ _ _ _ _ _ _ _ _ _ c.loop-which.invariant.0

pub start_part-requires-clause-which : goal.start_part-requires-clause-which
start_part-requires-clause-which g c =
    part_of _ _ _ _ (g.M.Machine.parts c.args.machine.now) _ _ _ c.parts_of-count.ensures _ _ _ _ _ _ _ _ c.requires.1.1.1.1.1.1.0 _ _ c.loop-which.invariant.0
    c.loop-which.invariant.3 c.loop-which.invariant.1 _ c.loop-which-test.true

pub returns-in_err-start_part-clause-err : goal.returns-in_err-start_part-clause-err
returns-in_err-start_part-clause-err g c = always_on_err _ (stops_in_part _ _ _ _ _ _ _ _ _ _ c.loop-which.invariant.0)

pub write_part-requires : goal.write_part-requires
write_part-requires g c =
    let same = c.in_ok-start_part.ensures.same in
    let begun = parts_started _ _ _ _ _ _ _ _ _ _ c.loop-which.invariant.0
    (g.M.Machine.Stands c.args.machine.now c.start_part.new.run.cursor) c.in_ok-start_part.ensures.stands _ _ _ _
    (ap (λ m. m.keys) same.0) same.1 same.2 same.3 in
    search (rules, c.loop-which.invariant.2, begun, c.in_ok-start_part.ensures.fits)

pub returns-clause-ok : goal.returns-clause-ok
returns-clause-ok g c =
    parts_done _ _ _ _ (g.M.Machine.parts c.args.machine.now) _ _ _ c.parts_of-count.ensures _ _ _ _ _ _ _ _ c.requires.1.1.1.1.1.1.0 _ _
    c.loop-which.invariant.0 c.loop-which.invariant.3 c.loop-which.invariant.1
    (g.M.Machine.HasPassed c.args.machine.now) (g.met.M.Machine.all_passed c.args.machine.now) c.loop-which.which (omega (arith, c.loop-which.auto.which-end, c.loop-which-test.false)) (λ h. h)
