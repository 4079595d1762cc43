use Rattle.zf_reach.proofs.Prelude.{◌<◌, ap, arith, refl, subst}
use Rattle.zf_reach.proofs.Parts.{keeps_same, still_counted}
use Rattle.zf_reach.proofs.Seeks.{search_node, search_over, search_place, search_started}
use Rattle.zf_reach.proofs.seeking.seek_parts.Goals as goal

pub parts_of-count-requires : goal.parts_of-count-requires
parts_of-count-requires g c = search_place _ _ _ _ _ _ _ _ c.requires.begun

pub loop-which-init : goal.loop-which-init
loop-which-init g c = (c.requires.begun, refl, keeps_same _, c.requires.fits)

pub start_part-requires-clause-node : goal.start_part-requires-clause-node
start_part-requires-clause-node g c = search_place _ _ _ _ _ _ _ _ c.loop-which.invariant.0

pub start_part-requires-clause-which : goal.start_part-requires-clause-which
start_part-requires-clause-which g c = λ of at.
    let i = c.loop-which.invariant in
    subst (λ n. c.loop-which.which < n) (still_counted (g.M.Machine.parts c.args.machine.now) _ _ _ c.parts_of-count.ensures c.requires.begun.node
    (search_node _ _ _ _ _ _ _ _ c.requires.begun) _ _ i.2 i.1 of at) c.loop-which-test.true

pub seek_part-requires-clause-begun : goal.seek_part-requires-clause-begun
seek_part-requires-clause-begun g c =
    let same = c.in_ok-start_part.ensures.same in
    search_started _ _ _ _ _ _ _ _ c.loop-which.invariant.0 (g.M.Machine.Stands c.args.machine.now c.start_part.new.run.cursor)
    c.in_ok-start_part.ensures.stands _ _ _ (ap (λ m. m.keys) same.0) same.1 same.2

pub returns-clause-left : goal.returns-clause-left
returns-clause-left g c =
    let i = c.loop-which.invariant in
    let t = i.0 in
    let end = c.loop-which.auto.which-end in
    let over = c.loop-which-test.false in
    let count = still_counted (g.M.Machine.parts c.args.machine.now) _ _ _ c.parts_of-count.ensures c.requires.begun.node
    (search_node _ _ _ _ _ _ _ _ c.requires.begun) _ _ i.2 i.1 t.node (search_node _ _ _ _ _ _ _ _ t) in
    search_over _ _ _ _ _ _ _ _ t (λ h. g.met.M.Machine.all_passed c.args.machine.now t.node t.now
    (subst (λ n. g.M.Machine.HasPassed c.args.machine.now t.node n t.now) (omega (arith, end, over, count)) h))
