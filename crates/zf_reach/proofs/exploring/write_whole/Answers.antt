use Rattle.zf_reach.proofs.Prelude.{◌∙◌, ap, Appends, AppendsFront, device_of, rules, subst, sym}
use Rattle.zf_reach.proofs.Fronts.{always_on_err}
use Rattle.zf_reach.proofs.Running.{at_first_seen, stops_in_head}
use Rattle.zf_reach.proofs.exploring.write_whole.Goals as goal

pub returns-in_err-write_head-clause-err : goal.returns-in_err-write_head-clause-err
returns-in_err-write_head-clause-err g c =
    let r = c.requires.1.1.1.1.1 in
    let front = subst (λ o. AppendsFront o (g.W.Write.contents (device_of c.write_head.new.writer)) (g.M.Machine.words c.args.machine.now).head) (sym r.1.1.0) c.in_err-write_head.ensures.err in
    always_on_err _ (stops_in_head _ _ _ _ r.1.0 _ front)

pub write_turns-requires : goal.write_turns-requires
write_turns-requires g c κs within =
    let r = c.requires.1.1.1.1.1 in
    let same = c.write_head.ensures.same in
    let first = r.1.1.1.0 in
    let written = subst (λ o. Appends o (g.W.Write.contents (device_of c.write_head.new.writer)) (g.M.Machine.words c.args.machine.now).head) (sym r.1.1.0) c.in_ok-write_head.ensures.ok in
    let at = at_first_seen (g.M.Machine.explored c.args.machine.now) (g.M.Machine.words c.args.machine.now) c.args.limit g.origin r.1.0 (g.W.Write.contents (device_of c.write_head.new.writer)) written
    c.write_head.new.run.met.keys c.write_head.new.run.place c.write_head.new.run.edges (ap (λ m. m.keys) same.0 ∙ first.0) (same.2 ∙ first.1) (same.3 ∙ first.2) in
    let fits : g.M.Machine.Fits c.args.machine.now c.write_head.new.run.cursor = rw same.1 r.1.1.1.1 in
    search (rules, c.in_ok-write_head.ensures.count, at, fits)
