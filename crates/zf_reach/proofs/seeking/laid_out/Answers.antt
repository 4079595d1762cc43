use Rattle.zf_reach.proofs.Prelude.{◌++◌, ◌-◌, ◌≡◌, ◌∙◌, ap, arith, length, result_of}
use Rattle.zf_reach.proofs.Seeks.{laid_found, laid_other, not_found, shown_earlier}
use Rattle.zf_reach.proofs.seeking.laid_out.Goals as goal
use Rattle.zf_reach.proofs.seeking.laid_out.Goals.{in-Found+in_ok-append_way-in-Found, in-Missing}

pub append_way-requires-clause-earlier : goal.append_way-requires-clause-earlier
append_way-requires-clause-earlier g c = shown_earlier (g.M.Machine.explored c.args.machine.now) (g.M.Machine.sought c.args.machine.now) c.args.limit
    (g.M.Machine.words c.args.machine.now) (g.M.Machine.verdict c.args.machine.now) _ _ _ _ c.args.finding c.in-Found.is c.requires

pub returns : goal.returns
returns g c =
    let stop = g.M.Machine.stop c.args.search.now.run.cursor in
    let count = c.saturating_sub-nodes.result in
    let less = c.saturating_sub-nodes.ensures in
    let all = c.len.ensures.len in
    let counts : count ≡ length c.args.search.now.run.met.keys - 1 = omega (arith, less, all) in
    elim c.match-finding.branch [
      | in-Found+in_ok-append_way-in-Found w ↦ laid_found (g.M.Machine.explored c.args.machine.now) (g.M.Machine.sought c.args.machine.now) c.args.limit
          (g.M.Machine.words c.args.machine.now) (g.M.Machine.verdict c.args.machine.now) _ _ _ _ _ _ _ count c.new-line.ensures.items
          c.in_ok-append_head.ensures counts c.args.finding w.in-Found.is c.requires _ w.in_ok-append_way-in-Found.ensures
          (λ n e. c.in_ok-append_verdict.ensures n e ∙ ap (λ l. l.items ++ g.M.Machine.verdict c.args.machine.now (result_of c.args.finding stop) count n) w.line-is)
      | in-Missing w ↦ laid_other (g.M.Machine.explored c.args.machine.now) (g.M.Machine.sought c.args.machine.now) c.args.limit
          (g.M.Machine.words c.args.machine.now) (g.M.Machine.verdict c.args.machine.now) _ _ _ _ _ _ _ count c.new-line.ensures.items
          c.in_ok-append_head.ensures counts c.args.finding (not_found c.args.finding w.in-Missing.is) c.requires
          (λ n e. c.in_ok-append_verdict.ensures n e ∙ ap (λ l. l.items ++ g.M.Machine.verdict c.args.machine.now (result_of c.args.finding stop) count n) w.line-is)
    ]
