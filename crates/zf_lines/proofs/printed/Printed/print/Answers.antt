use Rattle.zf_lines.proofs.LastLine.{front_kept}
use Rattle.zf_lines.proofs.printed.Printed.print.Goals as goal

pub append_parts-requires-clause-front : goal.append_parts-requires-clause-front
append_parts-requires-clause-front g c =
    front_kept _ _ _ (g.P.Located.ranges c.args.row.now) (g.P.Row.values c.args.row.now) c.args.self.now c.cut.new.self c.common-count.result c.requires
    c.common-count.ensures.there c.common-count.ensures.alike (λ before rest h is. c.in_ok-cut.ensures.line _ _ _ before rest h is)
    c.in_ok-cut.ensures.parts c.cut.ensures.columns
