use Rattle.zf_lines.proofs.Prelude.{◌+◌, ◌<◌, ◌∙◌, ◌≡◌, ap, arith, length, length-append, length-map, map, subst, sym, comp_of, AreParts}
use Rattle.zf_lines.proofs.LastLine.{front_of_all, front_whole, line_more, part_more}
use Rattle.zf_lines.proofs.Parts.{column_changed, column_there}
use Rattle.zf_lines.proofs.printed.Printed.append_parts.Goals as goal

pub returns-then-place-len-clause-line : goal.returns-then-place-len-clause-line
returns-then-place-len-clause-line g c = c.loop-place.invariant.1.line ∙ front_of_all _ _ _ c.loop-place.place (g.P.Row.values c.args.row.now) (omega arith)

pub append_part-requires-clause-column : goal.append_part-requires-clause-column
append_part-requires-clause-column g c =
    let deep : c.loop-place.place < length c.args.flat.now.components = omega arith in
    let there = column_there c.args.style.now.format c.args.style.now.elements.now
    (g.P.Located.ranges c.args.row.now) c.args.flat.now.components c.loop-place.self.columns.items c.index_mut.result.now c.loop-place.place
    c.loop-place.invariant.1.columns deep c.index_mut.ensures.value in
    c.loop-place.invariant.1.columns.kept c.loop-place.place c.index_mut.result.now there

pub loop-place-preserved : goal.loop-place-preserved
loop-place-preserved g c =
    let f = c.args.style.now.format in
    let ss = c.args.style.now.elements.now in
    let ranges = (g.P.Located.ranges c.args.row.now) in
    let row = (g.P.Row.values c.args.row.now) in
    let comps = c.args.flat.now.components in
    let place = c.loop-place.place in
    let before = c.loop-place.invariant.1 in
    let least = c.loop-place.invariant.0 in
    let long : place < length row = omega arith in
    let deep : place < length comps = omega arith in
    let there = column_there f ss ranges comps c.loop-place.self.columns.items c.index_mut.result.now place before.columns deep c.index_mut.ensures.value in
    let line = line_more f ss ranges comps c.loop-place.self.columns.items c.index_mut.result.now row place c.loop-place.self.line.items c.append_part.new.line.items
    before.columns there deep long before.line c.in_ok-append_part.ensures.line in
    let end : c.len-in-loop-place.result ≡ length c.append_part.new.line.items = omega (arith, c.len-in-loop-place.ensures, c.append_part.new.line.ok.0) in (
      omega (arith, long),
      record {
        columns = column_changed f ss ranges (map comp_of comps) c.loop-place.self.columns.items place c.index_mut.result.now c.append_part.new.column there
            c.in_ok-append_part.ensures.head c.in_ok-append_part.ensures.column before.columns;
        line = line;
        count = ap length c.in_ok-push.ensures.items ∙ length-append _ _ ∙ ap (λ n. n + 1) before.count;
        parts = subst (AreParts f ss (map comp_of comps) ranges row) (sym c.in_ok-push.ensures.items)
            (part_more f ss (map comp_of comps) ranges row c.loop-place.self.parts.items before.parts place _ before.count c.place.ensures (end ∙ ap length line));
      },
    )

pub returns-clause-line : goal.returns-clause-line
returns-clause-line g c =
    let long = length-map c.args.flat.now.components comp_of in
    c.loop-place.invariant.1.line ∙ front_whole _ _ _ c.loop-place.place (g.P.Row.values c.args.row.now) (omega (arith, long))
