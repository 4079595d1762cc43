use Rattle.zf_why.proofs.Prelude.{◌∙◌, resolved_of}
use Rattle.zf_why.proofs.Showing.{elsewhere, in_place, not_two}
use Rattle.zf_why.proofs.part.chain_part.Goals.{then-further-ne1-via-then-further-ne1, then-further-ne1-via-else-further-ne1+then-ne}
use Rattle.zf_why.proofs.part.chain_part.Goals as goal

pub returns-then-further-ne1 : goal.returns-then-further-ne1
returns-then-further-ne1 c = elim c.then-further-ne1.branch [
  | then-further-ne1-via-then-further-ne1 w ↦ not_two c.args.span (resolved_of c.args.first.now) c.args.further.now w.if-further-ne1.true
  | then-further-ne1-via-else-further-ne1+then-ne w ↦
      elsewhere c.args.span w.span.result (resolved_of c.args.first.now) w.ne.result w.span.ensures w.ne.ensures c.args.further.now w.if-further-ne1.false w.if-ne.true
]

pub returns : goal.returns
returns c =
    c.linked_part.ensures
    ∙ in_place c.args.span c.span.result (resolved_of c.args.first.now) c.ne.result c.span.ensures c.ne.ensures c.args.further.now c.index-further-0.result
    c.component.result c.component-2.result c.if-further-ne1.false c.index-further-0.is c.if-ne.false c.component.ensures c.component-2.ensures
