use Rattle.zf_unfold.proofs.Prelude.{◌∙◌, None, Some, named, part_of, part_renamed, ranges_renamed, renamed, resolved_of, sym, others, ranges_of}
use Rattle.zf_unfold.proofs.Written.{instance_seen, some_there}
use Rattle.zf_unfold.proofs.instance.instance.Goals as goal

pub returns : goal.returns
returns c =
    let of = c.args.of.now in
    let f = named c.args.count (Some c.args.member) in
    instance_seen of.span (others (ranges_renamed (named c.args.count None) (ranges_of of))) (part_renamed f (part_of of.constraint.now)) (renamed f (resolved_of of.body.now))
    c.in_ok-variables.variables c.in_ok-variables-2.variables c.in_ok-constraint.constraint c.in_ok-renamed.field-0 c.in_ok-body.body
    (λ none. some_there c.as_slice.result.now (sym c.is_empty.ensures ∙ c.if-is_empty.false) (c.as_slice.ensures ∙ none))
    c.in_ok-variables.ensures c.in_ok-variables-2.ensures c.in_ok-constraint.ensures c.in_ok-renamed.ensures c.in_ok-body.ensures
