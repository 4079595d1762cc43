use Rattle.zf_answers.proofs.Prelude.{◌++◌, ◌∙◌, ap, map, codes, part_object, schema_in}
use Rattle.zf_messages.specs.{member, quoted}
use Rattle.zf_print.specs.{parted}
use Rattle.zf_answers.proofs.ToldLines.{five_told, if_appended}
use Rattle.zf_answers.proofs.objects.append_side.Goals as goal

pub returns : goal.returns
returns c =
    let part = part_object c.args.source.now (schema_in c.args.subject.now).comps in
    let side = c.args.side.now in
    five_told c.extend_from_slice-3.result c.args.text.now.items (codes "{") (member (codes "side") (quoted c.args.source.now side.span)) (codes ", \"predicates\": [")
    (parted (map part side.blamed.items)) (codes "]}") _ _ _ _ _ c.in_ok-extend_from_slice.ensures.items
    (c.in_ok-append_member.ensures ∙ ap (λ name. c.extend_from_slice.new.self.items ++ member (codes "side") name) (c.deref.ensures.value ∙ c.in_ok-name.ensures))
    c.in_ok-extend_from_slice-2.ensures.items
    (c.in_ok-append_part_objects.ensures ∙ ap (λ parts. c.extend_from_slice-2.new.self.items ++ parted (map part parts)) c.deref-2.ensures.value)
    (if_appended c.extend_from_slice-3.result _ _ _ c.extend_from_slice-3.ensures.items)
