use Rattle.zf_format.proofs.Prelude.{◌++◌, ◌∙◌, ◌∷◌, [], ap, arith, flat_map, string_byte}
unfoldable use Rattle.zf_format.specs.{string_text}
use Rattle.zf_format.proofs.Bytes.{none_more, told_utf8}
use Rattle.zf_format.proofs.strings.append_string.Goals as goal

pub returns : goal.returns
unfolding string_text
returns c =
    let utf8 = c.is_ok-is_utf8.ensures.value ∙ told_utf8 c.args.bytes.now _ _ c.from_utf8.result c.from_utf8.ensures.cases in
    c.in_ok-push-2.ensures.items ∙ none_more _ c.args.bytes.now c.loop-byte.byte-index _ (34 ∷ []) _ (omega arith) c.loop-byte.invariant
    ∙ ap (λ u. c.args.text.now.items ++ (34 ∷ flat_map (string_byte u) c.args.bytes.now ++ 34 ∷ [])) utf8
