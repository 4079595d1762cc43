-- What is still to be appended.
use Rattle.zf_format.proofs.Prelude.{◌++◌, ◌∷◌, ◌≡◌, [], drop, flat_map, string_byte}
use Rattle.zf_format.proofs.strings.append_string.Given as goal

abbrev pub invariant-loop-byte : goal.invariant-loop-byte
invariant-loop-byte l =
    l.text.items ++ (flat_map (string_byte l.is_utf8) (drop l.byte-index l.bytes) ++ 34 ∷ []) ≡ l.fn.text.items ++ (34 ∷ flat_map (string_byte l.is_utf8) l.bytes ++ 34 ∷ [])
