use Rattle.zf_print.proofs.Prelude.{◌++◌, ◌∷◌, ◌≡◌, [], drop, map, goes_on, parted, value_in}
use Rattle.zf_print.proofs.printed.+append.Given as goal

abbrev pub invariant-append_parts-loop-place : goal.invariant-append_parts-loop-place
invariant-append_parts-loop-place l =
    l.text.items ++ (goes_on l.place (map (value_in l.format l.spellings) (drop l.place l.parts)) ++ l.brackets.1 ∷ [])
    ≡ l.fn.text.items ++ (l.brackets.0 ∷ parted (map (value_in l.format l.spellings) l.parts) ++ l.brackets.1 ∷ [])
