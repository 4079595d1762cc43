-- Globals that begin with others.
use Rattle.zf_schema.proofs.Prelude.{◌++◌, ◌+◌, ◌∙◌, ◌∷◌, ◌≡◌, ◌≤◌, [], ap, arith, length, List, sym, take, length-append, take-append-le, take-take, Defined}
use Rattle.std.proofs.Math.Seq.{take-length}

abbrev pub Begins : List Defined → List Defined → Type 0
Begins g h = take (length g) h ≡ g

pub begins_one_more : (g h : List Defined) (d : Defined) → h ≡ g ++ d ∷ [] → Begins g h
begins_one_more g h d e = ap (take (length g)) e ∙ take-append-le (length g) g (d ∷ []) (omega arith) ∙ take-length g

pub one_longer : (g h : List Defined) (d : Defined) → h ≡ g ++ d ∷ [] → length h ≡ length g + 1
one_longer g h d e = ap length e ∙ length-append g (d ∷ [])

-- a beginning of a beginning
pub begins_through : (g h i : List Defined) → length g ≤ length h → Begins g h → Begins h i → Begins g i
begins_through g h i room b c = sym (take-take (length g) (length h) i room) ∙ ap (take (length g)) c ∙ b
