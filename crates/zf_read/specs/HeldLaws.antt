-- What readers and laws of held values say.
use Rattle.std.specs.Prelude.{ℕ, List, map, Option}
use Rattle.zf_read.specs.Prelude.{Comp, Value, Environment, Spelling, AreApart, AreNames, AreClear}
use Rattle.zf_read.specs.Held.{IsHeldLine}

-- each component has a name, and no two have one
abbrev pub HaveClearNames : List Comp → Type 0
HaveClearNames cs = AreNames (map (λ c. c.name) cs) × AreApart (map (λ c. c.name) cs)

-- the line of none of them
unfoldable pub IsNoHeldLine : List Spelling → Environment → List Comp → List ℕ → Type 0
IsNoHeldLine ss e cs text = AreClear ss e.sizes → HaveClearNames cs → (held : List (Option Value)) → IsHeldLine ss e cs text held → ⊥
