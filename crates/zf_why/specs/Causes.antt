-- Why a schema has no binding.
use Rattle.std.specs.Prelude.{◌≡◌, ℕ, Bool, List, [], ◌∷◌, Option, Some, slice_get}
use Rattle.zf_why.specs.Prelude.{ResolvedTree, Schema, Value, Environment, HasChosen}
use Rattle.zf_why.specs.Rows.{HasRow}
use Rattle.zf_why.specs.Cores.{IsCore, AreAlone, AreEmpty}

-- some ranges are empty, and these are they
abbrev pub EmptiedBy : Environment → Schema → (held : List (Option Value)) → List Bool → Type 0
EmptiedBy e a held empty = AreEmpty e a.comps held empty × HasChosen empty

-- no range is empty; some conjuncts rule out everything alone, and these are they
abbrev pub RefutedBy : Environment → Schema → (held : List (Option Value)) → List Bool → Type 0
RefutedBy e a held alone = HasRow e a.comps held [] × AreAlone e a.comps held a.conjuncts alone × HasChosen alone

-- no range is empty, and no conjunct rules out everything alone; these are a minimal set of conjuncts that can't hold together
abbrev pub RefutedTogetherBy : Environment → Schema → (held : List (Option Value)) → List Bool → Type 0
RefutedTogetherBy e a held core =
    ((i : ℕ) (p : ResolvedTree) → slice_get a.conjuncts i ≡ Some p → HasRow e a.comps held (p ∷ [])) × IsCore e a.comps held [] a.conjuncts core × HasRow e a.comps held []
