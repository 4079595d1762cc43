-- Conjuncts that say the same.
use Rattle.std.specs.Prelude.{◌≡◌, ◌↔◌, ℕ, ◌<◌, List}
use Rattle.zf_plan.specs.Prelude.{Truth, Conjuncts}

-- as many conjuncts, each with the same truths on every row
pub record SayTheSame {V : Type 0} (s r : Conjuncts V) : Type 0 where
  pub number : s.number ≡ r.number
  pub says : (c : ℕ) → c < s.number → (row : List V) (t : Truth) → s.says c row t ↔ r.says c row t
