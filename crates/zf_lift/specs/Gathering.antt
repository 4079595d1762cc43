-- What has been gathered while terms are lifted. No public clause rests on this.
use Rattle.std.specs.Prelude.{◌≡◌, ◌≤◌, ℕ, Bool, true, length, []}
use Rattle.zf_lift.specs.Prelude.{ResolvedTree, Outcome, Environment, environment_of, IsBehind}
use Rattle.zf_lift.specs.declared.lifting.Gathered.{Gathered}
use Rattle.zf_lift.specs.Lifted.{IsLonger}
use Rattle.zf_lift.specs.Lifts.{is_liftable}

-- g has the names of f, and maybe more, and is closed only where f is
abbrev pub IsLater : Environment → Bool → Environment → Bool → Type 0
IsLater f c g d = IsLonger f g × (d ≡ true → c ≡ true)

abbrev pub Follows : Gathered → Gathered → Type 0
Follows a b = IsLater (environment_of a.env) a.is_closed (environment_of b.env) b.is_closed

-- the part of u, which builds a value, comes to x after so many bound variables, and the next name is none of a global
abbrev pub IsNamed : (n : ℕ) → Environment → Environment → ResolvedTree → ResolvedTree → Outcome → Type 0
IsNamed n e f t u x = (is_liftable e.numbers u ≡ true) × (length f.globals ≤ length f.outcomes) × IsBehind f [] n t x
