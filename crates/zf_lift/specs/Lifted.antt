-- Predicates in which closed parts are names.
use Rattle.std.specs.Prelude.{◌≡◌, ◌↔◌, ℕ, List, [], ◌∷◌}
use Rattle.zf_lift.specs.Prelude.{ResolvedTree, Value, Outcome, Truth, Environment, in_row, IsTruth, longer, UsesFirst}

-- f has the names of e, and maybe more after them
abbrev pub IsLonger : Environment → Environment → Type 0
IsLonger e f = (os : List Outcome) × (f ≡ longer e os)

-- lists of one length of which each two items stand in the relation
abbrev pub AreEach : {A : Type 0} → (A → A → Type 0) → List A → List A → Type 0
AreEach R [] [] = Unit {0}
AreEach R [] (y ∷ ys) = ⊥
AreEach R (x ∷ xs) [] = ⊥
AreEach R (x ∷ xs) (y ∷ ys) = R x y × AreEach R xs ys

-- t has in f, in every row, the truths that u has in e, and uses no more components
pub record IsLifted (f e : Environment) (t u : ResolvedTree) : Type 0 where
  pub same : (row : List Value) (a : Truth) → IsTruth (in_row f row) t a ↔ IsTruth (in_row e row) u a
  pub uses : (k : ℕ) → UsesFirst k u → UsesFirst k t

-- the same of predicates one after another, where f has further names
pub record AreLifted (f e : Environment) (ts us : List ResolvedTree) : Type 0 where
  pub longer : IsLonger e f
  pub each : AreEach (IsLifted f e) ts us
