-- Lists of terms in which closed parts are names. No public clause rests on this.
use Rattle.std.specs.Prelude.{◌≡◌, ℕ, Bool, List}
use Rattle.zf_lift.specs.Prelude.{ResolvedTree, Environment}
use Rattle.zf_tree.specs.declared.symbol.Relation.{Relation}
use Rattle.zf_lift.specs.Lifted.{AreEach}
use Rattle.zf_lift.specs.Lifts.{IsLift}

abbrev pub AreAllLifts : (n : ℕ) → Environment → Environment → Bool → List ResolvedTree → List ResolvedTree → Type 0
AreAllLifts n f e c = AreEach (IsLift n f e c)

abbrev pub IsRangeLift : (n : ℕ) → Environment → Environment → Bool → ℕ × ResolvedTree → ℕ × ResolvedTree → Type 0
IsRangeLift n f e c p q = (p.0 ≡ q.0) × IsLift n f e c p.1 q.1

abbrev pub IsLinkLift : (n : ℕ) → Environment → Environment → Bool → Relation × ResolvedTree → Relation × ResolvedTree → Type 0
IsLinkLift n f e c p q = (p.0 ≡ q.0) × IsLift n f e c p.1 q.1
