-- One value, or else another.
use Rattle.zf_term.proofs.Prelude.{◌≡◌, None, Option, refl, Some, option_or}

pub or_none : {A : Type 0} (o : Option A) → option_or o None ≡ o
or_none None = refl
or_none (Some a) = refl

pub or_else_assoc : {A : Type 0} (o p q : Option A) → option_or (option_or o p) q ≡ option_or o (option_or p q)
or_else_assoc None p q = refl
or_else_assoc (Some a) p q = refl
