-- The sets of numbers, built and described.
use Rattle.zf_meaning.proofs.Prelude.{◌≡◌, None, Option, refl, Some, subst, sym, ℕ, pos, IfOk-weaker, Result, IfOk, AllocError, IsInterval, Outcome, Out, Infinite, Describes, Interval, Plain, ℤ, IsNumberSet, least, plain-describes}
use Rattle.zf_outcome.specs.declared.found.Found.TheVariants as found

from-interval : (n : Option ℕ) (s : Infinite) (k : ℕ) (a b : ℤ) (o : Outcome) → n ≡ Some k → a ≡ least s k → b ≡ pos k → IsInterval a b o → IsNumberSet n s o
from-interval n s k a b o e f g h = subst (λ m. IsNumberSet m s o) (sym e) (subst (λ x. IsInterval x (pos k) o) f (subst (λ y. IsInterval a y o) g h))

pub built-numbers : (n : Option ℕ) (s : Infinite) (k : ℕ) (a b : ℤ) (r : Result Outcome AllocError) → n ≡ Some k → a ≡ least s k → b ≡ pos k → IfOk r (IsInterval a b) → IfOk r (IsNumberSet n s)
built-numbers n s k a b r e f g h = IfOk-weaker r (IsInterval a b) (IsNumberSet n s) (λ o q. from-interval n s k a b o e f g q) h

pub described-numbers : (n : Option ℕ) (s : Infinite) (k : ℕ) (a b : ℤ) → n ≡ Some k → a ≡ least s k → b ≡ pos k → Describes (IsNumberSet n s) (Interval a b)
unfolding Describes
described-numbers n s k a b e f g o h = from-interval n s k a b o e f g h

pub no-numbers-built : (n : Option ℕ) (s : Infinite) → n ≡ None → IsNumberSet n s Out
no-numbers-built n s e = subst (λ m. IsNumberSet m s Out) (sym e) refl

pub no-numbers-described : (n : Option ℕ) (s : Infinite) → n ≡ None → Describes (IsNumberSet n s) (Plain found.Out)
no-numbers-described n s e = plain-describes (IsNumberSet n s) found.Out (no-numbers-built n s e)
