-- What connectives, quantifiers and comprehensions say of parts, they say of parts that say as much.
use Rattle.zf_lift.proofs.Prelude.{◌↔◌, inl, inr, List, ⊎_elim, Outcome, Truth, Value, Quantifier, IsBuilt, IsBuiltBy, IsBuiltOver, IsOutOfBounds, IsWithinBounds, one_out, one_undefined, Several, values, HasTwo, IsConjunction, IsConnected, IsDisjunction, IsEquivalence, IsExists, IsExistsOne, IsForAll, IsOver, IsQuantified, IsTold, opposite}
use Rattle.zf_tree.specs.declared.symbol.Connective.{Connective}
use Rattle.zf_tree.specs.declared.symbol.Connective.TheVariants as connective
use Rattle.zf_tree.specs.declared.symbol.Quantifier.TheVariants as quantifier
use Rattle.zf_value.specs.declared.value.Outcome.TheVariants.{Is, Undefined, Out as OutOf}
use Rattle.zf_value.specs.declared.value.Truth.TheVariants.{True, False, Out}
use Rattle.zf_value.specs.{AreFrom}
use Rattle.zf_value.proofs.Making.{same_set}

-- ---- connectives

pub conjunction : (P Q R S : Truth → Type 0) → ((u : Truth) → P u → R u) → ((u : Truth) → Q u → S u) → (u : Truth) → IsConjunction P Q u → IsConjunction R S u
conjunction P Q R S f g True h = (f True h.0, g True h.1)
conjunction P Q R S f g False h = ⊎_elim (λ a. inl (f False a)) (λ b. inr (g False b)) h
conjunction P Q R S f g Out h = ⊎_elim (λ a. inl (f Out a.0, ⊎_elim (λ x. inl (g True x)) (λ x. inr (g Out x)) a.1)) (λ a. inr (f True a.0, g Out a.1)) h

disjunction : (P Q R S : Truth → Type 0) → ((u : Truth) → P u → R u) → ((u : Truth) → Q u → S u) → (u : Truth) → IsDisjunction P Q u → IsDisjunction R S u
disjunction P Q R S f g True h = ⊎_elim (λ a. inl (f True a)) (λ b. inr (g True b)) h
disjunction P Q R S f g False h = (f False h.0, g False h.1)
disjunction P Q R S f g Out h = ⊎_elim (λ a. inl (f Out a.0, ⊎_elim (λ x. inl (g False x)) (λ x. inr (g Out x)) a.1)) (λ a. inr (f False a.0, g Out a.1)) h

equivalence : (P Q R S : Truth → Type 0) → ((u : Truth) → P u → R u) → ((u : Truth) → Q u → S u) → (u : Truth) → IsEquivalence P Q u → IsEquivalence R S u
equivalence P Q R S f g True h = ⊎_elim (λ a. inl (f True a.0, g True a.1)) (λ b. inr (f False b.0, g False b.1)) h
equivalence P Q R S f g False h = ⊎_elim (λ a. inl (f True a.0, g False a.1)) (λ b. inr (f False b.0, g True b.1)) h
equivalence P Q R S f g Out h = ⊎_elim (λ a. inl (f Out a)) (λ b. inr (g Out b)) h

pub connected : (k : Connective) (P Q R S : Truth → Type 0) → ((u : Truth) → P u → R u) → ((u : Truth) → Q u → S u) → (u : Truth) → IsConnected k P Q u → IsConnected k R S u
connected connective.And P Q R S f g u h = conjunction P Q R S f g u h
connected connective.Or P Q R S f g u h = disjunction P Q R S f g u h
connected connective.Implies P Q R S f g u h = disjunction (λ p. P (opposite p)) Q (λ p. R (opposite p)) S (λ p. f (opposite p)) g u h
connected connective.Iff P Q R S f g u h = equivalence P Q R S f g u h

pub told : (q : Quantifier) (P Q R S : Truth → Type 0) → ((u : Truth) → P u → R u) → ((u : Truth) → Q u → S u) → (u : Truth) → IsTold q P Q u → IsTold q R S u
told quantifier.ForAll P Q R S f g u h = disjunction (λ p. P (opposite p)) Q (λ p. R (opposite p)) S (λ p. f (opposite p)) g u h
told quantifier.Exists P Q R S f g u h = conjunction P Q R S f g u h
told quantifier.ExistsOne P Q R S f g u h = conjunction P Q R S f g u h

-- ---- quantifiers

-- the rows of ranges with these values
abbrev pub IsFrom : Several → List Value → Type 0
IsFrom one_out vs = ⊥
IsFrom one_undefined vs = ⊥
IsFrom (values ss) vs = AreFrom vs ss

-- on these rows what P says of a row's truth, Q says too
abbrev pub SaysAsMuch : (R : List Value → Type 0) (P Q : List Value → Truth → Type 0) → Type 0
SaysAsMuch R P Q = (vs : List Value) (u : Truth) → R vs → P vs u → Q vs u

for_all : (R : List Value → Type 0) (P Q : List Value → Truth → Type 0) → SaysAsMuch R P Q → (u : Truth) → IsForAll R P u → IsForAll R Q u
for_all R P Q f True h = λ vs r. f vs True r (h vs r)
for_all R P Q f False h = (h.0, h.1, f h.0 False h.1 h.2)
for_all R P Q f Out h = ((h.0.0, h.0.1, f h.0.0 Out h.0.1 h.0.2), λ vs r. ⊎_elim (λ a. inl (f vs True r a)) (λ b. inr (f vs Out r b)) (h.1 vs r))

exists : (R : List Value → Type 0) (P Q : List Value → Truth → Type 0) → SaysAsMuch R P Q → (u : Truth) → IsExists R P u → IsExists R Q u
exists R P Q f True h = (h.0, h.1, f h.0 True h.1 h.2)
exists R P Q f False h = λ vs r. f vs False r (h vs r)
exists R P Q f Out h = ((h.0.0, h.0.1, f h.0.0 Out h.0.1 h.0.2), λ vs r. ⊎_elim (λ a. inl (f vs False r a)) (λ b. inr (f vs Out r b)) (h.1 vs r))

two : (R : List Value → Type 0) (P Q : List Value → Truth → Type 0) → SaysAsMuch R P Q → HasTwo R P → HasTwo R Q
two R P Q f h = (h.0, h.1, h.2, h.3, f h.0 True h.2 h.4, f h.1 True h.3 h.5, h.6)

exists_one : (R : List Value → Type 0) (P Q : List Value → Truth → Type 0) → SaysAsMuch R P Q → SaysAsMuch R Q P → (u : Truth) → IsExistsOne R P u → IsExistsOne R Q u
exists_one R P Q f g True h = (h.0, h.1, f h.0 True h.1 h.2, λ ws r. ⊎_elim (λ a. inl a) (λ b. inr (f ws False r b)) (h.3 ws r))
exists_one R P Q f g False h = ⊎_elim (λ a. inl (two R P Q f a)) (λ b. inr (λ vs r. f vs False r (b vs r))) h
exists_one R P Q f g Out h = ((h.0.0, h.0.1, f h.0.0 Out h.0.1 h.0.2), λ k. h.1 (two R Q P g k))

over : (q : Quantifier) (R : List Value → Type 0) (P Q : List Value → Truth → Type 0) → SaysAsMuch R P Q → SaysAsMuch R Q P → (u : Truth) → IsOver q R P u → IsOver q R Q u
over quantifier.ForAll R P Q f g u h = for_all R P Q f u h
over quantifier.Exists R P Q f g u h = exists R P Q f u h
over quantifier.ExistsOne R P Q f g u h = exists_one R P Q f g u h

pub quantified : (q : Quantifier) (s : Several) (P Q : List Value → Truth → Type 0) → SaysAsMuch (IsFrom s) P Q → SaysAsMuch (IsFrom s) Q P
    → (u : Truth) → IsQuantified q s P u → IsQuantified q s Q u
quantified q one_out P Q f g u h = h
quantified q one_undefined P Q f g u h = over q (λ vs. ⊥) P Q f g u h
quantified q (values ss) P Q f g u h = over q (λ vs. AreFrom vs ss) P Q f g u h

-- ---- comprehensions

pub record AreAsGood (R : List Value → Type 0) (F G : List Value → Truth → Type 0) (T U : List Value → Outcome → Type 0) : Type 0 where
  pub filter : (vs : List Value) → R vs → (u : Truth) → F vs u ↔ G vs u
  pub term : (vs : List Value) → R vs → (o : Outcome) → T vs o ↔ U vs o

turned : (R : List Value → Type 0) (F G : List Value → Truth → Type 0) (T U : List Value → Outcome → Type 0) → AreAsGood R F G T U → AreAsGood R G F U T
turned R F G T U k = record {
  filter = λ vs r u. ((k.filter vs r u).1, (k.filter vs r u).0);
  term = λ vs r o. ((k.term vs r o).1, (k.term vs r o).0);
}

built_by : (R : List Value → Type 0) (F G : List Value → Truth → Type 0) (T U : List Value → Outcome → Type 0) → AreAsGood R F G T U → (z : Value)
    → IsBuiltBy R F T z → IsBuiltBy R G U z
built_by R F G T U k z h = (h.0, h.1, (k.filter h.0 h.1 True).0 h.2, (k.term h.0 h.1 (Is z)).0 h.3)

within_bounds : (R : List Value → Type 0) (F G : List Value → Truth → Type 0) (T U : List Value → Outcome → Type 0) → AreAsGood R F G T U → (vs : List Value)
    → R vs → IsWithinBounds F T vs → IsWithinBounds G U vs
within_bounds R F G T U k vs r h =
    ⊎_elim (λ a. inl ((k.filter vs r False).0 a))
    (λ b. inr ((k.filter vs r True).0 b.0, ⊎_elim (λ x. inl ((k.term vs r Undefined).0 x)) (λ x. inr (x.0, (k.term vs r (Is x.0)).0 x.1)) b.1)) h

out_of_bounds : (R : List Value → Type 0) (F G : List Value → Truth → Type 0) (T U : List Value → Outcome → Type 0) → AreAsGood R F G T U → (vs : List Value)
    → R vs → IsOutOfBounds F T vs → IsOutOfBounds G U vs
out_of_bounds R F G T U k vs r h = ⊎_elim (λ a. inl ((k.filter vs r Out).0 a)) (λ b. inr ((k.filter vs r True).0 b.0, (k.term vs r OutOf).0 b.1)) h

members : (R : List Value → Type 0) (F G : List Value → Truth → Type 0) (T U : List Value → Outcome → Type 0) → AreAsGood R F G T U → (z : Value)
    → IsBuiltBy R F T z ↔ IsBuiltBy R G U z
members R F G T U k z = (built_by R F G T U k z, built_by R G F U T (turned R F G T U k) z)

built_over : (R : List Value → Type 0) (F G : List Value → Truth → Type 0) (T U : List Value → Outcome → Type 0) → AreAsGood R F G T U → (o : Outcome)
    → IsBuiltOver R F T o → IsBuiltOver R G U o
built_over R F G T U k (Is v) h = (
  λ vs r. within_bounds R F G T U k vs r (h.0 vs r),
  same_set (IsBuiltBy R F T) (IsBuiltBy R G U) (Is v) (members R F G T U k) h.1,
)
built_over R F G T U k Undefined h = h
built_over R F G T U k OutOf h =
    ⊎_elim (λ a. inl (a.0, a.1, out_of_bounds R F G T U k a.0 a.1 a.2)) (λ b. inr (same_set (IsBuiltBy R F T) (IsBuiltBy R G U) OutOf (members R F G T U k) b)) h

pub built : (s : Several) (F G : List Value → Truth → Type 0) (T U : List Value → Outcome → Type 0) → AreAsGood (IsFrom s) F G T U → (o : Outcome)
    → IsBuilt s F T o → IsBuilt s G U o
built one_out F G T U k o h = h
built one_undefined F G T U k o h = h
built (values ss) F G T U k o h = built_over (λ vs. AreFrom vs ss) F G T U k o h
