-- The property of a schema has one truth on a row, keeps it on longer ones, and has it on each row that agrees in what is used. No public clause rests on this.
use Rattle.std.specs.Prelude.{◌≡◌, ℕ, ◌≤◌, Bool, true, false, cond, List, [], ◌∷◌, ◌++◌, length, Option, Some, None, slice_get}
use Rattle.std.proofs.Common.{◌∙◌}
use Rattle.zf_enum.specs.Prelude.{refl, sym, ap, subst, arith, Reference, Component, Local, Global, references, ResolvedTree, Value, Outcome, Truth, FollowUsed, HaveOneTruth, KeepTruths, AreBelow, Environment, HasOutcome, in_row, IsBelow, UsesFirst}
use Rattle.std.proofs.lemmas.Bool.{eq-eqb}
use Rattle.zf_value.specs.declared.value.Truth.TheVariants as truth
use Rattle.zf_walk.specs.declared.judge.Truth as walk
use Rattle.zf_walk.specs.declared.judge.Truth.TheVariants.{True, False, Out}
use Rattle.zf_meaning.proofs.Unique.{one_truth}
use Rattle.zf_meaning.proofs.Stays.{truths_stay}
use Rattle.zf_meaning.proofs.SameRows.{AgreeAt, Agree, same_outcome, same_truth}
use Rattle.zf_enum.specs.Property.{place_named, greatest_place, due, due_of, HasTruth, told, property}
use Rattle.zf_enum.specs.Uses.{is_component, is_among, uses, uses_of, are_used}

-- ---- a term uses the components that are due

below : (r : Reference) (k : ℕ) → place_named r ≤ k → IsBelow k r
below (Component i) k h = omega arith
below (Local i) k h = tt
below (Global i) k h = tt

are_below : (rs : List Reference) (k : ℕ) → greatest_place rs ≤ k → AreBelow k rs
are_below [] k h = tt
are_below (r ∷ rs) k h = (below r k (omega arith), are_below rs k (omega arith))

pub uses_first : (t : ResolvedTree) (k : ℕ) → due t ≤ k → UsesFirst k t
uses_first t k h = are_below (references t) k h

-- ---- one truth

abbrev walked : Truth → walk.Truth
walked truth.True = True
walked truth.False = False
walked truth.Out = Out

walked-told : (t : walk.Truth) → walked (told t) ≡ t
walked-told True = refl
walked-told False = refl
walked-told Out = refl

one_told : (t u : walk.Truth) → told t ≡ told u → t ≡ u
one_told t u e = sym (walked-told t) ∙ ap walked e ∙ walked-told u

-- what stands at a place has one truth in a row
pub one_truth_in : (e : Environment) (row : List Value) (p : Option ResolvedTree) (t u : walk.Truth) → HasTruth e row p (told t) → HasTruth e row p (told u) → t ≡ u
one_truth_in e row None t u a b = absurd a
one_truth_in e row (Some p) t u a b = one_told t u (one_truth (in_row e row) p (told t) (told u) a b)

pub has_one_truth : (e : Environment) (ts : List ResolvedTree) → HaveOneTruth (property e ts)
has_one_truth e ts c row t u l d a b = one_truth_in e row (slice_get ts c) t u a b

-- ---- kept truths

kept_by : (e : Environment) (row more : List Value) (p : Option ResolvedTree) (t : Truth) → due_of p ≤ length row → HasTruth e row p t → HasTruth e (row ++ more) p t
kept_by e row more None t d a = absurd a
kept_by e row more (Some p) t d a = (truths_stay (in_row e row) more p t (uses_first p (length row) d)).0 a

pub keeps_truths : (e : Environment) (ts : List ResolvedTree) → KeepTruths (property e ts)
keeps_truths e ts c row more t l d a = kept_by e row more (slice_get ts c) (told t) d a

-- ---- what is used

first_among : (k : ℕ) (r : Reference) (rs : List Reference) → is_component k r ≡ true → is_among k (r ∷ rs) ≡ true
first_among k r rs e = ap (λ b. cond b true (is_among k rs)) e

true_later : (b c : Bool) → c ≡ true → cond b true c ≡ true
true_later true c e = refl
true_later false c e = e

agree_at : (row other : List Value) (r : Reference) → ((k : ℕ) → is_component k r ≡ true → slice_get row k ≡ slice_get other k) → AgreeAt row other r
agree_at row other (Component i) h = h i (eq-eqb i i refl)
agree_at row other (Local i) h = tt
agree_at row other (Global i) h = tt

-- rows that agree in the components that are used agree at each reference
agree : (row other : List Value) (rs : List Reference) → ((k : ℕ) → is_among k rs ≡ true → slice_get row k ≡ slice_get other k) → Agree row other rs
agree row other [] h = tt
agree row other (r ∷ rs) h = (
  agree_at row other r (λ k e. h k (first_among k r rs e)),
  agree row other rs (λ k e. h k (true_later (is_component k r) (is_among k rs) e)),
)

followed_by : (e : Environment) (row other : List Value) (p : Option ResolvedTree) (t : Truth) → ((k : ℕ) → uses_of p k ≡ true → slice_get row k ≡ slice_get other k) → HasTruth e row p t → HasTruth e other p t
followed_by e row other None t h a = absurd a
followed_by e row other (Some p) t h a = subst (λ X. X) (same_truth (in_row e row) other [] p (agree row other (references p) h) t) a

-- an expression has the same outcome on rows that agree in the components that it uses
pub follows_outcome : (e : Environment) (row other : List Value) (t : ResolvedTree) (o : Outcome) → ((k : ℕ) → uses t k ≡ true → slice_get row k ≡ slice_get other k) → HasOutcome (in_row e row) t o → HasOutcome (in_row e other) t o
follows_outcome e row other t o h a = subst (λ X. X) (same_outcome (in_row e row) other [] t (agree row other (references t) h) o) a

pub follows_used : (e : Environment) (ts : List ResolvedTree) → FollowUsed (property e ts) (are_used ts)
follows_used e ts c row other t l d b h a = followed_by e row other (slice_get ts c) (told t) h a
