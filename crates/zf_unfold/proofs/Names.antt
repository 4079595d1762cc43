-- Names that mean in a longer environment what others mean after the values of bound variables.
use Rattle.zf_unfold.proofs.Prelude.{◌<◌, ◌∙◌, ◌∷◌, ◌≡◌, ◌≤◌, ◌⊎◌, [], ap, arith, inl, inr, length, List, min, None, Option, refl, Some, subst, suc, sym, zero, ℕ, ⊎_elim, slice_get, Reference, Component, Global, Local, Outcome, Value, reference, Defined, Context, Environment, outcome_in, outcome_or, IsLonger, at, IsSame, IsBase, named, Is, Undefined, infinite_in, unended, Span}
use Rattle.zf_extent.specs.{extent_found, extent_set}
use Rattle.zf_lift.proofs.Longer as longer_ones
use Rattle.zf_unfold.proofs.Agreeing.{Agrees}

there : (xs : List Outcome) (i : ℕ) (x : Outcome) → slice_get xs i ≡ Some x → i < length xs
there [] i x h = absurd (cc)
there (y ∷ xs) zero x h = omega arith
there (y ∷ xs) (suc i) x h = let r = there xs i x h in omega (arith, r)

-- a name keeps its outcome
pub outcome_later : (f g : Environment) (i : ℕ) (x : Outcome) → IsLonger f g → slice_get f.outcomes i ≡ Some x → slice_get g.outcomes i ≡ Some x
outcome_later f g i x h k = longer_ones.same_outcome f g i (there f.outcomes i x k) h ∙ k

pub base_later : (n : ℕ) (e f g : Environment) → IsBase n e f → IsLonger f g → IsBase n e g
base_later n e f g b h = record {
  longer = longer_ones.further e f g b.longer h;
  count = b.count;
  globals = b.globals;
  undefined = outcome_later f g n Undefined h b.undefined;
}

before_or_not : (i n : ℕ) → (i < n) ⊎ (n ≤ i)
before_or_not i zero = inr (omega arith)
before_or_not zero (suc n) = inl (omega arith)
before_or_not (suc i) (suc n) = ⊎_elim (λ l. inl (omega (arith, l))) (λ r. inr (omega (arith, r))) (before_or_not i n)

least_before : (i n : ℕ) → i < n → min i n ≡ i
least_before i n l = omega (arith, l)

least_behind : (i n : ℕ) → n ≤ i → min i n ≡ n
least_behind i n l = omega (arith, l)

nothing_behind : (xs : List Outcome) (i : ℕ) → length xs ≤ i → slice_get xs i ≡ None
nothing_behind [] i l = refl
nothing_behind (x ∷ xs) zero l = absurd (omega (arith, l))
nothing_behind (x ∷ xs) (suc i) l = nothing_behind xs i (omega (arith, l))

same_name : (c d : Context) (l : Span) (q r : Reference) → outcome_in c q ≡ outcome_in d r → infinite_in c.environment (reference l q) ≡ infinite_in d.environment (reference l r)
    → IsSame c (reference l q) d (reference l r)
same_name c d l q r e i = record {
  outcome = λ o. (λ x. subst (λ y. o ≡ y) e x, λ x. subst (λ y. o ≡ y) (sym e) x);
  truth = λ a. (λ x. x, λ x. x);
  infinite = i;
}

no_infinite : (e : Environment) (l : Span) (i : ℕ) → slice_get e.globals i ≡ None → infinite_in e (reference l (Global i)) ≡ None
no_infinite e l i h = ap (λ (d : Option Defined). unended (extent_set (extent_found d)) e.numbers) h

module _ (n : ℕ) (e g : Environment) (b : IsBase n e g) (row : List Value) where
  no_global_in : (f : Environment) (i : ℕ) → IsLonger e f → n ≤ i → slice_get f.globals i ≡ None
  no_global_in f i h l = longer_ones.no_global e f i (omega (arith, b.globals, l)) h

  global_before : (ls ks : List Value) (l : Span) (i : ℕ) → i < n → IsSame (at g row ls) (reference l (Global i)) (at e row ks) (reference l (Global i))
  global_before ls ks l i k =
      same_name (at g row ls) (at e row ks) l (Global i) (Global i) (ap outcome_or (longer_ones.same_outcome e g i (omega (arith, k, b.count)) b.longer))
      (ap (λ (ds : List Defined). unended (extent_set (extent_found (slice_get ds i))) g.numbers) (longer_ones.same_globals e g b.longer)
      ∙ ap (λ m. unended (extent_set (extent_found (slice_get e.globals i))) m) (longer_ones.same_numbers e g b.longer))

  global_behind : (ls ks : List Value) (l : Span) (i : ℕ) → n ≤ i → IsSame (at g row ls) (reference l (Global n)) (at e row ks) (reference l (Global i))
  global_behind ls ks l i k =
      same_name (at g row ls) (at e row ks) l (Global n) (Global i)
      (ap outcome_or b.undefined ∙ sym (ap outcome_or (nothing_behind e.outcomes i (omega (arith, k, b.count)))))
      (no_infinite g l n (no_global_in g n b.longer (omega arith)) ∙ sym (no_infinite e l i (no_global_in e i (longer_ones.itself e) k)))

  global_same : (ls ks : List Value) (l : Span) (i : ℕ) → IsSame (at g row ls) (reference l (Global (min i n))) (at e row ks) (reference l (Global i))
  global_same ls ks l i =
      ⊎_elim
      (λ k. subst (λ j. IsSame (at g row ls) (reference l (Global j)) (at e row ks) (reference l (Global i))) (sym (least_before i n k)) (global_before ls ks l i k))
      (λ k. subst (λ j. IsSame (at g row ls) (reference l (Global j)) (at e row ks) (reference l (Global i))) (sym (least_behind i n k)) (global_behind ls ks l i k))
      (before_or_not i n)

  -- where no variable has a name
  names_outside : (ls : List Value) (l : Span) (r : Reference) → IsSame (at g row ls) (reference l (named n None r)) (at e row ls) (reference l r)
  unfolding named
  names_outside ls l (Component i) = same_name (at g row ls) (at e row ls) l (Component i) (Component i) refl refl
  names_outside ls l (Local i) = same_name (at g row ls) (at e row ls) l (Local i) (Local i) refl refl
  names_outside ls l (Global i) = global_same ls ls l i

  pub agree_outside : Agrees (named n None) g e row []
  agree_outside = record { names = names_outside; numbers = longer_ones.same_numbers e g b.longer }

  module _ (m : ℕ) (v : Value) (is : slice_get g.outcomes m ≡ Some (Is v)) (behind : n ≤ m) where
    names_inside : (ls : List Value) (l : Span) (r : Reference) → IsSame (at g row ls) (reference l (named n (Some m) r)) (at e row (v ∷ ls)) (reference l r)
    unfolding named
    names_inside ls l (Component i) = same_name (at g row ls) (at e row (v ∷ ls)) l (Component i) (Component i) refl refl
    names_inside ls l (Local zero) =
        same_name (at g row ls) (at e row (v ∷ ls)) l (Global m) (Local zero) (ap outcome_or is) (no_infinite g l m (no_global_in g m b.longer behind))
    names_inside ls l (Local (suc i)) = same_name (at g row ls) (at e row (v ∷ ls)) l (Local i) (Local (suc i)) refl refl
    names_inside ls l (Global i) = global_same ls (v ∷ ls) l i

    pub agree_inside : Agrees (named n (Some m)) g e row (v ∷ [])
    agree_inside = record { names = names_inside; numbers = longer_ones.same_numbers e g b.longer }
