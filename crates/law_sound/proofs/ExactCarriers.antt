-- Each value of a type is a member of the type's carrier, and the carrier is the outcome of the expression that spells the type.
use Rattle.law_sound.proofs.Prelude.{◌||◌, ◌<◌, ◌∙◌, ◌∷◌, ◌≡◌, [], ap, Bool, false, List, None, Option, refl, Some, subst, sym, true, ℕ, same_Some, slice_get, every_at, members-SetOf, AreFrom, IsSubset, AreElements, IsCross, IsPower, IsAscending, IsMember, IsSetOf, members, AreAmong, Outcome, Is, Out, Elem, SetOf, Tuple, Value, Defined, Definition, free_type, given_set, ResolvedTree, ResolvedTrees, basic, int, no_types, power, product, Ty, type, Tys, named_there, AreCarriers, IsCarrier, IsTypeSetIf, before, definition_number, Environment, found_number, globally, IsTypeSet, outcome_or, type_number, AreWorkedOut, IsOutcomeOf, HasOutcome, HaveOutcomes, OnOne, OnSeveral, Several, values, AreOfTypes, IsExistingElement, IsOfType, ListedOutcome, UnaryOutcome, CarriersAreExact, CarriersAreOutcomes, IsNumberSet, IsTypeAt, Num, Product, SpellAll, Spells, has_numbers, have_numbers, inl, inr, true≢false, ⊎_elim, ◌⊎◌, ◌↔◌}
use Rattle.zf_tree.specs.declared.symbol.Prefix.TheVariants.{Power}
use Rattle.zf_tree.specs.declared.operator.Sign.TheVariants.{Symbol}
use Rattle.zf_tree.specs.declared.operator.Unary.TheVariants.{Sign}
use Rattle.zf_value.specs.Operations as op
use Rattle.zf_meaning.proofs.Environments.{one_carrier}
use Rattle.law_sound.proofs.Carriers.{carrier_typed}
use Rattle.law_sound.proofs.Globals.{elements_of}
use Rattle.law_sound.proofs.OfTypes.{members_of}
use Rattle.law_sound.proofs.Terms.{all_values, one, several}

-- ---- members

-- a set of what passes has each value that passes
set_has : (P : Value → Type 0) (v z : Value) → IsSetOf P (Is v) → P z → IsMember z (members v)
set_has P v z h p = subst (λ xs. IsMember z xs) (sym (ap members h.1 ∙ members-SetOf h.0)) ((h.4 z).1 p)

in_elements : (n k i : ℕ) (v z : Value) → AreElements n k (Is v) → z ≡ Elem n i → i < k → IsMember z (members v)
unfolding AreElements op.IsElement
in_elements n k i v z h is below = set_has (op.IsElement n k) v z h (i, is, below)

in_power : (a xs : List Value) (v z : Value) → IsPower a (Is v) → z ≡ SetOf xs → IsAscending xs → ((y : Value) → IsMember y xs → IsMember y a) → IsMember z (members v)
unfolding IsPower AreAmong
in_power a xs v z h is ascending among = set_has (IsSubset a) v z h (xs, is, ascending, among)

in_cross : (sets vs : List Value) (v z : Value) → IsCross sets (Is v) → z ≡ Tuple vs → AreFrom vs sets → IsMember z (members v)
unfolding IsCross
in_cross sets vs v z h is from = set_has (λ y. (ws : List Value) × (y ≡ Tuple ws) × AreFrom ws sets) v z h (vs, is, from)

in_type_set : (e : Environment) (n : ℕ) (v z : Value) → IsTypeSet e n (Is v) → IsExistingElement e (Some n) z → IsMember z (members v)
in_type_set e n v z h (k, i, size, below, is) =
    let (m, at, are) = elements_of e n v h in
    in_elements n m i v z are is (subst (λ j. i < j) (same_Some k m (sym size ∙ at)) below)

-- numbers that end are no part of the type
abbrev IsWhole : Environment → Bool → Type 0
IsWhole e numbers = (e.numbers ≡ None) ⊎ (numbers ≡ false)

neither : (a b : Bool) → (a || b) ≡ false → (a ≡ false) × (b ≡ false)
neither true b h = absurd (true≢false h)
neither false b h = (refl, h)

first_whole : (e : Environment) (a b : Bool) → IsWhole e (a || b) → IsWhole e a
first_whole e a b h = ⊎_elim (λ n. inl n) (λ f. inr (neither a b f).0) h

rest_whole : (e : Environment) (a b : Bool) → IsWhole e (a || b) → IsWhole e b
rest_whole e a b h = ⊎_elim (λ n. inl n) (λ f. inr (neither a b f).1) h

no_numbers : {A : Type 0} (e : Environment) (v : Value) → IsWhole e true → IsNumberSet e.numbers Num (Is v) → A
no_numbers e v w h = ⊎_elim (λ n. let out : Is v ≡ Out = subst (λ m. IsNumberSet m Num (Is v)) n h in absurd (cc)) (λ f. absurd (true≢false f)) w

mutual
  in_carrier : (e : Environment) (t : Ty) (v z : Value) → IsWhole e (has_numbers t) → IsCarrier e t (Is v) → IsOfType e t z → IsMember z (members v)
  in_carrier e int v z w h k = no_numbers e v w h
  in_carrier e (basic name) v z w h k = go (type_number e name) h k
    where
      go : (o : Option ℕ) → IsTypeSetIf e o (Is v) → IsExistingElement e o z → IsMember z (members v)
      go None p q = absurd q
      go (Some n) p q = in_type_set e n v z p q
  in_carrier e (power t) v z w h k =
      let q = one h.0 (λ w. IsPower (members w)) v h.2 in
      in_power (members q.0) k.0 v z q.2 k.1 k.2 (λ y m. in_carrier e t q.0 y w (subst (IsCarrier e t) q.1 h.1) (every_at (λ x. IsOfType e t x) k.0 y k.4 m))
  in_carrier e (product ts) v z w h k =
      let q = several h.0 IsCross v h.2 in
      in_cross q.0 k.0 v z q.2 k.1 (in_carriers e ts q.0 k.0 w (subst (AreCarriers e ts) q.1 h.1) k.2)

  in_carriers : (e : Environment) (ts : Tys) (ss vs : List Value) → IsWhole e (have_numbers ts) → AreCarriers e ts (values ss) → AreOfTypes e ts vs → AreFrom vs ss
  in_carriers e no_types ss vs w h k =
      let none : ss ≡ [] = cc in
      subst (λ xs. AreFrom xs ss) (sym k) (subst (λ ys. AreFrom [] ys) (sym none) tt)
  in_carriers e (type t ts) ss vs w h k =
      let q = all_values h.0 h.1 ss h.4 in
      let first = in_carrier e t q.0 k.0 (first_whole e (has_numbers t) (have_numbers ts) w) (subst (IsCarrier e t) q.2 h.2) k.3 in
      let rest = in_carriers e ts q.1 k.1 (rest_whole e (has_numbers t) (have_numbers ts) w) (subst (AreCarriers e ts) q.3 h.3) k.4 in
      subst (λ xs. AreFrom xs ss) (sym k.2) (subst (λ ys. AreFrom (k.0 ∷ k.1) ys) (sym q.4) (first, rest))

pub carriers_are_exact : CarriersAreExact
carriers_are_exact e t v h =
    let typed = carrier_typed e t v h in
    (typed, λ w z. ((members_of e t v typed).each z, in_carrier e t v z w h))

-- ---- outcomes

-- of a given set or free type
is_type_set : (e : Environment) (place : ℕ) (x : Definition) (n : ℕ) (o : Outcome) → definition_number x ≡ Some n → IsOutcomeOf (before e place) x o → IsTypeSet e n o
is_type_set e place (given_set m) n o number h = subst (λ k. IsTypeSet e k o) (same_Some m n number) h
is_type_set e place (free_type m names) n o number h = subst (λ k. IsTypeSet e k o) (same_Some m n number) h
is_type_set e place _ n o number h = absurd (cc)

same_power : (x o : Outcome) → OnOne x (λ v. IsPower (members v)) o ↔ OnOne x (UnaryOutcome (Sign (Symbol Power))) o
same_power (Is v) o = (λ h. h, λ h. h)
same_power _ o = (λ h. h, λ h. h)

same_product : (s : Several) (o : Outcome) → OnSeveral s IsCross o ↔ OnSeveral s (ListedOutcome Product) o
same_product (values vs) o = (λ h. h, λ h. h)
same_product _ o = (λ h. h, λ h. h)

module _ (e : Environment) (worked : AreWorkedOut e) where
  -- the outcome of the global is the carrier of its type
  type_outcome : (name : List ℕ) (place : ℕ) → IsTypeAt e.globals name place → IsCarrier e (basic name) (outcome_or (slice_get e.outcomes place))
  type_outcome name place (d, n, found, number) =
      let there = named_there (λ (x : Defined). x.name) name e.globals (place, d) found in
      let (o, at, is) = worked.1 place d there.0 in
      let numbered : type_number e name ≡ Some n = ap found_number found ∙ number in
      subst (λ k. IsTypeSetIf e k (outcome_or (slice_get e.outcomes place))) (sym numbered)
      (subst (λ p. IsTypeSet e n (outcome_or p)) (sym at) (is_type_set e place d.definition n o number is))

  mutual
    same_outcome : (t : Ty) (x : ResolvedTree) (o : Outcome) → Spells e.globals t x → IsCarrier e t o ↔ HasOutcome (globally e) x o
    same_outcome int x o (span, is) = subst (λ y. IsCarrier e int o ↔ HasOutcome (globally e) y o) (sym is) (λ h. h, λ h. h)
    same_outcome (basic name) x o (span, place, at, is) = subst (λ y. IsCarrier e (basic name) o ↔ HasOutcome (globally e) y o) (sym is) (
      λ h. one_carrier e (basic name) o (outcome_or (slice_get e.outcomes place)) h (type_outcome name place at),
      λ h. subst (IsCarrier e (basic name)) (sym h) (type_outcome name place at),
    )
    same_outcome (power t) x o (span, y, spelled, is) = subst (λ z. IsCarrier e (power t) o ↔ HasOutcome (globally e) z o) (sym is) (
      λ h. (h.0, (same_outcome t y h.0 spelled).0 h.1, (same_power h.0 o).0 h.2),
      λ h. (h.0, (same_outcome t y h.0 spelled).1 h.1, (same_power h.0 o).1 h.2),
    )
    same_outcome (product ts) x o (span, ys, spelled, is) = subst (λ z. IsCarrier e (product ts) o ↔ HasOutcome (globally e) z o) (sym is) (
      λ h. (h.0, (same_outcomes ts ys h.0 spelled).0 h.1, (same_product h.0 o).0 h.2),
      λ h. (h.0, (same_outcomes ts ys h.0 spelled).1 h.1, (same_product h.0 o).1 h.2),
    )

    same_outcomes : (ts : Tys) (ys : ResolvedTrees) (s : Several) → SpellAll e.globals ts ys → AreCarriers e ts s ↔ HaveOutcomes (globally e) ys s
    same_outcomes no_types ys s is = subst (λ zs. AreCarriers e no_types s ↔ HaveOutcomes (globally e) zs s) (sym is) (λ h. h, λ h. h)
    same_outcomes (type t ts) ys s (z, zs, first, rest, is) = subst (λ us. AreCarriers e (type t ts) s ↔ HaveOutcomes (globally e) us s) (sym is) (
      λ h. (h.0, h.1, (same_outcome t z h.0 first).0 h.2, (same_outcomes ts zs h.1 rest).0 h.3, h.4),
      λ h. (h.0, h.1, (same_outcome t z h.0 first).1 h.2, (same_outcomes ts zs h.1 rest).1 h.3, h.4),
    )

pub carriers_are_outcomes : CarriersAreOutcomes
carriers_are_outcomes g stated numbers e t x o (same, sizes, worked, given) spelled = same_outcome e worked t x o (subst (λ h. Spells h t x) (sym same) spelled)
