-- What expressions whose names are held come to, whatever the values of the other components.
use Rattle.zf_why.proofs.Prelude.{◌∙◌, ◌∷◌, ◌≡◌, [], ap, arith, Bool, Err, false, get_or, length, List, map, None, Ok, Option, refl, Result, Some, subst, suc, sym, true, zero, ℕ, slice_get, Environment, ResolvedTree, Value, ◌≢◌, cond, IfOk, unwrap_or, Reference, link-seen, binary, bracket, comprehension, chain, constant, empty_set, link, links, listed, no_links, number, onto, quantified, reference, references, resolved_link_of, resolved_of, unary, ResolvedLink, HasOutcome, in_row, are_held, AreOperandsOf, AreOutcomes, AreOutcomesIn, filled, HasHeld, HasHeldOutcome, is_held, is_value, of_two, relation_of}
use Rattle.zf_reference.specs.declared.reference.Reference.TheVariants.{Component, Local, Global}
use Rattle.zf_tree.specs.declared.symbol.Relation.{Relation}
use Rattle.zf_value.specs.declared.value.Outcome.{Outcome}
use Rattle.zf_meaning.proofs.SameRows.{Agree, AgreeAt, same_outcome}
use Rattle.zf_why.specs.declared.told.Operands.{Operands}
use Rattle.zf_why.proofs.NamesHeld.{held_before}

-- ---- rows with the values that are held

pub filled_at : (other v : Value) (held : List (Option Value)) (i : ℕ) → slice_get held i ≡ Some (Some v) → slice_get (filled other held) i ≡ Some v
filled_at other v [] i at = absurd (cc)
filled_at other v (h ∷ held) zero at = let here : h ≡ Some v = cc in ap (λ (o : Option Value). Some (unwrap_or o other)) here
filled_at other v (h ∷ held) (suc i) at = filled_at other v held i at

has_held : (other : Value) (held : List (Option Value)) → HasHeld held (filled other held)
has_held other held i v at = filled_at other v held i at

the_value : (o : Option (Option Value)) → is_value o ≡ true → (v : Value) × (o ≡ Some (Some v))
the_value None is = absurd (cc)
the_value (Some None) is = absurd (cc)
the_value (Some (Some v)) is = (v, refl)

module _ (held : List (Option Value)) (row vs : List Value) (one : HasHeld held row) (two : HasHeld held vs) where
  agree_at : (r : Reference) → is_held held r ≡ true → AgreeAt row vs r
  agree_at (Component i) is = let v = the_value (slice_get held i) is in one i v.0 v.1 ∙ sym (two i v.0 v.1)
  agree_at (Local i) is = tt
  agree_at (Global i) is = tt

  first_held : (a b : Bool) → cond a b false ≡ true → a ≡ true
  first_held true b is = refl
  first_held false b is = is

  later_held : (a b : Bool) → cond a b false ≡ true → b ≡ true
  later_held true b is = is
  later_held false b is = absurd (cc)

  pub agree : (rs : List Reference) → are_held held rs ≡ true → Agree row vs rs
  agree [] is = tt
  agree (r ∷ rs) is = (agree_at r (first_held (is_held held r) (are_held held rs) is), agree rs (later_held (is_held held r) (are_held held rs) is))

-- ---- in the one row, so in each

module _ (e : Environment) (held : List (Option Value)) (other : Value) where
  pub everywhere : (rs : List Reference) (t : ResolvedTree) (o : Outcome) → are_held held (onto rs t) ≡ true → HasOutcome (in_row e (filled other held)) t o → HasHeldOutcome e held t o
  everywhere rs t o is here row has = subst (λ X. X) (same_outcome (in_row e (filled other held)) row rs t (agree held (filled other held) row (has_held other held) has (onto rs t) is) o) here

  -- the operands of a predicate whose names are held
  pub of_held : (p : ResolvedTree) (o : Option Operands) → are_held held (references p) ≡ true → AreOutcomesIn (in_row e (filled other held)) (relation_of p) o
      → AreOutcomes e held true (relation_of p) o
  of_held (bracket l t) o is h = of_held t o is h
  of_held (chain l t no_links) o is h = h
  of_held (chain l t (link r u no_links)) None is h = h
  of_held (chain l t (link r u no_links)) (Some o) is h = (everywhere [] t o.left (held_before held (references t) u is) h.0, (h.1.0, everywhere (references t) u h.1.0 is h.1.1, h.1.2))
  of_held (chain l t (link r u (link q w ks))) o is h = h
  of_held (reference l r) o is h = h
  of_held (number l n) o is h = h
  of_held (constant l k) o is h = h
  of_held (empty_set l t) o is h = h
  of_held (listed l form ts) o is h = h
  of_held (comprehension l rs q t) o is h = h
  of_held (unary l op t) o is h = h
  of_held (binary l op a b) o is h = h
  of_held (quantified l q rs c t) o is h = h

  pub held_told : {E : Type 0} (p : ResolvedTree) (r : Result (Option Operands) E) → are_held held (references p) ≡ true
      → IfOk r (AreOutcomesIn (in_row e (filled other held)) (relation_of p)) → IfOk r (AreOperandsOf e held p)
  held_told p (Ok o) is h = subst (λ (b : Bool). AreOutcomes e held b (relation_of p) o) (sym is) (of_held p o is h)
  held_told p (Err x) is h = tt

-- nothing is reported where a name is not held
pub other_told : (e : Environment) (held : List (Option Value)) (p : ResolvedTree) → are_held held (references p) ≡ false → AreOperandsOf e held p None
other_told e held p is = subst (λ (b : Bool). AreOutcomes e held b (relation_of p) None) (sym is) refl

-- ---- chains

-- with no further operand, or more than one, a chain is no relation of two
pub not_two : (t : ResolvedTree) (xs : List ResolvedLink) → length xs ≢ 1 → of_two t (links (map resolved_link_of xs)) ≡ None
not_two t [] other = refl
not_two t (x ∷ []) other = absurd (other refl)
not_two t (x ∷ y ∷ ys) other = refl

pub two : (t : ResolvedTree) (xs : List ResolvedLink) (x : ResolvedLink) → length xs ≡ 1 → x ≡ get_or xs 0 x
    → Some (record { left = t; relation = x.relation; right = resolved_of x.right }) ≡ of_two t (links (map resolved_link_of xs))
two t [] x one at = absurd (omega (arith, one))
two t (y ∷ []) x one at =
    ap (λ (z : ResolvedLink). of_two t (links ((z.relation, resolved_of z.right) ∷ []))) at ∙ ap (λ (k : Relation × ResolvedTree). of_two t (links (k ∷ []))) (sym (link-seen y))
two t (y ∷ z ∷ zs) x one at = absurd (omega (arith, one))
