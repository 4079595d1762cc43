-- The property of a schema has one truth on each row, so over any ranges there is the list of its events, and one of their parts.
use Rattle.zf_parts.proofs.Prelude.{◌<◌, ◌∷◌, ◌≡◌, ◌⊎◌, [], arith, inl, inr, length, List, None, Option, refl, Some, subst, suc, zero, ℕ, False, Out, True, value_order, Value, Part, ⊎_elim, slice_get, ResolvedTree, Schema, exact, IsEvents, Stage, Environment, in_row, IsTruth, HasTruth, one_truth_in, property, told, FindsParts}
use Rattle.zf_value.specs.contracts.plain.ValueOrd.TheImpl.Laws.{total-law}
use Rattle.zf_value.specs.declared.value.Truth.{Truth}
use Rattle.zf_value.specs.declared.value.Truth.TheVariants as truth
use Rattle.zf_walk.specs.declared.judge.Truth as walk
use Rattle.law_total.proofs.Listed.{Decided, HasSome}
use Rattle.law_total.proofs.Rows.{AreTold, same_truth, some_events}
use Rattle.law_total.proofs.Terms.{some_truth}
use Rattle.zf_parts.proofs.Growing.{some_list_of_parts}
use Rattle.zf_parts.proofs.Telling.{AllAreTold, true_or_out}

-- as a walk calls a truth
walked_of : (P : Truth → Type 0) (u : Truth) → P u → HasSome (λ (t : walk.Truth). P (told t))
walked_of P truth.True h = (True, h)
walked_of P truth.False h = (False, h)
walked_of P truth.Out h = (Out, h)

some_of : (e : Environment) (row : List Value) (p : Option ResolvedTree) (q : ResolvedTree) → p ≡ Some q → HasSome (λ t. HasTruth e row p (told t))
some_of e row None q s = absurd (cc)
some_of e row (Some p) q s = let u = some_truth (in_row e row) p in walked_of (IsTruth (in_row e row) p) u.0 u.1

decided_of : (e : Environment) (row : List Value) (p : Option ResolvedTree) (t : walk.Truth) → Decided (HasTruth e row p (told t))
decided_of e row None t = inr (λ h. h)
decided_of e row (Some p) t = let u = some_of e row (Some p) p refl in ⊎_elim (λ s. inl (subst (λ x. HasTruth e row (Some p) (told x)) s u.1))
    (λ n. inr (λ h. n (one_truth_in e row (Some p) u.0 t u.1 h))) (same_truth u.0 t)

pub got : {A : Type 0} (xs : List A) (i : ℕ) → i < length xs → (x : A) × (slice_get xs i ≡ Some x)
got [] i l = absurd (omega arith)
got (x ∷ xs) zero l = (x, refl)
got (x ∷ xs) (suc i) l = got xs i (omega arith)

pub property_told : (e : Environment) (ts : List ResolvedTree) → AreTold (property e ts)
property_told e ts = record {
  some = λ c row l. let p = got ts c l in some_of e row (slice_get ts c) p.0 p.1;
  one = λ c row t u h k. one_truth_in e row (slice_get ts c) t u h k;
  decided = λ c row t. decided_of e row (slice_get ts c) t;
}

pub events_of : (e : Environment) (a : Schema) (ranges : List (List Value)) (after : Option (List Value)) → HasSome (IsEvents value_order (property e a.conjuncts) ranges after)
events_of e a ranges after = some_events (property e a.conjuncts) (property_told e a.conjuncts) value_order total-law exact ranges after

module _ (e : Environment) (a : Schema) (b : Stage Value) (places : List ℕ) (after : Option (List Value)) where
  pub all_parts : HasSome (FindsParts e a b places after)
  all_parts =
      let (events, listed) = events_of e a b.ranges b.after in
      let (parts, are) = some_list_of_parts places after events listed.ascending in (
        parts,
        record {
          events = events;
          listed = record { ascending = listed.ascending; members = λ x. (λ m. ((listed.members x).0 m, tt), λ h. (listed.members x).1 h.0) };
          are = are;
        },
      )

  -- the first event of each is True or Out
  pub parts_told : (parts : List Part) → FindsParts e a b places after parts → AllAreTold parts
  parts_told parts found p m =
      let are = found.are in
      let listed = found.listed in
      let (first, later) = (are.members p).0 m in
      let (event, up_to) = (listed.members p.first).0 first.event in
      true_or_out p.first.truth event.not_false
