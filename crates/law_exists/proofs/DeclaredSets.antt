-- What is a member of declared sets is decided, and where they are bounded it is listed.
use Rattle.law_exists.proofs.Prelude.{◌≡◌, Bool, false, inl, inr, None, Option, Some, subst, true, ⊎_elim, and_parts, or_cases, IsMember, members, Value, carrier, DeclaredSet, DeclaredSets, no_sets, plain, set, sides, ResolvedTree, Ty, bounds, one_bounds, Environment, globally, HasOutcome, Decided, decided_both, decided_either, decided_in, Listed, listed_either, listed_kept, listed_none, listed_same, some_outcome, listed_members, same_value, IsCarrierOut, IsInCarrier, IsInOne, IsInPlain, IsInSet, IsInSets, IsOneOut, IsPlainOut, IsSetOut, is_none, IsCarrier, has_endless, infinite_in}
use Rattle.zf_term.specs.declared.extent.Infinite.{Infinite}
use Rattle.zf_value.specs.declared.value.Outcome.{Outcome}
use Rattle.zf_value.specs.declared.value.Outcome.TheVariants.{Is, Undefined, Out}
use Rattle.zf_meaning.proofs.Environments.{one_carrier}
use Rattle.zf_meaning.proofs.Unique.{one_outcome}
use Rattle.law_total.proofs.Carriers.{some_carrier}
use Rattle.law_total.proofs.Truths.{decided_is_in}
use Rattle.zf_ranges.proofs.Single.{bounding, endless}
use Rattle.law_exists.proofs.Typed.{decided_of_type}

-- ---- one set

-- the members of the set that has an outcome
listed_in_one : (P : Outcome → Type 0) → ((o p : Outcome) → P o → P p → o ≡ p) → (o : Outcome) → P o → Listed (IsInOne P)
listed_in_one P one (Is w) h =
    listed_same (listed_members (members w)) (λ v. (λ m. (w, h, m), λ k. let s = one (Is k.0) (Is w) k.1 h in let e : k.0 ≡ w = (cc) in subst (λ u. IsMember v (members u)) e k.2))
listed_in_one P one Undefined h = listed_none (IsInOne P) (λ v k. let s = one (Is k.0) Undefined k.1 h in (cc))
listed_in_one P one Out h = listed_none (IsInOne P) (λ v k. let s = one (Is k.0) Out k.1 h in (cc))

is_out_or_not : (P : Outcome → Type 0) → ((o p : Outcome) → P o → P p → o ≡ p) → (o : Outcome) → P o → Decided (P Out)
is_out_or_not P one Out h = inl h
is_out_or_not P one (Is v) h = inr (λ k. let s = one (Is v) Out h k in (cc))
is_out_or_not P one Undefined h = inr (λ k. let s = one Undefined Out h k in (cc))

listed_term : (e : Environment) (t : ResolvedTree) → Listed (IsInOne (HasOutcome (globally e) t))
listed_term e t = let o = some_outcome (globally e) t in listed_in_one (HasOutcome (globally e) t) (one_outcome (globally e) t) o.0 o.1

listed_carrier : (e : Environment) (t : Ty) → Listed (IsInOne (IsCarrier e t))
listed_carrier e t = let o = some_carrier e t in listed_in_one (IsCarrier e t) (one_carrier e t) o.0 o.1

-- ---- what is decided

decided_in_plain : (e : Environment) (x : Option Infinite) (t : ResolvedTree) (v : Value) → Decided (IsInPlain e x t v)
decided_in_plain e (Some s) t v = decided_is_in s v
decided_in_plain e None t v = decided_in same_value (listed_term e t) v

decided_in_carrier : (e : Environment) (numbers : Bool) (t : Ty) (v : Value) → Decided (IsInCarrier e numbers t v)
decided_in_carrier e true t v = decided_of_type e t v
decided_in_carrier e false t v = decided_in same_value (listed_carrier e t) v

mutual
  decided_in_set : (e : Environment) (d : DeclaredSet) (v : Value) → Decided (IsInSet e d v)
  decided_in_set e (plain t) v = decided_in_plain e (infinite_in e t) t v
  decided_in_set e (carrier t) v = decided_in_carrier e (has_endless e.numbers t) t v
  decided_in_set e (sides ds es) v = decided_either (decided_in_sets e ds v) (decided_in_sets e es v)

  decided_in_sets : (e : Environment) (ds : DeclaredSets) (v : Value) → Decided (IsInSets e ds v)
  decided_in_sets e no_sets v = inl tt
  decided_in_sets e (set d ds) v = decided_both (decided_in_set e d v) (decided_in_sets e ds v)

decided_plain_out : (e : Environment) (x : Option Infinite) (t : ResolvedTree) → Decided (IsPlainOut e x t)
decided_plain_out e (Some s) t = inr (λ h. h)
decided_plain_out e None t = let o = some_outcome (globally e) t in is_out_or_not (HasOutcome (globally e) t) (one_outcome (globally e) t) o.0 o.1

decided_carrier_out : (e : Environment) (numbers : Bool) (t : Ty) → Decided (IsCarrierOut e numbers t)
decided_carrier_out e true t = inr (λ h. h)
decided_carrier_out e false t = let o = some_carrier e t in is_out_or_not (IsCarrier e t) (one_carrier e t) o.0 o.1

mutual
  decided_set_out : (e : Environment) (d : DeclaredSet) → Decided (IsSetOut e d)
  decided_set_out e (plain t) = decided_plain_out e (infinite_in e t) t
  decided_set_out e (carrier t) = decided_carrier_out e (has_endless e.numbers t) t
  decided_set_out e (sides ds es) = decided_either (decided_one_out e ds) (decided_one_out e es)

  pub decided_one_out : (e : Environment) (ds : DeclaredSets) → Decided (IsOneOut e ds)
  decided_one_out e no_sets = inr (λ h. h)
  decided_one_out e (set d ds) = decided_either (decided_set_out e d) (decided_one_out e ds)

-- ---- what is listed

listed_in_plain : (e : Environment) (x : Option Infinite) (t : ResolvedTree) → is_none x ≡ true → Listed (IsInPlain e x t)
listed_in_plain e (Some s) t b = absurd (cc)
listed_in_plain e None t b = listed_term e t

listed_in_carrier : (e : Environment) (numbers : Bool) (t : Ty) → numbers ≡ false → Listed (IsInCarrier e numbers t)
listed_in_carrier e true t b = absurd (cc)
listed_in_carrier e false t b = listed_carrier e t

mutual
  listed_in_set : (e : Environment) (d : DeclaredSet) → bounds e.numbers e.globals d ≡ true → Listed (IsInSet e d)
  listed_in_set e (plain t) b = listed_in_plain e (infinite_in e t) t (bounding e t b)
  listed_in_set e (carrier t) b = listed_in_carrier e (has_endless e.numbers t) t (endless e.numbers t b)
  listed_in_set e (sides ds es) b = let both = and_parts (one_bounds e.numbers e.globals ds) (one_bounds e.numbers e.globals es) b in listed_either
      (listed_in_sets e ds both.0) (listed_in_sets e es both.1)

  -- where one of them bounds
  pub listed_in_sets : (e : Environment) (ds : DeclaredSets) → one_bounds e.numbers e.globals ds ≡ true → Listed (IsInSets e ds)
  listed_in_sets e no_sets b = absurd (cc)
  listed_in_sets e (set d ds) b =
      ⊎_elim (λ here. listed_kept (IsInSets e ds) (listed_in_set e d here) (λ v. decided_in_sets e ds v))
      (λ there. listed_same (listed_kept (IsInSet e d) (listed_in_sets e ds there) (λ v. decided_in_set e d v)) (λ v. (λ h. (h.1, h.0), λ h. (h.1, h.0))))
      (or_cases (bounds e.numbers e.globals d) (one_bounds e.numbers e.globals ds) b)
