-- A schema without a binding has a cause.
use Rattle.law_answered.proofs.Prelude.{◌+◌, ◌++◌, ◌∷◌, ◌≡◌, ◌⊎◌, [], ap, arith, Bool, false, inl, inr, length, List, None, Option, refl, Some, subst, suc, sym, true, zero, ℕ, slice_get, Contains-head, Contains-nil, Event, value_order, Value, Comp, Environment, Decided, HasSome, portion, property, AreRanges, HasChosen, IsChosen, IsEvents, IsFewer, IsLeft, IsMinimal, ResolvedTree, chosen_of, event_of, first_held, held_later, later_held, replicate, row_at, slice_set, some_list, some_row, Global, Vec, whole}
use denote.RawPtr.{null_ptr}
use Rattle.zf_cores.proofs.Choosing.{all_chosen}
use Rattle.zf_cores.proofs.LeftOut.{IsTrimmed, all_tried, drops, keeps, untouched}
use Rattle.zf_why.specs.{ArePicked, AreTellings, AreTold, EmptiedBy, has_fewer, HasNoValue, HasRow, HasValue, IsInHeldRange, IsTelling, part_of, RefutedBy, RefutedTogetherBy, RuleOut, schema_with}
use Rattle.zf_why.specs.declared.told.Side.{Side}
use Rattle.zf_why.specs.declared.told.Told.{Told}
use Rattle.zf_why.proofs.Picking.{all_left}
use Rattle.law_answered.proofs.SomeOperands.{some_operands}

-- ---- choices

-- P or Q at each place
pick : {A : Type 0} (P Q : ℕ → A → Type 0) (xs : List A) → ((i : ℕ) (x : A) → slice_get xs i ≡ Some x → P i x ⊎ Q i x) → HasSome (ArePicked P Q xs)
pick P Q [] either = ([], record { each = refl; picked = λ i x at. absurd (cc) })
pick {A} P Q (x ∷ xs) either = by (either zero x refl) (pick (λ i. P (suc i)) (λ i. Q (suc i)) xs (λ i y at. either (suc i) y at)) where
  by : P zero x ⊎ Q zero x → HasSome (ArePicked (λ i. P (suc i)) (λ i. Q (suc i)) xs) → HasSome (ArePicked P Q (x ∷ xs))
  by (inl p) (m, rest) = (true ∷ m, record { each = ap suc rest.each; picked = at }) where
    at : (i : ℕ) (y : A) → slice_get (x ∷ xs) i ≡ Some y → (IsChosen (true ∷ m) i × P i y) ⊎ (IsLeft (true ∷ m) i × Q i y)
    at zero y here = let same : x ≡ y = cc in inl (refl, subst (P zero) same p)
    at (suc i) y here = rest.picked i y here
  by (inr q) (m, rest) = (false ∷ m, record { each = ap suc rest.each; picked = at }) where
    at : (i : ℕ) (y : A) → slice_get (x ∷ xs) i ≡ Some y → (IsChosen (false ∷ m) i × P i y) ⊎ (IsLeft (false ∷ m) i × Q i y)
    at zero y here = let same : x ≡ y = cc in inr (refl, subst (Q zero) same q)
    at (suc i) y here = rest.picked i y here

-- one is chosen, or none is
one_or_none : (m : List Bool) → Decided (HasChosen m)
one_or_none [] = inr (λ chosen. cc)
one_or_none (true ∷ m) = inl (zero, refl)
one_or_none (false ∷ m) = elim (one_or_none m) [ inl (i, here) ↦ inl (suc i, here) | inr none ↦ inr (λ chosen. of chosen.0 chosen.1 none) ] where
  of : (i : ℕ) → IsChosen (false ∷ m) i → (HasChosen m → ⊥) → ⊥
  of zero here none = cc
  of (suc i) here none = none (i, here)

-- a minimal set of which nothing is possible
module _ (Possible : List Bool → Type 0) (fewer : (small large : List Bool) → IsFewer small large → Possible large → Possible small) (decided : (m : List Bool) → Decided (Possible m)) (n : ℕ) where
  trimmed : (k i : ℕ) (m : List Bool) → i + k ≡ n → IsTrimmed Possible n i m → HasSome (IsMinimal Possible n)
  trimmed zero i m all old = (m, all_tried Possible n i m old (omega (arith, all)))
  trimmed (suc k) i m all old = elim (decided (slice_set m i false)) [
    | inl found ↦ trimmed k (i + 1) (slice_set (slice_set m i false) i true) (omega (arith, all)) (keeps Possible fewer n i m old (omega (arith, all)) found)
    | inr never ↦ trimmed k (i + 1) (slice_set m i false) (omega (arith, all)) (drops Possible fewer n i m old (omega (arith, all)) never)
  ]

  some_minimal : (Possible (replicate n true) → ⊥) → HasSome (IsMinimal Possible n)
  some_minimal never = trimmed n 0 (replicate n true) (omega arith) (untouched Possible n never)

-- ---- components and rows

-- the range of a component is empty, or has a value
either_value : (e : Environment) (cs : List Comp) (held : List (Option Value)) (ranges : List (List Value)) → AreRanges e cs held ranges
    → (i : ℕ) (c : Comp) → slice_get cs i ≡ Some c → HasNoValue e held i c ⊎ HasValue e held i c
either_value e [] held ranges are i c at = absurd (cc)
either_value e (d ∷ cs) held [] are i c at = absurd are
either_value e (d ∷ cs) held ([] ∷ ranges) are zero c at =
    let same : d ≡ c = cc in
    inl (λ v in_range. let w = are.0 in (w.members v).1 (subst (λ z. IsInHeldRange e z (first_held held) v) (sym same) in_range))
either_value e (d ∷ cs) held ((v ∷ values) ∷ ranges) are zero c at =
    let same : d ≡ c = cc in
    inr (v, subst (λ z. IsInHeldRange e z (first_held held) v) same (let w = are.0 in (w.members v).0 (inl refl)))
either_value e (d ∷ cs) held (values ∷ ranges) are (suc i) c at = elim (either_value e cs (later_held held) ranges are.1 i c at) [
  | inl none ↦ inl (λ v in_range. none v (subst (λ o. IsInHeldRange e c o v) (held_later i held) in_range))
  | inr some ↦ inr (some.0, subst (λ o. IsInHeldRange e c o some.0) (sym (held_later i held)) some.1)
]

module _ (e : Environment) (cs : List Comp) (held : List (Option Value)) (ranges : List (List Value)) (are : AreRanges e cs held ranges) where
  -- some row makes the predicates other than False, or they rule out everything
  row_decided : (ps : List ResolvedTree) → Decided (HasRow e cs held ps)
  row_decided ps = let all = some_list e (schema_with cs ps) ranges (portion None held) are in let them = all.1 in of all.0 them.ranges them.of_components them.listed where
    of : (events : List (Event Value)) (rs : List (List Value)) → AreRanges e cs held rs → IsEvents value_order (property e ps) rs None events → Decided (HasRow e cs held ps)
    of [] rs r listed = inr (λ row. let ev = event_of e (schema_with cs ps) held rs r row in Contains-nil ev.0 ((listed.members ev.0).1 ev.1))
    of (ev ∷ events) rs r listed = inl (row_at e (schema_with cs ps) held rs r None ev ((listed.members ev).0 (Contains-head ev events)))

  -- ---- the cause

  pub some_cause : (ps : List ResolvedTree) → RuleOut e cs held ps
      → HasSome (EmptiedBy e (schema_with cs ps) held) ⊎ (HasSome (RefutedBy e (schema_with cs ps) held) ⊎ HasSome (RefutedTogetherBy e (schema_with cs ps) held))
  some_cause ps none = by_ranges (pick (HasNoValue e held) (HasValue e held) cs (either_value e cs held ranges are)) where
    by_conjuncts : HasRow e cs held [] → HasSome (ArePicked (λ i p. RuleOut e cs held (p ∷ [])) (λ i p. HasRow e cs held (p ∷ [])) ps)
        → HasSome (RefutedBy e (schema_with cs ps) held) ⊎ HasSome (RefutedTogetherBy e (schema_with cs ps) held)
    by_conjuncts row alone = elim (one_or_none alone.0) [
      | inl chosen ↦ inl (alone.0, (row, alone.1, chosen))
      | inr neither ↦
          let core = some_minimal (λ m. HasRow e cs held ([] ++ chosen_of ps m)) (λ small large. has_fewer e cs held [] ps small large) (λ m. row_decided ([] ++ chosen_of ps m)) (length ps)
          (λ h. none (subst (HasRow e cs held) (all_chosen ps) h)) in
          inr (core.0, (all_left (λ i p. RuleOut e cs held (p ∷ [])) (λ i p. HasRow e cs held (p ∷ [])) ps alone.0 alone.1 neither, core.1, row))
    ]

    by_ranges : HasSome (ArePicked (HasNoValue e held) (HasValue e held) cs)
        → HasSome (EmptiedBy e (schema_with cs ps) held) ⊎ (HasSome (RefutedBy e (schema_with cs ps) held) ⊎ HasSome (RefutedTogetherBy e (schema_with cs ps) held))
    by_ranges empty = elim (one_or_none empty.0) [
      | inl chosen ↦ inl (empty.0, (empty.1, chosen))
      | inr filled ↦ inr (by_conjuncts (some_row e cs held (all_left (HasNoValue e held) (HasValue e held) cs empty.0 empty.1 filled))
          (pick (λ i p. RuleOut e cs held (p ∷ [])) (λ i p. HasRow e cs held (p ∷ [])) ps (λ i p at. elim (row_decided (p ∷ [])) [ inl some ↦ inr some | inr never ↦ inl never ])))
    ]

-- ---- what is reported of conjuncts, by none of their sides

some_tellings : (R : ℕ → ResolvedTree → Told → Type 0) → ((i : ℕ) (p : ResolvedTree) → HasSome (R i p)) → (i : ℕ) (ps : List ResolvedTree) (m : List Bool) → HasSome (AreTellings R i ps m)
some_tellings R each i [] m = ([], refl)
some_tellings R each i (p ∷ ps) [] = ([], refl)
some_tellings R each i (p ∷ ps) (false ∷ m) = some_tellings R each (suc i) ps m
some_tellings R each i (p ∷ ps) (true ∷ m) =
    let first = each i p in
    let rest = some_tellings R each (suc i) ps m in
    (first.0 ∷ rest.0, (first.1, rest.1))

-- no side is reported
abbrev no_sides : Vec Side Global
no_sides =
    record { ptr = null_ptr; len = 0; cap = 0; alloc = record { memory = record { seal = tt } }; items = []; ok = (refl, omega arith); small = omega arith }

pub some_reported : (e : Environment) (cs : List Comp) (held : List (Option Value)) (details : Bool) (beside : ℕ → List ResolvedTree) (ps : List ResolvedTree)
    (m : List Bool) → HasSome (AreTold e cs held details beside (λ i. whole) ps m)
some_reported e cs held details beside =
    some_tellings (λ i p told. IsTelling e cs held details (beside i) whole p told)
    (λ i p.
    let operands = some_operands e held details p in
    (record { part = part_of p; sides = no_sides; operands = operands.0 }, record { part = refl; sides = refl; operands = operands.1 })) 0
