-- Rows of finite ranges, the truth of each, and the list of the events.
use Rattle.law_total.proofs.Prelude.{◌<◌, ◌↔◌, ◌∷◌, ◌≡◌, ◌⊎◌, [], ap, inl, inr, List, map, None, Option, refl, Some, subst, sym, ℕ, ⊎_elim, ◌≢◌, Contains, Ordering, Equal, Greater, Less, IsTotalOrder}
use Rattle.std.specs.Cmp.Lexicographic.{lists_total, slice_cmp}
use Rattle.zf_walk.specs.{ComesAfter, Event, IsEvent, IsEvents, IsFrontOf, IsLater, IsRowOf, IsTruthOf, TiesAreEqual}
use Rattle.zf_walk.specs.Conjuncts.{Conjuncts}
use Rattle.zf_walk.specs.declared.judge.Truth.{Truth}
use Rattle.zf_walk.specs.declared.judge.Truth.TheVariants.{False, Out, True}
use Rattle.law_total.proofs.Listed.{Decided, decided_not, HasSome, Listed, listed_either, listed_image, listed_kept, listed_one, listed_pairs, listed_same, one_or_all, swapped}
use Rattle.law_total.proofs.Naturals.{listed_below}
use Rattle.law_total.proofs.Orders.{AllPairs-mapped, Contains-map, Contains-mapped, in_order}
use Rattle.zf_walk.proofs.Order.{slice-ties}

-- ---- what is decided

pub same_ordering : (p q : Ordering) → Decided (p ≡ q)
same_ordering Less Less = inl refl
same_ordering Equal Equal = inl refl
same_ordering Greater Greater = inl refl
same_ordering p q = inr (λ e. (cc))

pub same_truth : (t u : Truth) → Decided (t ≡ u)
same_truth True True = inl refl
same_truth False False = inl refl
same_truth Out Out = inl refl
same_truth t u = inr (λ e. (cc))

-- ---- rows

members_of : {V : Type 0} (range : List V) → Listed (λ (v : V). Contains range v)
members_of range = record { list = range; members = λ v. (λ m. m, λ m. m) }

pub rows_of : {V : Type 0} (ranges : List (List V)) → Listed (λ (row : List V). IsRowOf ranges row)
rows_of {V} [] = listed_same (listed_one []) (λ row. none row)
  where
    none : (row : List V) → ([] ≡ row) ↔ IsRowOf [] row
    none [] = (λ e. tt, λ h. refl)
    none (v ∷ row) = (λ e. absurd (cc), λ h. absurd h)
rows_of {V} (range ∷ ranges) = listed_same (listed_image (λ (p : V × List V). p.0 ∷ p.1) (listed_pairs (λ v row. IsRowOf ranges row) (members_of range) (λ v. rows_of ranges))) (λ row. longer row)
  where
    longer : (row : List V) → ((p : V × List V) × (Contains range p.0 × IsRowOf ranges p.1) × (p.0 ∷ p.1 ≡ row)) ↔ IsRowOf (range ∷ ranges) row
    longer [] = (λ h. let e = h.2 in absurd (cc), λ h. absurd h)
    longer (v ∷ row) = (λ h. subst (λ r. IsRowOf (range ∷ ranges) r) h.2 h.1, λ h. ((v, row), h, refl))

-- rows of the first ranges
pub fronts_of : {V : Type 0} (ranges : List (List V)) → Listed (λ (row : List V). IsFrontOf ranges row)
fronts_of {V} [] = listed_same (listed_one []) (λ row. none row)
  where
    none : (row : List V) → ([] ≡ row) ↔ IsFrontOf [] row
    none [] = (λ e. tt, λ h. refl)
    none (v ∷ row) = (λ e. absurd (cc), λ h. absurd h)
fronts_of {V} (range ∷ ranges) =
    listed_same (listed_either (listed_one []) (listed_image (λ (p : V × List V). p.0 ∷ p.1)
    (listed_pairs (λ v row. IsFrontOf ranges row) (members_of range) (λ v. fronts_of ranges)))) (λ row. longer row)
  where
    longer : (row : List V) → (([] ≡ row) ⊎ ((p : V × List V) × (Contains range p.0 × IsFrontOf ranges p.1) × (p.0 ∷ p.1 ≡ row))) ↔ IsFrontOf (range ∷ ranges) row
    longer [] = (λ h. tt, λ h. inl refl)
    longer (v ∷ row) = (λ h. ⊎_elim (λ e. absurd (cc)) (λ k. subst (λ r. IsFrontOf (range ∷ ranges) r) k.2 k.1) h, λ h. inr ((v, row), h, refl))

pub decided_later : {V : Type 0} (cmp : V → V → Ordering) (after : Option (List V)) (row : List V) → Decided (IsLater cmp after row)
decided_later cmp None row = inl tt
decided_later cmp (Some named) row = same_ordering (slice_cmp cmp named row) Less

-- ---- truths and events

-- each conjunct has one truth on each row
pub record AreTold {V : Type 0} (s : Conjuncts V) : Type 0 where
  pub some : (c : ℕ) (row : List V) → c < s.number → HasSome (s.says c row)
  pub one : (c : ℕ) (row : List V) (t u : Truth) → s.says c row t → s.says c row u → t ≡ u
  pub decided : (c : ℕ) (row : List V) (t : Truth) → Decided (s.says c row t)

false_or : (P : Truth → Type 0) (t : Truth) → P t → P False ⊎ (P True ⊎ P Out)
false_or P True p = inr (inl p)
false_or P False p = inl p
false_or P Out p = inr (inr p)

module _ {V : Type 0} (s : Conjuncts V) (told : AreTold s) where
  pub some_truth_of : (row : List V) → HasSome (IsTruthOf s row)
  some_truth_of row = elim (one_or_all (λ c. s.says c row False) (λ c. s.says c row True ⊎ s.says c row Out) (listed_below s.number)
      (λ c l. let h = told.some c row l in false_or (s.says c row) h.0 h.1)) [
        | inl h ↦ (False, h)
        | inr g ↦ ⊎_elim (λ o. (Out, (g, o))) (λ a. (True, a)) (one_or_all (λ c. s.says c row Out) (λ c. s.says c row True) (listed_below s.number) (λ c l. swapped (g c l)))
      ]

  apart : (c : ℕ) (row : List V) (t u : Truth) → s.says c row t → s.says c row u → (t ≡ u → ⊥) → ⊥
  apart c row t u h k n = n (told.one c row t u h k)

  pub one_truth_of : (row : List V) (t u : Truth) → IsTruthOf s row t → IsTruthOf s row u → t ≡ u
  one_truth_of row True True h k = refl
  one_truth_of row False False h k = refl
  one_truth_of row Out Out h k = refl
  one_truth_of row True False h k = told.one k.0 row True False (h k.0 k.1) k.2
  one_truth_of row False True h k = told.one h.0 row False True h.2 (k h.0 h.1)
  one_truth_of row True Out h k = let w = k.1 in told.one w.0 row True Out (h w.0 w.1) w.2
  one_truth_of row Out True h k = let w = h.1 in told.one w.0 row Out True w.2 (k w.0 w.1)
  one_truth_of row False Out h k = ⊎_elim (λ q. absurd (apart h.0 row False True h.2 q (λ e. (cc)))) (λ q. told.one h.0 row False Out h.2 q) (k.0 h.0 h.1)
  one_truth_of row Out False h k = ⊎_elim (λ q. absurd (apart k.0 row False True k.2 q (λ e. (cc)))) (λ q. told.one k.0 row Out False q k.2) (h.0 k.0 k.1)

  -- the row with its truth
  abbrev event_of : List V → Event V
  event_of row = record { row = row; truth = (some_truth_of row).0 }

  module _ (cmp : V → V → Ordering) (order : IsTotalOrder cmp) (ties : TiesAreEqual cmp) (ranges : List (List V)) (after : Option (List V)) where
    -- the row is that of an event
    abbrev IsFound : List V → Type 0
    IsFound row = (IsRowOf ranges row × IsLater cmp after row) × ((some_truth_of row).0 ≢ False)

    found : Listed IsFound
    found =
        listed_kept (λ row. (some_truth_of row).0 ≢ False) (listed_kept (λ row. IsLater cmp after row) (rows_of ranges) (λ row. decided_later cmp after row))
        (λ row. decided_not (same_truth (some_truth_of row).0 False))

    is_event : (row : List V) → IsFound row → IsEvent cmp s ranges after (event_of row)
    is_event row h = record { within = h.0.0; later = h.0.1; truth_of = (some_truth_of row).1; not_false = h.1 }

    same_event : (f : Event V) → IsEvent cmp s ranges after f → event_of f.row ≡ f
    same_event f h = ap (λ t. record { row = f.row; truth = t }) (one_truth_of f.row (some_truth_of f.row).0 f.truth (some_truth_of f.row).1 h.truth_of)

    is_found : (f : Event V) → IsEvent cmp s ranges after f → IsFound f.row
    is_found f h = ((h.within, h.later), subst (λ (g : Event V). g.truth ≢ False) (sym (same_event f h)) h.not_false)

    pub some_events : HasSome (IsEvents cmp s ranges after)
    some_events =
        let rows = in_order (slice_cmp cmp) (lists_total order) (slice-ties cmp order ties) found in (
          map event_of rows.list,
          record {
            ascending = AllPairs-mapped event_of (λ e f. ComesAfter cmp e.row f.row) rows.list rows.ascending;
            members = λ f. (
              λ m. let r = Contains-mapped event_of rows.list f m in subst (IsEvent cmp s ranges after) r.2 (is_event r.0 ((rows.members r.0).0 r.1)),
              λ h. subst (Contains (map event_of rows.list)) (same_event f h) (Contains-map event_of rows.list f.row ((rows.members f.row).1 (is_found f h))),
            );
          },
        )
