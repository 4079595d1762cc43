-- A search has events and a number of tests.
use Rattle.law_exists.proofs.Prelude.{[], Bool, false, List, Option, refl, true, ℕ, Event, cut, value_order, Value, Schema, Environment, HasSome, same_value, AreRanges, HasEvents, IsBelow, IsTestsLine, IsWritten, Status, Wording, AreEvents, IsBoundOf, Portion, property}
use Rattle.zf_value.specs.contracts.plain.ValueOrd.TheImpl.Laws.{total-law}
use Rattle.law_exists.proofs.Cuts.{some_written, cut_events, not_false}
use Rattle.law_exists.proofs.Tests.{some_bound, some_number_of_tests}
use Rattle.zf_parts.proofs.Told.{events_of, property_told}

-- ---- searches

pub some_list : (e : Environment) (a : Schema) (ranges : List (List Value)) (p : Portion) → AreRanges e a.comps p.held ranges → HasSome (AreEvents e a p)
some_list e a ranges p r = let all = events_of e a ranges p.after in (all.0, record { ranges = ranges; of_components = r; listed = all.1 })

pub some_bound_of : (e : Environment) (a : Schema) (held : List (Option Value)) (ranges : List (List Value)) → AreRanges e a.comps held ranges → HasSome (IsBoundOf e a held)
some_bound_of e a held ranges r =
    let n = some_bound value_order (property e a.conjuncts) (property_told e a.conjuncts) ranges same_value in
    (n.0, record { ranges = ranges; of_components = r; counted = n.1 })

pub some_search : (e : Environment) (a : Schema) (ranges : List (List Value)) (p : Portion) (limit : Option ℕ) (w : Wording Value) → AreRanges e a.comps p.held ranges → IsBelow limit 0
    → (last : Option (List Value)) × (events : List (Event Value)) × (text : List ℕ) × (status : Status) × HasEvents e a p last events × IsWritten w limit events last text status
some_search e a ranges p limit w r l =
    let s = property e a.conjuncts in
    let all = events_of e a ranges p.after in
    let all_written = some_written w limit all.0 l (not_false value_order total-law s ranges p.after all.0 all.1) in (
      all_written.last,
      all_written.events,
      all_written.text,
      all_written.status,
      record { ranges = ranges; of_components = r; listed = cut_events value_order total-law s ranges p.after all.0 all_written.last all_written.events all.1 all_written.cut },
      all_written.written,
    )

pub some_tests_line : (e : Environment) (a : Schema) (ranges : List (List Value)) (p : Portion) (last : Option (List Value)) (w : Wording Value) (tests : Bool) → AreRanges e a.comps p.held ranges
    → HasSome (IsTestsLine w tests e a p last)
some_tests_line e a ranges p last w false r = ([], refl)
some_tests_line e a ranges p last w true r =
    let n = some_number_of_tests value_order (property e a.conjuncts) (property_told e a.conjuncts) ranges same_value p.after last in
    (w.tests (cut n.0), (n.0, record { ranges = ranges; of_components = r; counted = n.1 }, refl))
