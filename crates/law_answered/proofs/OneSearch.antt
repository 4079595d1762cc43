-- What is asked for is one environment and one named row, and its search has one text and one status.
use Rattle.law_answered.proofs.Prelude.{◌++◌, ◌∙◌, ◌≡◌, ap, arith, Bool, false, inl, inr, List, None, Option, Some, subst, sym, true, ℕ, cases_order, Event, cut, IsNumberOfTests, IsUpTo, IsWalked, exact, value_order, Value, Comp, Defined, Schema, Fault, first, finite_without_cause, causes, IsFinite, NotFinite, Environment, IsEnvironment, AreComplete, given_sets, Size, one_row, AreClear, spellings, one_ranges, Portion, property, IsFirstOut, AreEventsUpTo, HasEvents, IsTestsLine, IsWritten, Status, property_told, AreHeld, Checks, IsNamed, IsNamedRow, Request, ShowsEvents, Wording, wording, AreTests, HaveClearNames, Lines, total-law, AreRanges}
use Rattle.zf_walk.proofs.Counting.{number-le}
use Rattle.zf_meaning.proofs.Environments.{one_environment}
use Rattle.zf_read.proofs.OneHeld.{one_held_line}
use Rattle.law_names.proofs.Clear.{components_clear, globals_clear}
use Rattle.law_answered.proofs.OneEnding.{AreOneEnd, one_ending}
use Rattle.law_answered.proofs.OneRefusal.{one_sizes}

-- ---- finiteness

-- a schema that is finite has no cause that makes it infinite
pub not_infinite : (n : Option ℕ) (g : List Defined) (a : Schema) (cause : NotFinite) → IsFinite n g a → first (causes n g a) ≡ Some cause → ⊥
not_infinite n g a cause finite e = let none : None ≡ Some cause = sym (ap first ((finite_without_cause n g a).0 finite)) ∙ e in cc

-- ---- the environment

-- sizes that fit make one environment
pub one_environment_at : (g : List Defined) (sizes : List Size) (numbers : Option ℕ) (e f : Environment) → AreComplete (given_sets g) sizes
    → IsEnvironment g sizes numbers e → IsEnvironment g sizes numbers f → e ≡ f
one_environment_at g sizes numbers e f complete p q =
    let globals = p.0 ∙ sym q.0 in
    let counts = one_sizes (given_sets g) sizes complete g e.sizes f.sizes p.1 q.1 in
    let same = p.3 ∙ sym q.3 in
    let outcomes = one_environment e f globals counts same p.2 q.2 in
    λ i. record { globals = globals i; sizes = counts i; outcomes = outcomes i; numbers = same i }

-- ---- the named row

pub clear_at : (source : List ℕ) (g : List Defined) (faults : List Fault) (sizes : List Size) (numbers : Option ℕ) (e : Environment) → Checks source g faults
    → AreComplete (given_sets g) sizes → IsEnvironment g sizes numbers e
    → AreClear (spellings e.globals) e.sizes
clear_at source g faults sizes numbers e checks complete is =
    subst (λ h. AreClear (spellings h) e.sizes) (sym is.0) (globals_clear checks.boxes source g faults sizes numbers e checks.reads checks.judged complete is)

-- where spellings are clear a text names one row
pub one_named_row : (e : Environment) (comps : List Comp) (text : Option (List ℕ)) (one two : Option (List Value)) → AreClear (spellings e.globals) e.sizes
    → IsNamedRow e comps text one → IsNamedRow e comps text two → one ≡ two
one_named_row e comps None one two clear p q = p ∙ sym q
one_named_row e comps (Some text) None two clear p q = absurd p
one_named_row e comps (Some text) (Some x) None clear p q = absurd q
one_named_row e comps (Some text) (Some x) (Some y) clear p q = ap Some (one_row Lines (spellings e.globals) e clear comps x y p.0 q.0 (sym p.1 ∙ q.1))

-- the components of a schema that a text defines have clear names
pub names_at : (source : List ℕ) (g : List Defined) (faults : List Fault) (name : List ℕ) (a : Schema) → Checks source g faults → IsNamed g name a → HaveClearNames a.comps
names_at source g faults name a checks named =
    components_clear source g a (record { boxes = checks.boxes; faults = faults; place = named.0; name = name; reads = checks.reads; checked = checks.judged; there = named.1 })

-- so a text holds one list of values
pub one_held : (e : Environment) (comps : List Comp) (text : Option (List ℕ)) (one two : List (Option Value)) → AreClear (spellings e.globals) e.sizes → HaveClearNames comps
    → AreHeld e comps text one → AreHeld e comps text two → one ≡ two
one_held e comps None one two clear names p q = p ∙ sym q
one_held e comps (Some text) one two clear names p q =
    one_held_line (spellings e.globals) e comps text one two clear names p q

-- ---- declared sets

-- there is one first component with a declared set that is out
pub one_first_out : (e : Environment) (comps : List Comp) (i j : ℕ) → IsFirstOut e comps i → IsFirstOut e comps j → i ≡ j
one_first_out e comps i j p q = elim (cases_order i j) [
  | inl e ↦ e
  | inr (inl l) ↦ absurd (q.first i l p.here)
  | inr (inr l) ↦ absurd (p.first j l q.here)
]

-- ---- the events

-- they are those of any ranges of the components
pub listed_in : (e : Environment) (a : Schema) (p : Portion) (ranges : List (List Value)) → AreRanges e a.comps p.held ranges
    → (last : Option (List Value)) (xs : List (Event Value)) → HasEvents e a p last xs
    → AreEventsUpTo value_order (property e a.conjuncts) ranges p.after last xs
listed_in e a p ranges are last xs h =
    subst (λ rs. AreEventsUpTo value_order (property e a.conjuncts) rs p.after last xs) (one_ranges e a p.held h.ranges ranges h.of_components are) h.listed

pub one_search : (e : Environment) (a : Schema) (p : Portion) (telling : Wording Value) (limit : Option ℕ) (xs ys : List (Event Value)) (last other_last : Option (List Value))
    (text other : List ℕ) (status other_status : Status)
    → HasEvents e a p last xs → HasEvents e a p other_last ys → IsWritten telling limit xs last text status
    → IsWritten telling limit ys other_last other other_status → AreOneEnd telling limit last other_last text other status other_status
one_search e a p telling limit xs ys last other_last text other status other_status h k w v =
    one_ending value_order total-law exact (property e a.conjuncts) (property_told e a.conjuncts) h.ranges p.after telling limit xs ys last other_last text other status other_status
    h.listed (listed_in e a p h.ranges h.of_components other_last ys k) w v

-- ---- the tests

one_number : (e : Environment) (a : Schema) (p : Portion) (whole : Option (List Value)) (m n : ℕ) → AreTests e a p whole m → AreTests e a p whole n → m ≡ n
one_number e a p whole m n h k =
    let same : k.ranges ≡ h.ranges = one_ranges e a p.held k.ranges h.ranges k.of_components h.of_components in
    let counted : IsNumberOfTests value_order (property e a.conjuncts) h.ranges p.after whole n =
    subst (λ ranges. IsNumberOfTests value_order (property e a.conjuncts) ranges p.after whole n) same k.counted in
    let P : List Value × ℕ → Type 0 = λ pair. IsWalked value_order (property e a.conjuncts) h.ranges p.after pair × IsUpTo value_order whole pair.0 in
    let le = number-le P P m n h.counted counted (λ x w. w) in
    let ge = number-le P P n m counted h.counted (λ x w. w) in
    omega (arith, le, ge)

-- the line of the number of tests is one
one_tests_line : (telling : Wording Value) (tests : Bool) (e : Environment) (a : Schema) (p : Portion) (whole : Option (List Value)) (one two : List ℕ)
    → IsTestsLine telling tests e a p whole one → IsTestsLine telling tests e a p whole two → one ≡ two
one_tests_line telling false e a p whole one two h k = h ∙ sym k
one_tests_line telling true e a p whole one two h k = h.2 ∙ ap (λ n. telling.tests (cut n)) (one_number e a p whole h.0 k.0 h.1 k.1) ∙ sym k.2

-- ---- the answer

-- events are shown in one way
pub one_shown : (r : Request) (g : List Defined) (a : Schema) (e : Environment) (p : Portion) (one two : List ℕ) (s t : Status)
    → ShowsEvents r g a e p one s → ShowsEvents r g a e p two t → (one ≡ two) × (s ≡ t)
one_shown r g a e p one two s t x y =
    let end = one_search e a p (wording r g a) r.limit x.events y.events x.last y.last x.lines y.lines s t x.listed y.listed x.ends y.ends in
    let counted = one_tests_line (wording r g a) r.tests e a p y.last x.counted y.counted (subst (λ last. IsTestsLine (wording r g a) r.tests e a p last x.counted) end.lasts x.numbered) y.numbered in
    (x.whole ∙ ap (λ l. l ++ x.counted) end.texts ∙ ap (λ c. y.lines ++ c) counted ∙ sym y.whole, end.statuses)
