-- The machine's searches, before and after its steps.
use Rattle.zf_steps.proofs.Prelude.{◌+◌, ◌<◌, ◌∙◌, ◌≡◌, [], arith, Bool, Err, IfOk, length, List, map, Ok, OnOk, Option, refl, Result, Some, subst, sym, ℕ, length-map, slice_get, slice_index_or, slice_set, at_map, one_some, AreFirst, Explored, Turn, Environment, AdvancesTo, HasFewer, Schema, Value, value_order, AllPairs-nil, Contains-nil, ComesAfter, Event, Stage, Label, Node, Root, State, BeginsFor, exploration, Fits, GoesOn, HasFound, HasPart, HasPassed, held_by, number_of, parts_of, rows_ahead, rows_ahead_at, search_of, searched, Stands, System}
use Rattle.zf_reach.specs.declared.machine.Found.{Found}
use Rattle.zf_reach.specs.declared.machine.Found.TheVariants.{Edge, Out, Over}
use Rattle.zf_steps.proofs.Fitting.{another, for_at, same_length, set_at, stands_at}
use Rattle.zf_steps.proofs.Searching.{started}
use Rattle.zf_steps.specs.declared.cursor.Part.{Part}
use Rattle.zf_steps.specs.declared.cursor.Part.TheVariants.{Initial, Operation}
use Rattle.zf_steps.specs.Systems as systems

-- ---- the turn of what is before the initial states begins

module _ (m : System) (eq : Node → Node → Bool) where
  nothing_first : (o : systems.Operation) → AreFirst (searched m eq) Root o []
  nothing_first o = record {
    ascending = AllPairs-nil (λ (x y : Event Value). ComesAfter value_order x.row y.row);
    are = λ x i. absurd (Contains-nil x i);
    first = λ x y i f c. absurd (Contains-nil x i);
  }

-- ---- the searches fit

module _ {S : Type 0} (IsFor : S → Environment → Schema
    → Type 0) (m : System) (state init : S) (operations : List S) (part : Part) (h : Fits IsFor m state init operations part) where
  pub fits_operation : (place : ℕ) (old s : S) (now : Part) → HasPart m now → slice_get operations place ≡ Some old
      → ((e : Environment) (a : Schema) → IsFor old e a → IsFor s e a)
      → Fits IsFor m state init (slice_set operations place s) now
  fits_operation place old s now has at kept = record {
    of_state = h.of_state;
    of_init = h.of_init;
    of_operations = another IsFor m.environment (map (λ o. o.schema) m.operations) operations place old s at (kept m.environment) h.of_operations;
    has_part = has;
  }

  -- there are as many as operations
  pub as_many : length operations ≡ length m.operations
  as_many = same_length IsFor m.environment (map (λ o. o.schema) m.operations) operations h.of_operations
      ∙ length-map m.operations (λ (o : systems.Operation). o.schema)

  -- the search of an operation is for its schema
  pub of_operation : (place : ℕ) (s : S) (o : systems.Operation) → slice_get operations place ≡ Some s → slice_get m.operations place ≡ Some o
      → IsFor s m.environment o.schema
  of_operation place s o at is = for_at IsFor m.environment (map (λ o. o.schema) m.operations) operations place s o.schema h.of_operations at
      (at_map (λ o. o.schema) m.operations place o is)

-- what is said of where a search stands may be said otherwise
pub advances_as : {N L : Type 0} (p : Explored N L) (f : Found N L) (of : N) (now : Turn N L) (P Q H K : Turn N L → Type 0) (stop : List ℕ)
    → ((t : Turn N L) → P t → Q t) → (H now → K now) → AdvancesTo p f of now P H stop → AdvancesTo p f of now Q K stop
advances_as p (Edge label to) of now P Q H K stop f g h = (f _ h.0, h.1)
advances_as p Over of now P Q H K stop f g h = g h
advances_as p Out of now P Q H K stop f g h = h

-- ---- results

pub always_on_ok : {T E : Type 0} (r : Result T E) {P : Type 0} → P → OnOk r P
always_on_ok (Ok x) p = p
always_on_ok (Err e) p = tt

pub weaker_if_ok : {T E : Type 0} (r : Result T E) {P Q : T → Type 0} → ((x : T) → P x → Q x) → IfOk r P → IfOk r Q
weaker_if_ok (Ok x) f h = f x h
weaker_if_ok (Err e) f h = tt

-- ---- operations by their numbers

pub operation_at : {A : Type 0} (f : A → systems.Operation) (ops : List A) (place : ℕ) (o : A) → place < length (map f ops) → o ≡ slice_index_or ops place o
    → slice_get (map f ops) place ≡ Some (f o)
operation_at f ops place o below is = at_map f ops place o (stands_at ops place o (let same = length-map ops f in omega (arith, below, same)) is)

-- ---- where a search stands

module _ (m : System) (eq : Node → Node → Bool) {S : Type 0} (stage : S → Stage Value) where
  pub stands_root : (s : S) (now : Turn Node Label) → BeginsFor m.environment m.init.schema (held_by m.init.sources []) (stage s) → HasPassed m eq Root 0 now
      → Stands m eq stage Initial (Some s) Root now
  stands_root s now begins passed = record {
    of_node = tt;
    search = s;
    is = refl;
    operation = m.init;
    found = started m eq Root 0 m.init
        (stage s) now refl begins passed;
  }

  pub stands_state : (values : List Value) (which : ℕ) (o : systems.Operation) (found : Option S) (s : S) (now : Turn Node Label)
      → slice_get m.operations which ≡ Some o → found ≡ Some s
      → BeginsFor m.environment o.schema (held_by o.sources values) (stage s) → HasPassed m eq (State values) which now
      → Stands m eq stage (Operation which) found (State values) now
  stands_state values which o found s now at is begins passed = record {
    of_node = tt;
    search = s;
    is = is;
    operation = o;
    found = started m eq
        (State values) which o (stage s) now at begins passed;
  }

  -- the same at the node that it is for
  pub stands_initial : (of : Node) (which : ℕ) → of ≡ Root → which < length (parts_of m of) → (s : S)
      → BeginsFor m.environment m.init.schema (held_by m.init.sources []) (stage s)
      → (now : Turn Node Label) → HasPassed m eq of which now → Stands m eq stage Initial (Some s) of now
  stands_initial of which is below s begins =
      subst (λ a. which < length (parts_of m a) → (now : Turn Node Label) → HasPassed m eq a which now → Stands m eq stage Initial (Some s) a now) (sym is)
      (λ l now passed. let first : which ≡ 0 = only which l in stands_root s now begins (subst (λ n. HasPassed m eq Root n now) first passed)) below
    where
      only : (n : ℕ) → n < 1 → n ≡ 0
      only n l = omega (arith, l)

  pub stands_operation : (of : Node) (values : List Value) (which : ℕ) → of ≡ State values → (o : systems.Operation) → slice_get m.operations which ≡ Some o
      → (operations : List S) → which < length operations → (s : S) → BeginsFor m.environment o.schema (held_by o.sources values) (stage s)
      → (now : Turn Node Label) → HasPassed m eq of which now → Stands m eq stage (Operation which) (slice_get (slice_set operations which s) which) of now
  stands_operation of values which is o at operations below s begins =
      subst (λ a. (now : Turn Node Label) → HasPassed m eq a which now
      → Stands m eq stage (Operation which) (slice_get (slice_set operations which s) which) a now) (sym is)
      (λ now passed. stands_state values which o (slice_get (slice_set operations which s) which) s now at (set_at operations which s below) begins passed)

  -- and goes on
  module _ (old new : S) (f : Found Node Label) (stop : List ℕ) where
    pub advances_root : GoesOn m eq 0 m.init (stage old) (stage new) f stop → (of : Node) (now : Turn Node Label) → Stands m eq stage Initial (Some old) of now
        → AdvancesTo (exploration m eq) f of now (Stands m eq stage Initial (Some new) of) (HasPassed m eq of (0 + 1)) stop
    advances_root goes Root now h =
        let same : old ≡ h.search = one_some old h.search h.is in
        let o : m.init ≡ h.operation = one_some m.init h.operation h.found.stands in
        let found : HasFound m eq Root 0 m.init (stage old) now =
        subst (λ s. HasFound m eq Root 0 m.init (stage s) now) (sym same) (subst (λ p. HasFound m eq Root 0 p (stage h.search) now) (sym o) h.found) in
        advances_as (exploration m eq) f Root now (HasFound m eq Root 0 m.init (stage new)) (Stands m eq stage Initial (Some new) Root)
        (HasPassed m eq Root (0 + 1)) (HasPassed m eq Root (0 + 1)) stop
        (λ t k. record { of_node = tt; search = new; is = refl; operation = m.init; found = k }) (λ p. p) (goes Root now found)
    advances_root goes (State values) now h = absurd h.of_node

    pub advances_state : (number : ℕ) (o : systems.Operation) (before after : Option S) → slice_get m.operations number ≡ Some o → before ≡ Some old
        → after ≡ Some new
        → GoesOn m eq number o (stage old) (stage new) f stop → (of : Node) (now : Turn Node Label) → Stands m eq stage (Operation number) before of now
        → AdvancesTo (exploration m eq) f of now (Stands m eq stage (Operation number) after of) (HasPassed m eq of (number + 1)) stop
    advances_state number o before after at was is goes Root now h = absurd h.of_node
    advances_state number o before after at was is goes (State values) now h =
        let same : old ≡ h.search = one_some old h.search (sym was ∙ h.is) in
        let here : o ≡ h.operation = one_some o h.operation (sym at ∙ h.found.stands) in
        let found : HasFound m eq (State values) number o (stage old) now =
        subst (λ s. HasFound m eq (State values) number o (stage s) now) (sym same)
        (subst (λ p. HasFound m eq (State values) number p (stage h.search) now) (sym here) h.found) in
        advances_as (exploration m eq) f (State values) now (HasFound m eq (State values) number o (stage new))
        (Stands m eq stage (Operation number) after (State values))
        (HasPassed m eq (State values) (number + 1)) (HasPassed m eq (State values) (number + 1)) stop
        (λ t k. record { of_node = tt; search = new; is = is; operation = o; found = k }) (λ p. p) (goes (State values) now found)

    -- the same by the part that is searched
    pub advances_initial : (part : Part) (operations : List S) → part ≡ Initial → GoesOn m eq 0 m.init (stage old) (stage new) f stop
        → (of : Node) (now : Turn Node Label) → Stands m eq stage part (search_of part old operations) of now
        → AdvancesTo (exploration m eq) f of now (Stands m eq stage part (search_of part new operations) of) (HasPassed m eq of (number_of part + 1)) stop
    advances_initial part operations is goes =
        subst (λ p. (of : Node) (now : Turn Node Label) → Stands m eq stage p (search_of p old operations) of now
        → AdvancesTo (exploration m eq) f of now (Stands m eq stage p (search_of p new operations) of) (HasPassed m eq of (number_of p + 1)) stop) (sym is)
        (advances_root goes)

    pub advances_operation : (part : Part) (number : ℕ) (o : systems.Operation) (init : S) (operations : List S) → part ≡ Operation number
        → slice_get m.operations number ≡ Some o
        → slice_get operations number ≡ Some old → number < length operations → GoesOn m eq number o (stage old) (stage new) f stop
        → (of : Node) (now : Turn Node Label) → Stands m eq stage part (search_of part init operations) of now
        → AdvancesTo (exploration m eq) f of now (Stands m eq stage part (search_of part init (slice_set operations number new)) of)
        (HasPassed m eq of (number_of part + 1)) stop
    advances_operation part number o init operations is at was below goes =
        subst (λ p. (of : Node) (now : Turn Node Label) → Stands m eq stage p (search_of p init operations) of now
        → AdvancesTo (exploration m eq) f of now (Stands m eq stage p (search_of p init (slice_set operations number new)) of)
        (HasPassed m eq of (number_of p + 1)) stop) (sym is)
        (advances_state number o (slice_get operations number) (slice_get (slice_set operations number new) number) at was
        (set_at operations number new below) goes)

    pub fewer_operation : (part : Part) (number : ℕ) (init : S) (operations : List S) → part ≡ Operation number → slice_get operations number ≡ Some old
        → number < length operations
        → HasFewer f (rows_ahead (stage old)) (rows_ahead (stage new))
        → HasFewer f (rows_ahead_at stage (search_of part init operations)) (rows_ahead_at stage (search_of part init (slice_set operations number new)))
    fewer_operation part number init operations is was below h =
        subst (λ p. HasFewer f (rows_ahead_at stage (search_of p init operations)) (rows_ahead_at stage (search_of p init (slice_set operations number new))))
        (sym is)
        (subst (λ o. HasFewer f (rows_ahead_at stage o) (rows_ahead_at stage (slice_get (slice_set operations number new) number))) (sym was)
        (subst (λ o. HasFewer f (rows_ahead (stage old)) (rows_ahead_at stage o)) (sym (set_at operations number new below)) h))
