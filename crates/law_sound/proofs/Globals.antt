-- The outcomes of globals are of their types.
use Rattle.law_sound.proofs.Prelude.{slice_get_within, if◌then◌else◌, ◌+◌, ◌<◌, ◌^◌, ◌∙◌, ◌∷◌, ◌≡◌, [], add-one, ap, arith, Bool, false, length, List, map, None, Option, refl, Some, subst, suc, sym, take, true, zero, ℕ, none-some, same_Some, bytes_eq, AreElements, Outcome, Is, Undefined, Elem, Value, is_itself, is_same, abbreviation, Comp, constructor, Defined, Definition, free_type, given_set, schema, first_named, later, basic, power, types, typed, Var, types_of, EachOnce, outside, AreDefinedOnce, AreWellTyped, IsMadeAfter, AreElementsIf, before, Context, definition_number, element, Environment, found_number, globally, IsTypeSet, type_number, AreWorkedOut, IsEnvironment, IsOutcomeOf, HasOutcome, AreOfTypes, IsExistingElement, IsFrontOfRow, IsOfType, AddsSize, AreSizes, OutcomesTyped, context, has_elements, nat_lt, next_number, scope, slice_get}
use Rattle.std.proofs.lemmas.List.Sums.{sum_by-cons}
use Rattle.zf_value.specs.Operations as op
use Rattle.zf_meaning.specs.declared.sizes.Size.{Size}
use Rattle.law_sound.proofs.Names.{HasValues, Fits}
use Rattle.law_sound.proofs.OfTypes.{a_set, first_of_types, never_undefined}
use Rattle.law_sound.proofs.Terms.{term_typed}

-- ---- lists

pub in_front : {A : Type 0} (i j : ℕ) (xs : List A) (x : A) → slice_get (take i xs) j ≡ Some x → (j < i) × (slice_get xs j ≡ Some x)
in_front zero j xs x e = absurd (none-some x e)
in_front (suc i) j [] x e = absurd (none-some x e)
in_front (suc i) zero (y ∷ xs) x e = (omega arith, e)
in_front (suc i) (suc j) (y ∷ xs) x e = let ih = in_front i j xs x e in let l = ih.0 in (omega (arith, l), ih.1)

-- what stands in a list of things of names of their own is the first of its name
pub first_at : {A : Type 0} (name : A → List ℕ) (xs : List A) (i : ℕ) (x : A) → EachOnce name xs → slice_get xs i ≡ Some x → first_named name (name x) xs ≡ Some (i, x)
first_at name [] i x once at = absurd (none-some x at)
first_at {A} name (y ∷ xs) zero x once at = go (bytes_eq (name y) (name x)) (subst (λ z. bytes_eq (name y) (name z) ≡ true) (same_Some y x at) (is_itself (name y)))
  where
    go : (b : Bool) → b ≡ true → (if b then Some (0, y) else later (first_named name (name x) xs)) ≡ Some (0, x)
    go true e = ap (λ z. Some (0, z)) (same_Some y x at)
    go false e = absurd (cc)
first_at {A} name (y ∷ xs) (suc i) x once at = go (bytes_eq (name y) (name x)) refl (first_at name xs i x once.1 at)
  where
    go : (b : Bool) → bytes_eq (name y) (name x) ≡ b → first_named name (name x) xs ≡ Some (i, x) → (if b then Some (0, y) else later (first_named name (name x) xs)) ≡ Some (suc i, x)
    go true e found = absurd (none-some (i, x) (sym once.0 ∙ ap (λ n. first_named name n xs) (is_same (name y) (name x) e) ∙ found))
    go false e found = ap later found ∙ ap (λ n. Some (n, x)) (add-one i)

-- ---- the sizes of free types

none_more : (n : ℕ) → 0 + n ≡ n
none_more n = omega arith

one_behind : (k n : ℕ) (later sizes : List ℕ) → sizes ≡ k ∷ later → slice_get sizes (1 + n) ≡ slice_get later n
one_behind k n later sizes e = ap (λ xs. slice_get xs (1 + n)) e ∙ ap (slice_get (k ∷ later)) (let l : 1 + n ≡ suc n = omega arith in l)

none_behind : (n : ℕ) (later sizes : List ℕ) → sizes ≡ later → slice_get sizes (0 + n) ≡ slice_get later n
none_behind n later sizes e = ap (λ xs. slice_get xs (0 + n)) e ∙ ap (slice_get later) (none_more n)

-- what stands after the size of a definition
size_behind : (stated : List Size) (name : List ℕ) (d : Definition) (later sizes : List ℕ) (n : ℕ) → AddsSize stated name d later sizes → slice_get sizes (has_elements d + n) ≡ slice_get later n
size_behind stated name (given_set m) later sizes n h = one_behind h.0 n later sizes h.2
size_behind stated name (free_type m ns) later sizes n h = one_behind (length ns) n later sizes h
size_behind stated name _ later sizes n h = none_behind n later sizes h

pub size_at : (stated : List Size) (g : List Defined) (sizes : List ℕ) (i : ℕ) (name : List ℕ) (n : ℕ) (names : List (List ℕ)) → AreSizes stated g sizes
    → slice_get g i ≡ Some (record { name = name; definition = free_type n names }) → slice_get sizes (next_number (take i g)) ≡ Some (length names)
size_at stated [] sizes i name n names h at = absurd (none-some _ at)
size_at stated (d ∷ g) sizes zero name n names h at = here d (same_Some d _ at) h
  where
    here : (d : Defined) → d ≡ record { name = name; definition = free_type n names } → AreSizes stated (d ∷ g) sizes → slice_get sizes 0 ≡ Some (length names)
    here d e k = ap (λ s. slice_get s 0) (subst (λ (x : Defined). AreSizes stated (x ∷ g) sizes) e k).2
size_at stated (d ∷ g) sizes (suc i) name n names h at =
    ap (slice_get sizes) (sum_by-cons (λ (x : Defined). has_elements x.definition) d (take i g)) ∙ size_behind stated d.name d.definition h.0 sizes (next_number (take i g)) h.2
    ∙ size_at stated g h.0 i name n names h.1 at

-- ---- elements

element_typed : (e : Environment) (name : List ℕ) (n m i : ℕ) (v : Value) → type_number e name ≡ Some n → slice_get e.sizes n ≡ Some m → i < m → v ≡ Elem n i → IsOfType e (basic name) v
element_typed e name n m i v number size l is = subst (λ o. IsExistingElement e o v) (sym number) (m, i, size, l, is)

set_typed : (e : Environment) (name : List ℕ) (n m : ℕ) (v : Value) → type_number e name ≡ Some n → slice_get e.sizes n ≡ Some m → AreElements n m (Is v) → IsOfType e (power (basic name)) v
unfolding AreElements op.IsElement
set_typed e name n m v number size h = a_set e (basic name) (op.IsElement n m) v h (λ z p. element_typed e name n m p.0 z number size p.2 p.1)

-- a set of elements is that of so many as the size says
pub elements_of : (e : Environment) (n : ℕ) (v : Value) → IsTypeSet e n (Is v) → (m : ℕ) × (slice_get e.sizes n ≡ Some m) × AreElements n m (Is v)
elements_of e n v h = go (nat_lt n (2 ^ 32)) (slice_get e.sizes n) h
  where
    go : (b : Bool) (k : Option ℕ) → AreElementsIf n (if b then k else None) (Is v) → (m : ℕ) × (k ≡ Some m) × AreElements n m (Is v)
    go true (Some m) p = (m, refl, p)
    go true None p = never_undefined v p
    go false k p = never_undefined v p

pub type_set_typed : (e : Environment) (name : List ℕ) (n : ℕ) (v : Value) → type_number e name ≡ Some n → IsTypeSet e n (Is v) → IsOfType e (power (basic name)) v
type_set_typed e name n v number h = let (m, size, are) = elements_of e n v h in set_typed e name n m v number size are

is_element : (n i : ℕ) (v : Value) → Is v ≡ element n i → v ≡ Elem n i
is_element n i v h = go (nat_lt n (2 ^ 32)) h
  where
    go : (b : Bool) → Is v ≡ (if b then Is (Elem n i) else Undefined) → v ≡ Elem n i
    go true p = cc
    go false p = never_undefined v p

-- ---- globals

-- the outcomes of the globals before this place are of their types
abbrev AreTypedBelow : Environment → ℕ → Type 0
AreTypedBelow e n = (i : ℕ) (d : Defined) (o : Outcome) → i < n → slice_get e.globals i ≡ Some d → slice_get e.outcomes i ≡ Some o → HasValues e d o

module _ (e : Environment) (stated : List Size) (well : AreWellTyped e.globals) (once : AreDefinedOnce e.globals) (sizes : AreSizes stated e.globals e.sizes) where
  number_of_type : (i : ℕ) (d : Defined) (n : ℕ) → slice_get e.globals i ≡ Some d → definition_number d.definition ≡ Some n → type_number e d.name ≡ Some n
  number_of_type i d n at number = ap found_number (first_at (λ x. x.name) e.globals i d once at) ∙ number

  constructor_typed : (i : ℕ) (name : List ℕ) (n : ℕ) (of_type : List ℕ) (place : ℕ) (v : Value)
      → IsMadeAfter (take i e.globals) name (constructor n of_type place) → Is v ≡ element n place → IsOfType e (basic of_type) v
  constructor_typed i name n of_type place v made h =
      let whole : Defined = record { name = of_type; definition = free_type n made.1 } in
      let there = in_front i made.0 e.globals whole made.2 in
      let number = number_of_type made.0 whole n there.1 refl in
      let size = ap (slice_get e.sizes) (well made.0 whole there.1) ∙ size_at stated e.globals e.sizes made.0 of_type n made.1 sizes there.1 in
      element_typed e of_type n (length made.1) place v number size (slice_get_within made.1 place name made.3) (is_element n place v h)

  fits_before : (n : ℕ) → AreTypedBelow e n → (c : Context) → c.environment.outcomes ≡ take n e.outcomes → c.locals ≡ [] → Fits e (outside (take n e.globals)) c
  fits_before n before c outcomes locals = record {
    globals = λ i d o at there. let p = in_front n i e.globals d at in let q = in_front n i e.outcomes o (subst (λ os. slice_get os i ≡ Some o) outcomes there) in before i d o p.0 p.1 q.1;
    comps = λ i d v at there. absurd (none-some d at);
    locals = locals;
  }

  definition_typed : (i : ℕ) (name : List ℕ) (x : Definition) (o : Outcome) → AreTypedBelow e i
      → slice_get e.globals i ≡ Some (record { name = name; definition = x }) → IsMadeAfter (take i e.globals) name x → IsOutcomeOf (before e i) x o
      → HasValues e (record { name = name; definition = x }) o
  definition_typed i name (given_set n) o ahead at made h v is = type_set_typed e name n v (number_of_type i (record { name = name; definition = given_set n }) n at refl) (subst (IsTypeSet e n) is h)
  definition_typed i name (free_type n names) o ahead at made h v is = type_set_typed e name n v
      (number_of_type i (record { name = name; definition = free_type n names }) n at refl) (subst (IsTypeSet e n) is h)
  definition_typed i name (constructor n of_type place) o ahead at made h v is = constructor_typed i name n of_type place v made (sym is ∙ h)
  definition_typed i name (abbreviation t r x) o ahead at made h v is =
      term_typed e (outside (take i e.globals)) (globally (before e i)) made.0 (typed t) v (fits_before i ahead (globally (before e i)) refl refl) made.1
      (subst (λ q. HasOutcome (globally (before e i)) q (Is v)) made.2 (subst (HasOutcome (globally (before e i)) r) is h))
  definition_typed i name (schema a) o ahead at made h v is = tt

  typed_below : AreWorkedOut e → (n : ℕ) → AreTypedBelow e n
  typed_below worked zero i d o l at there = absurd (omega (arith, l))
  typed_below worked (suc n) i d o l at there =
      let w = worked.1 i d at in
      definition_typed i d.name d.definition o (λ j k q m. typed_below worked n j k q (omega (arith, l, m))) at (well i d at)
      (subst (IsOutcomeOf (before e i) d.definition) (same_Some w.0 o (sym w.1 ∙ there)) w.2)

pub globals_typed : (e : Environment) (g : List Defined) (stated : List Size) (numbers : Option ℕ) → AreWellTyped g → AreDefinedOnce g
    → IsEnvironment g stated numbers e → (i : ℕ) (d : Defined) (o : Outcome) → slice_get g i ≡ Some d → slice_get e.outcomes i ≡ Some o → HasValues e d o
globals_typed e g stated numbers well once h i d o at there =
    typed_below e stated (subst AreWellTyped (sym h.0) well) (subst AreDefinedOnce (sym h.0) once) (subst (λ x. AreSizes stated x e.sizes) (sym h.0) h.1) h.2
    (suc i) i d o (omega arith) (subst (λ x. slice_get x i ≡ Some d) (sym h.0) at) there

-- ---- scopes

row_at : (e : Environment) (cs : List Comp) (vs : List Value) (i : ℕ) (d : Comp) (v : Value)
    → AreOfTypes e (types (map (λ c. c.type) (take (length vs) cs))) vs → slice_get cs i ≡ Some d → slice_get vs i ≡ Some v → IsOfType e d.type v
row_at e cs [] i d v h a b = absurd (none-some v b)
row_at e [] (w ∷ ws) i d v h a b = absurd (none-some d a)
row_at e (c ∷ cs) (w ∷ ws) zero d v h a b =
    subst (λ (x : Comp). IsOfType e x.type v) (same_Some c d a) (subst (IsOfType e c.type) (same_Some w v b) (first_of_types e c.type (types (map (λ c. c.type) (take (length ws) cs))) w ws h).0)
row_at e (c ∷ cs) (w ∷ ws) (suc i) d v h a b = row_at e cs ws i d v (first_of_types e c.type (types (map (λ c. c.type) (take (length ws) cs))) w ws h).1 a b

pub fits_all : (e : Environment) (g : List Defined) (stated : List Size) (numbers : Option ℕ) (n : ℕ) (comps : List Comp) (variables : List Var)
    (row locals : List Value) → AreWellTyped g → AreDefinedOnce g → IsEnvironment g stated numbers e → IsFrontOfRow e comps row
    → AreOfTypes e (types_of variables) locals → Fits e (scope g n comps variables) (context e row locals)
fits_all e g stated numbers n comps variables row locals well once env r l = record {
  globals = λ i d o at there. let p = in_front n i g d at in globals_typed e g stated numbers well once env i d o p.1 there;
  comps = λ i d v at there. row_at e comps row i d v r at there;
  locals = l;
}

pub outcomes_typed : OutcomesTyped
outcomes_typed g stated numbers e n comps variables row locals t u v well once env r l is h =
    term_typed e (scope g n comps variables) (context e row locals) t (typed u) v (fits_all e g stated numbers n comps variables row locals well once env r l) is h
