-- Schemas make a machine, or one of them is the first that lacks a component, and one component the first that it lacks.
use Rattle.law_answered.proofs.Prelude.{◌∙◌, ◌∷◌, ◌≡◌, ◌⊎◌, [], ap, inl, inr, List, map, None, Option, refl, Some, subst, sym, ℕ, AllByRecursion, Comp, Environment, same_Some, Schema, Allows, AllowsAll, AllowsSought, CanBeInitial, CanStep, FirstFails, Form, Has, HasAll, HasShape, IsInit, IsMachineOf, Lacks, LacksBehind, LacksFirst, LacksInit, LacksStep, LacksStepFirst, Named, Operation, Schemas, SoughtLacks, Spelling, StateClashes, System, are_after, both_states, first_named, init_in, meant_in, names_any, operation_in, place_of, state_of, test_in, test_of, with_strokes}
use Rattle.law_decided.proofs.Decided.{same_type}
use Rattle.std.proofs.Common.{◌&&◌, ◌||◌, Bool, false, if◌then◌else◌, is_some, not, option_map, true, true≢false}
use Rattle.std.proofs.lemmas.Bool.{and_right}

-- ---- the first that fails

module _ {A : Type 0} (Passes : A → Type 0) where
  pub not_all_and_first : (Fails : A → Type 0) → ((x : A) → Fails x → Passes x → ⊥) → (xs : List A) → AllByRecursion Passes xs → FirstFails Passes Fails xs → ⊥
  not_all_and_first Fails apart [] all fails = fails
  not_all_and_first Fails apart (x ∷ xs) all (inl fails) = apart x fails all.0
  not_all_and_first Fails apart (x ∷ xs) all (inr (passes, fails)) = not_all_and_first Fails apart xs all.1 fails

  -- of two that fail first, both are one
  pub one_first : {R : Type 0} (F G : A → Type 0) → ((x : A) → F x → Passes x → ⊥) → ((x : A) → G x → Passes x → ⊥) → ((x : A) → F x → G x → R) → (xs : List A)
      → FirstFails Passes F xs → FirstFails Passes G xs → R
  one_first F G f_apart g_apart join [] f g = absurd f
  one_first F G f_apart g_apart join (x ∷ xs) (inl f) (inl g) = join x f g
  one_first F G f_apart g_apart join (x ∷ xs) (inl f) (inr (passes, g)) = absurd (f_apart x f passes)
  one_first F G f_apart g_apart join (x ∷ xs) (inr (passes, f)) (inl g) = absurd (g_apart x g passes)
  one_first F G f_apart g_apart join (x ∷ xs) (inr (passes, f)) (inr (_, g)) = one_first F G f_apart g_apart join xs f g

  -- all pass, or one fails first, with what is reported of it
  pub all_or_first : {B : Type 0} (Fails : B → A → Type 0) → ((x : A) → Passes x ⊎ ((b : B) × Fails b x)) → (xs : List A) → AllByRecursion Passes xs ⊎ ((b : B) × FirstFails Passes (Fails b) xs)
  all_or_first Fails judged [] = inl tt
  all_or_first {B} Fails judged (x ∷ xs) = by (judged x) (all_or_first Fails judged xs)
    where
      by : Passes x ⊎ ((b : B) × Fails b x) → AllByRecursion Passes xs ⊎ ((b : B) × FirstFails Passes (Fails b) xs) → AllByRecursion Passes (x ∷ xs) ⊎ ((b : B) × FirstFails Passes (Fails b) (x ∷ xs))
      by (inr fails) others = inr (fails.0, inl fails.1)
      by (inl passes) (inl all) = inl (passes, all)
      by (inl passes) (inr fails) = inr (fails.0, inr (passes, fails.1))

-- ---- components that are there, and the first that is not

has_or_not : (comps : List Comp) (c : Comp) → Has comps c ⊎ (Has comps c → ⊥)
has_or_not comps c = by (first_named (λ d. d.name) c.name comps) refl
  where
    by : (o : Option (ℕ × Comp)) → first_named (λ d. d.name) c.name comps ≡ o → Has comps c ⊎ (Has comps c → ⊥)
    by None none = inr (λ h. let z : None ≡ Some (h.place, h.component) = sym none ∙ h.named in cc)
    by (Some p) found = elim (same_type p.1.type c.type) [
      | inl same ↦ inl (record { place = p.0; component = p.1; named = found; typed = same })
      | inr other ↦ inr (λ h. other (ap (λ (q : ℕ × Comp). q.1.type) (same_Some p (h.place, h.component) (sym found ∙ h.named)) ∙ h.typed))
    ]

all_or_lack : (comps wanted : List Comp) → HasAll comps wanted ⊎ ((name : List ℕ) × Lacks comps wanted name)
all_or_lack comps [] = inl tt
all_or_lack comps (c ∷ cs) = by (has_or_not comps c) (all_or_lack comps cs)
  where
    by : Has comps c ⊎ (Has comps c → ⊥) → HasAll comps cs ⊎ ((name : List ℕ) × Lacks comps cs name) → HasAll comps (c ∷ cs) ⊎ ((name : List ℕ) × Lacks comps (c ∷ cs) name)
    by (inr none) others = inr (c.name, inl (none, refl))
    by (inl h) (inl all) = inl (h, all)
    by (inl h) (inr lacks) = inr (lacks.0, inr (h, lacks.1))

not_all_and_lack : (comps wanted : List Comp) (name : List ℕ) → HasAll comps wanted → Lacks comps wanted name → ⊥
not_all_and_lack comps [] name all lacks = lacks
not_all_and_lack comps (c ∷ cs) name all (inl lacks) = lacks.0 all.0
not_all_and_lack comps (c ∷ cs) name all (inr lacks) = not_all_and_lack comps cs name all.1 lacks.1

one_lack : (comps wanted : List Comp) (x y : List ℕ) → Lacks comps wanted x → Lacks comps wanted y → x ≡ y
one_lack comps [] x y p q = absurd p
one_lack comps (c ∷ cs) x y (inl p) (inl q) = p.1 ∙ sym q.1
one_lack comps (c ∷ cs) x y (inl p) (inr q) = absurd (p.0 q.0)
one_lack comps (c ∷ cs) x y (inr p) (inl q) = absurd (q.0 p.0)
one_lack comps (c ∷ cs) x y (inr p) (inr q) = one_lack comps cs x y p.1 q.1

-- ---- components at the same types, and the first at another one

allows_or_not : (comps : List Comp) (c : Comp) → Allows comps c ⊎ (Allows comps c → ⊥)
allows_or_not comps c = by (first_named (λ d. d.name) c.name comps) refl
  where
    by : (o : Option (ℕ × Comp)) → first_named (λ d. d.name) c.name comps ≡ o → Allows comps c ⊎ (Allows comps c → ⊥)
    by None none = inl (λ place component found. let z : None ≡ Some (place, component) = sym none ∙ found in cc)
    by (Some p) found = elim (same_type p.1.type c.type) [
      | inl same ↦ inl (λ place component also. subst (λ (q : ℕ × Comp). q.1.type ≡ c.type) (same_Some p (place, component) (sym found ∙ also)) same)
      | inr other ↦ inr (λ h. other (h p.0 p.1 found))
    ]

all_or_clash : (comps state : List Comp) → AllowsAll comps state ⊎ ((name : List ℕ) × StateClashes comps state name)
all_or_clash comps [] = inl tt
all_or_clash comps (c ∷ cs) = by (allows_or_not comps c) (all_or_clash comps cs)
  where
    by : Allows comps c ⊎ (Allows comps c → ⊥) → AllowsAll comps cs ⊎ ((name : List ℕ) × StateClashes comps cs name) → AllowsAll comps (c ∷ cs) ⊎ ((name : List ℕ) × StateClashes comps (c ∷ cs) name)
    by (inr clash) others = inr (c.name, inl (clash, refl))
    by (inl h) (inl all) = inl (h, all)
    by (inl h) (inr clashes) = inr (clashes.0, inr (h, clashes.1))

not_all_and_clash : (comps state : List Comp) (name : List ℕ) → AllowsAll comps state → StateClashes comps state name → ⊥
not_all_and_clash comps [] name all clashes = clashes
not_all_and_clash comps (c ∷ cs) name all (inl clash) = clash.0 all.0
not_all_and_clash comps (c ∷ cs) name all (inr clashes) = not_all_and_clash comps cs name all.1 clashes.1

one_clash : (comps state : List Comp) (x y : List ℕ) → StateClashes comps state x → StateClashes comps state y → x ≡ y
one_clash comps [] x y p q = absurd p
one_clash comps (c ∷ cs) x y (inl p) (inl q) = p.1 ∙ sym q.1
one_clash comps (c ∷ cs) x y (inl p) (inr q) = absurd (p.0 q.0)
one_clash comps (c ∷ cs) x y (inr p) (inl q) = absurd (q.0 p.0)
one_clash comps (c ∷ cs) x y (inr p) (inr q) = one_clash comps cs x y p.1 q.1

-- ---- what is sought

sought_or_lacks : (state : List Comp) (o : Option Named) → AllowsSought state o ⊎ ((name component : List ℕ) × SoughtLacks state o name component)
sought_or_lacks state None = inl tt
sought_or_lacks state (Some o) = elim (all_or_clash o.schema.comps state) [
  | inl all ↦ inl all
  | inr clashes ↦ inr (o.name, clashes.0, (refl, clashes.1))
]

not_allowed_and_lacks : (state : List Comp) (o : Option Named) (name component : List ℕ) → AllowsSought state o → SoughtLacks state o name component → ⊥
not_allowed_and_lacks state None name component allows lacks = lacks
not_allowed_and_lacks state (Some o) name component allows lacks = not_all_and_clash o.schema.comps state component allows lacks.1

one_sought_lack : (state : List Comp) (o : Option Named) (n c m d : List ℕ) → SoughtLacks state o n c → SoughtLacks state o m d → (n ≡ m) × (c ≡ d)
one_sought_lack state None n c m d x y = absurd x
one_sought_lack state (Some o) n c m d x y = (x.0 ∙ sym y.0, one_clash o.schema.comps state c d x.1 y.1)

-- ---- schemas that make a machine

-- one of two lists of components lacks one where both do
lack_of_either : (comps left right : List Comp) (b : Bool) → ((name : List ℕ) × Lacks comps left name) → ((name : List ℕ) × Lacks comps right name)
    → (name : List ℕ) × Lacks comps (if b then left else right) name
lack_of_either comps left right true one other = one
lack_of_either comps left right false one other = other

initial_or_lack : (state : List Comp) (a : Schema) → CanBeInitial state a ⊎ ((name : List ℕ) × LacksInit state a name)
initial_or_lack state a = by (all_or_lack a.comps (with_strokes state)) (all_or_lack a.comps state)
  where
    by : HasAll a.comps (with_strokes state) ⊎ ((name : List ℕ) × Lacks a.comps (with_strokes state) name) → HasAll a.comps state ⊎ ((name : List ℕ) × Lacks a.comps state name)
        → CanBeInitial state a ⊎ ((name : List ℕ) × LacksInit state a name)
    by (inl all) others = inl (inl all)
    by (inr lacks) (inl all) = inl (inr all)
    by (inr lacks) (inr others) =
        let meant = lack_of_either a.comps (with_strokes state) state (are_after state a.comps) lacks others in
        inr (meant.0, ((λ all. not_all_and_lack a.comps (with_strokes state) lacks.0 all lacks.1), meant.1))

-- what has all components of the state is not read as one that lacks some with a stroke
all_named : (comps state : List Comp) → HasAll comps state → (names_any comps (with_strokes state) && not (names_any comps state)) ≡ true → ⊥
all_named comps [] all after = true≢false (sym after)
all_named comps (c ∷ cs) all after =
    let there : place_of comps c.name ≡ Some all.0.place = ap (option_map (λ (p : ℕ × Comp). p.0)) all.0.named in
    let named : names_any comps (c ∷ cs) ≡ true = ap (λ (p : Option ℕ). is_some p || names_any comps cs) there in
    let none : (names_any comps (with_strokes (c ∷ cs)) && not (names_any comps (c ∷ cs))) ≡ false = and_right (names_any comps (with_strokes (c ∷ cs))) (not (names_any comps (c ∷ cs))) (ap not named) in
    true≢false (sym after ∙ none)

not_initial_and_lack : (state : List Comp) (a : Schema) (name : List ℕ) → CanBeInitial state a → LacksInit state a name → ⊥
not_initial_and_lack state a name (inl all) lacks = lacks.0 all
not_initial_and_lack state a name (inr all) lacks = by (are_after state a.comps) refl lacks.1 where
  by : (b : Bool) → are_after state a.comps ≡ b → Lacks a.comps (if b then with_strokes state else state) name → ⊥
  by true after meant = all_named a.comps state all after
  by false after meant = not_all_and_lack a.comps state name all meant

steps_or_lack : (state : List Comp) (o : Named) → CanStep state o ⊎ ((b : List ℕ × List ℕ) × ((b.0 ≡ o.name) × LacksStep state o.schema b.1))
steps_or_lack state o = elim (all_or_lack o.schema.comps (both_states state)) [
  | inl all ↦ inl all
  | inr lacks ↦ inr ((o.name, lacks.0), (refl, lacks.1))
]

pub shape_or_lack : (p : Schemas) → HasShape p ⊎ ((name component : List ℕ) × LacksFirst p name component)
shape_or_lack p = by (initial_or_lack (state_of p) p.init.schema)
    (all_or_first (CanStep (state_of p)) (λ (b : List ℕ × List ℕ) o. (b.0 ≡ o.name) × LacksStep (state_of p) o.schema b.1) (steps_or_lack (state_of p)) p.operations)
    (sought_or_lacks (state_of p) p.sought)
  where
    by : CanBeInitial (state_of p) p.init.schema ⊎ ((name : List ℕ) × LacksInit (state_of p) p.init.schema name)
        → AllByRecursion (CanStep (state_of p)) p.operations ⊎ ((b : List ℕ × List ℕ) × LacksStepFirst (state_of p) p.operations b.0 b.1)
        → AllowsSought (state_of p) p.sought ⊎ ((name component : List ℕ) × SoughtLacks (state_of p) p.sought name component)
        → HasShape p ⊎ ((name component : List ℕ) × LacksFirst p name component)
    by (inr lacks) others sought = inr (p.init.name, lacks.0, inl (refl, lacks.1))
    by (inl init) (inr lacks) sought = inr (lacks.0.0, lacks.0.1, inr (init, inl lacks.1))
    by (inl init) (inl all) (inr lacks) = inr (lacks.0, lacks.1, inr (init, inr (all, lacks.2)))
    by (inl init) (inl all) (inl allows) = inl (record { init = init; operations = all; sought = allows })

module _ (p : Schemas) where
  step_apart : (name component : List ℕ) (o : Named) → (name ≡ o.name) × LacksStep (state_of p) o.schema component → CanStep (state_of p) o → ⊥
  step_apart name component o lacks can = not_all_and_lack o.schema.comps (both_states (state_of p)) component can lacks.1

  pub not_shape_and_lack : (name component : List ℕ) → HasShape p → LacksFirst p name component → ⊥
  not_shape_and_lack name component shape (inl lacks) = not_initial_and_lack (state_of p) p.init.schema component shape.init lacks.1
  not_shape_and_lack name component shape (inr (init, inl lacks)) =
      not_all_and_first (CanStep (state_of p)) (λ o. (name ≡ o.name) × LacksStep (state_of p) o.schema component) (step_apart name component) p.operations shape.operations lacks
  not_shape_and_lack name component shape (inr (init, inr lacks)) = not_allowed_and_lacks (state_of p) p.sought name component shape.sought lacks.1

  one_behind : (n c m d : List ℕ) → LacksBehind (state_of p) p n c → LacksBehind (state_of p) p m d → (n ≡ m) × (c ≡ d)
  one_behind n c m d (inl x) (inl y) =
      one_first (CanStep (state_of p)) (λ o. (n ≡ o.name) × LacksStep (state_of p) o.schema c) (λ o. (m ≡ o.name) × LacksStep (state_of p) o.schema d) (step_apart n c) (step_apart m d)
      (λ o f g. (f.0 ∙ sym g.0, one_lack o.schema.comps (both_states (state_of p)) c d f.1 g.1)) p.operations x y
  one_behind n c m d (inl x) (inr y) =
      absurd (not_all_and_first (CanStep (state_of p)) (λ o. (n ≡ o.name) × LacksStep (state_of p) o.schema c) (step_apart n c) p.operations y.0 x)
  one_behind n c m d (inr x) (inl y) =
      absurd (not_all_and_first (CanStep (state_of p)) (λ o. (m ≡ o.name) × LacksStep (state_of p) o.schema d) (step_apart m d) p.operations x.0 y)
  one_behind n c m d (inr x) (inr y) = one_sought_lack (state_of p) p.sought n c m d x.1 y.1

  pub one_lacking : (n c m d : List ℕ) → LacksFirst p n c → LacksFirst p m d → (n ≡ m) × (c ≡ d)
  one_lacking n c m d (inl x) (inl y) = (x.0 ∙ sym y.0, one_lack p.init.schema.comps (meant_in (state_of p) p.init.schema.comps) c d x.1.1 y.1.1)
  one_lacking n c m d (inl x) (inr y) = absurd (not_initial_and_lack (state_of p) p.init.schema c y.0 x.1)
  one_lacking n c m d (inr x) (inl y) = absurd (not_initial_and_lack (state_of p) p.init.schema d x.0 y.1)
  one_lacking n c m d (inr x) (inr y) = one_behind n c m d x.1 y.1

-- ---- the machine

some_init : (state : List Comp) (name : List ℕ) (a : Schema) → CanBeInitial state a → (o : Operation) × IsInit state name a o
some_init state name a can = by (all_or_lack a.comps (with_strokes state)) can
  where
    by : HasAll a.comps (with_strokes state) ⊎ ((lacking : List ℕ) × Lacks a.comps (with_strokes state) lacking) → CanBeInitial state a → (o : Operation) × IsInit state name a o
    by (inl all) can = (init_in (with_strokes state) name a, inl (all, refl))
    by (inr lacks) (inl all) = absurd (not_all_and_lack a.comps (with_strokes state) lacks.0 all lacks.1)
    by (inr lacks) (inr all) = (init_in state name a, inr ((λ strokes. not_all_and_lack a.comps (with_strokes state) lacks.0 strokes lacks.1), all, refl))

pub some_machine : (e : Environment) (elements : List Spelling) (form : Form) (p : Schemas) → HasShape p → (m : System) × IsMachineOf e elements form p m
some_machine e elements form p shape =
    let init = some_init (state_of p) p.init.name p.init.schema shape.init in (
      record {
        environment = e;
        elements = elements;
        form = form;
        state = p.state.schema;
        test = test_in (state_of p) (test_of p).name (test_of p).schema;
        init = init.0;
        operations = map (λ o. operation_in (state_of p) o.name o.schema) p.operations;
      },
      record { environment = refl; spelled = refl; formed = refl; state = refl; test = refl; init = init.1; operations = refl },
    )
