-- An answer of an exploration by its stages: at each it is refused, or goes on with what the next one stands on; and there is one.
use Rattle.law_answered.proofs.Prelude.{◌∙◌, ◌∷◌, ◌≡◌, ◌⊎◌, [], ap, inl, inr, List, None, Option, refl, Some, subst, sym, ℕ, AllByRecursion, AreComplete, Checks, Defined, Environment, given_sets, IsEnvironment, IsFinite, IsNoneOut, numbers_of, Schema, spellings, stated, Status, AreMessages, AreMessagesAlike, AreSmall, Message, messages_text, AllZip, AreSchemasOf, Exploration, ExplorationAnswer, ExploresMachine, HasInfinite, HasLacking, HasOut, HasSchemas, HasShape, IsBounded, IsOfSchema, IsSchemaOf, IsSettled, LacksSchema, Named, RefusesExploration, Schemas, Seeks, System, TellsFaults, TellsInfinite, TellsMachine, TellsMisfit, TellsNoSchema, TellsNumbers, TellsOut, all_of, ending_status, explored_in, form_of, is_searched_once, is_sure, names_of, no_component, one_machine, option_to_list, result_status, sought_in, states_limit, verdict, words, IsSearchable}
use Rattle.zf_graph.proofs.OneWay.{one_way}
use Rattle.zf_graph.specs.Seeking as seeking
use Rattle.zf_graph.specs.Texts as graph
use Rattle.zf_engine.proofs.Reaching.{all_named, in_order}
use Rattle.law_answered.proofs.Machines.{not_all_and_first, not_shape_and_lack, one_first, one_lacking}
use Rattle.law_answered.proofs.OneSearch.{one_environment_at}
use Rattle.law_answered.proofs.OneSource.{one_checked, one_named}
use Rattle.law_answered.proofs.Refusals.{AreRefusedAlike, bad_request, IfRefused, is_finite, no_misfit, not_out, one_ill, one_infinite, one_large, one_misfit, one_no_schema, one_out, well_typed}
use Rattle.law_answered.proofs.SmallNumbers.{small_not_too_large}

-- what is reported of a machine
abbrev pub Finding : Type 1
Finding = List Defined → Schemas → Environment → List ℕ → Status → Type 0

-- ---- stages, the last one first

module _ (Tells : Finding) (x : Exploration) (file source text : List ℕ) (status : Status) where
  -- the messages of a refusal
  abbrev Refused : (List Message → Status → Type 0) → Type 0
  Refused R = AreMessages x.format file R text status

  abbrev AtSets : List Defined → Schemas → Environment → Type 0
  AtSets g p e = Refused (HasOut e p) ⊎ (AllByRecursion (λ n. IsNoneOut e n.schema.comps) (all_of p) × Tells g p e text status)

  abbrev AtFiniteness : List Defined → Schemas → Type 0
  AtFiniteness g p =
      Refused (HasInfinite x source (numbers_of x.setting) g p)
      ⊎ (AllByRecursion (λ n. IsFinite (numbers_of x.setting) g n.schema) (all_of p) × ((e : Environment) × IsEnvironment g (stated g x.setting) (numbers_of x.setting) e × AtSets g p e))

  abbrev AtSizes : List Defined → Schemas → Type 0
  AtSizes g p = Refused (TellsMisfit x.details g (stated g x.setting)) ⊎ (AreComplete (given_sets g) (stated g x.setting) × AtFiniteness g p)

  abbrev AtNumbers : List Defined → Schemas → Type 0
  AtNumbers g p = Refused (TellsNumbers (numbers_of x.setting)) ⊎ (AreSmall (numbers_of x.setting) × AtSizes g p)

  abbrev AtShape : List Defined → Schemas → Type 0
  AtShape g p = Refused (HasLacking p) ⊎ (HasShape p × AtNumbers g p)

  abbrev pub AtSchemas : List Defined → Type 0
  AtSchemas g = Refused (LacksSchema x g) ⊎ ((p : Schemas) × AreSchemasOf g x p × AtShape g p)

  abbrev pub AtTypes : Type 0
  AtTypes = Refused (TellsFaults x.details source) ⊎ ((g : List Defined) × Checks source g [] × AtSchemas g)

  at_shape : (g : List Defined) (p : Schemas) → HasSchemas x source g p → AtShape g p → AtTypes
  at_shape g p has at = inr (g, has.checks, inr (p, has.named, at))

  at_finiteness : (g : List Defined) (p : Schemas) → IsSettled x source g p → AtFiniteness g p → AtTypes
  at_finiteness g p is at = at_shape g p is.has_schemas (inr (is.shape, inr (is.small, inr (is.complete, at))))

  at_sets : (g : List Defined) (p : Schemas) (e : Environment) → IsBounded x source g p e → AtSets g p e → AtTypes
  at_sets g p e is at =
      at_finiteness g p is.settled (inr (subst (λ n. AllByRecursion (λ (m : Named). IsFinite n g m.schema) (all_of p)) is.environment.3 is.finite, (e, is.environment, at)))

  pub granted : (g : List Defined) (p : Schemas) (e : Environment) → IsSearchable x source g p e → Tells g p e text status → AtTypes
  granted g p e is told = at_sets g p e is.bounded (inr (is.none_out, told))

  refused_at : (told : List Message) → RefusesExploration x source told status → text ≡ messages_text x.format file told → AtTypes
  refused_at told (RefusesExploration.ill_typed ill) is = inl (told, ill, is)
  refused_at told (RefusesExploration.no_schema g checks lacks) is = inr (g, checks, inl (told, lacks, is))
  refused_at told (RefusesExploration.no_component g p has lacks) is = at_shape g p has (inl (told, lacks, is))
  refused_at told (RefusesExploration.large_numbers g p has shape large) is = at_shape g p has (inr (shape, inl (told, large, is)))
  refused_at told (RefusesExploration.bad_sizes g p has shape small bad) is = at_shape g p has (inr (shape, inr (small, inl (told, bad, is))))
  refused_at told (RefusesExploration.not_finite g p settled infinite) is = at_finiteness g p settled (inl (told, infinite, is))
  refused_at told (RefusesExploration.declared_out g p e bounded out) is = at_sets g p e bounded (inl (told, out, is))

pub staged : (x : Exploration) (file source text : List ℕ) (status : Status) → ExplorationAnswer x file source text status
    → AtTypes (TellsMachine x.sought x) x file source text status
staged x file source text status (ExplorationAnswer.refused (told, refuses, is)) =
    refused_at (TellsMachine x.sought x) x file source text status told refuses is
staged x file source text status (ExplorationAnswer.explored g p e is told) = granted (TellsMachine x.sought x) x file source text status g p e is told

-- ---- the schemas of names

pub named_all : (g : List Defined) (x : Exploration) (p : Schemas) → AreSchemasOf g x p → AllByRecursion (IsOfSchema g) (names_of x)
named_all g x p are = all_named g (names_of x) (all_of p) (in_order g x p are)

abbrev called : List ℕ → Schema → Named
called name a = record { name = name; schema = a }

one_schema : (g : List Defined) (name : List ℕ) (n m : Named) → IsSchemaOf g name n → IsSchemaOf g name m → n ≡ m
one_schema g name n m x y =
    ap (λ (l : List ℕ). called l n.schema) (x.0 ∙ sym y.0) ∙ ap (λ (a : Schema). called m.name a) (one_named g name n.schema m.schema x.1 y.1)

one_named_all : (g : List Defined) (names : List (List ℕ)) (ns ms : List Named) → AllZip (IsSchemaOf g) names ns → AllZip (IsSchemaOf g) names ms → ns ≡ ms
one_named_all g [] [] [] x y = refl
one_named_all g [] [] (m ∷ ms) x y = absurd y
one_named_all g [] (n ∷ ns) ms x y = absurd x
one_named_all g (name ∷ names) [] ms x y = absurd x
one_named_all g (name ∷ names) (n ∷ ns) [] x y = absurd y
one_named_all g (name ∷ names) (n ∷ ns) (m ∷ ms) x y =
    ap (λ (l : Named). l ∷ ns) (one_schema g name n m x.0 y.0) ∙ ap (λ (ls : List Named). m ∷ ls) (one_named_all g names ns ms x.1 y.1)

one_sought : (n m : Option Named) → option_to_list n ≡ option_to_list m → n ≡ m
one_sought None None same = refl
one_sought None (Some m) same = cc
one_sought (Some n) None same = cc
one_sought (Some n) (Some m) same = let one : n ≡ m = cc in ap Some one

abbrev schemas_of : Named → Named → List Named → Option Named → Schemas
schemas_of state init operations sought = record { state = state; init = init; operations = operations; sought = sought }

pub one_schemas : (x : Exploration) (g : List Defined) (p q : Schemas) → AreSchemasOf g x p → AreSchemasOf g x q → p ≡ q
one_schemas x g p q is also =
    ap (λ (n : Named). schemas_of n p.init p.operations p.sought) (one_schema g x.state p.state q.state is.state also.state)
    ∙ ap (λ (n : Named). schemas_of q.state n p.operations p.sought) (one_schema g x.initial p.init q.init is.init also.init)
    ∙ ap (λ (ns : List Named). schemas_of q.state q.init ns p.sought) (one_named_all g x.operations p.operations q.operations is.operations also.operations)
    ∙ ap (λ (n : Option Named). schemas_of q.state q.init q.operations n)
    (one_sought p.sought q.sought (one_named_all g (option_to_list x.sought) (option_to_list p.sought) (option_to_list q.sought) is.sought also.sought))

-- ---- two answers

-- the machine of the schemas has one text
one_explored : (x : Exploration) (g : List Defined) (p : Schemas) (e : Environment) (one two : List ℕ) (s t : Status) → ExploresMachine x g p e one s → ExploresMachine x g p e two t → (s ≡ t) × (one ≡ two)
one_explored x g p e one two s t u v =
    let same = one_machine e (spellings g) (form_of x) p u.machine v.machine u.is_of v.is_of in
    let written = subst (λ (m : System). graph.IsExplored (explored_in m) (words m) (states_limit x) u.ending one) same u.written in
    let both = one_way (explored_in v.machine) (words v.machine) (states_limit x) (is_sure v.machine) u.ending v.ending one two written v.written in
    (u.ends ∙ ap ending_status both.0 ∙ sym v.ends, both.1)

-- so has a search
one_sought_for : (x : Exploration) (g : List Defined) (p : Schemas) (e : Environment) (one two : List ℕ) (s t : Status) → Seeks x g p e one s → Seeks x g p e two t → (s ≡ t) × (one ≡ two)
one_sought_for x g p e one two s t u v =
    let same = one_machine e (spellings g) (form_of x) p u.machine v.machine u.is_of v.is_of in
    let written = subst (λ (m : System). seeking.IsSearched (explored_in m) (sought_in m) (words m) (verdict m) (states_limit x) u.result one) same u.written in
    let both = is_searched_once v.machine (states_limit x) u.result v.result one two written v.written in
    (u.ends ∙ ap result_status both.0 ∙ sym v.ends, both.1)

pub one_told_of : (sought : Option (List ℕ)) (x : Exploration) (g : List Defined) (p : Schemas) (e : Environment) (one two : List ℕ) (s t : Status)
    → TellsMachine sought x g p e one s → TellsMachine sought x g p e two t → (s ≡ t) × (one ≡ two)
one_told_of None x g p e one two s t u v = one_explored x g p e one two s t u v
one_told_of (Some name) x g p e one two s t u v = one_sought_for x g p e one two s t u v

module _ {C : Type 0} (Tells Also : Finding) (x : Exploration) (file source one two : List ℕ) (s t : Status)
    (refuse : IfRefused x.format x.details file source one two s t C)
    (tell : (g : List Defined) (p : Schemas) (e : Environment) → Tells g p e one s → Also g p e two t → C) where
  module _ (g : List Defined) (p : Schemas) where
    -- ---- declared sets
    module _ (e : Environment) where
      abbrev NoneOut : Named → Type 0
      NoneOut n = IsNoneOut e n.schema.comps

      abbrev Out : List Message → Status → Named → Type 0
      Out told status n = TellsOut e n.schema.comps told status

      out_apart : (told : List Message) (status : Status) (n : Named) → Out told status n → NoneOut n → ⊥
      out_apart told status n out none = not_out told status e n.schema.comps out none

      at_declared : AtSets Tells x file source one s g p e → AtSets Also x file source two t g p e → C
      at_declared (inl u) (inl v) = refuse u.0 v.0 (one_first NoneOut (Out u.0 s) (Out v.0 t) (out_apart u.0 s) (out_apart v.0 t)
          (λ n. one_out x.details source u.0 v.0 s t e n.schema.comps) (all_of p) u.1 v.1) u.2 v.2
      at_declared (inl u) (inr v) = absurd (not_all_and_first NoneOut (Out u.0 s) (out_apart u.0 s) (all_of p) v.0 u.1)
      at_declared (inr u) (inl v) = absurd (not_all_and_first NoneOut (Out v.0 t) (out_apart v.0 t) (all_of p) u.0 v.1)
      at_declared (inr u) (inr v) = tell g p e u.1 v.1

    -- ---- finite schemas
    abbrev numbers : Option ℕ
    numbers = numbers_of x.setting

    abbrev Ends : Named → Type 0
    Ends n = IsFinite numbers g n.schema

    abbrev Infinite : List Message → Status → Named → Type 0
    Infinite told status n = TellsInfinite numbers g n.schema x.details source told status

    infinite_apart : (told : List Message) (status : Status) (n : Named) → Infinite told status n → Ends n → ⊥
    infinite_apart told status n infinite finite = is_finite told status numbers g n.schema x.details source infinite finite

    at_causes : AreComplete (given_sets g) (stated g x.setting) → AtFiniteness Tells x file source one s g p → AtFiniteness Also x file source two t g p → C
    at_causes complete (inl u) (inl v) = refuse u.0 v.0 (one_first Ends (Infinite u.0 s) (Infinite v.0 t) (infinite_apart u.0 s) (infinite_apart v.0 t)
        (λ n. one_infinite x.details source u.0 v.0 s t numbers g n.schema) (all_of p) u.1 v.1) u.2 v.2
    at_causes complete (inl u) (inr v) = absurd (not_all_and_first Ends (Infinite u.0 s) (infinite_apart u.0 s) (all_of p) v.0 u.1)
    at_causes complete (inr u) (inl v) = absurd (not_all_and_first Ends (Infinite v.0 t) (infinite_apart v.0 t) (all_of p) u.0 v.1)
    at_causes complete (inr (ends, (e, is, at))) (inr (also_ends, (f, also, also_at))) =
        let same = one_environment_at g (stated g x.setting) numbers e f complete is also in
        at_declared f (subst (λ (h : Environment). AtSets Tells x file source one s g p h) same at) also_at

    -- ---- sizes, numbers, components
    at_sizes : AtSizes Tells x file source one s g p → AtSizes Also x file source two t g p → C
    at_sizes (inl u) (inl v) = refuse u.0 v.0 (one_misfit x.details source u.0 v.0 s t g (stated g x.setting) u.1 v.1) u.2 v.2
    at_sizes (inl u) (inr v) = absurd (no_misfit u.0 s x.details g (stated g x.setting) u.1 v.0)
    at_sizes (inr u) (inl v) = absurd (no_misfit v.0 t x.details g (stated g x.setting) v.1 u.0)
    at_sizes (inr u) (inr v) = at_causes v.0 u.1 v.1

    at_numbers : AtNumbers Tells x file source one s g p → AtNumbers Also x file source two t g p → C
    at_numbers (inl u) (inl v) = refuse u.0 v.0 (one_large x.details source u.0 v.0 s t numbers u.1 v.1) u.2 v.2
    at_numbers (inl u) (inr v) = absurd (small_not_too_large numbers v.0 u.1.0)
    at_numbers (inr u) (inl v) = absurd (small_not_too_large numbers u.0 v.1.0)
    at_numbers (inr u) (inr v) = at_sizes u.1 v.1

    one_lack : (first second : List Message) → HasLacking p first s → HasLacking p second t → AreRefusedAlike x.details source first second s t
    one_lack first second (n, c, u, told, bad) (m, d, v, also_told, also_bad) =
        let same = one_lacking p n c m d u v in
        bad_request x.details source first second s t bad also_bad
        (AreMessagesAlike.same (told ∙ ap (λ (l : List ℕ). no_component l c ∷ []) same.0 ∙ ap (λ (l : List ℕ). no_component m l ∷ []) same.1 ∙ sym also_told))

    at_components : AtShape Tells x file source one s g p → AtShape Also x file source two t g p → C
    at_components (inl u) (inl v) = refuse u.0 v.0 (one_lack u.0 v.0 u.1 v.1) u.2 v.2
    at_components (inl (first, (n, c, u, told, bad), is)) (inr v) = absurd (not_shape_and_lack p n c v.0 u)
    at_components (inr u) (inl (second, (n, c, v, told, bad), also)) = absurd (not_shape_and_lack p n c u.0 v)
    at_components (inr u) (inr v) = at_numbers u.1 v.1

  -- ---- names, types
  module _ (g : List Defined) where
    no_schema_apart : (told : List Message) (status : Status) (name : List ℕ) → TellsNoSchema x.details g told status name → IsOfSchema g name → ⊥
    no_schema_apart told status name lacks named = lacks.none named.0 named.1

    at_schemas : AtSchemas Tells x file source one s g → AtSchemas Also x file source two t g → C
    at_schemas (inl u) (inl v) =
        refuse u.0 v.0 (one_first (IsOfSchema g) (TellsNoSchema x.details g u.0 s) (TellsNoSchema x.details g v.0 t)
        (no_schema_apart u.0 s) (no_schema_apart v.0 t)
        (one_no_schema x.details source u.0 v.0 s t g) (names_of x) u.1 v.1) u.2 v.2
    at_schemas (inl u) (inr v) =
        absurd (not_all_and_first (IsOfSchema g) (TellsNoSchema x.details g u.0 s) (no_schema_apart u.0 s) (names_of x) (named_all g x v.0 v.1) u.1)
    at_schemas (inr u) (inl v) =
        absurd (not_all_and_first (IsOfSchema g) (TellsNoSchema x.details g v.0 t) (no_schema_apart v.0 t) (names_of x) (named_all g x u.0 u.1) v.1)
    at_schemas (inr u) (inr v) = at_components g v.0 (subst (λ (q : Schemas). AtShape Tells x file source one s g q) (one_schemas x g u.0 v.0 u.1 v.1) u.2) v.2

  pub both_answers : AtTypes Tells x file source one s → AtTypes Also x file source two t → C
  both_answers (inl u) (inl v) = refuse u.0 v.0 (one_ill x.details source u.0 v.0 s t u.1 v.1) u.2 v.2
  both_answers (inl u) (inr v) = absurd (well_typed u.0 s x.details source v.0 u.1 v.1)
  both_answers (inr u) (inl v) = absurd (well_typed v.0 t x.details source u.0 v.1 u.1)
  both_answers (inr u) (inr v) =
      at_schemas v.0 (subst (λ (h : List Defined). AtSchemas Tells x file source one s h) (one_checked source u.0 v.0 [] [] u.1 v.1).0 u.2) v.2
