-- Each exploration has an answer: it is refused at a stage, or what its machine can reach is reported.
use Rattle.law_answered.proofs.Prelude.{◌∷◌, ◌≡◌, ◌≤◌, ◌⊎◌, [], arith, inl, inr, List, None, Option, refl, Some, subst, sym, ℕ, AllByRecursion, AreSmall, BadRequest, BadSpec, Checks, declared_out, Defined, Environment, given_sets, HasLimit, IsFinite, IsNoneOut, no_schema_message, numbers_of, numbers_too_large, PastBounds, size_fault_messages, spellings, stated, Status, Message, messages_text, AllZip, AreSchemasOf, CanExplore, Exploration, ExplorationAnswer, ExploresMachine, Fault, HasSchemas, HasShape, IsBounded, IsMachineOf, IsOfSchema, IsSchemaOf, IsSearchable, IsSettled, Named, Operation, RefusesExploration, Schemas, Seeks, System, TellsInfinite, TellsMachine, TellsNoSchema, TellsOut, all_of, complete_or_refused, ending_status, explored_in, first_out_or_none, form_of, names_of, no_component, option_to_list, result_status, some_environment, some_result, some_turns, states_limit, words, ◌++◌}
use Rattle.zf_graph.proofs.Existing.{somehow_written}
use Rattle.zf_steps.specs.{CanSearch}
use Rattle.zf_machines.proofs.Sole.{can_search_all}
use Rattle.zf_engine.proofs.Explored.{can_search}
use Rattle.zf_answers.proofs.Lists.{all_weaker}
use Rattle.law_answered.proofs.EveryName.{finite_or_told, named_or_none}
use Rattle.law_answered.proofs.FaultMessages.{some_messages}
use Rattle.law_answered.proofs.Machines.{all_or_first, shape_or_lack, some_machine}
use Rattle.law_answered.proofs.SmallNumbers.{small_or_too_large}

-- ---- the machine

-- each of its schemas is finite
pub can_be_explored : (x : Exploration) (source : List ℕ) (g : List Defined) (p : Schemas) (e : Environment) → IsSearchable x source g p e → (m : System)
    → IsMachineOf e (spellings g) (form_of x) p m → CanExplore m
can_be_explored x source g p e is m of =
    let each = can_search x source p e (subst (λ (h : List Defined). IsSearchable x source h p e) (sym is.bounded.environment.0) is) in
    let all = can_search_all e (spellings g) (form_of x) p m of each in
    let f = m.environment in record {
      test = all.test.finite;
      init = all.init.finite;
      operations = all_weaker (λ (o : Operation). CanSearch f o.schema) (λ (o : Operation). IsFinite f.numbers f.globals o.schema) (λ o can. can.finite) m.operations all.operations;
    }

some_limit : (limit : Option ℕ) (x : Exploration) → x.limit ≡ limit → HasLimit limit → 1 ≤ states_limit x
some_limit None x is h = rw is (omega arith)
some_limit (Some limit) x is h = rw is (omega (arith, h))

module _ (x : Exploration) (file source : List ℕ) (limited : HasLimit x.limit) where
  abbrev IsAnswered : Type 0
  IsAnswered = (text : List ℕ) × (status : Status) × ExplorationAnswer x file source text status

  refused : (told : List Message) (status : Status) → RefusesExploration x source told status → IsAnswered
  refused told status h = (messages_text x.format file told, status, ExplorationAnswer.refused (told, h, refl))

  module _ (g : List Defined) where
    module _ (p : Schemas) where
      module _ (e : Environment) (is : IsSearchable x source g p e) where
        made : (m : System) × IsMachineOf e (spellings g) (form_of x) p m
        made = some_machine e (spellings g) (form_of x) p is.bounded.settled.shape

        can : CanExplore made.0
        can = can_be_explored x source g p e is made.0 made.1

        reached : (text : List ℕ) × (status : Status) × ExploresMachine x g p e text status
        reached =
            let some = somehow_written (explored_in made.0) (words made.0) (states_limit x) (some_turns made.0 can) (some_limit x.limit x refl limited) in
            (some.1, ending_status some.0, record { machine = made.0; is_of = made.1; ending = some.0; written = some.2; ends = refl })

        sought : (text : List ℕ) × (status : Status) × Seeks x g p e text status
        sought =
            let some = some_result made.0 (states_limit x) can (some_limit x.limit x refl limited) in
            (some.1, result_status some.0, record { machine = made.0; is_of = made.1; result = some.0; written = some.2; ends = refl })

        told : (name : Option (List ℕ)) → (text : List ℕ) × (status : Status) × TellsMachine name x g p e text status
        told None = reached
        told (Some name) = sought

      some_explored : (e : Environment) → IsSearchable x source g p e → IsAnswered
      some_explored e is = let some = told e is x.sought in (some.0, some.1, ExplorationAnswer.explored g p e is some.2)

      -- one of the schemas has a declared set that is out, and this is reported of it
      out_or_none : (e : Environment) (n : Named) → IsNoneOut e n.schema.comps ⊎ ((b : List Message × Status) × TellsOut e n.schema.comps b.0 b.1)
      out_or_none e n = elim (first_out_or_none e n.schema.comps) [
        | inr none ↦ inl none
        | inl out ↦ let here = out.1.here in inr ((declared_out here.0.name ∷ [], PastBounds), (out.0, out.1, (here.0, here.1, refl, refl)))
      ]

      some_at_sets : (e : Environment) → IsBounded x source g p e → IsAnswered
      some_at_sets e bounded = elim (all_or_first (λ (n : Named). IsNoneOut e n.schema.comps)
          (λ (b : List Message × Status) n. TellsOut e n.schema.comps b.0 b.1) (out_or_none e) (all_of p)) [
            | inl none ↦ some_explored e (record { bounded = bounded; none_out = none })
            | inr out ↦ refused out.0.0 out.0.1 (RefusesExploration.declared_out g p e bounded out.1)
          ]

      some_at_finiteness : IsSettled x source g p → IsAnswered
      some_at_finiteness settled = elim (all_or_first (λ (n : Named). IsFinite (numbers_of x.setting) g n.schema)
          (λ (b : List Message × Status) n. TellsInfinite (numbers_of x.setting) g n.schema x.details source b.0 b.1)
          (λ n. finite_or_told (numbers_of x.setting) g n.schema x.details source) (all_of p)) [
            | inl finite ↦
                let e = some_environment g (stated g x.setting) (numbers_of x.setting) settled.complete in
                some_at_sets e.0 (record { settled = settled; environment = e.1; finite = subst (λ n. AllByRecursion (λ (m : Named). IsFinite n g m.schema) (all_of p)) (sym e.1.3) finite })
            | inr infinite ↦ refused infinite.0.0 infinite.0.1 (RefusesExploration.not_finite g p settled infinite.1)
          ]

      some_at_sizes : HasSchemas x source g p → HasShape p → AreSmall (numbers_of x.setting) → IsAnswered
      some_at_sizes has shape small = elim (complete_or_refused (given_sets g) (stated g x.setting)) [
        | inl complete ↦ some_at_finiteness (record { has_schemas = has; shape = shape; small = small; complete = complete })
        | inr bad ↦
            refused (size_fault_messages x.details g (stated g x.setting) bad.0) BadRequest
            (RefusesExploration.bad_sizes g p has shape small (bad.0, bad.1, (bad.2, refl, refl)))
      ]

      some_at_numbers : HasSchemas x source g p → HasShape p → IsAnswered
      some_at_numbers has shape = elim (small_or_too_large (numbers_of x.setting)) [
        | inl small ↦ some_at_sizes has shape small
        | inr large ↦ refused (numbers_too_large ∷ []) BadRequest (RefusesExploration.large_numbers g p has shape (large, refl, refl))
      ]

      some_at_shape : HasSchemas x source g p → IsAnswered
      some_at_shape has = elim (shape_or_lack p) [
        | inl shape ↦ some_at_numbers has shape
        | inr lacks ↦ refused (no_component lacks.0 lacks.1 ∷ []) BadRequest (RefusesExploration.no_component g p has (lacks.0, lacks.1, lacks.2, refl, refl))
      ]

    -- ---- the schemas of the names
    judged : (name : List ℕ) → IsOfSchema g name ⊎ ((b : List Message × Status) × TellsNoSchema x.details g b.0 b.1 name)
    judged name = elim (named_or_none g name) [
      | inl named ↦ inl named
      | inr none ↦ inr ((no_schema_message x.details g name ∷ [], BadRequest), record { none = none; message = refl; bad = refl })
    ]

    each_named : (names : List (List ℕ)) → AllByRecursion (IsOfSchema g) names → (ns : List Named) × AllZip (IsSchemaOf g) names ns
    each_named [] all = ([], tt)
    each_named (name ∷ names) all = let others = each_named names all.1 in (record { name = name; schema = all.0.0 } ∷ others.0, ((refl, all.0.1), others.1))

    each_before : (names others : List (List ℕ)) → AllByRecursion (IsOfSchema g) (names ++ others) → AllByRecursion (IsOfSchema g) names
    each_before [] others all = tt
    each_before (name ∷ names) others all = (all.0, each_before names others all.1)

    each_behind : (names others : List (List ℕ)) → AllByRecursion (IsOfSchema g) (names ++ others) → AllByRecursion (IsOfSchema g) others
    each_behind [] others all = all
    each_behind (name ∷ names) others all = each_behind names others all.1

    one_named : (name : Option (List ℕ)) → AllByRecursion (IsOfSchema g) (option_to_list name) → (n : Option Named) × AllZip (IsSchemaOf g) (option_to_list name) (option_to_list n)
    one_named None all = (None, tt)
    one_named (Some name) all = (Some (record { name = name; schema = all.0.0 }), ((refl, all.0.1), tt))

    schemas : AllByRecursion (IsOfSchema g) (names_of x) → (p : Schemas) × AreSchemasOf g x p
    schemas all =
        let operations = each_named x.operations (each_before x.operations (option_to_list x.sought) all.1.1) in
        let sought = one_named x.sought (each_behind x.operations (option_to_list x.sought) all.1.1) in (
          record { state = record { name = x.state; schema = all.0.0 }; init = record { name = x.initial; schema = all.1.0.0 }; operations = operations.0; sought = sought.0 },
          record { state = (refl, all.0.1); init = (refl, all.1.0.1); operations = operations.1; sought = sought.1 },
        )

    some_at_schemas : Checks source g [] → IsAnswered
    some_at_schemas checks = elim (all_or_first (IsOfSchema g)
        (λ (b : List Message × Status) name. TellsNoSchema x.details g b.0 b.1 name) judged (names_of x)) [
          | inl all ↦ let p = schemas all in some_at_shape p.0 (record { checks = checks; named = p.1 })
          | inr none ↦ refused none.0.0 none.0.1 (RefusesExploration.no_schema g checks none.1)
        ]

  pub some_at_types : (g : List Defined) (faults : List Fault) → Checks source g faults → IsAnswered
  some_at_types g [] checks = some_at_schemas g checks
  some_at_types g (fault ∷ faults) checks =
      let some = some_messages x.details source (fault ∷ faults) in
      refused some.0 BadSpec
      (RefusesExploration.ill_typed (record { globals = g; faults = fault ∷ faults; checks = checks; some = λ none. cc; messages = some.1; bad = refl }))
