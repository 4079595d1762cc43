-- What is found where a state is sought, in the words of the schema's bindings.
use Rattle.law_answered.proofs.Prelude.{◌∙◌, ◌≡◌, [], ap, inl, inr, List, None, Option, Some, subst, sym, ℕ, Comp, Defined, Environment, Schema, spellings, Status, True, AllZip, CanExplore, Exploration, IsMachineOf, IsOther, IsSchemaOf, IsSought, Named, Satisfies, SatisfiesAt, Says, Schemas, Seeks, ShowsWay, System, TellsMachine, WhatIsSoughtIsTold, explored_in, finds_shortest, form_of, graph_in, is_of, meets_reachable, option_to_list, other_has_none, sought_in, state_of, states_limit, test_in, unwrap_or, verdict, words, ◌++◌, ◌∷◌}
use Rattle.zf_graph.specs.{AreOthers, arrive_all, found, inner_edges, IsMet, IsReachable, IsSearched, Met, missing, nodes_of, open_ended, Result, untold, with_edge}
use Rattle.zf_graph.specs.Seeking as seeking
use Rattle.zf_steps.proofs.Satisfying as steps
use Rattle.zf_steps.specs.declared.node.Label.{Label}
use Rattle.zf_steps.specs.declared.node.Node.{Node}
use Rattle.zf_steps.specs.declared.node.Node.TheVariants.{Root, State}
use Rattle.law_answered.proofs.Reached.{what_is_reached_is_told}
use Rattle.law_answered.proofs.SomeExploration.{can_be_explored}

-- ---- the machine that tests states by a schema

module _ (e : Environment) (state : List Comp) (name : List ℕ) (a : Schema) (m : System) (here : m.environment ≡ e) (tests : m.test ≡ test_in state name a) where
  abbrev P : Node → Type 0
  P = SatisfiesAt e a state

  sought_satisfies : (b : Node) → IsSought m b → P b
  sought_satisfies Root h = h
  sought_satisfies (State values) h = subst (λ (f : Environment). Satisfies f a state values) here (steps.sought_satisfies m state name a tests values h)

  module _ (can : CanExplore m) where
    other_fails : (b : Node) → IsOther m b → P b → ⊥
    other_fails Root h s = s
    other_fails (State values) h s = other_has_none m state name a values True can tests h (λ e. cc) (subst (λ (f : Environment). Satisfies f a state values) (sym here) s)

    none_of : (met : List (Met Node Label)) → AreOthers (explored_in m) (sought_in m) met → (b : Node) → IsMet met b → P b → ⊥
    none_of met others b is s = elim (others b is) [
      | inl root ↦ subst P root s
      | inr other ↦ other_fails b other s
    ]

    module _ (limit : ℕ) (text : List ℕ) where
      shows_way : IsSearched (explored_in m) (sought_in m) (words m) (verdict m) limit found text → ShowsWay m P text
      shows_way (seeking.finds turns met b now e to begun few fresh others sought is written) = record {
        way = _;
        nodes = nodes_of (arrive_all (explored_in m).eq b met (now.edges ++ e ∷ []));
        states = _;
        steps = inner_edges turns (with_edge now e);
        shortest = finds_shortest (graph_in m) (explored_in m) (is_of m) P turns met b now e to begun (none_of (arrive_all (explored_in m).eq b met now.edges) others) (sought_satisfies e.to sought);
        written = written;
      }
      shows_way (seeking.misses turns met all few others is written) = cc
      shows_way (seeking.pauses turns met b now e to begun full fresh others is written) = cc
      shows_way (seeking.breaks turns met b now at to break few others is written) = cc
      shows_way (seeking.doubts turns met b now e at to begun few fresh others doubt is written) = cc

      none_reachable : IsSearched (explored_in m) (sought_in m) (words m) (verdict m) limit missing text → (b : Node) → IsReachable (graph_in m) b → P b → ⊥
      none_reachable (seeking.finds turns met c now e to begun few fresh others sought is written) b r s = cc
      none_reachable (seeking.misses turns met all few others is written) b r s = none_of met others b ((meets_reachable (graph_in m) (explored_in m) (is_of m) turns met all b).1 r) s
      none_reachable (seeking.pauses turns met c now e to begun full fresh others is written) b r s = cc
      none_reachable (seeking.breaks turns met c now at to break few others is written) b r s = cc
      none_reachable (seeking.doubts turns met c now e at to begun few fresh others doubt is written) b r s = cc

      says : (result : Result) → IsSearched (explored_in m) (sought_in m) (words m) (verdict m) limit result text → Says m P result text
      says found h = shows_way h
      says missing h = none_reachable h
      says open_ended h = tt
      says (untold at) h = tt

-- ---- the answer

module _ (x : Exploration) (g : List Defined) (p : Schemas) (e : Environment) (sought : Named) (some : p.sought ≡ Some sought) (text : List ℕ) (status : Status) where
  -- a state is sought where a schema is that is sought
  seeks_of : (name : Option (List ℕ)) → AllZip (IsSchemaOf g) (option_to_list name) (option_to_list p.sought) → TellsMachine name x g p e text status → Seeks x g p e text status
  seeks_of None named told = absurd (subst (λ (o : Option Named). AllZip (IsSchemaOf g) [] (option_to_list o)) some named)
  seeks_of (Some name) named told = told

  -- by it states are tested
  tested_by : (m : System) → IsMachineOf e (spellings g) (form_of x) p m → m.test ≡ test_in (state_of p) sought.name sought.schema
  tested_by m of = of.test ∙ ap (λ (o : Option Named). test_in (state_of p) (unwrap_or o p.state).name (unwrap_or o p.state).schema) some

pub what_is_sought_is_told : WhatIsSoughtIsTold
what_is_sought_is_told x file source g p e sought text status is some answer =
    let told = seeks_of x g p e sought some text status x.sought is.bounded.settled.has_schemas.named.sought (what_is_reached_is_told x file source g p e text status is answer) in
    let m = told.machine in
    let can = can_be_explored x source g p e is m told.is_of in (
      told,
      says e (state_of p) sought.name sought.schema m told.is_of.environment (tested_by x g p e sought some text status m told.is_of) can (states_limit x) text told.result told.written,
    )
