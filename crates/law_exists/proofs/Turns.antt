-- In an exploration each state has its steps, or one that can't be decided; in a search for one each is sought, or another, or it can't be decided.
use Rattle.law_exists.proofs.Prelude.{◌∷◌, ◌≡◌, ◌⊎◌, [], false, inl, inr, List, None, Option, refl, subst, sym, true, ℕ, AllByRecursion, AllPairs, Contains, Schema, IsFinite, Value, value_order, AllPairs-head, Contains-cases, Contains-head, Contains-nil, Truth, False, Out, True, ComesAfter, Event, IsEvent, Environment, portion, property}
use Rattle.zf_enum.proofs.EventLaws.{one_ranges}
use Rattle.zf_graph.proofs.SomeSearch.{somehow_searched}
use Rattle.zf_graph.proofs.Having.{AreListed, each_turn, IsStrayTold}
use Rattle.zf_graph.specs.{EachIsTold, EachNodeHasTurn}
use Rattle.zf_steps.specs.contracts.node.NodePartialEq.TheImpl as nodes
use Rattle.zf_steps.specs.declared.node.Node.{Node}
use Rattle.zf_steps.specs.declared.node.Node.TheVariants.{Root, State}
use Rattle.zf_steps.proofs.Satisfying as steps
use Rattle.zf_steps.specs.{CanExplore, explored_in, held_by, IsEventOf, IsFirstOf, Operation, orderly, parts_of, searched, sought_in, sources_of, stop, System, values_of, verdict, words}
use Rattle.law_exists.specs.{EveryResult, OtherHasNone}
use Rattle.law_exists.proofs.Ranges.{some_ranges}
use Rattle.law_exists.proofs.Searches.{some_list}

in_all : {X : Type 0} (P : X → Type 0) (xs : List X) (x : X) → AllByRecursion P xs → Contains xs x → P x
in_all P [] x h i = absurd (Contains-nil x i)
in_all P (y ∷ xs) x h i = elim (Contains-cases y xs x i) [ inl e ↦ subst P e h.0 | inr k ↦ in_all P xs x h.1 k ]

-- ---- the bindings of a schema in which some values are held

module _ (e : Environment) (a : Schema) (held : List (Option Value)) (finite : IsFinite e.numbers e.globals a) where
  -- all of them
  record AreAll (events : List (Event Value)) : Type 0 where
    pub ascending : AllPairs (λ (x y : Event Value). ComesAfter value_order x.row y.row) events
    pub are : (x : Event Value) → Contains events x → IsEventOf e a held x
    pub each : (x : Event Value) → IsEventOf e a held x → Contains events x

  all : (events : List (Event Value)) × AreAll events
  all =
      let r = some_ranges e a.comps held finite.bounded in
      let l = some_list e a r.0 (portion None held) r.1 in (
        l.0,
        record {
          ascending = l.1.listed.ascending;
          are = λ x i. record { ranges = l.1.ranges; of_components = l.1.of_components; is = (l.1.listed.members x).0 i };
          each = λ x f. (l.1.listed.members x).1 (subst (λ rs. IsEvent value_order (property e a.conjuncts) rs None x)
              (one_ranges e a held f.ranges l.1.ranges f.of_components l.1.of_components) f.is);
        },
      )

  -- each holds or can't be decided
  told : (x : Event Value) → IsEventOf e a held x → (x.truth ≡ True) ⊎ (x.truth ≡ Out)
  told x f = by x.truth refl where
    by : (t : Truth) → x.truth ≡ t → (x.truth ≡ True) ⊎ (x.truth ≡ Out)
    by True is = inl is
    by Out is = inr is
    by False is = absurd (f.is.not_false is)

  first : (x : Event Value) (xs : List (Event Value)) → AreAll (x ∷ xs) → IsFirstOf e a held x
  first x xs h = record {
    event = h.are x (Contains-head x xs);
    first = λ y f. elim (Contains-cases x xs y (h.each y f)) [
      | inl same ↦ inl (sym same)
      | inr i ↦ inr (AllPairs-head (λ (v w : Event Value). ComesAfter value_order v.row w.row) x xs h.ascending y i)
    ];
  }

module _ (m : System) (can : CanExplore m) where
  -- the schemas of a node's parts are finite
  finite_part : (a : Node) (o : Operation) → Contains (parts_of m a) o → IsFinite m.environment.numbers m.environment.globals o.schema
  finite_part Root o i = elim (Contains-cases m.init [] o i) [
    | inl e ↦ subst (λ (p : Operation). IsFinite m.environment.numbers m.environment.globals p.schema) e can.init
    | inr k ↦ absurd (Contains-nil o k)
  ]
  finite_part (State values) o i = in_all (λ (p : Operation). IsFinite m.environment.numbers m.environment.globals p.schema) m.operations o can.operations i

  listed : (a : Node) (o : Operation) → Contains (parts_of m a) o → AreListed (searched m nodes.ghosts.eq) (orderly m) a o
  listed a o i =
      let l = all m.environment o.schema (held_by o.sources (values_of m a)) (finite_part a o i) in record {
        finds = l.0;
        are = record { ascending = l.1.ascending; members = λ x. (l.1.are x, l.1.each x) };
        told = λ x k. told m.environment o.schema (held_by o.sources (values_of m a)) (finite_part a o i) x (l.1.are x k);
      }

  -- whether a state is a stray
  module _ (values : List Value) where
    abbrev held : List (Option Value)
    held = held_by m.test.sources values

    stray_by : (events : List (Event Value)) → AreAll m.environment m.test.schema held can.test events
        → IsStrayTold (searched m nodes.ghosts.eq) (orderly m) (State values)
    stray_by [] h = inl (true, λ x f. Contains-nil x (h.each x f))
    stray_by (x ∷ xs) h = by (told m.environment m.test.schema held can.test x (h.are x (Contains-head x xs)))
        (first m.environment m.test.schema held can.test x xs h) where
          with_truth : (t : Truth) → x.truth ≡ t → IsFirstOf m.environment m.test.schema held x
              → IsFirstOf m.environment m.test.schema held (record { row = x.row; truth = t })
          with_truth t is f = subst (λ u. IsFirstOf m.environment m.test.schema held (record { row = x.row; truth = u })) is f

          by : (x.truth ≡ True) ⊎ (x.truth ≡ Out) → IsFirstOf m.environment m.test.schema held x
              → IsStrayTold (searched m nodes.ghosts.eq) (orderly m) (State values)
          by (inl is) f = inl (false, (x.row, with_truth True is f))
          by (inr is) f = inr (stop m m.test (record { row = x.row; truth = Out }), (x.row, with_truth Out is f, refl))

  stray_told : (a : Node) → IsStrayTold (searched m nodes.ghosts.eq) (orderly m) a
  stray_told Root = inl (false, refl)
  stray_told (State values) = let l = all m.environment m.test.schema (held_by m.test.sources values) can.test in stray_by values l.0 l.1

  pub some_turns : EachNodeHasTurn (explored_in m)
  some_turns = each_turn (searched m nodes.ghosts.eq) (orderly m) stray_told listed

  -- a state that is a stray is another, and one that is none is sought
  seen : (values : List Value) → IsStrayTold (searched m nodes.ghosts.eq) (orderly m) (State values)
      → (sought_in m).IsSought (State values) ⊎ ((sought_in m).IsOther (State values) ⊎ ((at : List ℕ) × (sought_in m).IsUntold (State values) at))
  seen values (inl (true, stray)) = inr (inl stray)
  seen values (inl (false, none)) = inl none
  seen values (inr doubt) = inr (inr doubt)

  each_told : (a : Node) → (a ≡ Root) ⊎ ((sought_in m).IsSought a ⊎ ((sought_in m).IsOther a ⊎ ((at : List ℕ) × (sought_in m).IsUntold a at)))
  each_told Root = inl refl
  each_told (State values) = inr (seen values (stray_told (State values)))

  pub some_sights : EachIsTold (explored_in m) (sought_in m)
  some_sights = each_told

-- a schema that is finite has ranges, so a row that agrees with the state is found
pub other_has_none : OtherHasNone
other_has_none m state name a values t can test other not h =
    let finite = subst (λ (o : Operation). IsFinite m.environment.numbers m.environment.globals o.schema) test can.test in
    let r = some_ranges m.environment a.comps (held_by (sources_of state a.comps) values) finite.bounded in
    steps.other_has_none m state name a test values r.0 r.1 t not other h

pub some_result : EveryResult
some_result m limit can some = somehow_searched (explored_in m) (sought_in m) (words m) (verdict m) limit (some_turns m can) (some_sights m can) some
