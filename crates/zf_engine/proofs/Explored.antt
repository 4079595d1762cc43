-- What is written of a machine is the answer of `reach`, or a part of it: of its exploration, or of a search for a state.
use Rattle.zf_engine.proofs.Prelude.{◌∷◌, ◌≡◌, ◌⊎◌, [], inl, inr, List, None, Ok, Option, refl, Some, subst, sym, ℕ, Answer, Appends, Environment, Reaches, spellings, Spelling, Status, StopsInSource, AllByRecursion, AllZip, AreWellTyped, Exploration, Reach, IsFinite, all_of, IsMachineOf, Named, Schemas, IsNoneOut, ending_status, ExplorationAnswer, ExplorationBegins, form_of, IsSchemaOf, IsSearchable, names_of, result_status, states_limit, TellsMachine}
use Rattle.zf_graph.specs.{Ending, IsExplored, IsSearched, Result}
use Rattle.zf_reach.specs.declared.ending.Ending as code
use Rattle.zf_reach.specs.declared.ending.Ending.TheVariants.{Broken, Ended, Paused}
use Rattle.zf_reach.specs.declared.finding.Finding.{Finding}
use Rattle.zf_reach.specs.declared.finding.Finding.TheVariants.{Found, Missing, OpenEnded, Untold}
use Rattle.zf_reach.specs.{ending_of, result_of, StopsEarly, StopsSearch}
use Rattle.zf_steps.specs.declared.form.Form.{Form}
use Rattle.zf_steps.specs.{CanSearch, explored_in, sought_in, System, verdict, words}
use Rattle.zf_answers.proofs.DueWithin.{due_within}
use Rattle.zf_engine.proofs.Writing.{nothing_stops}
use Rattle.zf_engine.proofs.Reaching.{in_order}
use Rattle.zf_answers.proofs.Refusing.{well_typed}

-- ---- each of the schemas can be searched

can_search_all : (e : Environment) → AreWellTyped e.globals → (names : List (List ℕ)) (ns : List Named) → AllZip (IsSchemaOf e.globals) names ns
    → AllByRecursion (λ n. IsFinite e.numbers e.globals n.schema) ns
    → AllByRecursion (λ n. IsNoneOut e n.schema.comps) ns → AllByRecursion (λ n. CanSearch e n.schema) ns
can_search_all e well [] [] named finite none = tt
can_search_all e well [] (n ∷ ns) named finite none = absurd named
can_search_all e well (name ∷ names) [] named finite none = tt
can_search_all e well (name ∷ names) (n ∷ ns) (is, named) (bounded, finite) (within, none) =
    (record { finite = bounded; due = due_within e e.globals name n.schema well is.1; none_out = within }, can_search_all e well names ns named finite none)

pub can_search : (x : Exploration) (source : List ℕ) (p : Schemas) (e : Environment) → IsSearchable x source e.globals p e → AllByRecursion (λ n. CanSearch e n.schema) (all_of p)
can_search x source p e is =
    let has = is.bounded.settled.has_schemas in
    can_search_all e (well_typed source e.globals has.checks) (names_of x) (all_of p) (in_order e.globals x p has.named) is.bounded.finite is.none_out

-- ---- what is written

-- the status does not depend on where the bounds are left
same_status : (ending : code.Ending) (at : List ℕ) → ending_status (ending_of ending []) ≡ ending_status (ending_of ending at)
same_status Ended at = refl
same_status Paused at = refl
same_status Broken at = refl

same_result_status : (finding : Finding) (at : List ℕ) → result_status (result_of finding []) ≡ result_status (result_of finding at)
same_result_status Found at = refl
same_result_status Missing at = refl
same_result_status OpenEnded at = refl
same_result_status Untold at = refl

-- what is asked for, and the machine of its schemas
module _ (x : Exploration) (file source : List ℕ) (p : Schemas) (e : Environment) (is : IsSearchable x source e.globals p e) where
  abbrev IsMachine : System → Type 0
  IsMachine m = IsMachineOf e (spellings e.globals) (form_of x) p m

  -- what is reported of it is the answer
  told_answer : (sought : Option (List ℕ)) → x.sought ≡ sought → (text : List ℕ) (status : Status) → TellsMachine sought x e.globals p e text status → ExplorationAnswer x file source text status
  told_answer sought same text status told = ExplorationAnswer.explored e.globals p e is (subst (λ (name : Option (List ℕ)). TellsMachine name x e.globals p e text status) (sym same) told)

  -- ---- where no state is sought
  module _ (none : x.sought ≡ None) (m : System) (of : IsMachine m) where
    whole_answer : (ending : Ending) (text : List ℕ) → IsExplored (explored_in m) (words m) (states_limit x) ending text → ExplorationAnswer x file source text (ending_status ending)
    whole_answer ending text w = told_answer None none text (ending_status ending) (record { machine = m; is_of = of; ending = ending; written = w; ends = refl })

    explored_text : (old new : Option (List ℕ)) (ending : code.Ending) (at text : List ℕ) → IsExplored (explored_in m) (words m) (states_limit x) (ending_of ending at) text → Appends old new text
        → Reaches x file source old new (Ok (ending_status (ending_of ending [])))
    explored_text old new ending at text w written =
        (text, subst (λ s. Answer (Reach x) file source text s) (sym (same_status ending at)) (inr (whole_answer (ending_of ending at) text w)), written)

    explored_part : (old new : Option (List ℕ)) → StopsEarly (explored_in m) (words m) (states_limit x) old new → StopsInSource (Reach x) file source old new
    explored_part old new (text, inl nothing, front) = nothing_stops (Reach x) file source text old new nothing front
    explored_part old new (text, inr (inl begun), (f, front, written)) = (f, inr (inr (text, ExplorationBegins.turns e.globals p e m none is of begun, front)), written)
    explored_part old new (text, inr (inr (ending, w)), (f, front, written)) = (f, inr (inl (text, ending_status ending, inr (whole_answer ending text w), front)), written)

  -- ---- where one is sought
  module _ (name : List ℕ) (some : x.sought ≡ Some name) (m : System) (of : IsMachine m) where
    whole_search : (result : Result) (text : List ℕ) → IsSearched (explored_in m) (sought_in m) (words m) (verdict m) (states_limit x) result text
        → ExplorationAnswer x file source text (result_status result)
    whole_search result text w = told_answer (Some name) some text (result_status result) (record { machine = m; is_of = of; result = result; written = w; ends = refl })

    sought_text : (old new : Option (List ℕ)) (finding : Finding) (at text : List ℕ) → IsSearched (explored_in m) (sought_in m) (words m) (verdict m) (states_limit x) (result_of finding at) text
        → Appends old new text → Reaches x file source old new (Ok (result_status (result_of finding [])))
    sought_text old new finding at text w written =
        (text, subst (λ s. Answer (Reach x) file source text s) (sym (same_result_status finding at)) (inr (whole_search (result_of finding at) text w)), written)

    sought_part : (old new : Option (List ℕ)) → StopsSearch (explored_in m) (sought_in m) (words m) (verdict m) (states_limit x) old new → StopsInSource (Reach x) file source old new
    sought_part old new (text, inl nothing, front) = nothing_stops (Reach x) file source text old new nothing front
    sought_part old new (text, inr (result, w), (f, front, written)) = (f, inr (inl (text, result_status result, inr (whole_search result text w), front)), written)

  -- ---- as the functions have it

  module _ (elements : List Spelling) (same : elements ≡ spellings e.globals) (form : Form) (formed : form ≡ form_of x) (limit : ℕ) (bound : limit ≡ states_limit x) (old new : Option (List ℕ)) where
    is_machine : (m : System) → IsMachineOf e elements form p m → IsMachine m
    is_machine m of = subst (λ ss. IsMachineOf e ss (form_of x) p m) same (subst (λ (f : Form). IsMachineOf e elements f p m) formed of)

    -- a run that stops early has written nothing, or a part
    pub explored_early : x.sought ≡ None → Appends old new [] ⊎ ((m : System) × IsMachineOf e elements form p m
        × StopsEarly (explored_in m) (words m) limit old new) → StopsInSource (Reach x) file source old new
    explored_early none (inl nothing) = ([], inl refl, nothing)
    explored_early none (inr (m, of, stops)) = explored_part none m (is_machine m of) old new (subst (λ n. StopsEarly (explored_in m) (words m) n old new) bound stops)

    pub sought_early : (name : List ℕ) → x.sought ≡ Some name
        → Appends old new [] ⊎ ((m : System) × IsMachineOf e elements form p m × StopsSearch (explored_in m) (sought_in m) (words m) (verdict m) limit old new)
        → StopsInSource (Reach x) file source old new
    sought_early name some (inl nothing) = ([], inl refl, nothing)
    sought_early name some (inr (m, of, stops)) =
        sought_part name some m (is_machine m of) old new (subst (λ n. StopsSearch (explored_in m) (sought_in m) (words m) (verdict m) n old new) bound stops)

    -- and one that ends the whole
    pub explored_whole : x.sought ≡ None → (ending : code.Ending) (status : Status) → status ≡ ending_status (ending_of ending [])
        → (m : System) × IsMachineOf e elements form p m × (at text : List ℕ) × IsExplored (explored_in m) (words m) limit (ending_of ending at) text
        × Appends old new text → Reaches x file source old new (Ok status)
    explored_whole none ending status ends (m, of, at, text, w, written) =
        subst (λ s. Reaches x file source old new (Ok s)) (sym ends)
        (explored_text none m (is_machine m of) old new ending at text (subst (λ n. IsExplored (explored_in m) (words m) n (ending_of ending at) text) bound w) written)

    pub sought_whole : (name : List ℕ) → x.sought ≡ Some name → (finding : Finding) (status : Status) → status ≡ result_status (result_of finding [])
        → (m : System) × IsMachineOf e elements form p m × (at text : List ℕ) × IsSearched (explored_in m) (sought_in m) (words m) (verdict m) limit (result_of finding at) text × Appends old new text
        → Reaches x file source old new (Ok status)
    sought_whole name some finding status ends (m, of, at, text, w, written) =
        subst (λ s. Reaches x file source old new (Ok s)) (sym ends)
        (sought_text name some m (is_machine m of) old new finding at text (subst (λ n. IsSearched (explored_in m) (sought_in m) (words m) (verdict m) n (result_of finding at) text) bound w) written)
