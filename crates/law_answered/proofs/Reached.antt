-- What `reach` answers, where nothing stands in its way, and what is met where it ends.
use Rattle.law_answered.proofs.Prelude.{[], inl, inr, List, Option, subst, ℕ, Answer, IsFront, spellings, Status, Exploration, ExplorationBegins, Reach, ReachableAreMet, System, TellsMachine, WhatIsReachedIsTold, explored_in, form_of, graph_in, has_each_step, is_of, is_sure, meets_once, meets_reachable, meets_shortly, one_machine, states_limit, words, refl, Done}
use Rattle.zf_graph.proofs.Fronts.{parts_are_fronts}
use Rattle.zf_graph.specs.Texts as graph
use Rattle.law_answered.proofs.Explorations.{both_answers, Finding, granted, staged}
use Rattle.law_answered.proofs.OneSource.{unread}

-- ---- the answer

pub what_is_reached_is_told : WhatIsReachedIsTold
what_is_reached_is_told x file source g p e text status is (inl (lines, (fault, about, refused, told, bad), these)) =
    let checks = is.bounded.settled.has_schemas.checks in absurd (unread source fault checks.boxes refused checks.reads)
what_is_reached_is_told x file source g p e text status is (inr answer) =
    let Tells = TellsMachine x.sought x in
    let Also : Finding = λ h q d two t. Tells h q d text status → Tells g p e text status in
    both_answers Tells Also x file source text [] status Done (λ first second alike was also. absurd (alike.1 refl)) (λ h q d u v. v u)
    (staged x file source text status answer) (granted Also x file source [] Done g p e is (λ u. u))

-- ---- the first lines

-- they are a front of every answer
pub first_turns_are_a_front : (x : Exploration) (file source first text : List ℕ) (status : Status) → ExplorationBegins x source first → Answer (Reach x) file source text status → IsFront text first
first_turns_are_a_front x file source first text status (ExplorationBegins.turns g p e m none is of begun) answer =
    let told = subst (λ (name : Option (List ℕ)). TellsMachine name x g p e text status) none (what_is_reached_is_told x file source g p e text status is answer) in
    let same = one_machine e (spellings g) (form_of x) p told.machine m told.is_of of in
    let written = subst (λ (n : System). graph.IsExplored (explored_in n) (words n) (states_limit x) told.ending text) same told.written in
    parts_are_fronts (explored_in m) (words m) (states_limit x) (is_sure m) told.ending first text (inr (inl begun)) written

-- ---- where it ends with `end`

pub reachable_are_met : ReachableAreMet
reachable_are_met m limit text (graph.ends turns met explores few same is) = record {
  turns = turns;
  met = met;
  explores = explores;
  written = is;
  reachable = meets_reachable (graph_in m) (explored_in m) (is_of m) turns met explores;
  once = meets_once (graph_in m) (explored_in m) (is_of m) turns met explores;
  shortly = meets_shortly (graph_in m) (explored_in m) (is_of m) turns met explores;
  steps = λ i x t at turn. (has_each_step (graph_in m) (explored_in m) (is_of m) turns met explores i x t at turn).1;
}
reachable_are_met m limit text (graph.pauses turns met a now e explores begins full fresh same is) = cc
reachable_are_met m limit text (graph.breaks turns met a now at explores broken few same is) = cc
