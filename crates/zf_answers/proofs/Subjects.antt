-- What is asked for can be searched.
use Rattle.zf_answers.proofs.Prelude.{◌≡◌, List, None, Option, refl, Some, subst, sym, ℕ, Comp, IsNamedRow, IsSearch, portion, Request, schema_of, Value, comps_at, IsNoneOut, AreShown, CanBeSearched, environment_in, IsChosenBy, IsSubjectOf, NamesParts, schema_in, shown_in, Subject}
use Rattle.zf_answers.specs.declared.bounds.Chosen.{Chosen}
use Rattle.zf_answers.proofs.DueWithin.{due_within}
use Rattle.zf_answers.proofs.Refusing.{after_all, after_some, all_shown, some_shown, well_typed}

module _ (r : Request) (source : List ℕ) (s : Subject) (is : IsSubjectOf r source s) where
  pub can_be_searched : CanBeSearched s
  can_be_searched = record {
    finite = is.asked.finite;
    due = due_within (environment_in s) (environment_in s).globals r.name (schema_in s) (well_typed source (environment_in s).globals is.asked.has_schema.checks) is.asked.has_schema.named;
    spelled = is.spelled;
  }

  -- it is searched from a row on, if one is named
  pub searched_all : r.only ≡ None → (after : Option (List Value)) → IsNamedRow (environment_in s) (schema_in s).comps r.after after → IsNoneOut (environment_in s) (schema_in s).comps
      → IsSearch r source (environment_in s).globals (schema_in s) (environment_in s) (portion after s.held.now)
  searched_all none after named none_out = record {
    asked = is.asked;
    shown = (schema_in s).comps;
    after = after;
    are_shown = all_shown r (environment_in s) (schema_in s).comps none;
    named = named;
    begins = after_all r (environment_in s) (schema_in s).comps none after;
    held = is.held;
    none_out = none_out;
  }

  -- and from the beginning, where some components are shown
  pub searched_some : (names places : List ℕ) (after : Option (List Value)) → r.only ≡ Some names → NamesParts (schema_in s).comps names places
      → IsNamedRow (environment_in s) (comps_at (schema_in s).comps places) r.after after → IsNoneOut (environment_in s) (schema_in s).comps
      → IsSearch r source (environment_in s).globals (schema_in s) (environment_in s) (portion None s.held.now)
  searched_some names places after some of_names named none_out = record {
    asked = is.asked;
    shown = comps_at (schema_in s).comps places;
    after = after;
    are_shown = some_shown r (environment_in s) (schema_in s).comps names places some of_names;
    named = named;
    begins = after_some r (environment_in s) (schema_in s).comps names some after;
    held = is.held;
    none_out = none_out;
  }

-- the components that are chosen by a text
pub chosen_by : (comps : List Comp) (only : Option (List ℕ)) (c : Chosen) → IsChosenBy comps only (Some c)
    → (names : List ℕ) × (only ≡ Some names) × NamesParts comps names c.places.items × ((schema_of c.schema.now).comps ≡ comps_at comps c.places.items)
chosen_by comps None c is = cc
chosen_by comps (Some names) c is = (names, refl, is.0, is.1)

pub none_chosen : (comps : List Comp) (only : Option (List ℕ)) → IsChosenBy comps only None → only ≡ None
none_chosen comps None is = refl
none_chosen comps (Some names) is = absurd is

-- those of a line are shown
pub shown_of : (comps : List Comp) (only : Option (List ℕ)) (chosen : Option Chosen) → IsChosenBy comps only chosen → AreShown comps only (shown_in comps chosen)
shown_of comps None None is = refl
shown_of comps None (Some c) is = cc
shown_of comps (Some names) None is = absurd is
shown_of comps (Some names) (Some c) is = (c.places.items, is.0, is.1)

pub are_shown_as : (comps : List Comp) (only : Option (List ℕ)) (chosen : Option Chosen) (lines : List Comp) → IsChosenBy comps only chosen → lines ≡ shown_in comps chosen → AreShown comps only lines
are_shown_as comps only chosen lines is same = subst (AreShown comps only) (sym same) (shown_of comps only chosen is)
