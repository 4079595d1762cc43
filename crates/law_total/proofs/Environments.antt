-- Globals at complete sizes have an environment.
use Rattle.law_total.proofs.Prelude.{◌+◌, ◌≡◌, [], arith, length, List, None, Option, refl, Some, subst, suc, zero, ℕ, slice_get, Outcome, Undefined, abbreviation, constructor, Defined, Definition, free_type, given_set, schema, element, Environment, globally, AreComplete, given_sets, Size, AreWorkedOut, IsEnvironment, IsOutcomeOf}
use Rattle.zf_meaning.proofs.WorkedOut.{AreWorkedOutTo, none-worked_out, further, one-worked_out, all-worked_out}
use Rattle.law_total.proofs.Listed.{HasSome}
use Rattle.law_total.proofs.Carriers.{some_type_set}
use Rattle.law_total.proofs.Terms.{some_outcome}
use Rattle.law_total.proofs.StatedSizes.{some_sizes}

some_outcome_of : (e : Environment) (d : Definition) → HasSome (IsOutcomeOf e d)
some_outcome_of e (given_set n) = some_type_set e n
some_outcome_of e (free_type n names) = some_type_set e n
some_outcome_of e (constructor n of_type place) = (element n place, refl)
some_outcome_of e (abbreviation t r x) = some_outcome (globally e) r
some_outcome_of e (schema a) = (Undefined, refl)

-- that of the global at a place, if there is one
some_outcome_at : (e : Environment) (x : Option Defined) → HasSome (λ o. (d : Defined) → x ≡ Some d → IsOutcomeOf e d.definition o)
some_outcome_at e None = (Undefined, λ d s. absurd (cc))
some_outcome_at e (Some it) = let o = some_outcome_of e it.definition in (o.0, λ d s. let same : it ≡ d = cc in subst (λ (d : Defined). IsOutcomeOf e d.definition o.0) same o.1)

abbrev at_sizes : List Defined → List ℕ → (numbers : Option ℕ) → List Outcome → Environment
at_sizes g sizes n outcomes = record { globals = g; sizes = sizes; outcomes = outcomes; numbers = n }

-- the outcomes of the rest, one after another
worked_out : (g : List Defined) (sizes : List ℕ) (m : Option ℕ) (n i : ℕ) (outcomes : List Outcome) → i + n ≡ length g
    → AreWorkedOutTo i (at_sizes g sizes m outcomes) → (all : List Outcome) × AreWorkedOut (at_sizes g sizes m all)
worked_out g sizes m zero i outcomes e h = (outcomes, all-worked_out i (at_sizes g sizes m outcomes) (omega arith) h)
worked_out g sizes m (suc n) i outcomes e h =
    let before = at_sizes g sizes m outcomes in
    let o = some_outcome_at before (slice_get g i) in
    worked_out g sizes m n (i + 1) (further before o.0).outcomes (omega arith) (one-worked_out i before o.0 h o.1)

pub some_environment : (g : List Defined) (stated : List Size) (numbers : Option ℕ) → AreComplete (given_sets g) stated → HasSome (IsEnvironment g stated numbers)
some_environment g stated numbers h =
    let sizes = some_sizes stated g h in
    let all = worked_out g sizes.0 numbers (length g) 0 [] (omega arith) (none-worked_out (at_sizes g sizes.0 numbers []) refl) in
    (at_sizes g sizes.0 numbers all.0, (refl, sizes.1, all.1, refl))
