-- What a walk is to find: the rows of the ranges that come after the named one and are not False, each with its truth.
use Rattle.std.specs.Prelude.{◌≢◌, List, Option}
use Rattle.std.specs.declared.cmp.Ordering.{Ordering}
use Rattle.zf_walk.specs.declared.judge.Truth.{Truth}
use Rattle.zf_walk.specs.declared.judge.Truth.TheVariants.{False}
use Rattle.zf_walk.specs.Conjuncts.{Conjuncts, IsTruthOf}
use Rattle.zf_walk.specs.Rows.{IsRowOf, IsLater}

pub record Event (V : Type 0) : Type 0 where
  pub row : List V
  pub truth : Truth

pub record IsEvent {V : Type 0} (cmp : V → V → Ordering) (s : Conjuncts V) (ranges : List (List V)) (after : Option (List V)) (e : Event V) : Type 0 where
  pub within : IsRowOf ranges e.row
  pub later : IsLater cmp after e.row
  pub truth_of : IsTruthOf s e.row e.truth
  pub not_false : e.truth ≢ False
