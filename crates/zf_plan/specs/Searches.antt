-- How a search is seen, and what always holds of one: for the model of `Search` alone.
use Rattle.std.specs.Prelude.{◌≡◌, ℕ, Bool, true, cond, List, length, Option, Some, None}
use Rattle.zf_plan.specs.Prelude.{Ordering, Conjuncts}
use Rattle.zf_plan.specs.declared.place.Place.{Place}
use Rattle.zf_plan.specs.declared.plan.Plan.{Plan}
use Rattle.zf_plan.specs.Memories.{Memory}
use Rattle.zf_plan.specs.Groves.{Grove, trees_of}
use Rattle.zf_plan.specs.Keys.{AreKeyed}
use Rattle.zf_plan.specs.Progress.{Progress}
use Rattle.zf_plan.specs.Places.{IsSound, Stands, path, ahead_of}
use Rattle.zf_plan.specs.Counts.{IsPlain, IsCounted}

abbrev pub view_of : {V J : Type 0} → J → Grove → List (List V) → Option (List V) → Place → Memory → Bool → Bool → Progress V J
view_of judge forest ranges after p memo given counting = record {
  judge = judge;
  forest = forest;
  stage = record { ranges = ranges; after = after; last = cond given (Some (path ranges p)) None; ahead = ahead_of ranges p };
  tests = memo.tests;
  counts = counting;
}

pub record IsStanding {V : Type 0} (cmp : V → V → Ordering) (l : Conjuncts V) (uses : ℕ → ℕ → Bool) (is_key : ℕ → V → ℕ → Type 0) (forest : Grove) (ranges : List (List V)) (after : Option (List V)) (planned : Plan) (keyed : List (List ℕ)) (p : Place) (memo : Memory) (choices : List (Option (List ℕ))) (given counting : Bool) : Type 0 where
  pub sound : IsSound cmp l uses (trees_of forest) ranges after planned
  pub keys : AreKeyed l is_key ranges keyed
  pub stands : Stands l uses (trees_of forest) ranges p memo choices
  pub whole : given ≡ true → p.depth ≡ length ranges
  pub plain : counting ≡ true → IsPlain l (trees_of forest) planned
  pub counts : counting ≡ true → IsCounted cmp l ranges after p memo.tests choices
