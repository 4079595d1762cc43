-- The list of the events, as laws speak of it.
use Rattle.std.specs.Prelude.{◌↔◌, List, Option, Contains, AllPairs}
use Rattle.std.specs.declared.cmp.Ordering.{Ordering}
use Rattle.zf_walk.specs.Conjuncts.{Conjuncts}
use Rattle.zf_walk.specs.Rows.{ComesAfter}
use Rattle.zf_walk.specs.Events.{Event, IsEvent}

-- the strictly ascending list whose members are exactly the events
pub record IsEvents {V : Type 0} (cmp : V → V → Ordering) (s : Conjuncts V) (ranges : List (List V)) (after : Option (List V)) (events : List (Event V)) : Type 0 where
  pub ascending : AllPairs (λ (e f : Event V). ComesAfter cmp e.row f.row) events
  pub members : (e : Event V) → Contains events e ↔ IsEvent cmp s ranges after e
