-- That what is possible beside some predicates with more others is possible with fewer. No public clause rests on this.
use Rattle.std.specs.Prelude.{Bool, List, ◌++◌, Option}
use Rattle.zf_why.specs.Prelude.{chosen_of, IsFewer, Comp, ResolvedTree, Value, Environment}
use Rattle.zf_cores.proofs.Choosing.{all_fewer}
use Rattle.zf_why.specs.Rows.{HasRow, IsAllowed}

pub has_fewer : (e : Environment) (cs : List Comp) (held : List (Option Value)) (given ps : List ResolvedTree) (small large : List Bool)
    → IsFewer small large → HasRow e cs held (given ++ chosen_of ps large) → HasRow e cs held (given ++ chosen_of ps small)
has_fewer e cs held given ps small large f h = record { row = h.row; within = h.within; allowed = all_fewer (IsAllowed e h.row) given ps small large f h.allowed }
