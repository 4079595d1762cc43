-- What holds where memory ends.
use Rattle.zf_plan.proofs.Prelude.{Err, Ok, OnErr, Result}

pub on-err : {T E : Type 0} (r : Result T E) (P : Type 0) → P → OnErr r P
on-err (Ok x) P p = tt
on-err (Err e) P p = p
