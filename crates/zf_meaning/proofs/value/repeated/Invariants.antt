use Rattle.zf_meaning.proofs.Prelude.{◌≡◌, length}
use Rattle.zf_meaning.proofs.value.repeated.Given as goal

abbrev pub invariant-loop : goal.invariant-loop
invariant-loop l = length l.locals.items ≡ l.counter
