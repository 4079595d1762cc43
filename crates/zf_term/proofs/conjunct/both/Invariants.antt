use Rattle.std.proofs.Common.{◌≡◌, length}
use Rattle.zf_term.proofs.Places.{AreFirst, one_and_other}
use Rattle.zf_term.proofs.conjunct.both.Given as goal

abbrev pub invariant-loop-place : goal.invariant-loop-place
invariant-loop-place l = record {
  counted : length l.places ≡ l.place;
  first : AreFirst l.places (one_and_other l.first l.then);
}
