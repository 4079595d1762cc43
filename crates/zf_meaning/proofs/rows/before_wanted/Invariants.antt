use Rattle.zf_meaning.proofs.Prelude.{◌+◌, ◌<◌, ◌≡◌, ◌≤◌, length, AreOthers}
use Rattle.zf_meaning.proofs.rows.before_wanted.Given as goal

abbrev pub invariant-loop-place : goal.invariant-loop-place
invariant-loop-place l = record {
  next : l.before + 1 ≡ l.place;
  from : l.from ≤ l.before;
  inside : l.before < length l.list;
  others : AreOthers l.list l.from l.before l.wanted;
}
