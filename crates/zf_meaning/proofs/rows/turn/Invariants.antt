use Rattle.zf_meaning.proofs.Prelude.{◌≡◌, drop, All, seen, ArePlaces}
use Rattle.zf_meaning.proofs.NextRow.{Turns}
use Rattle.zf_meaning.proofs.rows.turn.Given as goal

-- The places from i on began again.
abbrev pub invariant-loop-i : goal.invariant-loop-i
invariant-loop-i l = record {
  places : ArePlaces (seen l.lists) l.places;
  turns : Turns (seen l.lists) l.initial.places l.places l.front l.i;
  zeros : All (λ place. place ≡ 0) (drop l.i l.places);
}
