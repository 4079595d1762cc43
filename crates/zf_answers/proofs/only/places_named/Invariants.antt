-- The places of the names so far.
use Rattle.zf_answers.proofs.Prelude.{length, map, comp_of}
use Rattle.zf_answers.proofs.NamedParts.{SoFar}
use Rattle.zf_answers.proofs.only.places_named.Given as goal

abbrev pub invariant-loop-name : goal.invariant-loop-name
invariant-loop-name l = SoFar (map comp_of l.components) l.text (length l.yielded) l.places.items
