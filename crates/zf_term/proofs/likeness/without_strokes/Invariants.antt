-- No stroke begins before the place.
use Rattle.std.proofs.Common.{◌≡◌, ◌++◌, drop, take}
use Rattle.zf_term.specs.{up_to_stroke, without_strokes}
use Rattle.zf_term.proofs.likeness.without_strokes.Given as goal

abbrev pub invariant-loop-place : goal.invariant-loop-place
invariant-loop-place l = without_strokes l.name ≡ take l.place l.name ++ up_to_stroke l.before (drop l.place l.name)
