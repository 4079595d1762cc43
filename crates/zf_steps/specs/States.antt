-- The components of the state, before and after.
use Rattle.std.specs.Prelude.{◌≡◌, List, map}
use Rattle.zf_steps.specs.Prelude.{Comp, comp_of}
use Rattle.zf_steps.specs.declared.shape.States.{States}
use Rattle.zf_steps.specs.Shapes.{with_strokes}

abbrev pub before_of : States → List Comp
before_of s = map comp_of s.before.now

abbrev pub after_of : States → List Comp
after_of s = map comp_of s.after.now

-- those after have one more stroke
abbrev pub AreStates : States → Type 0
AreStates s = after_of s ≡ with_strokes (before_of s)
