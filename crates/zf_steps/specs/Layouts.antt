-- How the binding of a label is laid out. No public clause rests on this file.
use Rattle.std.specs.Prelude.{ℕ, List}
use Rattle.zf_steps.specs.Prelude.{Comp, binding_object, binding_text, Spelling, Value}
use Rattle.zf_steps.specs.Labels.{column_text}
use Rattle.zf_steps.specs.declared.layout.Layout.{Layout}
use Rattle.zf_steps.specs.declared.layout.Layout.TheVariants.{Column, Line, Object}

-- on one line, a column, or an object
abbrev pub laid_out : List Spelling → Layout → List Comp → List Value → List ℕ
laid_out ss Line cs vs = binding_text ss cs vs
laid_out ss Column cs vs = column_text ss cs vs
laid_out ss Object cs vs = binding_object ss cs vs
