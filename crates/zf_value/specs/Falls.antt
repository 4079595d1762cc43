-- What a form holds is less deep than it. No public clause rests on this file.
use Rattle.std.specs.Prelude.{◌≤◌, max}
use Rattle.std.proofs.Common.{arith}
use Rattle.zf_value.specs.declared.value.Form.{Form}
use Rattle.zf_value.specs.declared.value.Form.TheVariants as form
use Rattle.zf_value.specs.declared.value.Value.TheDeep.{deep-Form}
use Rattle.zf_value.specs.Forms.{value_of}
use Rattle.zf_value.specs.Heights.{height, height-Tuple, height-SetOf, most-greatest}

pub falls : (f : Form) → max (deep-Form f) 0 ≤ height (value_of f)
falls (form.Int n) = omega arith
falls (form.Elem t i) = omega arith
falls (form.Tuple xs) = omega (arith, height-Tuple xs, most-greatest xs)
falls (form.SetOf xs) = omega (arith, height-SetOf xs, most-greatest xs)
