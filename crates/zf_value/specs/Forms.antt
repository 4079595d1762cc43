-- What a form is seen as, and what holds of it.
use Rattle.zf_value.specs.declared.plain.Value.{Value, Int, Elem, Tuple, SetOf}
use Rattle.zf_value.specs.declared.value.Form.{Form}
use Rattle.zf_value.specs.declared.value.Form.TheVariants as form
use Rattle.zf_value.specs.declared.plain.Value.TheOpen.{Value-F}
use Rattle.zf_value.specs.Lists.{IsAscending}

abbrev pub value_of : Form → Value
value_of (form.Int n) = Int n
value_of (form.Elem t i) = Elem t i
value_of (form.Tuple xs) = Tuple xs
value_of (form.SetOf xs) = SetOf xs

abbrev pub IsOrdered : Form → Type 0
IsOrdered (form.Int n) = Unit {0}
IsOrdered (form.Elem t i) = Unit {0}
IsOrdered (form.Tuple xs) = Unit {0}
IsOrdered (form.SetOf xs) = IsAscending xs

-- the form as one level of the value
abbrev pub level_of : Form → Value-F Value
level_of (form.Int n) = Value-F.Int n
level_of (form.Elem t i) = Value-F.Elem t i
level_of (form.Tuple xs) = Value-F.Tuple xs
level_of (form.SetOf xs) = Value-F.SetOf xs
