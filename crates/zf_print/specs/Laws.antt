-- What is claimed of the texts alone.
use Rattle.std.specs.Prelude.{◌≡◌, ℕ, List, ◌++◌}
use Rattle.zf_term.specs.{Comp, Ty}
use Rattle.zf_value.specs.declared.plain.Value.{Value}
use Rattle.zf_meaning.specs.{Environment, IsOfType, IsRow}
use Rattle.zf_print.specs.declared.spelling.Spelling.{Spelling}
use Rattle.zf_print.specs.ValueTexts.{value_text}
use Rattle.zf_print.specs.BindingTexts.{binding_object, binding_text}
use Rattle.zf_print.specs.Words.{Ends}
use Rattle.zf_print.specs.Clear.{AreClear}

-- values of one type with one text are one
abbrev pub OneValue : Type 0
OneValue = (ss : List Spelling) (e : Environment) (t : Ty) (v w : Value) → AreClear ss e.sizes → IsOfType e t v → IsOfType e t w → value_text ss v ≡ value_text ss w → v ≡ w

-- a text begins with the text of one value of a type alone, where no word goes on after it
abbrev pub OneEnd : Type 0
OneEnd = (ss : List Spelling) (e : Environment) (t : Ty) (v w : Value) (r s : List ℕ) → AreClear ss e.sizes → IsOfType e t v → IsOfType e t w → Ends r → Ends s → value_text ss v ++ r ≡ value_text ss w ++ s → (v ≡ w) × (r ≡ s)

-- rows of one schema with one line are one
abbrev pub OneRow : Type 0
OneRow = (ss : List Spelling) (e : Environment) (cs : List Comp) (vs ws : List Value) → AreClear ss e.sizes → IsRow e cs vs → IsRow e cs ws → binding_text ss cs vs ≡ binding_text ss cs ws → vs ≡ ws

-- rows of one schema with one object are one
abbrev pub OneObject : Type 0
OneObject = (ss : List Spelling) (e : Environment) (cs : List Comp) (vs ws : List Value) → AreClear ss e.sizes → IsRow e cs vs → IsRow e cs ws → binding_object ss cs vs ≡ binding_object ss cs ws → vs ≡ ws
