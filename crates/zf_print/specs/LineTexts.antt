-- The parts of a line one after another. No public clause rests on this file.
use Rattle.std.specs.Prelude.{ℕ, zero, suc, List, [], codes}
use Rattle.zf_term.specs.{Comp}
use Rattle.zf_value.specs.declared.plain.Value.{Value}
use Rattle.zf_format.specs.declared.format.Format.TheVariants.{Lines}
use Rattle.zf_print.specs.declared.spelling.Spelling.{Spelling}
use Rattle.zf_print.specs.ValueTexts.{later_parts, parted}
use Rattle.zf_print.specs.BindingTexts.{component_in, components_in}

-- what stands before a part after n others
abbrev pub comma_before : ℕ → List ℕ
comma_before zero = []
comma_before (suc n) = codes ", "

abbrev pub component_text : List Spelling → Comp → Value → List ℕ
component_text = component_in Lines

abbrev pub component_texts : List Spelling → List Comp → List Value → List (List ℕ)
component_texts = components_in Lines

-- after n others
abbrev pub goes_on : ℕ → List (List ℕ) → List ℕ
goes_on zero ts = parted ts
goes_on (suc n) ts = later_parts ts
