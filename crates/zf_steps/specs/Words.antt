-- The words of an exploration, and the last ones of a search, in the form that is asked for.
use Rattle.std.specs.Prelude.{ℕ, ◌++◌, List}
use Rattle.zf_steps.specs.Prelude.{Result, Words}
use Rattle.zf_steps.specs.declared.form.Form.{Form}
use Rattle.zf_steps.specs.declared.form.Form.TheVariants as forms
use Rattle.zf_steps.specs.declared.node.Label.{Label}
use Rattle.zf_steps.specs.declared.node.Node.{Node}
use Rattle.zf_steps.specs.Lines.{count_line, line_words, result_line}
use Rattle.zf_steps.specs.Objects.{count_object, objects, result_object}
use Rattle.zf_steps.specs.Statements.{graph, graph_last}
use Rattle.zf_steps.specs.Systems.{System}

abbrev pub words_in : Form → System → Words Node Label
words_in forms.Lines m = line_words m
words_in forms.Graph m = graph m
words_in forms.Objects m = objects m

abbrev pub words : System → Words Node Label
words m = words_in m.form m

abbrev pub verdict_in : Form → Result → (states steps : ℕ) → List ℕ
verdict_in forms.Lines result states steps = result_line result ++ count_line states steps
verdict_in forms.Graph result states steps = graph_last (result_line result) (count_line states steps)
verdict_in forms.Objects result states steps = result_object result ++ count_object states steps

abbrev pub verdict : System → Result → (states steps : ℕ) → List ℕ
verdict m = verdict_in m.form
