-- What is claimed of the lines that a run writes.
use Rattle.std.specs.Prelude.{List, ℕ, Option, Contains}
use Rattle.zf_term.specs.{Defined, Schema}
use Rattle.zf_value.specs.declared.plain.Value.{Value}
use Rattle.zf_walk.specs.{Event}
use Rattle.zf_meaning.specs.{Environment}
use Rattle.zf_enum.specs.{Portion}
use Rattle.zf_print.specs.{binding_text, spellings}
use Rattle.zf_lines.specs.{HasEvents}
use Rattle.zf_command.specs.declared.job.Request.{Request}
use Rattle.zf_answers.specs.{IsLineOf, IsSearch}

-- the text of each event of a search is the line of a row of the schema's types: what the option for the named binding takes
abbrev pub LinesAreRows : Type 0
LinesAreRows =
    (r : Request) (source : List ℕ) (globals : List Defined) (a : Schema) (e : Environment) (p : Portion) (last : Option (List Value)) (events : List (Event Value)) (x : Event Value)
    → IsSearch r source globals a e p → HasEvents e a p last events → Contains events x → IsLineOf e a.comps (binding_text (spellings e.globals) a.comps x.row) x.row
