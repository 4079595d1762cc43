-- A line is that of one row, an object too, and what is reported of a text that is refused is that it is the line of none.
use Rattle.law_answered.proofs.Prelude.{◌∙◌, ◌≡◌, [], ap, List, subst, sym, ℕ, Defined, Schema, Environment, Size, one_row, binding_text, AreClear, spellings, IsSchemaAt, Lines, Objects, OneRowOfALine, OneRowOfAnObject, RefusedLinesAreOfNoRow}
use Rattle.zf_read.specs.{IsNoLine}
use Rattle.law_answered.proofs.OneSearch.{clear_at}

clear_there : (source name : List ℕ) (sizes : List Size) (g : List Defined) (a : Schema) (e : Environment) → IsSchemaAt source name sizes g a e → AreClear (spellings e.globals) e.sizes
clear_there source name sizes g a e at = clear_at source g [] sizes e.numbers e at.has_schema.checks at.complete at.environment

pub one_row_of_a_line : OneRowOfALine
one_row_of_a_line source name sizes g a e text row other at one two =
    one_row Lines (spellings e.globals) e (clear_there source name sizes g a e at) a.comps row other one.0 two.0 (sym one.1 ∙ two.1)

pub one_row_of_an_object : OneRowOfAnObject
one_row_of_an_object source name sizes g a e row other at one two same =
    one_row Objects (spellings e.globals) e (clear_there source name sizes g a e at) a.comps row other one two same

pub refused_lines_are_of_no_row : RefusedLinesAreOfNoRow
unfolding IsNoLine
refused_lines_are_of_no_row source name sizes g a e text at =
    let same : spellings e.globals ≡ spellings g = ap spellings at.environment.0 in (
      λ none row line. none (subst (λ ss. AreClear ss e.sizes) same (clear_there source name sizes g a e at)) row line.0 (line.1 ∙ ap (λ ss. binding_text ss a.comps row) same),
      λ none clear row is line. none row (is, line ∙ ap (λ ss. binding_text ss a.comps row) (sym same)),
    )
