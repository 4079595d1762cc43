use Rattle.zf_checker.proofs.Prelude.{◌≡◌, drop, map, paragraph_of, globals_of, next_number, a_paragraph, Runs, Checked}
use Rattle.zf_checker.proofs.checker.check_paragraphs.Given as goal

abbrev pub invariant-loop-paragraph : goal.invariant-loop-paragraph
invariant-loop-paragraph l = record {
  runs : (end : Checked) → Runs l.checked (map a_paragraph (map paragraph_of (drop l.paragraph-index l.paragraphs))) end
      → Runs l.initial.checked (map a_paragraph (map paragraph_of l.paragraphs)) end;
  numbered : l.next ≡ next_number (globals_of l.checked.globals);
}
