-- The lines of a search, in each format. Each ends in a newline byte.
use Rattle.std.specs.Prelude.{ℕ, List, ◌++◌, codes, decimal}
use Rattle.zf_lines.specs.Prelude.{Format, Lines, Objects, Comp, Value, Spelling, row_text}

abbrev pub row_line : Format → List Spelling → List Comp → List Value → List ℕ
row_line f ss comps row = row_text f ss comps row ++ codes "\n"

-- ---- the last line: the limit is reached, no row is left, or the next one is out of bounds

abbrev pub more_line : Format → List ℕ
more_line Lines = codes "more\n"
more_line Objects = codes "{\"more\": true}\n"

abbrev pub end_line : Format → List ℕ
end_line Lines = codes "end\n"
end_line Objects = codes "{\"end\": true}\n"

abbrev pub out_line : Format → List Spelling → List Comp → List Value → List ℕ
out_line Lines ss comps row = codes "out of bounds at: " ++ row_line Lines ss comps row
out_line Objects ss comps row = codes "{\"out of bounds at\": " ++ row_text Objects ss comps row ++ codes "}\n"

abbrev pub tests_line : Format → ℕ → List ℕ
tests_line Lines number = codes "tests: " ++ decimal number ++ codes "\n"
tests_line Objects number = codes "{\"tests\": " ++ decimal number ++ codes "}\n"
