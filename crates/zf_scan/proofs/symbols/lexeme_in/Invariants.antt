use Rattle.zf_scan.proofs.Prelude.{◌≡◌, drop, List, ℕ, listed_in}
use Rattle.zf_scan.proofs.symbols.lexeme_in.Given as goal

abbrev pub invariant-loop-row : goal.invariant-loop-row
invariant-loop-row l = (front : List ℕ) → listed_in front l.text (drop l.row-index l.rows) ≡ listed_in front l.text l.rows
