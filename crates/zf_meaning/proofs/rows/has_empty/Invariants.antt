use Rattle.zf_meaning.proofs.Prelude.{◌≡◌, eqb, false, length, take, list_any, seen}
use Rattle.zf_meaning.proofs.rows.has_empty.Given as goal

abbrev pub invariant-loop-list : goal.invariant-loop-list
invariant-loop-list l = list_any (λ xs. eqb (length xs) 0) (seen (take l.list-index l.lists)) ≡ false
