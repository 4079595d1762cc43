use Rattle.zf_families.proofs.Prelude.{◌++◌, ◌≡◌, take, extended, fitting}
use Rattle.zf_families.proofs.rows.extend_by.Given as goal

abbrev pub invariant-loop-row : goal.invariant-loop-row
invariant-loop-row l = l.next.items ≡ l.initial.next.items ++ extended (fitting l.fits) (take l.row-index l.rows) l.p
