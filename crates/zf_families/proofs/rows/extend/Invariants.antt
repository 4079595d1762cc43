use Rattle.zf_families.proofs.Prelude.{◌++◌, ◌≡◌, take, extensions, fitting}
use Rattle.zf_families.proofs.rows.extend.Given as goal

abbrev pub invariant-loop-p : goal.invariant-loop-p
invariant-loop-p l = l.next.items ≡ l.initial.next.items ++ extensions (fitting l.fits) (take l.p-index l.layer) l.rows
