use Rattle.zf_families.proofs.Prelude.{◌≡◌, take, true, fits_apart}
use Rattle.zf_families.proofs.rows.is_apart.Given as goal

abbrev pub invariant-loop-q : goal.invariant-loop-q
invariant-loop-q l = fits_apart l.p (take l.q-index l.row) ≡ true
