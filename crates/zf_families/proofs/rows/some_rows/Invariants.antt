use Rattle.zf_families.proofs.Prelude.{◌∷◌, ◌≡◌, ◌≤◌, [], drop, length, fitting, some}
use Rattle.zf_families.proofs.rows.some_rows.Given as goal

abbrev pub invariant-loop-place : goal.invariant-loop-place
invariant-loop-place l = (l.place ≤ length l.layers) × (l.rows.items ≡ [] ∷ some (fitting l.fits) (drop l.place l.layers))

abbrev pub decreases-loop-place : goal.decreases-loop-place
decreases-loop-place l = l.place
