use Rattle.zf_enum.proofs.Prelude.{◌≡◌, ◌<◌, ℕ, false, resolved_of, uses}
use Rattle.zf_enum.proofs.keys.is_only.Given as goal

-- The components before this one are not named.
abbrev pub invariant-loop-other : goal.invariant-loop-other
invariant-loop-other l = (j : ℕ) → j < l.other → uses (resolved_of l.term) j ≡ false
