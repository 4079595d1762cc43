use Rattle.zf_typing.proofs.Prelude.{◌<◌, ◌≡◌, get_or, ℕ, type_of}
use Rattle.zf_typing.proofs.judge.lists.set_of.Given as goal

abbrev pub invariant-loop-place : goal.invariant-loop-place
invariant-loop-place l = (i : ℕ) → i < l.place → type_of l.first ≡ type_of (get_or l.types i l.first)
