use Rattle.zf_walk.proofs.Prelude.{◌≡◌, ◌≤◌, AreUsed, combinations}
use Rattle.zf_walk.proofs.tables.table_of.Given as goal

-- The used ones of the components so far, and how many combinations of their values there are.
abbrev pub invariant-loop-component : goal.invariant-loop-component
invariant-loop-component g l = record {
  used : AreUsed l.ranges (g.J.Judge.is_used l.judge l.conjunct) l.component l.used.items;
  product : combinations l.used.items ≡ l.combinations;
  small : l.combinations ≤ l.room;
}
