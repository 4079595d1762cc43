-- A search that begins is, for what writes its lines, at its beginning.
use Rattle.zf_lines.proofs.Prelude.{subst, sym, AreAllAhead, Stage, value_order, Value, Schema, Environment, property, conjuncts_of, counted_goal, Goal, Bindings, IsAtStart, IsCountingAtStart, Begins, BeginsCounting, Portion}
use Rattle.zf_plan.specs.{SayTheSame}

pub at_start : (e : Environment) (s : Schema) (p : Portion) (g : Goal) (b : Stage Value) → Begins e s p g b → IsAtStart s g b
at_start e s p g b h = record {
  same = subst (λ f. SayTheSame (conjuncts_of g) (property f s.conjuncts)) (sym h.environment) h.same;
  ahead = subst (λ n. AreAllAhead value_order (property g.environment s.conjuncts) b.ranges n b.ahead) (sym h.named)
      (subst (λ f. AreAllAhead value_order (property f s.conjuncts) b.ranges p.after b.ahead) (sym h.environment) h.ahead);
  first = h.first;
}

pub counting_at_start : (e : Environment) (s : Schema) (p : Portion) (b : Bindings) → BeginsCounting e s p b → IsCountingAtStart s b
counting_at_start e s p b h = record {
  starts = at_start e s p (counted_goal b.walk) b.walk.stage h.begins;
  conjuncts = h.conjuncts;
  untested = h.untested;
}
