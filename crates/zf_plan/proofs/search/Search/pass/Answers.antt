use Rattle.zf_plan.proofs.Prelude.{false≢true, trees_of}
use Rattle.zf_plan.proofs.Leaving.{leaves-stand, left-past}
use Rattle.zf_plan.proofs.search.Search.pass.Goals as goal

pub invariant_of-self : goal.invariant_of-self
invariant_of-self g c =
    let w = c.self.inside in
    let sound = c.self.invariant.sound in
    let plan = sound.plan in
    record {
      sound = record {
        ascending = sound.ascending;
        ties = sound.ties;
        named = sound.named;
        due = sound.due;
        leaves = sound.leaves;
        plan = record { all = plan.all; each = plan.each; bare = λ e. absurd (false≢true e) };
      };
      stands = leaves-stand (g.J.Judge.conjuncts w.judge) (g.J.Judge.is_used w.judge) (trees_of w.forest) w.ranges.items w.place w.memo w.choices.items
          c.self.invariant.stands c.args.count c.leave.new.place c.leave.ensures;
      keys = c.self.invariant.keys;
      whole = λ e. absurd (false≢true e);
      plain = λ e. absurd (false≢true e);
      counts = λ e. absurd (false≢true e);
    }

pub returns-then-self-clause-passed : goal.returns-then-self-clause-passed
returns-then-self-clause-passed g c =
    let w = c.self.inside in
    rw (← c.self.view_is) (left-past (g.J.Judge.conjuncts w.judge) (g.J.Judge.is_used w.judge) (trees_of w.forest) w.ranges.items w.place w.memo w.choices.items
    c.self.invariant.stands c.args.count c.leave.new.place w.given c.if-self.true c.leave.ensures)
