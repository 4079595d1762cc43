use Rattle.zf_plan.proofs.Prelude.{◌∙◌, arith, length, option_copied, subst, sym, picked, False, IsSoFar, trees_of, all_of, AreDue, AreTouched, CountsFound, CountsOn, IsLeafOrBelow, IsPlain, NeedsWithin, Counts}
use Rattle.zf_plan.proofs.Numbers.{touched_flat}
use Rattle.zf_plan.proofs.Seeing.{leaves-due}
use Rattle.zf_plan.proofs.SoFar.{so-false, so-tested, touched-each}
use Rattle.zf_plan.proofs.Stepping.{finds-from, finds-ok, finds-unreached, setting-of}
use Rattle.zf_plan.proofs.Counting.{basis-of, counts-tested, counts-unreached, due-all, due-ascending, due-here, found-false, kept-below}
use Rattle.zf_plan.proofs.steps.test_row.Goals as goal

pub returns-then-not-is_reached-clause-finds : goal.returns-then-not-is_reached-clause-finds
returns-then-not-is_reached-clause-finds g c =
    let given = setting-of g.met.V.Ord.total (g.met.J.Judge.one_truth c.args.problem.now.judge.now) (g.met.J.Judge.kept c.args.problem.now.judge.now) c.requires.asked.sound in
    finds-unreached given (picked c.args.problem.now.ranges.now c.args.places.now) (sym c.is_reached.ensures ∙ c.if-not-is_reached.true)

pub returns-then-not-is_reached-clause-counts : goal.returns-then-not-is_reached-clause-counts
returns-then-not-is_reached-clause-counts g c = λ plain counts.
    let basis = basis-of g.met.V.Ord.total (g.met.J.Judge.one_truth c.args.problem.now.judge.now) (g.met.J.Judge.kept c.args.problem.now.judge.now) c.requires.asked.sound in
    counts-unreached basis c.args.places.now c.requires.asked.within c.args.memo.now.tests (sym c.is_reached.ensures ∙ c.if-not-is_reached.true) counts

pub test-requires-clause-leaves : goal.test-requires-clause-leaves
test-requires-clause-leaves g c =
    let l = g.J.Judge.conjuncts c.args.problem.now.judge.now in
    let trees = trees_of c.args.problem.now.forest.now in
    let k = length c.args.places.now in
    leaves-due l trees c.requires.asked.sound.leaves k c.deref.result.now (subst (AreDue l trees k (length trees)) (sym c.deref.ensures.value) c.layer-layer.ensures.layer.due)

pub returns-in-False : goal.returns-in-False
returns-in-False g c =
    let l = g.J.Judge.conjuncts c.args.problem.now.judge.now in
    let trees = trees_of c.args.problem.now.forest.now in
    let ranges = c.args.problem.now.ranges.now in
    let after = option_copied c.args.problem.now.after in
    let places = c.args.places.now in
    let row = picked ranges places in
    let k = length places in
    let keep = g.met.J.Judge.kept c.args.problem.now.judge.now in
    let leaves = c.deref.result.now in
    let due = subst (AreDue l trees k (length trees)) (sym c.deref.ensures.value) c.layer-layer.ensures.layer.due in
    let tested = c.in_ok-tested.ensures.tested in
    let given = setting-of g.met.V.Ord.total (g.met.J.Judge.one_truth c.args.problem.now.judge.now) keep c.requires.asked.sound in
    let basis = basis-of g.met.V.Ord.total (g.met.J.Judge.one_truth c.args.problem.now.judge.now) keep c.requires.asked.sound in
    let reached = sym c.is_reached.ensures ∙ c.if-not-is_reached.false in
    let so : IsSoFar l trees row (IsLeafOrBelow l trees k) c.in_ok-tested.tested =
    so-tested l trees keep c.requires.asked.sound.leaves ranges places c.requires.asked.within leaves due c.args.before c.in_ok-tested.tested tested.0 c.requires.before tested.1 c.requires.so_far in
    let none = subst (IsSoFar l trees row (IsLeafOrBelow l trees k)) c.in-False.is so in
    let found = λ (plain : IsPlain l trees c.args.problem.now.plan.now) (counts : Counts g.V.Ord.cmp l ranges after row all_of c.args.memo.now.tests).
    let flat = plain.flat in
    counts-tested basis places c.requires.asked.within reached (kept-below l trees k row c.args.before flat c.requires.before c.requires.so_far) leaves
    (due-ascending l trees k leaves flat due) (due-here l trees k leaves flat due) (due-all l trees k leaves flat due)
    c.args.before c.in_ok-tested.tested c.args.memo.now.tests c.test.new.self.tests tested counts in
    record {
      remembers = c.in_ok-tested.ensures.remembers;
      more = c.in_ok-tested.ensures.more;
      finds = finds-from given row False reached (so-false l trees (IsLeafOrBelow l trees k) (NeedsWithin l trees (length row)) row none);
      counts = λ plain counts. found-false basis row c.in_ok-tested.tested c.test.new.self.tests c.in-False.is (found plain counts);
    }

pub test_trees-requires : goal.test_trees-requires
test_trees-requires g c =
    let l = g.J.Judge.conjuncts c.args.problem.now.judge.now in
    let trees = trees_of c.args.problem.now.forest.now in
    let ranges = c.args.problem.now.ranges.now in
    let places = c.args.places.now in
    let k = length places in
    let keep = g.met.J.Judge.kept c.args.problem.now.judge.now in
    let leaves = c.deref.result.now in
    let due = subst (AreDue l trees k (length trees)) (sym c.deref.ensures.value) c.layer-layer.ensures.layer.due in
    let tested = c.in_ok-tested.ensures.tested in
    let numbers = c.deref-2.result.now in
    let touched = subst (AreTouched l trees k (length trees)) (sym c.deref-2.ensures.value) c.layer-layer.ensures.layer.touched in
    record {
      asked = record { sound = c.requires.asked.sound; keys = c.requires.asked.keys; within = c.requires.asked.within; remembers = c.in_ok-tested.ensures.remembers };
      conjuncts = touched.below;
      touched = touched-each l trees k numbers touched;
      before = c.in_default.not-False;
      so_far = so-tested l trees keep c.requires.asked.sound.leaves ranges places c.requires.asked.within leaves due c.args.before c.in_ok-tested.tested
          tested.0 c.requires.before tested.1 c.requires.so_far;
    }

pub returns : goal.returns
returns g c =
    let l = g.J.Judge.conjuncts c.args.problem.now.judge.now in
    let trees = trees_of c.args.problem.now.forest.now in
    let ranges = c.args.problem.now.ranges.now in
    let after = option_copied c.args.problem.now.after in
    let places = c.args.places.now in
    let row = picked ranges places in
    let k = length places in
    let keep = g.met.J.Judge.kept c.args.problem.now.judge.now in
    let leaves = c.deref.result.now in
    let due = subst (AreDue l trees k (length trees)) (sym c.deref.ensures.value) c.layer-layer.ensures.layer.due in
    let tested = c.in_ok-tested.ensures.tested in
    let numbers = c.deref-2.result.now in
    let touched = subst (AreTouched l trees k (length trees)) (sym c.deref-2.ensures.value) c.layer-layer.ensures.layer.touched in
    let given = setting-of g.met.V.Ord.total (g.met.J.Judge.one_truth c.args.problem.now.judge.now) keep c.requires.asked.sound in
    let basis = basis-of g.met.V.Ord.total (g.met.J.Judge.one_truth c.args.problem.now.judge.now) keep c.requires.asked.sound in
    let reached = sym c.is_reached.ensures ∙ c.if-not-is_reached.false in
    let found = λ (plain : IsPlain l trees c.args.problem.now.plan.now) (counts : Counts g.V.Ord.cmp l ranges after row all_of c.args.memo.now.tests).
    let flat = plain.flat in
    counts-tested basis places c.requires.asked.within reached (kept-below l trees k row c.args.before flat c.requires.before c.requires.so_far) leaves
    (due-ascending l trees k leaves flat due) (due-here l trees k leaves flat due) (due-all l trees k leaves flat due)
    c.args.before c.in_ok-tested.tested c.args.memo.now.tests c.test.new.self.tests tested counts in
    let none = λ (plain : IsPlain l trees c.args.problem.now.plan.now).
    touched_flat l trees k (length trees) numbers touched (λ j m. plain.flat.leaves j (let n = plain.flat.number in omega (arith, n, m))) in
    record {
      remembers = c.test_trees.ensures.remembers;
      more = omega (arith, c.test_trees.ensures.same, c.in_ok-tested.ensures.more);
      finds = finds-ok given places numbers c.test_trees.result c.requires.asked.within reached touched c.test_trees.ensures.so_far;
      counts = λ plain counts.
          subst (λ r. CountsOn g.V.Ord.cmp l ranges after row r c.test_trees.new.memo.tests) (sym (c.test_trees.ensures.none (none plain)))
          (subst (CountsFound g.V.Ord.cmp l ranges after row c.in_ok-tested.tested) (sym c.test_trees.ensures.same) (found plain counts));
    }
