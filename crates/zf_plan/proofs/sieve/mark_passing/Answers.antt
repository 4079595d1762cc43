use Rattle.zf_plan.proofs.Prelude.{[], ◌++◌, ◌+◌, ◌<◌, ◌∙◌, ◌∷◌, ◌≡◌, ap, arith, get_or, length, List, refl, rules, subst, sym, take, ℕ, range-is, AreWithin, picked, Remembers, trees_of, take-append_seam, AreSifted, IsOneFalse}
use Rattle.zf_plan.proofs.Sieving.{held, remembers-longer, remembers-shorter, sifted-more, sifted-none, within-push}
use Rattle.zf_plan.proofs.sieve.mark_passing.Goals as goal

pub loop-place-init : goal.loop-place-init
loop-place-init g c = record {
  same = search rules;
  remembers = c.requires.asked.remembers;
  tests = refl;
  passes = subst (AreSifted (g.J.Judge.conjuncts c.args.problem.now.judge.now)
      (trees_of c.args.problem.now.forest.now) c.args.problem.now.ranges.now c.args.conjuncts.now c.args.places.now 0) (sym c.clear.ensures.items)
      (sifted-none (g.J.Judge.conjuncts c.args.problem.now.judge.now) (trees_of c.args.problem.now.forest.now) c.args.problem.now.ranges.now c.args.conjuncts.now c.args.places.now);
}

pub is_one_false-requires-clause-asked : goal.is_one_false-requires-clause-asked
is_one_false-requires-clause-asked g c =
    let l = g.J.Judge.conjuncts c.args.problem.now.judge.now in
    let uses = g.J.Judge.is_used c.args.problem.now.judge.now in
    let ranges = c.args.problem.now.ranges.now in
    let places = c.args.places.now in
    let k = length places in
    let place = c.loop-place.place in
    let v = c.range.inside.values in
    let column = range-is ranges k c.index-ranges-next.result c.requires.deeper c.index-ranges-next.is in
    let there : place < length (get_or ranges k []) = omega (arith, c.loop-place-test.true, c.len-place-end.ensures, v.ok.0, ap length c.range.view_is, ap length column) in
    let longer : c.deref.result.now ≡ places ++ place ∷ [] = c.deref.ensures.value ∙ c.in_ok-push.ensures.items ∙ ap (λ (js : List ℕ). js ++ place ∷ []) c.loop-place.invariant.same in
    record {
      sound = c.requires.asked.sound;
      keys = c.requires.asked.keys;
      within = subst (AreWithin ranges) (sym longer) (within-push ranges places place c.requires.asked.within c.requires.deeper there);
      remembers = subst (λ (js : List ℕ). Remembers l uses ranges js c.forget.new.self) (sym longer)
          (remembers-longer l uses ranges places place c.loop-place.memo c.forget.new.self c.loop-place.invariant.remembers c.forget.ensures);
    }

pub returns-in_err-is_false-clause-remembers : goal.returns-in_err-is_false-clause-remembers
returns-in_err-is_false-clause-remembers g c =
    remembers-shorter (g.J.Judge.conjuncts c.args.problem.now.judge.now) (g.J.Judge.is_used c.args.problem.now.judge.now) c.args.problem.now.ranges.now
    c.args.places.now c.loop-place.place c.is_one_false.new.memo c.deref.result.now
    (c.deref.ensures.value ∙ c.in_ok-push.ensures.items ∙ ap (λ (js : List ℕ). js ++ c.loop-place.place ∷ []) c.loop-place.invariant.same) c.in_err-is_false.ensures.remembers

pub returns-in_err-push-2-clause-remembers : goal.returns-in_err-push-2-clause-remembers
returns-in_err-push-2-clause-remembers g c =
    remembers-shorter (g.J.Judge.conjuncts c.args.problem.now.judge.now) (g.J.Judge.is_used c.args.problem.now.judge.now) c.args.problem.now.ranges.now
    c.args.places.now c.loop-place.place c.is_one_false.new.memo c.deref.result.now
    (c.deref.ensures.value ∙ c.in_ok-push.ensures.items ∙ ap (λ (js : List ℕ). js ++ c.loop-place.place ∷ []) c.loop-place.invariant.same) c.in_ok-is_false.ensures.remembers

pub loop-place-preserved : goal.loop-place-preserved
loop-place-preserved g c =
    let l = g.J.Judge.conjuncts c.args.problem.now.judge.now in
    let uses = g.J.Judge.is_used c.args.problem.now.judge.now in
    let trees = trees_of c.args.problem.now.forest.now in
    let ranges = c.args.problem.now.ranges.now in
    let places = c.args.places.now in
    let conjuncts = c.args.conjuncts.now in
    let place = c.loop-place.place in
    let now = c.loop-place.invariant in
    let pushed : c.push.new.self.items ≡ places ++ place ∷ [] = c.in_ok-push.ensures.items ∙ ap (λ (js : List ℕ). js ++ place ∷ []) now.same in
    let longer : c.deref.result.now ≡ places ++ place ∷ [] = c.deref.ensures.value ∙ pushed in
    record {
      same = c.truncate.ensures.items ∙ ap (take (length places)) pushed ∙ take-append_seam places (place ∷ []);
      remembers = remembers-shorter l uses ranges places place c.is_one_false.new.memo c.deref.result.now longer c.in_ok-is_false.ensures.remembers;
      tests = c.in_ok-is_false.ensures.same ∙ c.forget.ensures.tests ∙ now.tests;
      passes = subst (AreSifted l trees ranges conjuncts places (place + 1)) (sym c.in_ok-push-2.ensures.items)
          (sifted-more l trees ranges conjuncts places place c.loop-place.passes.items _ now.passes
          (λ e. subst (λ (js : List ℕ). IsOneFalse l trees conjuncts (picked ranges js)) longer (c.in_ok-is_false.ensures.is_false (held c.in_ok-is_false.is_false e))));
    }

pub returns-clause-sifted : goal.returns-clause-sifted
returns-clause-sifted g c =
    let ranges = c.args.problem.now.ranges.now in
    let places = c.args.places.now in
    let k = length places in
    let v = c.range.inside.values in
    let column = range-is ranges k c.index-ranges-next.result c.requires.deeper c.index-ranges-next.is in
    let all : c.loop-place.place ≡ length (get_or ranges k []) = omega (
      arith,
      c.loop-place-test.false,
      c.loop-place.auto.place-end,
      c.len-place-end.ensures,
      v.ok.0,
      ap length c.range.view_is,
      ap length column,
    ) in
    subst (λ n. AreSifted (g.J.Judge.conjuncts c.args.problem.now.judge.now)
    (trees_of c.args.problem.now.forest.now) ranges c.args.conjuncts.now places n c.loop-place.passes.items) all c.loop-place.invariant.passes
