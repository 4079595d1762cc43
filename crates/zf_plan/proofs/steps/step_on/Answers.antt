use Rattle.zf_plan.proofs.Prelude.{◌≢◌, ahead_of, Bool, Conjuncts, False, Ordering, Takes, Tree, true, Truth, AreWithin, Remembers, rules, set, Stands, Option, List, None, get_or_default, ◌<◌, ◌+◌, bound, ◌-◌, ◌≤◌, ◌∙◌, ◌≡◌, ap, arith, get_or, inl, inr, length, subst, sym, take, ℕ, option_copied, cases_eq, get_or-set_other, get_or-set_same, length-set, IsAt, IsTruthOf, picked, Out, True, IsSoFar, trees_of, path, planted, Place, all_of, AreSeen, below_it, CountsFound, Finds, Forgets, IsBlamed, IsCounted, IsFound, IsKept, IsPlain, mark_at, Memory, NeedsWithin, PassesOpen, Counts, with_item, Plan}
use Rattle.zf_plan.proofs.Results.{on-err}
use Rattle.zf_plan.proofs.Marking.{kept-chosen, landed-marked}
use Rattle.zf_plan.proofs.Seeing.{seen-all, unseen-all}
use Rattle.zf_plan.proofs.Moving.{length-bound, length-path}
use Rattle.zf_plan.proofs.Jumping.{jumps, jumps-counted, opened-is, passed-is, passes-open-stand, passes-stand}
use Rattle.zf_plan.proofs.Stepping.{before-found, descends, descends-stand, stands-refused, finds-hopeless, finds-reached, finds-whole, gives-end, passes, retreats, retreats-stand, rests-still, Setting, setting-of, takes-whole}
use Rattle.zf_plan.proofs.Counting.{basis-of, counted-descends, counted-here, counted-retreats, counted-still, counts-whole, found-false, found-other}
use Rattle.zf_plan.proofs.steps.step_on.Goals as goal

was-none : (choices : List (Option (List ℕ))) (k : ℕ) (other : Option (List ℕ)) → k < length choices → get_or choices k None ≡ None → get_or choices k other ≡ None
was-none choices k other near none = sym (get_or_default choices k None other near) ∙ none

-- what holds where a whole row is an answer, with its truth
record Answered {V : Type 0} (cmp : V → V → Ordering) (l : Conjuncts V) (uses : ℕ → ℕ → Bool) (trees : List Tree) (ranges : List (List V)) (after : Option (List V)) (p q : Place)
    (old : ℕ) (new : Memory) (choices : List (Option (List ℕ))) (truth t : Truth) : Type 0 where
  pub stands : Stands l uses trees ranges q new choices
  pub takes : Takes cmp (planted l trees) ranges after (ahead_of ranges p) (record { row = path ranges q; truth = t }) (ahead_of ranges q) × (q.depth ≡ length ranges)
  pub counts : IsCounted cmp l ranges after p old choices → (Counts cmp l ranges after (path ranges p) all_of old → CountsFound cmp l ranges after (path ranges p) truth new.tests)
      → IsCounted cmp l ranges after q new.tests choices

answered : {V : Type 0} {cmp : V → V → Ordering} {l : Conjuncts V} {uses : ℕ → ℕ → Bool} {trees : List Tree} {ranges : List (List V)} {after : Option (List V)} {planned : Plan}
    → Setting cmp l uses trees ranges after planned → (p q : Place) (old new : Memory) (choices : List (Option (List ℕ))) (truth t : Truth) → truth ≡ t → Stands l uses trees ranges p old choices
    → Remembers l uses ranges (bound p) new → p.fresh ≡ true → length ranges ≤ p.depth → truth ≢ False → Finds cmp l trees (length ranges) after (path ranges p) truth → PassesOpen p q
    → Answered cmp l uses trees ranges after p q old.tests new choices truth t
answered {V} {cmp} {l} {uses} {trees} {ranges} {after} given p q old new choices truth t e st remembers fresh over ne finds passed =
    let is = opened-is p q passed in
    let at : IsAt ranges p = st.at in
    let basis = basis-of given.total given.one_truth given.kept given.sound in
    let whole : length (path ranges p) ≡ length ranges = omega (arith, length-path ranges p at, at.shallow, over) in
    record {
      stands = passes-open-stand given uses p q new choices (rests-still l uses trees ranges p old new choices st remembers) passed;
      takes = takes-whole given p q t at fresh over (finds-reached given (path ranges p) truth ne finds).0
          (subst (IsTruthOf (planted l trees) (path ranges p)) e (finds-whole given (path ranges p) truth whole ne finds)) (λ z. ne (e ∙ z))
          (ap (λ (w : Place). w.fresh) is) (ap (λ (w : Place). w.places.items) is) (ap (λ (w : Place). w.depth) is);
      counts = λ h found. subst (λ w. IsCounted cmp l ranges after w new.tests choices) (sym is) (record {
        counts = counts-whole basis (take p.depth p.places.items) at.within new.tests (omega (arith, length-bound ranges p at, over))
            (found-other basis (path ranges p) truth new.tests ne (found (counted-here basis p fresh choices old.tests new.tests h)));
        whole = h.whole;
        unseen = h.unseen;
      });
    }

pub returns-then-place-eq0-clause-goes : goal.returns-then-place-eq0-clause-goes
returns-then-place-eq0-clause-goes g c =
    let given = setting-of g.met.V.Ord.total (g.met.J.Judge.one_truth c.args.problem.now.judge.now) (g.met.J.Judge.kept c.args.problem.now.judge.now) c.requires.sound in
    gives-end given c.args.place.now c.if-not-place.true c.if-place-eq0.true

pub returns-then-not-place : goal.returns-then-not-place
returns-then-not-place g c =
    let l = g.J.Judge.conjuncts c.args.problem.now.judge.now in
    let uses = g.J.Judge.is_used c.args.problem.now.judge.now in
    let ranges = c.args.problem.now.ranges.now in
    let after = option_copied c.args.problem.now.after in
    let p : Place = c.args.place.now in
    let one = g.met.J.Judge.one_truth c.args.problem.now.judge.now in
    let keep = g.met.J.Judge.kept c.args.problem.now.judge.now in
    let given = setting-of g.met.V.Ord.total one keep c.requires.sound in
    let basis = basis-of g.met.V.Ord.total one keep c.requires.sound in
    let st = c.requires.stands in
    let at : IsAt ranges p = st.at in
    let tests = c.args.memo.now.tests in
    let choices = c.args.choices.now in
    let last = p.depth - 1 in
    let q = c.retreat.new.place in
    let plain = c.args.problem.now.plan.now.is_plain in
    let lands = c.retreat.ensures.lands in
    let h = retreats given uses p q c.args.memo.now choices last st c.if-not-place.true (omega arith) lands in
    let moved = retreats-stand given uses p q c.args.memo.now choices last st c.if-not-place.true (omega arith) lands
    c.retreat.new.memo (subst (λ n. Forgets n c.args.memo.now c.retreat.new.memo) (omega arith) c.retreat.ensures.forgets) in
    let jumped = jumps given uses q c.retreat.new.memo choices last moved (omega (arith, at.shallow)) plain c.jump.new.place c.jump.ensures in
    record {
      stands = jumped.stands;
      goes = record { same = λ e ev. h.same e ev ∙ jumped.keeps e ev; smaller = let a = h.smaller in let b = jumped.fewer in omega arith };
      err = tt;
      counts = λ is counted. jumps-counted g.V.Ord.cmp l ranges after plain q c.jump.new.place c.retreat.new.memo.tests choices is.plain c.jump.ensures
          (subst (λ n. IsCounted g.V.Ord.cmp l ranges after q n choices) (sym c.retreat.ensures.forgets.tests)
          (counted-retreats basis p q at c.requires.sound.ascending choices tests last counted c.if-not-place.true (omega arith) lands));
      more = omega (arith, c.retreat.ensures.forgets.tests);
      over = search rules;
    }

pub test-requires : goal.test-requires
test-requires g c =
    let given = setting-of g.met.V.Ord.total (g.met.J.Judge.one_truth c.args.problem.now.judge.now) (g.met.J.Judge.kept c.args.problem.now.judge.now) c.requires.sound in
    let st = c.requires.stands in
    let before = before-found given (g.J.Judge.is_used c.args.problem.now.judge.now) c.args.place.now c.args.memo.now c.args.choices.now st in
    record {
      asked = record { sound = c.requires.sound; keys = c.requires.keys; within = st.at.within; remembers = st.remembers };
      at = st.at;
      before = before.0;
      so_far = before.1;
      seen = st.seen;
    }

pub enter-requires : goal.enter-requires
enter-requires g c =
    let p : Place = c.args.place.now in
    let st = c.requires.stands in
    let choices = c.args.choices.now in
    let near : p.depth < length choices = omega (arith, st.all_choices, c.if-depth-problem.true) in
    record {
      asked = record { sound = c.requires.sound; keys = c.requires.keys; within = st.at.within; remembers = c.in_ok-truth.ensures.remembers };
      at = st.at;
      deeper = c.if-depth-problem.true;
      kept = subst (λ w. IsKept (g.J.Judge.conjuncts c.args.problem.now.judge.now)
          (trees_of c.args.problem.now.forest.now) c.args.problem.now.ranges.now p.marks.stamps.items (bound p) p.depth w (mark_at p.marks p.depth))
          (get_or_default choices p.depth None c.index-choices-depth.result near) (st.kept p.depth c.if-depth-problem.true);
    }

pub see-requires : goal.see-requires
see-requires g c =
    let ranges = c.args.problem.now.ranges.now in
    let p : Place = c.args.place.now in
    let at = c.requires.stands.at in
    let made = c.in_ok-enter.ensures.enters in
    let same : c.deref.result.now ≡ p.places.items = c.deref.ensures.value ∙ ap (λ (q : Place). q.places.items) made.place.is in
    record {
      asked = record {
        sound = c.requires.sound;
        keys = c.requires.keys;
        within = subst (λ is. AreWithin ranges (take p.depth is)) (sym same) at.within;
        remembers = subst (λ is. Remembers (g.J.Judge.conjuncts c.args.problem.now.judge.now) (g.J.Judge.is_used c.args.problem.now.judge.now) ranges (take p.depth is) c.enter.new.memo) (sym same)
            made.remembers;
      };
      deeper = omega (arith, length-bound ranges p at, ap (λ is. length (take p.depth is)) same, c.if-depth-problem.true);
    }

pub returns-in_err-enter-clause-stands : goal.returns-in_err-enter-clause-stands
returns-in_err-enter-clause-stands g c =
    let l = g.J.Judge.conjuncts c.args.problem.now.judge.now in
    let uses = g.J.Judge.is_used c.args.problem.now.judge.now in
    let trees = trees_of c.args.problem.now.forest.now in
    let ranges = c.args.problem.now.ranges.now in
    let p : Place = c.args.place.now in
    let choice = c.enter.new.choice in
    let same = c.in_err-enter.ensures.enters.err in
    let kept = subst (λ (q : Place). IsKept l trees ranges q.marks.stamps.items (bound p) p.depth choice (mark_at q.marks p.depth)) same c.in_err-enter.ensures.enters.kept in
    subst (λ q. Stands l uses trees ranges q c.enter.new.memo (set c.args.choices.now p.depth choice)) (sym same)
    (stands-refused l uses trees ranges p c.args.memo.now c.enter.new.memo c.args.choices.now choice c.requires.stands c.if-depth-problem.true c.in_err-enter.ensures.enters.remembers kept)

pub returns-in_err-enter-clause-counts : goal.returns-in_err-enter-clause-counts
returns-in_err-enter-clause-counts g c = λ plain h. absurd (c.in_err-enter.ensures.enters.granted plain.plain)

pub returns-in_err-enter-clause-err : goal.returns-in_err-enter-clause-err
returns-in_err-enter-clause-err g c = on-err c.from_residual-in_err-enter.result (c.enter.new.place ≡ c.args.place.now) c.in_err-enter.ensures.enters.err

pub returns-in_err-truth-clause-counts : goal.returns-in_err-truth-clause-counts
returns-in_err-truth-clause-counts g c = λ plain h.
    let p : Place = c.args.place.now in
    let basis = basis-of g.met.V.Ord.total (g.met.J.Judge.one_truth c.args.problem.now.judge.now) (g.met.J.Judge.kept c.args.problem.now.judge.now) c.requires.sound in
    let here = counted-here basis p c.if-not-place.false c.args.choices.now c.args.memo.now.tests c.test.new.memo.tests h in
    counted-still basis p c.if-not-place.false c.args.choices.now c.args.memo.now.tests c.test.new.memo.tests h
    (c.in_err-truth.ensures.counts plain h.unseen here)

pub returns-in-False : goal.returns-in-False
returns-in-False g c =
    let l = g.J.Judge.conjuncts c.args.problem.now.judge.now in
    let uses = g.J.Judge.is_used c.args.problem.now.judge.now in
    let trees = trees_of c.args.problem.now.forest.now in
    let ranges = c.args.problem.now.ranges.now in
    let after = option_copied c.args.problem.now.after in
    let p : Place = c.args.place.now in
    let one = g.met.J.Judge.one_truth c.args.problem.now.judge.now in
    let keep = g.met.J.Judge.kept c.args.problem.now.judge.now in
    let given = setting-of g.met.V.Ord.total one keep c.requires.sound in
    let basis = basis-of g.met.V.Ord.total one keep c.requires.sound in
    let st = c.requires.stands in
    let at : IsAt ranges p = st.at in
    let tests = c.args.memo.now.tests in
    let choices = c.args.choices.now in
    let truth = c.in_ok-truth.truth in
    let finds : Finds g.V.Ord.cmp l trees (length ranges) after (path ranges p) truth = c.in_ok-truth.ensures.finds in
    let found = λ (plain : IsPlain l trees c.args.problem.now.plan.now) (h : IsCounted g.V.Ord.cmp l ranges after p tests choices).
    c.in_ok-truth.ensures.counts plain h.unseen (counted-here basis p c.if-not-place.false choices tests c.test.new.memo.tests h) in
    let q : Place = c.pass.new.place in
    let is = passed-is g.V.Ord.cmp l uses trees ranges after p q c.pass.ensures in
    let hopeless = finds-hopeless given (path ranges p) truth c.in-False.is finds in
    record {
      stands = passes-stand given (g.met.J.Judge.follow_used c.args.problem.now.judge.now) p q c.test.new.memo choices
          (rests-still l uses trees ranges p c.args.memo.now c.test.new.memo choices st c.in_ok-truth.ensures.remembers) hopeless c.pass.ensures;
      goes = passes given p q at c.if-not-place.false (ap (λ (w : Place). w.fresh) is) (ap (λ (w : Place). w.places.items) is) (ap (λ (w : Place). w.depth) is) hopeless;
      err = tt;
      counts = λ plain h. subst (λ w. IsCounted g.V.Ord.cmp l ranges after w c.test.new.memo.tests choices) (sym is) (record {
        counts = found-false basis (path ranges p) truth c.test.new.memo.tests c.in-False.is (found plain h);
        whole = h.whole;
        unseen = h.unseen;
      });
      more = c.in_ok-truth.ensures.more;
      over = search rules;
    }

pub returns-then-depth-problem : goal.returns-then-depth-problem
returns-then-depth-problem g c =
    let l = g.J.Judge.conjuncts c.args.problem.now.judge.now in
    let uses = g.J.Judge.is_used c.args.problem.now.judge.now in
    let trees = trees_of c.args.problem.now.forest.now in
    let ranges = c.args.problem.now.ranges.now in
    let after = option_copied c.args.problem.now.after in
    let p : Place = c.args.place.now in
    let one = g.met.J.Judge.one_truth c.args.problem.now.judge.now in
    let keep = g.met.J.Judge.kept c.args.problem.now.judge.now in
    let given = setting-of g.met.V.Ord.total one keep c.requires.sound in
    let basis = basis-of g.met.V.Ord.total one keep c.requires.sound in
    let st = c.requires.stands in
    let at : IsAt ranges p = st.at in
    let tests = c.args.memo.now.tests in
    let choices = c.args.choices.now in
    let truth = c.in_ok-truth.truth in
    let finds : Finds g.V.Ord.cmp l trees (length ranges) after (path ranges p) truth = c.in_ok-truth.ensures.finds in
    let found-so = λ (plain : IsPlain l trees c.args.problem.now.plan.now) (h : IsCounted g.V.Ord.cmp l ranges after p tests choices).
    c.in_ok-truth.ensures.counts plain h.unseen (counted-here basis p c.if-not-place.false choices tests c.test.new.memo.tests h) in
    let marked = c.enter.ensures.enters.place in
    let marks = c.enter.new.place.marks in
    let now : Place = record p { marks = marks; found = with_item p.found p.depth c.in_ok-truth.truth; seen = with_item p.seen p.depth c.see.result } in
    let now-at : IsAt ranges now = record {
      all_places = at.all_places;
      all_found = length-set p.found.items p.depth c.in_ok-truth.truth ∙ at.all_found;
      shallow = at.shallow;
      within = at.within;
      all_stamps = ap length marked.stamps ∙ at.all_stamps;
      all_marks = marked.all ∙ at.all_marks;
      all_seen = length-set p.seen.items p.depth c.see.result ∙ at.all_seen;
    } in
    let choice = c.enter.new.choice in
    let chosen = c.in_ok-enter.ensures.choice in
    let lands = landed-marked ranges choices choice p c.enter.new.place c.descend.new.place c.in_ok-truth.truth c.see.result marked.is c.descend.ensures.lands in
    let remembers = c.in_ok-enter.ensures.enters.remembers in
    let forgets = subst (λ (q : Place). Forgets (q.depth + 1) c.enter.new.memo c.descend.new.memo) marked.is c.descend.ensures.forgets in
    let found-here : IsFound l trees (path ranges p) p.depth truth = record {
      so = subst (λ n. IsSoFar l trees (path ranges p) (NeedsWithin l trees n) truth) (length-path ranges p at)
          (finds-reached given (path ranges p) truth c.in_default.not-False finds).1;
      not_false = c.in_default.not-False;
    } in
    let found : (j : ℕ) → j ≤ p.depth → IsFound l trees (picked ranges (take j p.places.items)) j (get_or now.found.items j True) = λ j low. elim (cases_eq j p.depth) [
      | inl e ↦
          let is : get_or now.found.items j True ≡ truth =
          ap (λ i. get_or now.found.items i True) e ∙ get_or-set_same p.found.items p.depth truth True (omega (arith, at.all_found, c.if-depth-problem.true)) in
          subst (IsFound l trees (picked ranges (take j p.places.items)) j) (sym is)
          (subst (λ i. IsFound l trees (picked ranges (take i p.places.items)) i truth) (sym e) found-here)
      | inr ne ↦
          subst (IsFound l trees (picked ranges (take j p.places.items)) j) (sym (get_or-set_other p.found.items p.depth j truth True ne)) (st.found j (omega (arith, low, ne)))
    ] in
    let seen-here : AreSeen l trees ranges (bound p) c.see.result =
    subst (λ (q : Place). AreSeen l trees ranges (take p.depth q.places.items) c.see.result) marked.is
    (subst (λ is. AreSeen l trees ranges (take p.depth is) c.see.result) c.deref.ensures.value c.see.ensures.seen) in
    let seen = seen-all l trees ranges p c.see.result at.all_seen c.if-depth-problem.true seen-here st.seen in
    let kept = kept-chosen l trees ranges p.marks marks (bound p) choices p.depth choice
    (omega (arith, st.all_choices, c.if-depth-problem.true)) marked.stamps marked.others st.kept c.enter.ensures.enters.kept in
    let stood = descends-stand given now c.descend.new.place choices choice now-at st.all_choices st.chosen chosen c.if-not-place.false c.if-depth-problem.true lands
    uses c.enter.new.memo c.descend.new.memo remembers kept forgets found seen
    (λ j low. subst (IsBlamed l trees ranges p.places.items j (get_or p.places.items j 0) (get_or choices j None))
    (sym (marked.others j (λ e. absurd (omega arith)))) (st.blamed j low)) c.in_ok-enter.ensures.blamed in
    let q = c.descend.new.place in
    let r = c.jump-then-depth-problem.new.place in
    let plain = c.args.problem.now.plan.now.is_plain in
    let jumped = jumps given uses q c.descend.new.memo (set choices p.depth choice) p.depth stood c.if-depth-problem.true plain r c.jump-then-depth-problem.ensures in
    let h = descends given now q choices choice now-at st.all_choices st.chosen chosen c.if-not-place.false c.if-depth-problem.true lands in
    let near : p.depth < length choices = omega (arith, st.all_choices, c.if-depth-problem.true) in
    record {
      stands = jumped.stands;
      goes = record { same = λ e ev. h.same e ev ∙ jumped.keeps e ev; smaller = let a = h.smaller in let b = jumped.fewer in omega arith };
      err = tt;
      counts = λ is counted.
          let none = c.in_ok-enter.ensures.enters.all is.plain (was-none choices p.depth c.index-choices-depth.result near (counted.whole p.depth)) in
          let below = found-other basis (path ranges p) truth c.test.new.memo.tests c.in_default.not-False (found-so is counted) in
          let there = subst (Counts g.V.Ord.cmp l ranges after (path ranges p) below_it) (sym (c.descend.ensures.forgets.tests ∙ c.in_ok-enter.ensures.enters.same)) below in
          let old : IsCounted g.V.Ord.cmp l ranges after now tests choices = record {
            counts = counted.counts;
            whole = counted.whole;
            unseen = unseen-all p c.see.result (length ranges) at.all_seen c.if-depth-problem.true (c.see.ensures.plain is) counted.unseen;
          } in
          jumps-counted g.V.Ord.cmp l ranges after plain q r c.descend.new.memo.tests (set choices p.depth choice) is.plain c.jump-then-depth-problem.ensures
          (counted-descends basis now q now-at c.requires.sound.ascending choices tests c.descend.new.memo.tests old c.if-depth-problem.true st.all_choices choice none there lands);
      more = omega (arith, c.descend.ensures.forgets.tests, c.in_ok-enter.ensures.enters.same, c.in_ok-truth.ensures.more);
      over = search rules;
    }

pub returns-in-True : goal.returns-in-True
returns-in-True g c =
    let judge = c.args.problem.now.judge.now in
    let given = setting-of g.met.V.Ord.total (g.met.J.Judge.one_truth judge) (g.met.J.Judge.kept judge) c.requires.sound in
    let done = answered given c.args.place.now c.pass_event.new.place c.args.memo.now c.test.new.memo c.args.choices.now c.in_ok-truth.truth True c.in-True.is
    c.requires.stands c.in_ok-truth.ensures.remembers c.if-not-place.false c.if-depth-problem.false c.in_default.not-False c.in_ok-truth.ensures.finds c.pass_event.ensures in
    record {
      stands = done.stands;
      goes = done.takes;
      err = tt;
      counts = λ plain h. done.counts h (c.in_ok-truth.ensures.counts plain h.unseen);
      more = c.in_ok-truth.ensures.more;
      over = search rules;
    }

pub returns-in-Out : goal.returns-in-Out
returns-in-Out g c =
    let judge = c.args.problem.now.judge.now in
    let given = setting-of g.met.V.Ord.total (g.met.J.Judge.one_truth judge) (g.met.J.Judge.kept judge) c.requires.sound in
    let done = answered given c.args.place.now c.pass_event.new.place c.args.memo.now c.test.new.memo c.args.choices.now c.in_ok-truth.truth Out c.in-Out.is
    c.requires.stands c.in_ok-truth.ensures.remembers c.if-not-place.false c.if-depth-problem.false c.in_default.not-False c.in_ok-truth.ensures.finds c.pass_event.ensures in
    record {
      stands = done.stands;
      goes = done.takes;
      err = tt;
      counts = λ plain h. done.counts h (c.in_ok-truth.ensures.counts plain h.unseen);
      more = c.in_ok-truth.ensures.more;
      over = search rules;
    }
