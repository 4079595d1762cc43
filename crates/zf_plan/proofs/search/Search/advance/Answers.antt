use Rattle.zf_plan.proofs.Prelude.{◌≡◌, Bool, Conjuncts, List, Option, Ordering, path, Place, Step, Tree, ℕ, refl, subst, sym, option_copied, trees_of, KeepsEvents, Stands, planted, Gives, Holds, Breaks, End, IsCounted, Memory, cut, IsNumberOfTests}
use Rattle.zf_plan.proofs.Results.{on-err}
use Rattle.zf_plan.proofs.Counting.{answered, answered-tests, Basis, basis-of}
use Rattle.zf_plan.proofs.Stepping.{setting-of, SameAhead-from, over-from}
use Rattle.zf_plan.proofs.search.Search.advance.Goals as goal

-- the tests up to the answer of a step are counted
tests-of : {V : Type 0} {cmp : V → V → Ordering} {l : Conjuncts V} {ranges : List (List V)} {after : Option (List V)} (basis : Basis cmp l ranges after) (s : Conjuncts V) (uses : ℕ → ℕ → Bool)
    (trees : List Tree) (p q : Place) (old new : Memory) (rs : List (List V)) (before given now : List (Option (List ℕ))) (found step : Step) → rs ≡ ranges → given ≡ before → found ≡ step
    → Stands l uses trees rs q new now → IsCounted cmp l ranges after p old.tests before
    → (IsCounted cmp l rs after p old.tests given → IsCounted cmp l rs after q new.tests now) → Gives cmp s rs after p found q
    → (number : ℕ) × IsNumberOfTests cmp l ranges after (answered basis step (path ranges q)) number × (new.tests ≡ cut number)
tests-of {V} {cmp} {l} {ranges} {after} basis s uses trees p q old new rs before given now found step same chosen is st counted counts gives =
    let here = subst (λ xs. Stands l uses trees xs q new now) same st in
    let there = subst (λ xs. IsCounted cmp l xs after q new.tests now) same
    (counts (subst (λ xs. IsCounted cmp l xs after p old.tests given) (sym same) (subst (IsCounted cmp l ranges after p old.tests) (sym chosen) counted))) in
    answered-tests basis s p q here.at new.tests now there step (subst (λ x. Gives cmp s ranges after p x q) is (subst (λ xs. Gives cmp s xs after p found q) same gives))

pub returns-in_err-next_answer-clause-refused : goal.returns-in_err-next_answer-clause-refused
returns-in_err-next_answer-clause-refused g c =
    let w = c.self.inside in
    let l = g.J.Judge.conjuncts w.judge in
    let st = c.self.invariant.stands in
    let given = setting-of g.met.V.Ord.total (g.met.J.Judge.one_truth w.judge) (g.met.J.Judge.kept w.judge) c.self.invariant.sound in
    let here = subst (λ rs. Stands l (g.J.Judge.is_used w.judge) (trees_of w.forest) rs c.next_answer.new.place c.next_answer.new.memo
    c.next_answer.new.choices) c.deref.ensures.value c.in_err-next_answer.ensures.stands in
    let same = subst (λ rs. KeepsEvents g.V.Ord.cmp (planted l (trees_of w.forest)) rs (option_copied w.after) w.place c.next_answer.new.place)
    c.deref.ensures.value c.in_err-next_answer.ensures.refused in
    rw (← c.self.view_is) (on-err c.from_residual.result _ (SameAhead-from given w.place c.next_answer.new.place st.at here.at same, refl))

pub returns-in_err-next_answer-clause-ended : goal.returns-in_err-next_answer-clause-ended
returns-in_err-next_answer-clause-ended g c =
    let w = c.self.inside in
    let st = c.self.invariant.stands in
    let given = setting-of g.met.V.Ord.total (g.met.J.Judge.one_truth w.judge) (g.met.J.Judge.kept w.judge) c.self.invariant.sound in
    rw (← c.self.view_is) (λ e. let never = c.in_err-next_answer.ensures.over (over-from given w.place st.at e) in cc)

pub returns-in-Holds-clause-tests : goal.returns-in-Holds-clause-tests
returns-in-Holds-clause-tests g c =
    let w = c.self.inside in
    let basis = basis-of g.met.V.Ord.total (g.met.J.Judge.one_truth w.judge) (g.met.J.Judge.kept w.judge) c.self.invariant.sound in
    rw (← c.self.view_is) (λ e. tests-of basis (planted (g.J.Judge.conjuncts w.judge) (trees_of w.forest)) (g.J.Judge.is_used w.judge) (trees_of w.forest) w.place c.next_answer.new.place
    w.memo c.next_answer.new.memo c.deref.result.now w.choices.items c.deref_mut.result.now c.next_answer.new.choices _ Holds c.deref.ensures.value c.deref_mut.ensures.value
    c.in-Holds.is c.in_ok-next_answer.ensures.stands (c.self.invariant.counts e) (c.in_ok-next_answer.ensures.counts (c.self.invariant.plain e)) c.in_ok-next_answer.ensures.gives)

pub returns-in-Breaks-clause-tests : goal.returns-in-Breaks-clause-tests
returns-in-Breaks-clause-tests g c =
    let w = c.self.inside in
    let basis = basis-of g.met.V.Ord.total (g.met.J.Judge.one_truth w.judge) (g.met.J.Judge.kept w.judge) c.self.invariant.sound in
    rw (← c.self.view_is) (λ e. tests-of basis (planted (g.J.Judge.conjuncts w.judge) (trees_of w.forest)) (g.J.Judge.is_used w.judge) (trees_of w.forest) w.place c.next_answer.new.place
    w.memo c.next_answer.new.memo c.deref.result.now w.choices.items c.deref_mut.result.now c.next_answer.new.choices _ Breaks c.deref.ensures.value c.deref_mut.ensures.value
    c.in-Breaks.is c.in_ok-next_answer.ensures.stands (c.self.invariant.counts e) (c.in_ok-next_answer.ensures.counts (c.self.invariant.plain e)) c.in_ok-next_answer.ensures.gives)

pub returns-in-End-clause-tests : goal.returns-in-End-clause-tests
returns-in-End-clause-tests g c =
    let w = c.self.inside in
    let basis = basis-of g.met.V.Ord.total (g.met.J.Judge.one_truth w.judge) (g.met.J.Judge.kept w.judge) c.self.invariant.sound in
    rw (← c.self.view_is) (λ e. tests-of basis (planted (g.J.Judge.conjuncts w.judge) (trees_of w.forest)) (g.J.Judge.is_used w.judge) (trees_of w.forest) w.place c.next_answer.new.place
    w.memo c.next_answer.new.memo c.deref.result.now w.choices.items c.deref_mut.result.now c.next_answer.new.choices _ End c.deref.ensures.value c.deref_mut.ensures.value
    c.in-End.is c.in_ok-next_answer.ensures.stands (c.self.invariant.counts e) (c.in_ok-next_answer.ensures.counts (c.self.invariant.plain e)) c.in_ok-next_answer.ensures.gives)
