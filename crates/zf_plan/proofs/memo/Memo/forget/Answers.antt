use Rattle.zf_plan.proofs.Prelude.{◌+◌, ◌<◌, ◌∙◌, ◌≡◌, arith, get_or, get_or_default, length, set, subst, sym, AreStamped, Forgets, memory_of}
use Rattle.zf_plan.proofs.Stamping.{next-stamped, next-forgets, cleared-stamped, cleared-forgets, none-forgotten}
use Rattle.zf_plan.proofs.memo.Memo.forget.Goals as goal

pub returns-then-due-len : goal.returns-then-due-len
returns-then-due-len c =
    let m = c.self.inside in
    subst (λ memory. Forgets c.args.due memory memory) c.self.view_is
    (none-forgotten c.args.due m.stamps.items m.leaves.items c.self.invariant (omega (arith, c.if-due-len.true, c.len.ensures, m.stamps.ok.0)) m.tables.each.items m.tests)

pub invariant_of-self : goal.invariant_of-self
invariant_of-self c =
    let m = c.self.inside in
    let within : c.args.due < length m.stamps.items = omega (arith, c.if-due-len.false, c.len.ensures, m.stamps.ok.0) in
    let is : c.in-Some.stamp ≡ get_or m.stamps.items c.args.due 0 + 1 =
    omega (arith, c.in-Some.ensures.1, c.index.ensures ∙ get_or_default m.stamps.items c.args.due c.index.result.now 0 within) in
    subst (λ n. AreStamped (set m.stamps.items c.args.due n) m.leaves.items) (sym is) (next-stamped c.args.due m.stamps.items within m.leaves.items c.self.invariant)

pub invariant_of-self-in-None : goal.invariant_of-self-in-None
invariant_of-self-in-None c =
    let m = c.self.inside in
    let within : c.args.due < length m.stamps.items = omega (arith, c.if-due-len.false, c.len.ensures, m.stamps.ok.0) in
    subst (AreStamped (set m.stamps.items c.args.due 1)) (sym c.clear.ensures) (cleared-stamped c.args.due m.stamps.items within m.leaves.items c.self.invariant)

pub returns-in-Some : goal.returns-in-Some
returns-in-Some c =
    let m = c.self.inside in
    let within : c.args.due < length m.stamps.items = omega (arith, c.if-due-len.false, c.len.ensures, m.stamps.ok.0) in
    let is : c.in-Some.stamp ≡ get_or m.stamps.items c.args.due 0 + 1 =
    omega (arith, c.in-Some.ensures.1, c.index.ensures ∙ get_or_default m.stamps.items c.args.due c.index.result.now 0 within) in
    subst (λ old. Forgets c.args.due old (memory_of (set m.stamps.items c.args.due c.in-Some.stamp) m.leaves.items m.tables.each.items m.tests)) c.self.view_is
    (subst (λ n. Forgets c.args.due (memory_of m.stamps.items m.leaves.items m.tables.each.items m.tests) (memory_of (set m.stamps.items c.args.due n) m.leaves.items m.tables.each.items m.tests))
    (sym is) (next-forgets c.args.due m.stamps.items within m.leaves.items c.self.invariant m.tables.each.items m.tests))

pub returns-in-None : goal.returns-in-None
returns-in-None c =
    let m = c.self.inside in
    let within : c.args.due < length m.stamps.items = omega (arith, c.if-due-len.false, c.len.ensures, m.stamps.ok.0) in
    subst (λ old. Forgets c.args.due old (memory_of (set m.stamps.items c.args.due 1) c.clear.new.leaves.items m.tables.each.items m.tests)) c.self.view_is
    (subst (λ ls. Forgets c.args.due (memory_of m.stamps.items m.leaves.items m.tables.each.items m.tests) (memory_of (set m.stamps.items c.args.due 1) ls m.tables.each.items m.tests))
    (sym c.clear.ensures) (cleared-forgets c.args.due m.stamps.items within m.leaves.items c.self.invariant m.tables.each.items m.tests))
