use Rattle.zf_grammar.proofs.Prelude.{◌+◌, ◌≡◌, ◌≤◌, ap, arith, refl, suc, le-leb, first, binds, bound_by, climb, whole}
use Rattle.zf_grammar.proofs.terms.Grammar.whole.Goals as goal

pub returns-then-binds-least-clause-value : goal.returns-then-binds-least-clause-value
unfolding whole climb
returns-then-binds-least-clause-value g c =
    let ends : binds (first c.beginning.new.tokens) ≤ c.args.least = omega (arith, c.binds.ensures, ap bound_by c.role_of.ensures, ap binds c.peek.ensures, c.if-binds-least.true) in
    let one_more : c.args.self.now.below + 1 ≡ suc c.args.self.now.below = omega arith in
    rw (c.in_ok-first.ensures.value, one_more, le-leb _ _ ends) refl
