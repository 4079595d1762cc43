use Rattle.zf_typing.proofs.Prelude.{◌++◌, ◌∙◌, ◌≡◌, ap, map, OnOk, subst, sym, tree_of, resolved_of, conjuncts, is_conjunction, resolved, scope_of}
use Rattle.zf_tree.proofs.TermSeen as seen
use Rattle.zf_typing.proofs.Conjunctions.{of_bracket, of_whole_bracket, of_both, of_neither, both_pushed}
use Rattle.zf_typing.proofs.conjuncts.+push_conjuncts.Goals as goal

pub returns-then-is_conjunction-clause-ok : goal.returns-then-is_conjunction-clause-ok
returns-then-is_conjunction-clause-ok t c =
    let s = scope_of c.args.scope.now in
    let e = tree_of c.in-Bracket.inner in
    let is = ap tree_of c.in-Bracket.is ∙ seen.of-Bracket c.in-Bracket.field-0 c.in-Bracket.inner in
    let both = sym (c.is_conjunction.ensures ∙ ap (λ w. is_conjunction (tree_of w)) c.get.ensures) ∙ c.if-is_conjunction.true in
    subst (λ ts. OnOk c.push_conjuncts.result (map resolved_of c.push_conjuncts.new.conjuncts ≡ map resolved_of c.args.conjuncts.now ++ ts))
    (ap (λ w. conjuncts (resolved s (tree_of w))) c.get-then-is_conjunction.ensures ∙ sym (of_bracket s c.in-Bracket.field-0 e (tree_of c.args.term.now) is both)) c.push_conjuncts.ensures.ok

pub returns-else-is_conjunction-clause-ok : goal.returns-else-is_conjunction-clause-ok
returns-else-is_conjunction-clause-ok t c =
    let s = scope_of c.args.scope.now in
    let is = ap tree_of c.in-Bracket.is ∙ seen.of-Bracket c.in-Bracket.field-0 c.in-Bracket.inner in
    let one = sym (c.is_conjunction.ensures ∙ ap (λ w. is_conjunction (tree_of w)) c.get.ensures) ∙ c.if-is_conjunction.false in
    subst (λ ts. OnOk c.push_whole.result (map resolved_of c.push_whole.new.conjuncts ≡ map resolved_of c.args.conjuncts.now ++ ts))
    (sym (of_whole_bracket s c.in-Bracket.field-0 (tree_of c.in-Bracket.inner) (tree_of c.args.term.now) is one)) c.push_whole.ensures.ok

pub returns-in_ok-push_conjuncts-in-Binary-clause-ok : goal.returns-in_ok-push_conjuncts-in-Binary-clause-ok
returns-in_ok-push_conjuncts-in-Binary-clause-ok t c =
    let s = scope_of c.args.scope.now in
    let a = tree_of c.in-Binary.left in
    let b = tree_of c.in-Binary.right in
    let is = ap tree_of c.in-Binary.is ∙ seen.of-Binary c.in-Binary.field-0 c.in-Binary.op c.in-Binary.left c.in-Binary.right in
    let first = c.in_ok-push_conjuncts-in-Binary.ensures.ok ∙ ap (λ w. map resolved_of c.args.conjuncts.now ++ conjuncts (resolved s (tree_of w))) c.get-then-is_and.ensures in
    let here = ap (λ y. conjuncts (resolved y (tree_of c.get-then-is_and-2.result.now))) c.in_ok-push_conjuncts-in-Binary.ensures.scope
    ∙ ap (λ w. conjuncts (resolved s (tree_of w))) c.get-then-is_and-2.ensures in
    let second = subst (λ ts. OnOk c.push_conjuncts-then-is_and-2.result
    (map resolved_of c.push_conjuncts-then-is_and-2.new.conjuncts ≡ map resolved_of c.push_conjuncts-then-is_and.new.conjuncts ++ ts)) here
    c.push_conjuncts-then-is_and-2.ensures.ok in
    both_pushed c.push_conjuncts-then-is_and-2.result _ _ _ _ _ _ first second (of_both s c.in-Binary.field-0 c.in-Binary.op a b (tree_of c.args.term.now) is (sym c.is_and.ensures ∙ c.if-is_and.true))

pub returns-else-is_and-clause-ok : goal.returns-else-is_and-clause-ok
returns-else-is_and-clause-ok t c =
    let s = scope_of c.args.scope.now in
    let is = ap tree_of c.in-Binary.is ∙ seen.of-Binary c.in-Binary.field-0 c.in-Binary.op c.in-Binary.left c.in-Binary.right in
    subst (λ ts. OnOk c.push_whole-else-is_and.result (map resolved_of c.push_whole-else-is_and.new.conjuncts ≡ map resolved_of c.args.conjuncts.now ++ ts))
    (sym (of_neither s c.in-Binary.field-0 c.in-Binary.op (tree_of c.in-Binary.left) (tree_of c.in-Binary.right) (tree_of c.args.term.now) is
    (sym c.is_and.ensures ∙ c.if-is_and.false))) c.push_whole-else-is_and.ensures.ok
