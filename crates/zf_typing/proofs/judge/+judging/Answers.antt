use Rattle.zf_typing.proofs.Prelude.{◌++◌, ◌+◌, ◌∙◌, ◌∷◌, ◌≡◌, [], ap, append-nil, arith, drop, Err, inl, inr, length, List, map, None, Ok, refl, Some, subst, sym, ⊎_elim, left_need, need_of, relation_rule, right_need, rule_of, part_of, tree_of, trees, Name, at_end, at_step, pushed, range_of, resolved_link_of, resolved_of, no_types, type_of, types, Disagreement, Offence, AreNew, AreRepeated, DeclarationsOffend, Judges, JudgesPart, LinksOffend, OneOffends, SetsOffend, IfFault, resolved, resolved_all, resolved_links, resolved_ranges, Meets, predicate, Sort, sort_of, Takes, variable_of, with_variables, scope_of, LinksAreTyped, AreMembers, Declare, declared, IsOf, member_need, variables, Span}
use Rattle.std.proofs.lemmas.List.{length-map, append_assoc}
use Rattle.zf_tree.specs.Trees as tree
use Rattle.zf_tree.specs.TreeViews as tree_views
use Rattle.zf_tree.proofs.TermSeen as seen
use Rattle.zf_term.proofs.Ahead.{decl_ahead, link_ahead}
use Rattle.zf_tree.specs.declared.operator.Need.TheVariants as need
use Rattle.zf_term.specs.ResolvedTrees as kept
use Rattle.zf_term.specs.ResolvedViews as kept_views
use Rattle.zf_term.proofs.ResolvedSeen as kept_seen
use Rattle.zf_term.specs.Faults as fault
use Rattle.zf_typing.proofs.Members.{lengths}
use Rattle.zf_typing.proofs.Bound.{all_apart, some_repeated}
use Rattle.zf_typing.proofs.Parts.{no_part, part_judged, part_from, row_here}
use Rattle.zf_typing.proofs.Chains.{compares}
use Rattle.zf_typing.proofs.Judging.{judged_of, judged_in, of_binary, judges_ok, still_judged, fault_from, from_offence, from_part, part_wrong, no_schema}
use Rattle.zf_typing.proofs.judge.+judging.Goals as goal

-- ---- a fault that passes out of a term

pub judge_term-returns-in-Err-clause-judged : goal.judge_term-returns-in-Err-clause-judged
judge_term-returns-in-Err-clause-judged t c =
    still_judged (scope_of c.args.scope.now) c.args.need (tree_of c.args.term.now) c.in-Err.refusal c.quoting.result c.quoting.ensures
    (subst (Judges (scope_of c.args.scope.now) c.args.need (tree_of c.args.term.now)) c.in-Err.is c.judge_form.ensures.judged)

-- ---- one part

pub empty_set-returns-in_err-term-clause-judged : goal.empty_set-returns-in_err-term-clause-judged
empty_set-returns-in_err-term-clause-judged t c =
    let s = scope_of c.args.scope.now in
    let e = c.args.of.now in
    from_part s need.Set e c.args.place.need (tree.empty_set c.args.place.span (tree_of e)) c.in_err-term.field-0.0 c.from_residual.result
    refl refl refl c.in_err-term.ensures.judged (λ k m h. inl h) c.from_residual.ensures

pub empty_set-returns-clause-judged : goal.empty_set-returns-clause-judged
empty_set-returns-clause-judged t c =
    let s = scope_of c.args.scope.now in
    let l = c.args.place.span in
    let e = tree_of c.args.of.now in
    let judged = judged_of s need.Set e c.in_ok-term.field-0 c.in_ok-term.ensures.judged in
    c.placed.ensures s (tree.empty_set l e) (judged.met.0, subst (λ z. IsOf s e z) judged.met.1 judged.is_of, judged.met.1)
    (kept_seen.of-EmptySet l c.in_ok-new.field-0 ∙ ap (kept.empty_set l) (ap resolved_of c.in_ok-new.ensures ∙ judged.term)) refl

pub bracket-returns-in_err-term-clause-judged : goal.bracket-returns-in_err-term-clause-judged
bracket-returns-in_err-term-clause-judged t c =
    let n = c.args.place.need in
    let e = c.args.inner.now in
    from_part (scope_of c.args.scope.now) n e n (tree.bracket c.args.place.span (tree_of e)) c.in_err-term.field-0.0 c.from_residual.result
    refl refl refl c.in_err-term.ensures.judged (λ k m h. inl h) c.from_residual.ensures

pub bracket-returns-clause-judged : goal.bracket-returns-clause-judged
bracket-returns-clause-judged t c =
    let s = scope_of c.args.scope.now in
    let n = c.args.place.need in
    let l = c.args.place.span in
    let e = tree_of c.args.inner.now in
    let judged = judged_of s n e c.in_ok-term.field-0 c.in_ok-term.ensures.judged in
    judges_ok s n (tree.bracket l e) _ (record {
      is_of = (judged.is_of, no_schema n (sort_of c.in_ok-term.field-0.sort) judged.met);
      met = judged.met;
      term = kept_seen.of-Bracket l c.in_ok-new.field-0 ∙ ap (kept.bracket l) (ap resolved_of c.in_ok-new.ensures ∙ judged.term);
    })

-- ---- operands

pub operands::unary-returns-in_err-operand-clause-judged : goal.operands::unary-returns-in_err-operand-clause-judged
operands::unary-returns-in_err-operand-clause-judged t c =
    let e = c.args.operand.now in
    from_part (scope_of c.args.scope.now) (need_of c.args.op) e c.args.place.need (tree.unary c.args.place.span c.args.op (tree_of e))
    c.in_err-operand.field-0.0 c.from_residual.result refl c.need.ensures refl c.in_err-operand.ensures.judged (λ k m o. inl o) c.from_residual.ensures

pub operands::unary-returns-clause-judged : goal.operands::unary-returns-clause-judged
operands::unary-returns-clause-judged t c =
    let s = scope_of c.args.scope.now in
    let e = c.args.operand.now in
    c.with_operand.ensures s (tree_of e) (judged_in s (need_of c.args.op) e c.in_ok-operand.operand refl c.need.ensures refl c.in_ok-operand.ensures.judged)

pub operands::unary-with_operand-requires : goal.operands::unary-with_operand-requires
operands::unary-with_operand-requires t c =
    (judged_in (scope_of c.args.scope.now) (need_of c.args.op) c.args.operand.now c.in_ok-operand.operand refl c.need.ensures refl
    c.in_ok-operand.ensures.judged).met

pub operands::binary-returns-in_err-of_left-clause-judged : goal.operands::binary-returns-in_err-of_left-clause-judged
operands::binary-returns-in_err-of_left-clause-judged t c =
    let s = scope_of c.args.scope.now in
    let l = c.in-Binary.span in
    let op = c.in-Binary.op in
    let left = c.get-left.result.now in
    subst (λ d. Judges s c.args.need d c.from_residual.result) (sym (of_binary _ l op _ _ _ _ c.in-Binary.is c.get-left.ensures c.get-right.ensures))
    (from_part s (left_need (rule_of op)) left c.args.need (tree.binary l op (tree_of left) (tree_of c.get-right.result.now)) c.in_err-of_left.field-0.0
    c.from_residual.result refl (c.left_need.ensures ∙ ap left_need c.rule-rule.ensures) refl c.in_err-of_left.ensures.judged (λ k m o. inl o)
    c.from_residual.ensures)

pub operands::binary-returns-in_err-of_right-clause-judged : goal.operands::binary-returns-in_err-of_right-clause-judged
operands::binary-returns-in_err-of_right-clause-judged t c =
    let s = scope_of c.args.scope.now in
    let l = c.in-Binary.span in
    let op = c.in-Binary.op in
    let right = c.get-right.result.now in
    let residual = c.from_residual-in_err-of_right in
    subst (λ d. Judges s c.args.need d residual.result) (sym (of_binary _ l op _ _ _ _ c.in-Binary.is c.get-left.ensures c.get-right.ensures))
    (from_part s (right_need (rule_of op)) right c.args.need (tree.binary l op (tree_of c.get-left.result.now) (tree_of right)) c.in_err-of_right.field-0.0
    residual.result c.in_ok-of_left.ensures.scope (c.right_need.ensures ∙ ap right_need c.rule-rule.ensures) refl c.in_err-of_right.ensures.judged
    (λ k m o. inr (inl o)) residual.ensures)

pub operands::binary-with_operands-requires-clause-left : goal.operands::binary-with_operands-requires-clause-left
operands::binary-with_operands-requires-clause-left t c =
    (judged_in (scope_of c.args.scope.now) (left_need (rule_of c.in-Binary.op)) c.get-left.result.now c.in_ok-of_left.of_left refl
    (c.left_need.ensures ∙ ap left_need c.rule-rule.ensures) refl c.in_ok-of_left.ensures.judged).met

pub operands::binary-with_operands-requires-clause-right : goal.operands::binary-with_operands-requires-clause-right
operands::binary-with_operands-requires-clause-right t c =
    (judged_in (scope_of c.args.scope.now) (right_need (rule_of c.in-Binary.op)) c.get-right.result.now c.in_ok-of_right.of_right c.in_ok-of_left.ensures.scope
    (c.right_need.ensures ∙ ap right_need c.rule-rule.ensures) refl c.in_ok-of_right.ensures.judged).met

pub operands::binary-returns-clause-judged : goal.operands::binary-returns-clause-judged
operands::binary-returns-clause-judged t c =
    let s = scope_of c.args.scope.now in
    let op = c.in-Binary.op in
    let left = c.get-left.result.now in
    let right = c.get-right.result.now in
    subst (λ d. Judges s c.args.need d c.with_operands.result) (sym (of_binary _ c.in-Binary.span op _ _ _ _ c.in-Binary.is c.get-left.ensures c.get-right.ensures))
    (c.with_operands.ensures s (tree_of left) (tree_of right)
    (judged_in s (left_need (rule_of op)) left c.in_ok-of_left.of_left refl (c.left_need.ensures ∙ ap left_need c.rule-rule.ensures) refl
    c.in_ok-of_left.ensures.judged)
    (judged_in s (right_need (rule_of op)) right c.in_ok-of_right.of_right c.in_ok-of_left.ensures.scope
    (c.right_need.ensures ∙ ap right_need c.rule-rule.ensures) refl c.in_ok-of_right.ensures.judged) c.span.ensures)

-- ---- members

pub lists::listed-returns-in_err-members-clause-judged : goal.lists::listed-returns-in_err-members-clause-judged
lists::listed-returns-in_err-members-clause-judged t c =
    let s = scope_of c.args.scope.now in
    let es = trees (map tree_of c.args.terms.now) in
    from_offence s c.args.place.need (tree.listed c.args.place.span c.args.form es) c.in_err-members.field-0.0
    (λ k m. OneOffends s (member_need c.args.form) es k m)
    c.from_residual.result (λ k m o. inl o) c.in_err-members.ensures.wrong c.from_residual.ensures

pub lists::listed-with_members-requires : goal.lists::listed-with_members-requires
lists::listed-with_members-requires t c =
    let types = c.in_ok-members.members.types in
    sym (length-map c.args.terms.now tree_of) ∙ lengths c.args.form (scope_of c.args.scope.now) (map tree_of c.args.terms.now) (map type_of types) c.in_ok-members.ensures.ok ∙ length-map types type_of

pub lists::listed-returns-clause-judged : goal.lists::listed-returns-clause-judged
lists::listed-returns-clause-judged t c = c.with_members.ensures (scope_of c.args.scope.now) c.in_ok-members.ensures.ok c.in_ok-members.ensures.resolved

pub lists::judge_all-loop-member-init : goal.lists::judge_all-loop-member-init
lists::judge_all-loop-member-init t c =
    let s = scope_of c.args.scope.now in
    let es = trees (map tree_of c.args.terms.now) in
    record {
      same = refl;
      told = λ us h. subst (λ xs. AreMembers c.args.form s es (types (map type_of xs ++ us))) (sym c.in_ok-types.ensures) h;
      kept = λ ts h. ap (λ xs. kept_views.terms (map resolved_of xs ++ ts)) c.in_ok-resolved.ensures ∙ h;
      offends = λ k m o. o;
    }

pub lists::judge_all-loop-member-preserved : goal.lists::judge_all-loop-member-preserved
lists::judge_all-loop-member-preserved t c =
    let s = scope_of c.args.scope.now in
    let form = c.args.form in
    let all = c.args.terms.now in
    let i = c.loop-member.member-index in
    let r = c.member-item.result in
    let e = tree_of r in
    let j = c.in_ok-term.field-0 in
    let u = c.in_ok-member_type.field-0 in
    let judged = judged_in s (member_need form) r j c.loop-member.invariant.same c.member_need.ensures c.get.ensures c.in_ok-term.ensures.judged in
    let is = subst (λ z. IsOf s e z) c.in_ok-member_type.ensures judged.is_of in
    record {
      same = c.in_ok-term.ensures.scope ∙ c.loop-member.invariant.same;
      told = λ us are.
          subst (λ vs. AreMembers form s (trees (map tree_of all)) (types vs)) (sym (pushed type_of c.loop-member.types c.push.new.self u us c.in_ok-push.ensures.ok))
          (c.loop-member.invariant.told (type_of u ∷ us) (at_step (λ rs. AreMembers form s (trees (map tree_of rs)) (types (type_of u ∷ us))) all i r
          c.member-item.is (omega arith) (type_of u, types us, is, are, refl)));
      kept = λ ts h.
          ap kept_views.terms (pushed resolved_of c.loop-member.resolved c.push-in-loop-member.new.self j.term ts c.in_ok-push-2.ensures.ok)
          ∙ c.loop-member.invariant.kept (resolved_of j.term ∷ ts) (at_step
          (λ rs. kept_views.terms (resolved_of j.term ∷ ts) ≡ resolved_all s (trees (map tree_of rs))) all i r c.member-item.is (omega arith)
          (ap (λ x. kept.term x (kept_views.terms ts)) judged.term ∙ ap (kept.term (resolved s e)) h));
      offends = λ k m o. c.loop-member.invariant.offends k m (at_step (λ rs. OneOffends s (member_need form) (trees (map tree_of rs)) k m) all i r c.member-item.is (omega arith) (inr o));
    }

pub lists::judge_all-returns-clause-ok : goal.lists::judge_all-returns-clause-ok
lists::judge_all-returns-clause-ok t c =
    let s = scope_of c.args.scope.now in
    subst (λ vs. AreMembers c.args.form s (trees (map tree_of c.args.terms.now)) (types vs)) (append-nil (map type_of c.loop-member.types))
    (c.loop-member.invariant.told [] (at_end (λ rs. AreMembers c.args.form s (trees (map tree_of rs)) no_types) c.args.terms.now c.loop-member.member-index (omega arith) refl))

pub lists::judge_all-returns-clause-resolved : goal.lists::judge_all-returns-clause-resolved
lists::judge_all-returns-clause-resolved t c =
    let s = scope_of c.args.scope.now in
    ap kept_views.terms (sym (append-nil (map resolved_of c.loop-member.resolved)))
    ∙ c.loop-member.invariant.kept [] (at_end (λ rs. kept.no_terms ≡ resolved_all s (trees (map tree_of rs))) c.args.terms.now c.loop-member.member-index (omega arith) refl)

pub lists::judge_all-returns-in_err-term-clause-wrong : goal.lists::judge_all-returns-in_err-term-clause-wrong
lists::judge_all-returns-in_err-term-clause-wrong t c =
    let s = scope_of c.args.scope.now in
    let n = member_need c.args.form in
    let all = c.args.terms.now in
    let r = c.member-item.result in
    let residual = c.from_residual-in_err-term in
    part_wrong s n r (λ k m. OneOffends s n (trees (map tree_of all)) k m) c.in_err-term.field-0.0 residual.result
    c.loop-member.invariant.same c.member_need.ensures c.get.ensures c.in_err-term.ensures.judged
    (λ k m o. c.loop-member.invariant.offends k m
    (at_step (λ rs. OneOffends s n (trees (map tree_of rs)) k m) all c.loop-member.member-index r c.member-item.is
    (omega arith) (inl o))) residual.ensures

pub lists::judge_all-member_type-requires : goal.lists::judge_all-member_type-requires
lists::judge_all-member_type-requires t c =
    (judged_in (scope_of c.args.scope.now) (member_need c.args.form) c.member-item.result c.in_ok-term.field-0 c.loop-member.invariant.same
    c.member_need.ensures c.get.ensures c.in_ok-term.ensures.judged).met

-- ---- links of a chain

pub chains::judge_links-loop-link-init : goal.chains::judge_links-loop-link-init
chains::judge_links-loop-link-init t c = record {
  same = refl;
  linked = λ h. h;
  kept = λ ks h. ap (λ xs. kept_views.links (map resolved_link_of xs ++ ks)) c.in_ok-resolved.ensures ∙ h;
  offends = λ a h l. (a, h, l, λ k m o. o);
}

pub chains::judge_links-loop-link-preserved : goal.chains::judge_links-loop-link-preserved
chains::judge_links-loop-link-preserved t c =
    let s = scope_of c.args.scope.now in
    let all = c.args.links.now in
    let i = c.loop-link.link-index in
    let k = c.link-item.result in
    let rule = relation_rule k.relation in
    let e = tree_of k.right in
    let j = c.in_ok-term.field-0 in
    let x = sort_of c.loop-link.left.sort in
    let y = sort_of j.sort in
    let judged = judged_in s (right_need rule) k.right j c.loop-link.invariant.same (c.right_need.ensures ∙ ap right_need c.relation_rule-rule.ensures) refl
    c.in_ok-term.ensures.judged in
    let made = c.in_ok-relate.ensures.ok in
    let taken : Takes rule x y predicate = compares k.relation x y made.0 (subst (λ r. Takes r x y made.0) c.relation_rule-rule.ensures made.1) in
    record {
      same = c.in_ok-term.ensures.scope ∙ c.loop-link.invariant.same;
      linked = λ h. c.loop-link.invariant.linked (link_ahead (λ l. LinksAreTyped s x l) all i k c.link-item.is (omega arith) (y, judged.is_of, taken, h));
      kept = λ ks h.
          ap kept_views.links (pushed resolved_link_of c.loop-link.resolved c.push.new.self (kept_seen.new_link k.relation j.term) ks c.in_ok-push.ensures.ok
          ∙ ap (λ p. map resolved_link_of c.loop-link.resolved ++ p ∷ ks) (kept_seen.of-link k.relation j.term))
          ∙ c.loop-link.invariant.kept ((k.relation, resolved_of j.term) ∷ ks)
          (link_ahead (λ l. kept.link k.relation (resolved_of j.term) (kept_views.links ks) ≡ resolved_links s l) all i k c.link-item.is (omega arith)
          (ap (λ x. kept.link k.relation x (kept_views.links ks)) judged.term ∙ ap (kept.link k.relation (resolved s e)) h));
      offends = λ a h l.
          let b = c.loop-link.invariant.offends a h l in (
            e,
            judged.is_of,
            c.span-span.ensures ∙ ap (λ y. tree.span_of (tree_of y)) c.get.ensures,
            λ f m o. b.3 f m (link_ahead (λ q. LinksOffend s b.0 q f m) all i k c.link-item.is (omega arith) (inr (inr (inr o)))),
          );
    }

pub chains::judge_links-returns-clause-ok : goal.chains::judge_links-returns-clause-ok
chains::judge_links-returns-clause-ok t c =
    let s = scope_of c.args.scope.now in
    c.loop-link.invariant.linked (at_end (λ l. LinksAreTyped s (sort_of c.loop-link.left.sort) (tree_views.links (map tree_views.link_of l))) c.args.links.now c.loop-link.link-index (omega arith) tt)

pub chains::judge_links-returns-clause-resolved : goal.chains::judge_links-returns-clause-resolved
chains::judge_links-returns-clause-resolved t c =
    let s = scope_of c.args.scope.now in
    ap kept_views.links (sym (append-nil (map resolved_link_of c.loop-link.resolved)))
    ∙ c.loop-link.invariant.kept [] (at_end (λ l. kept.no_links ≡ resolved_links s (tree_views.links (map tree_views.link_of l))) c.args.links.now c.loop-link.link-index (omega arith) refl)

pub chains::judge_links-returns-in_err-term-clause-wrong : goal.chains::judge_links-returns-in_err-term-clause-wrong
chains::judge_links-returns-in_err-term-clause-wrong t c = λ a h l.
    let s = scope_of c.args.scope.now in
    let all = c.args.links.now in
    let k = c.link-item.result in
    let b = c.loop-link.invariant.offends a h l in
    let residual = c.from_residual-in_err-term in
    part_wrong s (right_need (relation_rule k.relation)) k.right (λ f m. LinksOffend s a (tree_views.links (map tree_views.link_of all)) f m)
    c.in_err-term.field-0.0 residual.result c.loop-link.invariant.same (c.right_need.ensures ∙ ap right_need c.relation_rule-rule.ensures) refl
    c.in_err-term.ensures.judged
    (λ f m o. b.3 f m (link_ahead (λ q. LinksOffend s b.0 q f m) all c.loop-link.link-index k c.link-item.is (omega arith) (inr (inl o)))) residual.ensures

pub chains::judge_links-returns-in_err-check_left-clause-wrong : goal.chains::judge_links-returns-in_err-check_left-clause-wrong
chains::judge_links-returns-in_err-check_left-clause-wrong t c = λ a h l.
    let s = scope_of c.args.scope.now in
    let all = c.args.links.now in
    let k = c.link-item.result in
    let n = c.left_need.result in
    let z = sort_of c.loop-link.left.sort in
    let b = c.loop-link.invariant.offends a h l in
    let is : n ≡ left_need (relation_rule k.relation) = c.left_need.ensures ∙ ap left_need c.relation_rule-rule.ensures in
    let residual = c.from_residual-in_err-check_left in
    fault_from c.in_err-check_left.field-0.0 (λ f m. (Meets n z → ⊥) × (f ≡ fault.misplaced n z) × (m ≡ c.loop-link.left.span))
    (λ f m. LinksOffend s a (tree_views.links (map tree_views.link_of all)) f m) residual.result
    (λ f m o. b.3 f m (link_ahead (λ q. LinksOffend s b.0 q f m) all c.loop-link.link-index k c.link-item.is (omega arith)
    (inl (z, b.1, (λ meets. o.0 (subst (λ q. Meets q z) (sym is) meets)), o.1 ∙ ap (λ q. fault.misplaced q z) is, o.2 ∙ b.2))))
    c.in_err-check_left.ensures.wrong residual.ensures

pub chains::judge_links-relate-requires-clause-right : goal.chains::judge_links-relate-requires-clause-right
chains::judge_links-relate-requires-clause-right t c =
    (judged_in (scope_of c.args.scope.now) (right_need c.relation_rule-rule.result) c.link-item.result.right c.in_ok-term.field-0 c.loop-link.invariant.same
    c.right_need.ensures refl c.in_ok-term.ensures.judged).met

pub chains::judge_links-returns-in_err-relate-clause-wrong : goal.chains::judge_links-returns-in_err-relate-clause-wrong
chains::judge_links-returns-in_err-relate-clause-wrong t c = λ a h l.
    let s = scope_of c.args.scope.now in
    let all = c.args.links.now in
    let k = c.link-item.result in
    let rule = c.relation_rule-rule.result in
    let same = c.relation_rule-rule.ensures in
    let j = c.in_ok-term.field-0 in
    let y = sort_of c.loop-link.left.sort in
    let z = sort_of j.sort in
    let b = c.loop-link.invariant.offends a h l in
    let judged = judged_in s (right_need (relation_rule k.relation)) k.right j c.loop-link.invariant.same (c.right_need.ensures ∙ ap right_need same) refl
    c.in_ok-term.ensures.judged in
    let meets = subst (λ n. Meets n y) (c.left_need.ensures ∙ ap left_need same) c.in_ok-check_left.ensures.ok in
    let span = c.span-span.ensures ∙ ap (λ r. tree.span_of (tree_of r)) c.get.ensures in
    let residual = c.from_residual-in_err-relate in
    fault_from c.in_err-relate.field-0.0 (λ f m. ((q : Sort) → Takes rule y z q → ⊥) × Disagreement rule y z f × (m ≡ c.span-span.result))
    (λ f m. LinksOffend s a (tree_views.links (map tree_views.link_of all)) f m) residual.result
    (λ f m o. b.3 f m (link_ahead (λ q. LinksOffend s b.0 q f m) all c.loop-link.link-index k c.link-item.is (omega arith)
    (inr (inr (inl (
      y,
      z,
      b.1,
      judged.is_of,
      meets,
      judged.met,
      (λ q takes. o.0 q (subst (λ r. Takes r y z q) (sym same) takes)),
      subst (λ r. Disagreement r y z f) same o.1,
      o.2 ∙ span,
    )))))) c.in_err-relate.ensures.wrong residual.ensures

pub chains::chain-returns-in_err-term-clause-judged : goal.chains::chain-returns-in_err-term-clause-judged
chains::chain-returns-in_err-term-clause-judged t c =
    let s = scope_of c.args.scope.now in
    let l = c.in-Chain.span in
    let first = c.get.result.now in
    let ks = tree_views.links (map tree_views.link_of c.in-Chain.links) in
    let is = ap tree_of c.in-Chain.is ∙ seen.of-Chain l c.in-Chain.first c.in-Chain.links ∙ ap (λ r. tree.chain l (tree_of r) ks) (sym c.get.ensures) in
    subst (λ d. Judges s c.args.need d c.from_residual.result) (sym is)
    (from_part s need.Expression first c.args.need (tree.chain l (tree_of first) ks) c.in_err-term.field-0.0 c.from_residual.result
    refl refl refl c.in_err-term.ensures.judged (λ k m o. inl o) c.from_residual.ensures)

pub chains::chain-returns-in_err-links-clause-judged : goal.chains::chain-returns-in_err-links-clause-judged
chains::chain-returns-in_err-links-clause-judged t c =
    let s = scope_of c.args.scope.now in
    let l = c.in-Chain.span in
    let first = c.in-Chain.first in
    let e = tree_of first in
    let ks = tree_views.links (map tree_views.link_of c.in-Chain.links) in
    let j = c.in_ok-term.field-0 in
    let x = c.in_err-links.field-0.0 in
    let residual = c.from_residual-in_err-links in
    let judged = judged_in s need.Expression first j refl refl c.get.ensures c.in_ok-term.ensures.judged in
    let span = c.span.ensures ∙ ap (λ y. tree.span_of (tree_of y)) c.get-2.ensures in
    let fault = c.in_err-links.ensures.wrong e (subst (λ y. IsOf y e (sort_of j.sort)) (sym c.in_ok-term.ensures.scope) judged.is_of) span in
    let here = subst (λ y. IfFault x (λ k m. LinksOffend y e (tree_views.links (map tree_views.link_of c.as_slice.result.now)) k m)) c.in_ok-term.ensures.scope fault in
    subst (λ d. Judges s c.args.need d residual.result) (sym (ap tree_of c.in-Chain.is ∙ seen.of-Chain l first c.in-Chain.links))
    (from_offence s c.args.need (tree.chain l e ks) x (λ k m. LinksOffend s e ks k m) residual.result (λ k m o. inr (inl o))
    (subst (λ ys. IfFault x (λ k m. LinksOffend s e (tree_views.links (map tree_views.link_of ys)) k m)) c.as_slice.ensures here) residual.ensures)

pub chains::chain-returns-clause-judged : goal.chains::chain-returns-clause-judged
chains::chain-returns-clause-judged t c =
    let s = scope_of c.args.scope.now in
    let l = c.in-Chain.span in
    let e = tree_of c.in-Chain.first in
    let ks = tree_views.links (map tree_views.link_of c.in-Chain.links) in
    let is = ap tree_of c.in-Chain.is ∙ seen.of-Chain l c.in-Chain.first c.in-Chain.links in
    let j = c.in_ok-term.field-0 in
    let judged = judged_in s need.Expression c.in-Chain.first j refl refl c.get.ensures c.in_ok-term.ensures.judged in
    let linked = subst (λ ys. LinksAreTyped s (sort_of j.sort) (tree_views.links (map tree_views.link_of ys))) c.as_slice.ensures
    (subst (λ y. LinksAreTyped y (sort_of j.sort) (tree_views.links (map tree_views.link_of c.as_slice.result.now))) c.in_ok-term.ensures.scope c.in_ok-links.ensures.ok) in
    let further : kept_views.links (map resolved_link_of c.in_ok-links.links) ≡ resolved_links s ks =
    c.in_ok-links.ensures.resolved ∙ ap (λ y. resolved_links y (tree_views.links (map tree_views.link_of c.as_slice.result.now))) c.in_ok-term.ensures.scope
    ∙ ap (λ ys. resolved_links s (tree_views.links (map tree_views.link_of ys))) c.as_slice.ensures in
    subst (λ d. Judges s c.args.need d c.placed.result) (sym is)
    (c.placed.ensures s (tree.chain l e ks)
    (judged.met.0, subst (λ z. IsOf s e z) judged.met.1 judged.is_of, subst (λ z. LinksAreTyped s z ks) judged.met.1 linked, refl)
    (kept_seen.of-Chain l c.in_ok-first.first c.in_ok-further.further
    ∙ ap (λ x. kept.chain l x (kept_views.links (map resolved_link_of c.in_ok-further.further))) (ap resolved_of c.in_ok-first.ensures ∙ judged.term)
    ∙ ap (λ xs. kept.chain l (resolved s e) (kept_views.links (map resolved_link_of xs))) c.in_ok-further.ensures
    ∙ ap (kept.chain l (resolved s e)) further) refl)

-- ---- parts that may be left out

pub binders::judge_part-returns-in-None-clause-judged : goal.binders::judge_part-returns-in-None-clause-judged
binders::judge_part-returns-in-None-clause-judged t c =
    let s = scope_of c.args.scope.now in
    subst (λ o. JudgesPart s c.args.need (part_of o) (Ok None)) (sym c.in-None.is ∙ c.get.ensures) (no_part s c.args.need)

pub binders::judge_part-returns-in_err-judged-in-Some-clause-judged : goal.binders::judge_part-returns-in_err-judged-in-Some-clause-judged
binders::judge_part-returns-in_err-judged-in-Some-clause-judged t c =
    let s = scope_of c.args.scope.now in
    let x = c.in_err-judged-in-Some.field-0.0 in
    subst (λ o. JudgesPart s c.args.need (part_of o) c.from_residual.result) (sym c.in-Some.is ∙ c.get.ensures)
    (part_from s c.args.need (tree_of c.in-Some.term) x c.from_residual.result
    (subst (λ y. Judges s c.args.need y (Err x)) (ap tree_of c.get-in-Some.ensures) c.in_err-judged-in-Some.ensures.judged) c.from_residual.ensures)

pub binders::judge_part-returns-in_ok-judged-in-Some-clause-judged : goal.binders::judge_part-returns-in_ok-judged-in-Some-clause-judged
binders::judge_part-returns-in_ok-judged-in-Some-clause-judged t c =
    let s = scope_of c.args.scope.now in
    let j = c.in_ok-judged-in-Some.judged in
    subst (λ o. JudgesPart s c.args.need (part_of o) (Ok (Some j))) (sym c.in-Some.is ∙ c.get.ensures)
    (part_judged s c.args.need (tree_of c.in-Some.term) j (subst (λ y. Judges s c.args.need y (Ok j)) (ap tree_of c.get-in-Some.ensures) c.in_ok-judged-in-Some.ensures.judged))

-- ---- declarations

pub binders::declare-returns-clause-ok : goal.binders::declare-returns-clause-ok
binders::declare-returns-clause-ok t c =
    let vs = map variable_of c.in_ok-variables.field-0.variables in
    (vs, c.in_ok-variables.ensures.ok, c.in_ok-bind.ensures.ok ∙ ap (λ z. with_variables z vs) c.in_ok-variables.ensures.scope)

pub binders::declare-returns-in_err-variables-clause-wrong : goal.binders::declare-returns-in_err-variables-clause-wrong
binders::declare-returns-in_err-variables-clause-wrong t c =
    let P : Offence → Span → Type 0 = λ k m. DeclarationsOffend (scope_of c.args.scope.now)
    (tree_views.var_decls (map tree_views.var_decl_of c.args.decls.now)) k m in
    fault_from c.in_err-variables.field-0.0 P P c.from_residual.result (λ k m o. o) c.in_err-variables.ensures.wrong c.from_residual.ensures

pub binders::judge_sets-loop-decl-init : goal.binders::judge_sets-loop-decl-init
binders::judge_sets-loop-decl-init t c =
    let s = scope_of c.args.scope.now in
    let ds = tree_views.var_decls (map tree_views.var_decl_of c.args.decls.now) in
    record {
      same = refl;
      declares = λ vs h. subst (λ xs. Declare s ds (map variable_of xs ++ vs)) (sym c.new-variables.ensures) h;
      apart = λ h. subst (λ xs. AreNew (map variable_of xs) (declared ds)) c.new-variables.ensures h;
      repeated = λ k m h. subst (λ xs. AreRepeated (map variable_of xs) (declared ds) k m) c.new-variables.ensures h;
      kept = λ rs h. ap (λ xs. kept_views.ranges (map range_of xs ++ rs)) c.in_ok-ranges.ensures ∙ h;
      offends = λ k m o. o;
    }

pub binders::judge_sets-loop-decl-preserved : goal.binders::judge_sets-loop-decl-preserved
binders::judge_sets-loop-decl-preserved t c =
    let s = scope_of c.args.scope.now in
    let all = c.args.decls.now in
    let i = c.loop-decl.decl-index in
    let d = c.decl-item.result in
    let e = tree_of d.set in
    let j = c.in_ok-term.field-0 in
    let old = map variable_of c.loop-decl.variables in
    let rest = tree_views.var_decls (map tree_views.var_decl_of (drop (i + 1) all)) in
    let judged = judged_in s need.Set d.set j c.loop-decl.invariant.same refl refl c.in_ok-term.ensures.judged in
    let added = c.in_ok-declare_names.ensures.ok in
    let u = added.0 in
    let here = variables d.names u in
    let more = added.2 ∙ ap (λ ns. old ++ variables ns u) c.as_slice.ensures in
    let new = kept_seen.new_range c.len.result j.term in
    record {
      same = c.in_ok-term.ensures.scope ∙ c.loop-decl.invariant.same;
      declares = λ vs h.
          subst (λ ws. Declare s (tree_views.var_decls (map tree_views.var_decl_of all)) ws) (sym (ap (λ ws. ws ++ vs) more ∙ append_assoc old here vs))
          (c.loop-decl.invariant.declares (here ++ vs) (decl_ahead (λ ds. Declare s ds (here ++ vs)) all i d c.decl-item.is (omega arith) (
            u,
            vs,
            subst (λ z. IsOf s e z) added.1 judged.is_of,
            h,
            refl,
          )));
      apart = λ h. c.loop-decl.invariant.apart (decl_ahead (λ ds. AreNew old (declared ds)) all i d c.decl-item.is (omega arith)
          (subst (λ ns. AreNew old (ns ++ declared rest)) c.as_slice.ensures (c.in_ok-declare_names.ensures.apart (declared rest) h)));
      repeated = λ k m h. c.loop-decl.invariant.repeated k m (decl_ahead (λ ds. AreRepeated old (declared ds) k m) all i d c.decl-item.is (omega arith)
          (subst (λ ns. AreRepeated old (ns ++ declared rest) k m) c.as_slice.ensures (c.in_ok-declare_names.ensures.later (declared rest) k m h)));
      kept = λ rs h.
          ap kept_views.ranges (pushed range_of c.loop-decl.ranges c.push.new.self new rs c.in_ok-push.ensures.ok
          ∙ ap (λ p. map range_of c.loop-decl.ranges ++ p ∷ rs) (kept_seen.of-range c.len.result j.term ∙ ap (λ n. (n, resolved_of j.term)) c.len.ensures))
          ∙ c.loop-decl.invariant.kept ((length d.names, resolved_of j.term) ∷ rs)
          (decl_ahead (λ ds. kept.range (length d.names) (resolved_of j.term) (kept_views.ranges rs) ≡ resolved_ranges s ds) all i d c.decl-item.is
          (omega arith)
          (ap (λ x. kept.range (length d.names) x (kept_views.ranges rs)) judged.term ∙ ap (kept.range (length d.names) (resolved s e)) h));
      offends = λ k m o. c.loop-decl.invariant.offends k m (decl_ahead (λ ds. SetsOffend s ds k m) all i d c.decl-item.is (omega arith) (inr o));
    }

pub binders::judge_sets-returns-clause-ok : goal.binders::judge_sets-returns-clause-ok
binders::judge_sets-returns-clause-ok t c =
    let s = scope_of c.args.scope.now in
    let all = c.args.decls.now in
    let i = c.loop-decl.decl-index in
    let ds = tree_views.var_decls (map tree_views.var_decl_of all) in
    let vs = map variable_of c.loop-decl.variables in (
      all_apart (declared ds) (c.loop-decl.invariant.apart (at_end (λ xs. AreNew vs (declared (tree_views.var_decls (map tree_views.var_decl_of xs)))) all i (omega arith) tt)),
      subst (λ ws. Declare s ds ws) (append-nil vs) (c.loop-decl.invariant.declares [] (at_end (λ xs. Declare s (tree_views.var_decls (map tree_views.var_decl_of xs)) []) all i (omega arith) refl)),
    )

pub binders::judge_sets-returns-clause-ranges : goal.binders::judge_sets-returns-clause-ranges
binders::judge_sets-returns-clause-ranges t c =
    let s = scope_of c.args.scope.now in
    ap kept_views.ranges (sym (append-nil (map range_of c.loop-decl.ranges)))
    ∙ c.loop-decl.invariant.kept [] (at_end (λ ds. kept.no_ranges ≡ resolved_ranges s (tree_views.var_decls (map tree_views.var_decl_of ds))) c.args.decls.now
    c.loop-decl.decl-index (omega arith) refl)

pub binders::judge_sets-returns-in_err-term-clause-wrong : goal.binders::judge_sets-returns-in_err-term-clause-wrong
binders::judge_sets-returns-in_err-term-clause-wrong t c =
    let s = scope_of c.args.scope.now in
    let all = c.args.decls.now in
    let d = c.decl-item.result in
    let residual = c.from_residual-in_err-term in
    part_wrong s need.Set d.set (λ k m. DeclarationsOffend s (tree_views.var_decls (map tree_views.var_decl_of all)) k m) c.in_err-term.field-0.0
    residual.result c.loop-decl.invariant.same refl refl c.in_err-term.ensures.judged
    (λ k m o. inr (c.loop-decl.invariant.offends k m
    (decl_ahead (λ ds. SetsOffend s ds k m) all c.loop-decl.decl-index d c.decl-item.is (omega arith) (inl o))))
    residual.ensures

pub binders::judge_sets-returns-in_err-declare_names-clause-wrong : goal.binders::judge_sets-returns-in_err-declare_names-clause-wrong
binders::judge_sets-returns-in_err-declare_names-clause-wrong t c =
    let s = scope_of c.args.scope.now in
    let all = c.args.decls.now in
    let i = c.loop-decl.decl-index in
    let old = map variable_of c.loop-decl.variables in
    let whole = tree_views.var_decls (map tree_views.var_decl_of all) in
    let rest = declared (tree_views.var_decls (map tree_views.var_decl_of (drop (i + 1) all))) in
    let residual = c.from_residual-in_err-declare_names in
    fault_from c.in_err-declare_names.field-0.0 (λ k m. (ns : List Name) → AreRepeated old (c.as_slice.result.now ++ ns) k m)
    (λ k m. DeclarationsOffend s whole k m) residual.result
    (λ k m o. inl (some_repeated (declared whole) k m
    (c.loop-decl.invariant.repeated k m (decl_ahead (λ ds. AreRepeated old (declared ds) k m) all i c.decl-item.result c.decl-item.is (omega arith)
    (subst (λ ns. AreRepeated old (ns ++ rest) k m) c.as_slice.ensures (o rest)))))) c.in_err-declare_names.ensures.repeated residual.ensures

pub binders::judge_sets-declare_names-requires : goal.binders::judge_sets-declare_names-requires
binders::judge_sets-declare_names-requires t c =
    (judged_in (scope_of c.args.scope.now) need.Set c.decl-item.result.set c.in_ok-term.field-0 c.loop-decl.invariant.same refl refl
    c.in_ok-term.ensures.judged).met

-- ---- what stands within declarations

pub binders::quantified-returns-in_err-ranges-clause-judged : goal.binders::quantified-returns-in_err-ranges-clause-judged
binders::quantified-returns-in_err-ranges-clause-judged t c =
    let s = scope_of c.args.scope.now in
    let l = c.in-Quantified.span in
    let q = c.in-Quantified.quantifier in
    let p = part_of c.in-Quantified.constraint in
    let e = tree_of c.in-Quantified.body in
    let ds = tree_views.var_decls (map tree_views.var_decl_of c.as_slice.result.now) in
    let is = ap tree_of c.in-Quantified.is ∙ seen.of-Quantified l q c.in-Quantified.decls c.in-Quantified.constraint c.in-Quantified.body
    ∙ ap (λ xs. tree.quantified l q (tree_views.var_decls (map tree_views.var_decl_of xs)) p e) (sym c.as_slice.ensures) in
    subst (λ d. Judges s c.args.need d c.from_residual.result) (sym is)
    (from_offence s c.args.need (tree.quantified l q ds p e) c.in_err-ranges.field-0.0 (λ k m. DeclarationsOffend s ds k m) c.from_residual.result
    (λ k m o. ⊎_elim (λ a. inl a) (λ b. inr (inl b)) o) c.in_err-ranges.ensures.wrong c.from_residual.ensures)

pub binders::quantified-returns-clause-judged : goal.binders::quantified-returns-clause-judged
binders::quantified-returns-clause-judged t c =
    let s = scope_of c.args.scope.now in
    let l = c.in-Quantified.span in
    let q = c.in-Quantified.quantifier in
    let p = part_of c.in-Quantified.constraint in
    let e = tree_of c.get.result.now in
    let ds = tree_views.var_decls (map tree_views.var_decl_of c.as_slice.result.now) in
    let bound = c.in_ok-ranges.ensures.ok in
    let is = ap tree_of c.in-Quantified.is ∙ seen.of-Quantified l q c.in-Quantified.decls c.in-Quantified.constraint c.in-Quantified.body
    ∙ ap (λ xs. tree.quantified l q (tree_views.var_decls (map tree_views.var_decl_of xs)) p (tree_of c.in-Quantified.body)) (sym c.as_slice.ensures)
    ∙ ap (λ y. tree.quantified l q ds p (tree_of y)) (sym c.get.ensures) in
    subst (λ d. Judges s c.args.need d c.with_body.result) (sym is)
    (c.with_body.ensures s ds bound.0 p e bound.1 c.in_ok-ranges.ensures.ranges
    (subst (λ z. JudgesPart z need.Predicate p c.judge_part-constraint.result) bound.2 c.judge_part-constraint.ensures.judged)
    (subst (λ z. Judges z need.Predicate e c.judge_term-body.result) (c.judge_part-constraint.ensures.scope ∙ bound.2) c.judge_term-body.ensures.judged))

pub binders::quantified-returns-clause-scope : goal.binders::quantified-returns-clause-scope
binders::quantified-returns-clause-scope t c =
    let bound = c.in_ok-ranges.ensures.ok in
    c.unbind.ensures (scope_of c.args.scope.now) bound.0 (c.judge_term-body.ensures.scope ∙ c.judge_part-constraint.ensures.scope ∙ bound.2) c.depth-outside.ensures

pub binders::comprehension-returns-in_err-ranges-clause-judged : goal.binders::comprehension-returns-in_err-ranges-clause-judged
binders::comprehension-returns-in_err-ranges-clause-judged t c =
    let s = scope_of c.args.scope.now in
    let l = c.in-Comprehension.span in
    let p = part_of c.in-Comprehension.filter in
    let e = part_of c.in-Comprehension.member in
    let ds = tree_views.var_decls (map tree_views.var_decl_of c.as_slice.result.now) in
    let is = ap tree_of c.in-Comprehension.is ∙ seen.of-Comprehension l c.in-Comprehension.decls c.in-Comprehension.filter c.in-Comprehension.member
    ∙ ap (λ xs. tree.comprehension l (tree_views.var_decls (map tree_views.var_decl_of xs)) p e) (sym c.as_slice.ensures) in
    subst (λ d. Judges s c.args.need d c.from_residual.result) (sym is)
    (from_offence s c.args.need (tree.comprehension l ds p e) c.in_err-ranges.field-0.0 (λ k m. DeclarationsOffend s ds k m) c.from_residual.result
    (λ k m o. ⊎_elim (λ a. inl a) (λ b. inr (inl b)) o) c.in_err-ranges.ensures.wrong c.from_residual.ensures)

pub binders::comprehension-returns-clause-judged : goal.binders::comprehension-returns-clause-judged
binders::comprehension-returns-clause-judged t c =
    let s = scope_of c.args.scope.now in
    let l = c.in-Comprehension.span in
    let p = part_of c.in-Comprehension.filter in
    let e = part_of c.in-Comprehension.member in
    let ds = tree_views.var_decls (map tree_views.var_decl_of c.as_slice.result.now) in
    let bound = c.in_ok-ranges.ensures.ok in
    let inside = c.judge_part-filter.ensures.scope ∙ bound.2 in
    let is = ap tree_of c.in-Comprehension.is ∙ seen.of-Comprehension l c.in-Comprehension.decls c.in-Comprehension.filter c.in-Comprehension.member
    ∙ ap (λ xs. tree.comprehension l (tree_views.var_decls (map tree_views.var_decl_of xs)) p e) (sym c.as_slice.ensures) in
    subst (λ d. Judges s c.args.need d c.built.result) (sym is)
    (c.built.ensures s ds bound.0 p e bound.1 c.in_ok-ranges.ensures.ranges
    (subst (λ z. JudgesPart z need.Predicate p c.judge_part-filter.result) bound.2 c.judge_part-filter.ensures.judged)
    (subst (λ z. JudgesPart z need.Expression e c.judge_part-member.result) inside c.judge_part-member.ensures.judged)
    (row_here c.row-row.result _ s bound.0 c.depth-outside.result (c.judge_part-member.ensures.scope ∙ inside) c.depth-outside.ensures c.row-row.ensures))

pub binders::comprehension-returns-clause-scope : goal.binders::comprehension-returns-clause-scope
binders::comprehension-returns-clause-scope t c =
    let bound = c.in_ok-ranges.ensures.ok in
    c.unbind.ensures (scope_of c.args.scope.now) bound.0 (c.judge_part-member.ensures.scope ∙ c.judge_part-filter.ensures.scope ∙ bound.2) c.depth-outside.ensures
