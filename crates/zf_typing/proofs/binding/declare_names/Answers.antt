use Rattle.zf_typing.proofs.Prelude.{◌++◌, ◌+◌, ◌∙◌, ◌∷◌, ◌≡◌, [], ap, append-nil, arith, drop, inl, inr, List, map, subst, sym, true≢false, drop_all, map-append, spelling, Name, dropped, pushed, type_of, local_twice, AreNew, AreRepeated, IsBound, variable_of, variables}
use Rattle.zf_typing.proofs.Bound.{one_new, one_repeated}
use Rattle.zf_typing.proofs.Judging.{told}
use Rattle.zf_typing.proofs.binding.declare_names.Goals as goal

pub loop-name-preserved : goal.loop-name-preserved
loop-name-preserved c =
    let i = c.loop-name.name-index in
    let n = c.name-item.result in
    let u = type_of c.in-Some.members.now in
    let v = c.in_ok-variable.variable in
    let old = map variable_of c.loop-name.variables in
    let rest = drop (i + 1) c.args.names.now in
    let ahead = dropped c.args.names.now i n (omega arith) c.name-item.is in
    let is : variable_of v ≡ record { name = spelling n; type = u } = c.in_ok-variable.ensures ∙ ap (λ t. record { name = spelling n; type = t }) c.loop-name.invariant.kept in
    let named : v.name ≡ spelling n = ap (λ w. w.name) is in
    let more : map variable_of c.push.new.self ≡ old ++ variable_of v ∷ [] = ap (map variable_of) c.in_ok-push.ensures.ok ∙ map-append variable_of c.loop-name.variables (v ∷ []) in
    let free : IsBound (spelling n) old → ⊥ = λ b.
    true≢false (sym (c.is_bound.ensures.1 (subst (λ x. IsBound x old) (sym (c.as_slice.ensures ∙ named)) b)) ∙ c.if-is_bound.false) in
    record {
      kept = c.loop-name.invariant.kept;
      adds =
          pushed variable_of c.loop-name.variables c.push.new.self v (variables rest u) c.in_ok-push.ensures.ok
          ∙ ap (λ w. old ++ w ∷ variables rest u) is
          ∙ ap (λ xs. old ++ variables xs u) (sym ahead)
          ∙ c.loop-name.invariant.adds;
      apart = λ ns h. c.loop-name.invariant.apart ns (subst (λ xs. AreNew old (xs ++ ns)) (sym ahead)
          (one_new old (variable_of v) n (rest ++ ns) named free (subst (λ vs. AreNew vs (rest ++ ns)) more h)));
      repeated = λ ns k m h. c.loop-name.invariant.repeated ns k m (subst (λ xs. AreRepeated old (xs ++ ns) k m) (sym ahead)
          (inr (one_repeated old (variable_of v) n (rest ++ ns) k m named (subst (λ vs. AreRepeated vs (rest ++ ns) k m) more h))));
    }

pub returns-clause-ok : goal.returns-clause-ok
returns-clause-ok c =
    let old = map variable_of c.loop-name.variables in (
      type_of c.in-Some.members.now,
      c.in-Some.ensures,
      sym (append-nil old) ∙ ap (λ xs. old ++ variables xs (type_of c.in-Some.members.now)) (sym (drop_all c.loop-name.name-index c.args.names.now (omega arith))) ∙ c.loop-name.invariant.adds,
    )

pub returns-then-is_bound-clause-repeated : goal.returns-then-is_bound-clause-repeated
returns-then-is_bound-clause-repeated c =
    let i = c.loop-name.name-index in
    let n = c.name-item.result in
    let v = c.in_ok-variable.variable in
    let old = map variable_of c.loop-name.variables in
    let ahead = dropped c.args.names.now i n (omega arith) c.name-item.is in
    let named : v.name ≡ spelling n = ap (λ w. w.name) c.in_ok-variable.ensures in
    let found : IsBound v.name old = subst (λ x. IsBound x old) c.as_slice.ensures (c.is_bound.ensures.0 c.if-is_bound.true) in
    let bound : IsBound (spelling n) old = subst (λ x. IsBound x old) named found in
    let o = local_twice c.spelled.result in
    told c.refused.result o c.name.inside.span (λ k m. (ns : List Name) → AreRepeated (map variable_of c.args.variables.now) (c.args.names.now ++ ns) k m) c.refused.ensures
    (λ ns. c.loop-name.invariant.repeated ns o c.name.inside.span (subst (λ xs. AreRepeated old (xs ++ ns) o c.name.inside.span) (sym ahead)
    (inl (bound, ap local_twice c.spelled.ensures, ap (λ m. m.span) c.name.view_is))))
