-- Worked rows, as a check of the definitions.
use Rattle.zf_meaning.proofs.Prelude.{◌≡◌, [], arith, inl, None, refl, subst, sym, pos, members-SetOf, number_of-Int, IsQuotient, IsSize, Is, Out, Undefined, False, True, Int, SetOf, Function, Symbol, Sign, Div, binary, chain, constant, empty_set, link, no_links, number, ResolvedTree, unary, Context, HasOutcome, IsConjunction, IsLink, IsTruth, Some, Member, NotMember, Num, IsNumberSet, unended, Span}
use Rattle.zf_tree.specs.declared.symbol.Constant.TheVariants.{Integers}
use Rattle.zf_tree.specs.declared.symbol.Prefix.TheVariants.{Size}

one_by_zero : Span → ResolvedTree
one_by_zero s = binary s (Function Div) (number s 1) (number s 0)

undefined : (c : Context) (s : Span) → HasOutcome c (one_by_zero s) Undefined
unfolding IsQuotient one_by_zero
undefined c s = (Is (Int (pos 1)), Is (Int (pos 0)), (refl, record { sfits = omega arith }), (refl, record { sfits = omega arith }), rw (number_of-Int (pos 1), number_of-Int (pos 0)) (inl (refl, refl)))

-- where numbers have no end
not_in_integers : (c : Context) (s : Span) → c.environment.numbers ≡ None → IsTruth c (chain s (one_by_zero s) (link NotMember (constant s Integers) no_links)) False
not_in_integers c s e =
    let out = subst (λ n. IsNumberSet n Num Out) (sym e) refl in
    (Undefined, undefined c s, (Out, out, subst (λ n. IsConjunction (λ p. IsLink (unended (Some Num) n) NotMember Undefined Out p) (λ q. q ≡ True) False) (sym e) (inl refl)))

one_in_integers : (c : Context) (s : Span) → c.environment.numbers ≡ None → IsTruth c (chain s (number s 1) (link Member (constant s Integers) no_links)) True
one_in_integers c s e =
    let one = Is (Int (pos 1)) in
    let out = subst (λ n. IsNumberSet n Num Out) (sym e) refl in
    (one, (refl, record { sfits = omega arith }), (Out, out, subst (λ n. IsConjunction (λ p. IsLink (unended (Some Num) n) Member one Out p) (λ q. q ≡ True) True) (sym e) ((pos 1, refl), refl)))

none : (c : Context) (s : Span) → HasOutcome c (unary s (Sign (Symbol Size)) (empty_set s (constant s Integers))) (Is (Int (pos 0)))
unfolding IsSize
none c s = (Is (SetOf []), refl, rw (members-SetOf []) (refl, record { sfits = omega arith }))
