-- What is made of a predicate, where memory may be refused.
use Rattle.zf_unfold.proofs.Prelude.{◌+◌, ◌<◌, ◌∙◌, ◌≡◌, ap, arith, length, List, map, None, Option, Some, subst, suc, sym, ℕ, resolved_of, ResolvedTree, Environment, environment_of, longer, AreLifted, IsLonger, IsBase, IsSetNamed, IsUnfolded, named, part_of, range_of, ranges, renamed, Value, Err, IfOk, Ok, OnOk, Result, IfSome, IfOk-weaker, Resolved, Is, members, Lifted, itself, instances_of, universal_of}
use Rattle.zf_unfold.specs.declared.instance.Universal.{Universal}
use Rattle.zf_unfold.proofs.Arms.{plain}
use Rattle.zf_unfold.proofs.Steps.{all_further, unfold_members}

pub nothing_new : {E : Type 0} (r : Result Resolved E) (e : Environment) → OnOk r (IsLonger e e)
nothing_new (Ok t) e = itself e
nothing_new (Err x) e = tt

pub plain_made : {E : Type 0} (r : Result Resolved E) (n : ℕ) (e f : Environment) (whole : Resolved) → IfOk r (λ t. resolved_of t ≡ renamed (named n None) (resolved_of whole)) → IsBase n e f
    → IfOk r (λ t. IsUnfolded f e (resolved_of t) (resolved_of whole))
plain_made r n e f whole h b =
    IfOk-weaker r (λ t. resolved_of t ≡ renamed (named n None) (resolved_of whole)) (λ t. IsUnfolded f e (resolved_of t) (resolved_of whole)) (λ t is. plain n e f t whole is b) h

-- what is written out of what was lifted
pub still_lifted : {E : Type 0} (r : Result (Option Lifted) E) (e f : Environment) (ts us : List ResolvedTree) → AreLifted f e ts us
    → IfOk r (λ found. IfSome found (λ l. AreLifted (environment_of l.env.now) f (map resolved_of l.terms.items) ts))
    → IfOk r (λ found. IfSome found (λ l. AreLifted (environment_of l.env.now) e (map resolved_of l.terms.items) us))
still_lifted (Ok (Some l)) e f ts us h k = all_further e f (environment_of l.env.now) (map resolved_of l.terms.items) ts us k h
still_lifted (Ok None) e f ts us h k = tt
still_lifted (Err x) e f ts us h k = tt

-- the quantifier of u over these members, which have the names from the first on
pub members_made : {E : Type 0} (r : Result Resolved E) (n first more : ℕ) (e f g : Environment) (s : Value) (xs : List Value) (u : Universal) (whole : Resolved)
    → resolved_of whole ≡ universal_of u → 0 < u.first.now.variables → IsBase n e f → IsSetNamed n f (resolved_of u.first.now.set) s → first ≡ length f.outcomes → xs ≡ members s
    → g ≡ longer f (map Is xs) → more + 1 ≡ length xs → IfOk r (λ t. resolved_of t ≡ instances_of n first more u) → IfOk r (λ t. IsUnfolded g e (resolved_of t) (resolved_of whole))
members_made r n first more e f g s xs u whole is there b set at all added size h =
    let size : length (members s) ≡ suc more = let same = ap length all in omega (arith, same, size) in
    let made = unfold_members n u.span more e f g s (resolved_of u.first.now.set) (ranges (map range_of u.others.now)) (part_of u.constraint.now) (resolved_of u.body.now)
    b set (added ∙ ap (λ (vs : List Value). longer f (map Is vs)) all) size u.first.now.variables there in
    let here = subst (λ (i : ℕ). IsUnfolded g e (instances_of n i more u) (universal_of u)) (sym at) made in
    IfOk-weaker r (λ t. resolved_of t ≡ instances_of n first more u) (λ t. IsUnfolded g e (resolved_of t) (resolved_of whole))
    (λ t seen. subst (λ x. IsUnfolded g e x (resolved_of whole)) (sym seen) (subst (λ y. IsUnfolded g e (instances_of n first more u) y) (sym is) here)) h
