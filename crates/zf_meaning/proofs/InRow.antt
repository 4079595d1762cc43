-- Where no variable is bound, a scope is the context of its row.
use Rattle.zf_meaning.proofs.Prelude.{◌≡◌, [], ap, List, subst, sym, IfOk-weaker, Result, IfOk, AllocError, Bor, Outcome, Truth, Value, ResolvedTree, Describes, environment_of, HasOutcome, IsTruth, seen, scope_of, Described, Env, ℕ, ◌+◌, ◌≤◌, length, ◌∙◌, arith, refl, in_row, need}
unfoldable use Rattle.zf_meaning.specs.{IsBehind}
use Rattle.zf_meaning.proofs.NextRow.{seen-length}
use Rattle.zf_meaning.proofs.SameLocals.{same-row-outcome}

none-bound : (env : Env) (row : List Value) (locals : List (Bor Value)) → locals ≡ [] → scope_of env row locals ≡ in_row (environment_of env) row
none-bound env row locals e = ap (λ ls. record { environment = environment_of env; row = row; locals = seen ls }) e

pub outcome-in-row : (env : Env) (row : List Value) (locals : List (Bor Value)) (t : ResolvedTree) (x : Outcome) (r : Result Outcome AllocError) → locals ≡ []
    → HasOutcome (scope_of env row locals) t x → IfOk r (λ o. o ≡ x) → IfOk r (HasOutcome (in_row (environment_of env) row) t)
outcome-in-row env row locals t x r e h k =
    let here = subst (λ c. HasOutcome c t x) (none-bound env row locals e) h in
    IfOk-weaker r (λ o. o ≡ x) (HasOutcome (in_row (environment_of env) row) t) (λ o q. subst (HasOutcome (in_row (environment_of env) row) t) (sym q) here) k

pub truth-in-row : (env : Env) (row : List Value) (locals : List (Bor Value)) (t : ResolvedTree) (r : Result Truth AllocError) → locals ≡ []
    → IfOk r (IsTruth (scope_of env row locals) t) → IfOk r (IsTruth (in_row (environment_of env) row) t)
truth-in-row env row locals t r e h = subst (λ c. IfOk r (IsTruth c t)) (none-bound env row locals e) h

pub described-in-row : (env : Env) (row : List Value) (locals : List (Bor Value)) (t : ResolvedTree) (r : Result Described AllocError) → locals ≡ []
    → IfOk r (Describes (HasOutcome (scope_of env row locals) t)) → IfOk r (Describes (HasOutcome (in_row (environment_of env) row) t))
described-in-row env row locals t r e h = subst (λ c. IfOk r (Describes (HasOutcome c t))) (none-bound env row locals e) h

-- what an expression comes to after some variables, it comes to after as many others, if it names none of them
pub outcome-behind : (env : Env) (row : List Value) (locals : List (Bor Value)) (n : ℕ) (t : ResolvedTree) (x : Outcome) (r : Result Outcome AllocError)
    → length locals ≡ n → need n t ≡ 0 → HasOutcome (scope_of env row locals) t x → IfOk r (λ o. o ≡ x) → IfOk r (IsBehind (environment_of env) row n t)
unfolding IsBehind
outcome-behind env row locals n t x r l free h = IfOk-weaker r (λ o. o ≡ x) (IsBehind (environment_of env) row n t) (λ o same others k.
    let none = in_row (environment_of env) row in
    let lengths : length (seen locals) ≡ length others = seen-length locals ∙ l ∙ sym k in
    let whole : 0 + length others ≡ n = omega (arith, k) in
    let room : need (0 + length others) t ≤ 0 = subst (λ m. need m t ≤ 0) (sym whole) (omega (arith, free)) in
    subst (HasOutcome (record { environment = environment_of env; row = row; locals = others }) t) (sym same)
    (same-row-outcome none 0 (seen locals) others t x lengths refl room h))
