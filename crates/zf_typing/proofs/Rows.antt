-- What a comprehension without a term builds: the types of the variables within.
use Rattle.zf_typing.proofs.Prelude.{◌++◌, ◌+◌, ◌<◌, ◌∙◌, ◌∷◌, ◌≡◌, ◌≤◌, [], ap, drop, get_or, length, List, map, refl, sym, ℕ, drop-append_seam, drop-map, drop_all, length-map, dropped, product, type, type_of, types, ZType, var_type, Scope, Var, variable_of, with_variables, scope_of, row_type, types_of, Variable}
use Rattle.zf_typing.specs.declared.scope.Scope as program

-- ---- the type of a row, from the types of its variables

all_types : (vs : List Var) → types (map var_type vs) ≡ types_of vs
all_types [] = refl
all_types (v ∷ vs) = ap (type v.type) (all_types vs)

-- of none, or of several
pub of_many : (ts : List ZType) (vs : List Var) → (length ts ≡ 1 → ⊥) → map type_of ts ≡ map var_type vs → product (types (map type_of ts)) ≡ row_type vs
of_many ts [] d h = ap (λ us. product (types us)) h
of_many ts (v ∷ []) d h = absurd (d (sym (length-map ts type_of) ∙ ap length h))
of_many ts (v ∷ w ∷ vs) d h = ap (λ us. product (types us)) h ∙ ap product (all_types (v ∷ w ∷ vs))

-- ---- the variables within

-- one is ahead
pub row_ahead : (xs : List Variable) (i : ℕ) (x : Variable) → x ≡ get_or xs i x → i < length xs
    → type_of x.ztype ∷ map var_type (map variable_of (drop (i + 1) xs)) ≡ map var_type (map variable_of (drop i xs))
row_ahead xs i x e l = ap (λ ys. map var_type (map variable_of ys)) (sym (dropped xs i x l e))

-- none is
pub none_ahead : (xs : List Variable) (i : ℕ) → length xs ≤ i → [] ≡ map var_type (map variable_of (drop i xs))
none_ahead xs i h = ap (λ ys. map var_type (map variable_of ys)) (sym (drop_all i xs h))

-- those after the ones outside
pub variables_within : (p : program.Scope) (s : Scope) (vs : List Var) (n : ℕ) → scope_of p ≡ with_variables s vs → n ≡ length s.locals → map variable_of (drop n p.locals) ≡ vs
unfolding scope_of
variables_within p s vs n h e = sym (drop-map variable_of n p.locals) ∙ ap (λ z. drop n z.locals) h ∙ ap (λ k. drop k (s.locals ++ vs)) e ∙ drop-append_seam s.locals vs
