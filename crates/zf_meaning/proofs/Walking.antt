-- A walk over the rows of sets, with what it binds.
use Rattle.zf_meaning.proofs.Prelude.{◌++◌, ◌∙◌, ◌∷◌, ◌≡◌, ◌≤◌, ◌⊎◌, [], ap, arith, drop, inl, inr, length, length-append, List, map, refl, subst, sym, ⊎_elim, Bor, AreFrom, IsAscending, value_order, every_at, not_below_itself, members, Outcome, Truth, Value, Quantifier, resolved_of, ResolvedPart, ResolvedTree, Resolved, IsNeutral, Context, within, Builds, IsConstraint, IsTruth, seen, all_rows, ahead, IsAt, IsFirst, IsNext, IsPassed, lists_of, Passing, row_of, Skips, scope_of, IsTold, Env, Rows, AllByRecursion, Less}
use Rattle.zf_meaning.proofs.AllRows.{AreDistinct, HaveDistinct, IsAmong, row-among, among-row, rows-apart}
use Rattle.zf_meaning.proofs.Midway as midway
use Rattle.zf_meaning.proofs.Midway.{IsMidway}
use Rattle.zf_meaning.proofs.NextRow.{seen-length}
use Rattle.zf_meaning.proofs.PassedRows.{passed-or-left, left-ahead, left-apart}

-- the rows that are done, and the one that it is at; N says which rows may be passed
pub record WalksOver (N : List Value → Type 0) (r : Rows) (outside ss : List Value) (done : List (List Value)) : Type 0 where
  pub at : IsAt r outside
  pub lists : lists_of r ≡ map members ss
  pub midway : IsMidway N (all_rows (map members ss)) done (row_of r ∷ ahead r)

distinct : (xs : List Value) → IsAscending xs → AreDistinct xs
distinct [] h = tt
distinct (x ∷ xs) h = (λ m. not_below_itself x (every_at (λ y. value_order x y ≡ Less) xs x h.0 m), distinct xs h.1)

have_distinct : (ss : List Value) → AllByRecursion (λ s. IsAscending (members s)) ss → HaveDistinct ss
have_distinct [] h = tt
have_distinct (s ∷ ss) h = (distinct (members s) h.0, have_distinct ss h.1)

pub walk-begun : (N : List Value → Type 0) (r : Rows) (outside ss : List Value) (lists : List (List Value)) → lists ≡ map members ss
    → AllByRecursion (λ s. IsAscending (members s)) ss → IsFirst outside lists r → WalksOver N r outside ss []
walk-begun N r outside ss lists e h f = record {
  at = f.0;
  lists = f.1 ∙ e;
  midway = midway.begin N (all_rows (map members ss)) (row_of r ∷ ahead r) (ap all_rows (sym e) ∙ f.2) (rows-apart ss (have_distinct ss h));
}

-- all rows that are passed beside this one, but it, may be
abbrev pub MayPass : (List Value → Type 0) → List Value → List Value → Passing → Type 0
MayPass N ss row passing = (vs : List Value) → AreFrom vs ss → IsPassed passing row vs → (vs ≡ row) ⊎ N vs

-- of those that are left out each may be
walk-passed : (N : List Value → Type 0) (r : Rows) (outside ss : List Value) (done rest : List (List Value)) (passing : Passing)
    → WalksOver N r outside ss done → MayPass N ss (row_of r) passing → Skips passing (row_of r) (ahead r) rest
    → IsMidway N (all_rows (map members ss)) (row_of r ∷ done) rest
walk-passed N r outside ss done rest passing h f s =
    let m = midway.step N (all_rows (map members ss)) done (ahead r) (row_of r) h.midway in
    midway.skip N (all_rows (map members ss)) (row_of r ∷ done) (ahead r) rest
    (λ vs a. ⊎_elim (λ e. ⊎_elim (λ same. absurd (h.midway.apart.0 (subst (λ us. IsAmong us (ahead r)) same a))) (λ n. inl n)
    (f vs (among-row ss vs (m.come vs a)) e)) (λ b. inr b) (passed-or-left passing (row_of r) (ahead r) rest vs s a))
    (λ vs a. left-ahead passing (row_of r) (ahead r) rest vs s a) (left-apart passing (row_of r) (ahead r) rest s h.midway.apart.1) m

pub walk-next : (N : List Value → Type 0) (old new : Rows) (outside ss : List Value) (done : List (List Value)) (passing : Passing)
    → WalksOver N old outside ss done → MayPass N ss (row_of old) passing → IsNext outside passing old new → WalksOver N new outside ss (row_of old ∷ done)
walk-next N old new outside ss done passing h f n = record {
  at = n.0;
  lists = n.1 ∙ h.lists;
  midway = walk-passed N old outside ss done (row_of new ∷ ahead new) passing h f n.2;
}

-- where none is left, each row is done, the one that it is at, or may be passed
pub walk-ended : (N : List Value → Type 0) (r : Rows) (outside ss : List Value) (done : List (List Value)) (passing : Passing) → WalksOver N r outside ss done
    → MayPass N ss (row_of r) passing → Skips passing (row_of r) (ahead r) [] → (vs : List Value) → AreFrom vs ss → IsAmong vs (row_of r ∷ done) ⊎ N vs
walk-ended N r outside ss done passing h f s vs k =
    midway.ended N (all_rows (map members ss)) (row_of r ∷ done) (walk-passed N r outside ss done [] passing h f s) vs (row-among ss vs k)

pub walk-row : (N : List Value → Type 0) (r : Rows) (outside ss : List Value) (done : List (List Value)) → WalksOver N r outside ss done → AreFrom (row_of r) ss
walk-row N r outside ss done h = among-row ss (row_of r) (midway.is_next N _ _ _ _ h.midway)

pub walk-done : (N : List Value → Type 0) (r : Rows) (outside ss : List Value) (done : List (List Value)) → WalksOver N r outside ss done → (vs : List Value)
    → IsAmong vs (row_of r ∷ done) → AreFrom vs ss
walk-done N r outside ss done h vs m = ⊎_elim (λ e. subst (λ us. AreFrom us ss) e (walk-row N r outside ss done h)) (λ a. among-row ss vs (h.midway.were vs a)) m

pub walk-new : (N : List Value → Type 0) (r : Rows) (outside ss : List Value) (done : List (List Value)) → WalksOver N r outside ss done → IsAmong (row_of r) done → ⊥
walk-new N r outside ss done h m = midway.is_new N _ _ _ _ h.midway m

-- where there is no row at all
pub no-row : (ss : List Value) (lists : List (List Value)) → lists ≡ map members ss → all_rows lists ≡ [] → (vs : List Value) → AreFrom vs ss → IsAmong vs []
no-row ss lists e n vs f = subst (IsAmong vs) (ap all_rows (sym e) ∙ n) (row-among ss vs f)

pub none-from : (ss vs : List Value) → IsAmong vs [] → AreFrom vs ss
none-from ss vs m = absurd m

-- ---- what is bound

pub scope-row : (env : Env) (row : List Value) (locals bound : List (Bor Value)) (vs : List Value) → seen bound ≡ seen locals ++ vs → scope_of env row bound ≡ within (scope_of env row locals) vs
scope-row env row locals bound vs e = ap (λ ls. record { environment = (scope_of env row locals).environment; row = row; locals = ls }) e

drop-front : {A : Type 0} (xs ys : List A) → drop (length xs) (xs ++ ys) ≡ ys
drop-front [] [] = refl
drop-front [] (y ∷ ys) = refl
drop-front (x ∷ xs) ys = drop-front xs ys

pub bound-row : (locals bound : List (Bor Value)) (vs : List Value) → seen bound ≡ seen locals ++ vs → drop (length locals) (seen bound) ≡ vs
bound-row locals bound vs e = ap (drop (length locals)) e ∙ ap (λ n. drop n (seen locals ++ vs)) (sym (seen-length locals)) ∙ drop-front (seen locals) vs

-- ---- what is asked of a row

abbrev pub FilterIn : Context → ResolvedPart → List Value → Truth → Type 0
FilterIn c p = λ vs u. IsConstraint (within c vs) p u

abbrev pub TermIn : Context → ResolvedPart → List Value → Outcome → Type 0
TermIn c e = λ vs x. Builds (within c vs) vs e x

abbrev pub ToldIn : Context → Quantifier → ResolvedPart → ResolvedTree → List Value → Truth → Type 0
ToldIn c q p e = λ vs w. IsTold q (λ a. IsConstraint (within c vs) p a) (λ b. IsTruth (within c vs) e b) w

-- what may be passed: rows that do not count for this binder
abbrev pub NeutralIn : Resolved → Context → List Value → Type 0
NeutralIn d c = λ vs. IsNeutral (resolved_of d) (within c vs)

pub outside-bound : (locals bound : List (Bor Value)) (vs : List Value) → seen bound ≡ seen locals ++ vs → length locals ≤ length bound
outside-bound locals bound vs e = omega (arith, ap length e, length-append (seen locals) vs, seen-length locals, seen-length bound)
