-- One turn of a walk over rows, for a quantifier and for a comprehension.
use Rattle.zf_meaning.proofs.Prelude.{◌+◌, ◌<◌, ◌∙◌, ◌∷◌, ◌≡◌, [], ap, arith, Bool, inl, inr, length, length-append, List, map, Option, subst, sym, ℕ, ⊎_elim, length-map, Bor, AreFrom, IsDisplay, members, Outcome, Truth, Value, Quantifier, part_of, resolved_of, ResolvedPart, ResolvedTree, Range, Resolved, AddsRow, IsBound, ArePassed, Context, within, Builds, IsBuiltOver, IsConstraint, IsTruth, seen, ahead, IsFirst, IsNext, lists_of, Passing, row_of, Skips, scope_of, truth_by, IsOver, IsTold, Env, Frame, Rows, Tally, Span}
use Rattle.zf_term.specs.declared.resolved.Resolved.TheVariants as v
use Rattle.zf_meaning.proofs.Builds.{IsSingle, HasBuilt, built-all}
use Rattle.zf_meaning.proofs.Early.{neutral-told, neutral-built, may-pass, from_length}
use Rattle.zf_meaning.proofs.NextRow.{ArePlaces-length, picked-length, seen-length}
use Rattle.zf_meaning.proofs.PassedRows.{left-fewer}
use Rattle.zf_meaning.proofs.Told.{EachOne, IsTallied, told-of-all}
use Rattle.zf_meaning.proofs.Unique.{one_constraint, one_build, one_truth, one_told_of}
use Rattle.zf_meaning.proofs.Walking.{WalksOver, walk-next, walk-ended, walk-row, walk-done, scope-row, FilterIn, TermIn, ToldIn, NeutralIn}

pub fewer : (outside : List Value) (passing : Passing) (old new : Rows) → IsNext outside passing old new → length (ahead new) < length (ahead old)
fewer outside passing old new n = omega (arith, left-fewer passing (row_of old) (ahead old) (row_of new ∷ ahead new) n.2)

pub adds-here : (d c : Context) (vs ws : List Value) (p e : ResolvedPart) (old new : List Value) (a b : Bool) → d ≡ within c vs → ws ≡ vs → a ≡ b
    → AddsRow (λ u. IsConstraint d p u) (λ x. Builds d ws e x) old new a → AddsRow (FilterIn c p vs) (TermIn c e vs) old new b
adds-here d c vs ws p e old new a b s w t h =
    subst (AddsRow (FilterIn c p vs) (TermIn c e vs) old new) t
    (subst (λ us. AddsRow (FilterIn c p vs) (λ x. Builds (within c vs) us e x) old new a) w (subst (λ k. AddsRow (λ u. IsConstraint k p u) (λ x. Builds k ws e x) old new a) s h))

pub told-here : (d c : Context) (vs : List Value) (q : Quantifier) (p : ResolvedPart) (e : ResolvedTree) (u : Truth) → d ≡ within c vs
    → IsTold q (λ a. IsConstraint d p a) (λ b. IsTruth d e b) u → ToldIn c q p e vs u
told-here d c vs q p e u s h = subst (λ k. IsTold q (λ a. IsConstraint k p a) (λ b. IsTruth k e b) u) s h

pub one-filter : (c : Context) (p : ResolvedPart) → IsSingle (FilterIn c p)
one-filter c p vs x y h k = one_constraint (within c vs) p x y h k

pub one-term : (c : Context) (e : ResolvedPart) → IsSingle (TermIn c e)
one-term c e vs x y h k = one_build (within c vs) vs e x y h k

pub one-told : (c : Context) (q : Quantifier) (p : ResolvedPart) (e : ResolvedTree) → EachOne (ToldIn c q p e)
one-told c q p e vs x y h k = one_told_of q (λ a. IsConstraint (within c vs) p a) (λ b. IsTruth (within c vs) e b) (λ a b. one_constraint (within c vs) p a b)
    (λ a b. one_truth (within c vs) e a b) x y h k

-- ---- how many variables are bound

pub frame-bound : (r : Rows) (outside ss : List Value) (lists : List (List Value)) (n : ℕ) → lists ≡ map members ss → IsFirst outside lists r → n ≡ length r.bound.items → length outside + length ss ≡ n
frame-bound r outside ss lists n e f b =
    omega (
      arith,
      b,
      ap length f.0.1,
      length-append outside (row_of r),
      seen-length r.bound.items,
      picked-length (lists_of r) r.places.items f.0.0,
      ArePlaces-length (lists_of r) r.places.items f.0.0,
      ap length (f.1 ∙ e),
      length-map ss members,
    )

pub row-bound : (N : List Value → Type 0) (env : Env) (row : List Value) (locals bound : List (Bor Value)) (r : Rows) (ss : List Value)
    (done : List (List Value)) (frame : Frame) → bound ≡ r.bound.items → frame.outside ≡ length locals → length (seen locals) + length ss ≡ frame.whole
    → WalksOver N r (seen locals) ss done
    → IsBound frame (scope_of env row bound) (scope_of env row locals) (row_of r)
row-bound N env row locals bound r ss done frame e o w h = record {
  is = scope-row env row locals bound (row_of r) (ap seen e ∙ h.at.1);
  outside = seen-length locals ∙ sym o;
  whole = ap (λ n. length (seen locals) + n) (from_length ss (row_of r) (walk-row N r (seen locals) ss done h)) ∙ w;
}

-- ---- rows that do not count are passed

pub next-turn : (d : Resolved) (c : Context) (old new : Rows) (outside ss : List Value) (done : List (List Value)) (passing : Passing)
    → WalksOver (NeutralIn d c) old outside ss done → ArePassed (resolved_of d) c (row_of old) passing → IsNext outside passing old new
    → WalksOver (NeutralIn d c) new outside ss (row_of old ∷ done)
next-turn d c old new outside ss done passing h a n = walk-next (NeutralIn d c) old new outside ss done passing h
    (may-pass (resolved_of d) c ss (row_of old) passing (walk-row (NeutralIn d c) old outside ss done h) a) n

-- what a quantifier tells where no row is left
pub told-ended : (d : Resolved) (q : Quantifier) (l : Span) (rs : List Range) (p : Option Resolved) (e : Resolved) (c : Context) (r : Rows)
    (outside ss : List Value) (done : List (List Value)) (passing : Passing) (t : Tally) → d ≡ v.Quantified q l rs p e
    → WalksOver (NeutralIn d c) r outside ss done
    → ArePassed (resolved_of d) c (row_of r) passing → Skips passing (row_of r) (ahead r) []
    → IsTallied (ToldIn c q (part_of p) (resolved_of e)) (row_of r ∷ done) t
    → IsOver q (λ vs. AreFrom vs ss) (ToldIn c q (part_of p) (resolved_of e)) (truth_by q t)
told-ended d q l rs p e c r outside ss done passing t i h a n k =
    told-of-all q (λ vs. AreFrom vs ss) (ToldIn c q (part_of p) (resolved_of e)) (row_of r ∷ done) t (one-told c q (part_of p) (resolved_of e))
    (λ vs f. ⊎_elim (λ m. inl m) (λ x. inr (neutral-told d q l rs p e (within c vs) i x))
    (walk-ended (NeutralIn d c) r outside ss done passing h (may-pass (resolved_of d) c ss (row_of r) passing
    (walk-row (NeutralIn d c) r outside ss done h) a) n vs f))
    (walk-done (NeutralIn d c) r outside ss done h) k

-- what a comprehension builds where no row is left
pub built-ended : (d : Resolved) (l : Span) (rs : List Range) (p e : Option Resolved) (c : Context) (r : Rows) (outside ss : List Value)
    (done : List (List Value)) (passing : Passing) (built : List Value) (o : Outcome) → d ≡ v.Comprehension l rs p e → WalksOver (NeutralIn d c) r outside ss done
    → ArePassed (resolved_of d) c (row_of r) passing → Skips passing (row_of r) (ahead r) []
    → HasBuilt (FilterIn c (part_of p)) (TermIn c (part_of e)) (row_of r ∷ done) built → IsDisplay built o
    → IsBuiltOver (λ vs. AreFrom vs ss) (FilterIn c (part_of p)) (TermIn c (part_of e)) o
built-ended d l rs p e c r outside ss done passing built o i h a n k s =
    built-all (λ vs. AreFrom vs ss) (FilterIn c (part_of p)) (TermIn c (part_of e)) (row_of r ∷ done) built o (one-filter c (part_of p))
    (λ vs f. ⊎_elim (λ m. inl m) (λ x. inr (neutral-built d l rs p e (within c vs) i x))
    (walk-ended (NeutralIn d c) r outside ss done passing h (may-pass (resolved_of d) c ss (row_of r) passing
    (walk-row (NeutralIn d c) r outside ss done h) a) n vs f))
    (walk-done (NeutralIn d c) r outside ss done h) k s
