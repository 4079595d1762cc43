-- What stands within declarations, from what its parts are.
use Rattle.zf_typing.proofs.Prelude.{◌∙◌, ◌≡◌, ap, Err, length, List, map, None, Ok, Option, refl, Some, subst, sym, true≢false, ℕ, IfOk, Result, absent, comprehension, Perhaps, present, quantified, Tree, VarDecls, Need, type_of, ZType, IsPart, Judges, JudgesPart, PartOffends, IfFault, resolved, resolved_part, resolved_ranges, Scope, Var, with_variables, PartIsPredicate, Declare, IsOf, row_type, Refusal, Judged, Span}
use Rattle.zf_tree.specs.declared.symbol.Quantifier.{Quantifier}
use Rattle.zf_tree.specs.declared.operator.Need.TheVariants as need
use Rattle.zf_term.specs.declared.resolved.Range.{Range}
use Rattle.zf_term.specs.declared.resolved.Resolved.{Resolved}
use Rattle.zf_term.specs.declared.resolved.Resolved.TheVariants as v
use Rattle.zf_term.specs.ResolvedTrees as kept
use Rattle.zf_term.specs.ResolvedViews as kept_views
use Rattle.zf_term.proofs.ResolvedSeen as seen
use Rattle.zf_typing.proofs.Judging.{judged_of, fault_of, Passes}
use Rattle.zf_typing.proofs.ResolvedAlike.{part_within, resolved_within}

-- ---- parts that may be left out

pub no_part : (s : Scope) (n : Need) → JudgesPart s n absent (Ok None)
unfolding JudgesPart
no_part s n = (tt, tt)

pub part_judged : (s : Scope) (n : Need) (e : Tree) (j : Judged) → Judges s n e (Ok j) → JudgesPart s n (present e) (Ok (Some j))
unfolding JudgesPart
part_judged s n e j h = (judged_of s n e j h, tt)

pub part_refused : (s : Scope) (n : Need) (e : Tree) (x : Refusal) → Judges s n e (Err x) → JudgesPart s n (present e) (Err x)
unfolding JudgesPart
part_refused s n e x h = (tt, fault_of s n e x h)

pub part_from : (s : Scope) (n : Need) (e : Tree) (x : Refusal) (r : Result (Option Judged) Refusal) → Judges s n e (Err x) → Passes r x
    → JudgesPart s n (present e) r
part_from s n e x (Ok o) h p = absurd (true≢false (sym p.0))
part_from s n e x (Err y) h p = subst (λ z. JudgesPart s n (present e) (Err z)) (sym p.1) (part_refused s n e x h)

pub part_of_judged : (s : Scope) (n : Need) (p : Perhaps) (o : Option Judged) → JudgesPart s n p (Ok o) → IsPart s n p o
unfolding JudgesPart
part_of_judged s n p o h = h.0

pub part_fault : (s : Scope) (n : Need) (p : Perhaps) (x : Refusal) → JudgesPart s n p (Err x) → IfFault x (λ k m. PartOffends s n p k m)
unfolding JudgesPart
part_fault s n p x h = h.1

pub part_constrains : (s : Scope) (p : Perhaps) (o : Option Judged) → IsPart s need.Predicate p o → PartIsPredicate s p
part_constrains s absent o h = tt
part_constrains s (present e) None h = absurd h
part_constrains s (present e) (Some j) h = subst (λ z. IsOf s e z) h.met h.is_of

-- the term of a part, in its box
pub none_kept : (s : Scope) (n : Need) (p : Perhaps) → IsPart s n p None → kept_views.part_of None ≡ resolved_part s p
none_kept s n absent h = refl
none_kept s n (present e) h = absurd h

pub some_kept : (s : Scope) (n : Need) (p : Perhaps) (j : Judged) (t : Resolved) → t ≡ j.term → IsPart s n p (Some j) → kept_views.part_of (Some t) ≡ resolved_part s p
some_kept s n absent j t is h = absurd h
some_kept s n (present e) j t is h = ap (λ u. kept.present (kept_views.resolved_of u)) is ∙ ap kept.present h.term

-- ---- what stands within declarations

-- the row of these variables
pub row_here : {E : Type 0} (r : Result ZType E) (t s : Scope) (vs : List Var) (n : ℕ) → t ≡ with_variables s vs → n ≡ length s.locals
    → IfOk r (λ u. (z : Scope) (us : List Var) → t ≡ with_variables z us → n ≡ length z.locals → type_of u ≡ row_type us)
    → IfOk r (λ u. type_of u ≡ row_type vs)
row_here (Ok u) t s vs n h e row = row s vs h e
row_here (Err x) t s vs n h e row = tt

module _ (s : Scope) (ds : VarDecls) (vs : List Var) (declares : Declare s ds vs) (rs : List Range) (sets : kept_views.ranges (map kept_views.range_of rs) ≡ resolved_ranges s ds) where
  pub quantified_kept : (l : Span) (q : Quantifier) (p : Perhaps) (e : Tree) (o : Option Resolved) (t : Resolved)
      → kept_views.part_of o ≡ resolved_part (with_variables s vs) p → kept_views.resolved_of t ≡ resolved (with_variables s vs) e
      → kept_views.resolved_of (v.Quantified q l rs o t) ≡ resolved s (quantified l q ds p e)
  quantified_kept l q p e o t condition body =
      let one = condition ∙ sym (part_within s ds vs p declares) in
      let two = body ∙ sym (resolved_within s ds vs e declares) in
      seen.of-Quantified l q rs o t ∙ (cc)

  pub comprehension_kept : (l : Span) (p e : Perhaps) (o t : Option Resolved) → kept_views.part_of o ≡ resolved_part (with_variables s vs) p
      → kept_views.part_of t ≡ resolved_part (with_variables s vs) e → kept_views.resolved_of (v.Comprehension l rs o t) ≡ resolved s (comprehension l ds p e)
  comprehension_kept l p e o t condition term =
      let one = condition ∙ sym (part_within s ds vs p declares) in
      let two = term ∙ sym (part_within s ds vs e declares) in
      seen.of-Comprehension l rs o t ∙ (cc)
