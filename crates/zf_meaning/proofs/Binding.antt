-- Quantified predicates and comprehensions, by their parts.
use Rattle.zf_meaning.proofs.Prelude.{◌∙◌, ◌≡◌, ap, List, map, Option, subst, sym, ℕ, Outcome, Truth, Quantifier, of-Comprehension, of-Quantified, part_of, range_of, ranges, resolved_of, Range, Resolved, Context, HasOutcome, HaveRanges, IsBuilt, IsTruth, Several, IsQuantified, Span}
use Rattle.zf_term.specs.declared.resolved.Resolved.TheViews.{out-Resolved}
use Rattle.zf_term.specs.declared.resolved.Resolved.TheVariants as v
use Rattle.zf_meaning.proofs.Walking.{FilterIn, TermIn, ToldIn}

pub same-quantifier : (q q' : Quantifier) (l l' : Span) (rs rs' : List Range) (p p' : Option Resolved) (e e' : Resolved) → v.Quantified q l rs p e ≡ v.Quantified q' l' rs' p' e' → q ≡ q'
same-quantifier q q' l l' rs rs' p p' e e' h = let x = sym (v.outs-Quantified q l rs p e) ∙ ap out-Resolved h ∙ v.outs-Quantified q' l' rs' p' e' in (cc)

pub same-constraint : (q q' : Quantifier) (l l' : Span) (rs rs' : List Range) (p p' : Option Resolved) (e e' : Resolved) → v.Quantified q l rs p e ≡ v.Quantified q' l' rs' p' e' → p ≡ p'
same-constraint q q' l l' rs rs' p p' e e' h = let x = sym (v.outs-Quantified q l rs p e) ∙ ap out-Resolved h ∙ v.outs-Quantified q' l' rs' p' e' in (cc)

pub same-body : (q q' : Quantifier) (l l' : Span) (rs rs' : List Range) (p p' : Option Resolved) (e e' : Resolved) → v.Quantified q l rs p e ≡ v.Quantified q' l' rs' p' e' → e ≡ e'
same-body q q' l l' rs rs' p p' e e' h = let x = sym (v.outs-Quantified q l rs p e) ∙ ap out-Resolved h ∙ v.outs-Quantified q' l' rs' p' e' in (cc)

pub quantified-told : (c : Context) (d : Resolved) (q : Quantifier) (l : Span) (rs sl : List Range) (p : Option Resolved) (e : Resolved) (s : Several) (u : Truth)
    → d ≡ v.Quantified q l rs p e → sl ≡ rs → HaveRanges c (ranges (map range_of sl)) s → IsQuantified q s (ToldIn c q (part_of p) (resolved_of e)) u
    → IsTruth c (resolved_of d) u
quantified-told c d q l rs sl p e s u i f h k =
    subst (λ t. IsTruth c t u) (sym (ap resolved_of i ∙ of-Quantified l q rs p e)) (s, subst (λ zs. HaveRanges c (ranges (map range_of zs)) s) f h, k)

pub comprehension-has : (c : Context) (d : Resolved) (l : Span) (rs sl : List Range) (p e : Option Resolved) (s : Several) (o : Outcome) → d ≡ v.Comprehension l rs p e
    → sl ≡ rs → HaveRanges c (ranges (map range_of sl)) s → IsBuilt s (FilterIn c (part_of p)) (TermIn c (part_of e)) o → HasOutcome c (resolved_of d) o
comprehension-has c d l rs sl p e s o i f h k =
    subst (λ t. HasOutcome c t o) (sym (ap resolved_of i ∙ of-Comprehension l rs p e)) (s, subst (λ zs. HaveRanges c (ranges (map range_of zs)) s) f h, k)
