-- What conjuncts of other forms are shown by than those that are looked for.
use Rattle.zf_why.proofs.Prelude.{◌∙◌, ◌≡◌, ◌∷◌, [], ap, arith, Bool, false, get_or, length, List, map, None, not, Option, refl, sym, true, ℕ, ◌≢◌, link-seen, links, resolved_link_of, resolved_of, ResolvedLink, ResolvedTree, term_span}
use Rattle.zf_reference.specs.declared.reference.Reference.{Reference}
use Rattle.zf_term.proofs.ResolvedSeen.{form_of, opened, rolled}
use Rattle.zf_term.specs.declared.resolved.Range.{Range}
use Rattle.zf_term.specs.declared.resolved.Resolved.{Resolved}
use Rattle.zf_term.specs.declared.resolved.Resolved.TheOpen.{Resolved-F}
use Rattle.zf_term.specs.declared.resolved.Resolved.TheVariants as v
use Rattle.zf_term.specs.declared.resolved.Resolved.TheViews.{out-Resolved}
use Rattle.zf_tree.specs.declared.span.Span.{Span}
use Rattle.zf_tree.specs.declared.symbol.Relation.{Relation}
use Rattle.std.specs.Prelude.{if◌then◌else◌}
use Rattle.zf_why.specs.{chain_part, component_of, is_same, linked_part, part_of}
use Rattle.zf_why.specs.declared.part.Part.TheVariants.{Text}

form_seen : (t : Resolved) → resolved_of t ≡ form_of (out-Resolved t)
form_seen t = ap resolved_of (opened t (out-Resolved t) refl) ∙ rolled (out-Resolved t)

other_part : (x : Resolved-F Resolved Range ResolvedLink) → ((l : Span) (t : Resolved) (ks : List ResolvedLink) → x ≡ Resolved-F.Chain l t ks → ⊥)
    → part_of (form_of x) ≡ Text (term_span (form_of x))
other_part (Resolved-F.Chain l t ks) not = absurd (not l t ks refl)
other_part _ not = refl

pub no_chain : (t : Resolved) (s : Span) → ((l : Span) (u : Resolved) (ks : List ResolvedLink) → t ≡ v.Chain l u ks → ⊥) → s ≡ term_span (resolved_of t)
    → Text s ≡ part_of (resolved_of t)
no_chain t s not at =
    ap Text (at ∙ ap term_span (form_seen t))
    ∙ sym (other_part (out-Resolved t) (λ l u ks is. not l u ks (opened t (Resolved-F.Chain l u ks) is ∙ v.rolls-Chain l u ks)))
    ∙ ap part_of (sym (form_seen t))

other_component : (x : Resolved-F Resolved Range ResolvedLink) → ((l : Span) (r : Reference) → x ≡ Resolved-F.Name l r → ⊥) → component_of (form_of x) ≡ None
other_component (Resolved-F.Name l r) not = absurd (not l r refl)
other_component _ not = refl

pub no_name : (t : Resolved) → ((l : Span) (r : Reference) → t ≡ v.Name l r → ⊥) → None ≡ component_of (resolved_of t)
no_name t not =
    sym (other_component (out-Resolved t) (λ l r is. not l r (opened t (Resolved-F.Name l r) is ∙ v.rolls-Name l r))) ∙ ap component_of (sym (form_seen t))

-- ---- chains, of which those of two operands may be written nowhere

pub not_two : (s : Span) (t : ResolvedTree) (xs : List ResolvedLink) → length xs ≢ 1 → Text s ≡ chain_part s t (links (map resolved_link_of xs))
not_two s t [] other = refl
not_two s t (x ∷ []) other = absurd (other refl)
not_two s t (x ∷ y ∷ ys) other = refl

module _ (s u : Span) (t : ResolvedTree) (apart : Bool) (at : u ≡ term_span t) (is : apart ≡ not (is_same u s)) where
  same : (b : Bool) → apart ≡ not b → is_same (term_span t) s ≡ b
  same b other = ap (λ (w : Span). is_same w s) (sym at) ∙ not_both (is_same u s) b (sym is ∙ other) where
    not_both : (a b : Bool) → not a ≡ not b → a ≡ b
    not_both true true e = refl
    not_both true false e = absurd (cc)
    not_both false true e = absurd (cc)
    not_both false false e = refl

  pub elsewhere : (xs : List ResolvedLink) → length xs ≡ 1 → apart ≡ true → Text s ≡ chain_part s t (links (map resolved_link_of xs))
  elsewhere [] one e = absurd (omega (arith, one))
  elsewhere (x ∷ []) one e = let k = resolved_link_of x in ap (λ (b : Bool). if b then linked_part s k.0 (component_of t) (component_of k.1) else Text s) (sym (same false e))
  elsewhere (x ∷ y ∷ ys) one e = absurd (omega (arith, one))

  pub in_place : (xs : List ResolvedLink) (x : ResolvedLink) (left right : Option ℕ) → length xs ≡ 1 → x ≡ get_or xs 0 x → apart ≡ false
      → left ≡ component_of t → right ≡ component_of (resolved_of x.right) → linked_part s x.relation left right ≡ chain_part s t (links (map resolved_link_of xs))
  in_place [] x left right one there e first second = absurd (omega (arith, one))
  in_place (y ∷ []) x left right one there e first second =
      ap (linked_part s x.relation left) second
      ∙ ap (λ (o : Option ℕ). linked_part s x.relation o (component_of (resolved_of x.right))) first
      ∙ ap (λ (z : ResolvedLink). linked_part s z.relation (component_of t) (component_of (resolved_of z.right))) there
      ∙ ap (λ (k : Relation × ResolvedTree). linked_part s k.0 (component_of t) (component_of k.1)) (sym (link-seen y))
      ∙ ap (λ (b : Bool). if b then linked_part s (resolved_link_of y).0 (component_of t) (component_of (resolved_link_of y).1) else Text s) (sym (same true e))
  in_place (y ∷ z ∷ zs) x left right one there e first second = absurd (omega (arith, one))
