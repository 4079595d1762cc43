-- A term is known by how it is seen.
use Rattle.zf_term.proofs.Prelude.{◌∙◌, ◌∷◌, ◌≡◌, [], ap, List, map, None, Option, refl, Some, subst, sym, ℕ, place_in, Component, Global, Local, Relation, absent, binary, bracket, comprehension, chain, constant, empty_set, link, links, listed, no_links, no_ranges, no_terms, number, present, quantified, range, Ranges, ranges, reference, ResolvedLinks, ResolvedPart, ResolvedTree, ResolvedTrees, term, terms, unary, range_of, resolved_link_of, resolved_of, all_moved, links_moved, moved, part_moved, ranges_moved, Range, Resolved, ind-Resolved, map-Resolved, Resolved-F, roll-Range, roll-Resolved, roll-ResolvedLink, ResolvedLink}
use Rattle.zf_term.specs.declared.resolved.Resolved.TheVariants as v
use Rattle.zf_term.proofs.ResolvedSeen.{form_of, rolled, new_link, new_range, of-link, of-range}

-- by an empty list nothing is numbered anew
mutual
  pub stays : (t : ResolvedTree) → moved (place_in []) t ≡ t
  stays (reference l (Component i)) = refl
  stays (reference l (Local i)) = refl
  stays (reference l (Global i)) = refl
  stays (number l n) = refl
  stays (constant l c) = refl
  stays (empty_set l t) = ap (empty_set l) (stays t)
  stays (bracket l t) = ap (bracket l) (stays t)
  stays (listed l form ts) = ap (listed l form) (all_stay ts)
  stays (comprehension l rs p t) = let a = ranges_stay rs in let b = part_stays p in let c = part_stays t in (cc)
  stays (unary l op t) = ap (unary l op) (stays t)
  stays (binary l op a b) = let l' = stays a in let r' = stays b in (cc)
  stays (chain l t ks) = let a = stays t in let b = links_stay ks in (cc)
  stays (quantified l q rs p t) = let a = ranges_stay rs in let b = part_stays p in let c = stays t in (cc)

  all_stay : (ts : ResolvedTrees) → all_moved (place_in []) ts ≡ ts
  all_stay no_terms = refl
  all_stay (term t ts) = let a = stays t in let b = all_stay ts in (cc)

  links_stay : (ks : ResolvedLinks) → links_moved (place_in []) ks ≡ ks
  links_stay no_links = refl
  links_stay (link r t ks) = let a = stays t in let b = links_stay ks in (cc)

  ranges_stay : (rs : Ranges) → ranges_moved (place_in []) rs ≡ rs
  ranges_stay no_ranges = refl
  ranges_stay (range n t rs) = let a = stays t in let b = ranges_stay rs in (cc)

  part_stays : (p : ResolvedPart) → part_moved (place_in []) p ≡ p
  part_stays absent = refl
  part_stays (present t) = ap present (stays t)

-- the program's term that is seen as this one
abbrev mutual
  pub back : ResolvedTree → Resolved
  back (reference l r) = v.Name l r
  back (number l n) = v.Number l n
  back (constant l c) = v.Constant l c
  back (empty_set l t) = v.EmptySet l (back t)
  back (bracket l t) = v.Bracket l (back t)
  back (listed l form ts) = v.Listed l form (all_back ts)
  back (comprehension l rs p t) = v.Comprehension l (ranges_back rs) (part_back p) (part_back t)
  back (unary l op t) = v.Unary l op (back t)
  back (binary l op a b) = v.Binary l op (back a) (back b)
  back (chain l t ks) = v.Chain l (back t) (links_back ks)
  back (quantified l q rs p t) = v.Quantified q l (ranges_back rs) (part_back p) (back t)

  all_back : ResolvedTrees → List Resolved
  all_back no_terms = []
  all_back (term t ts) = back t ∷ all_back ts

  links_back : ResolvedLinks → List ResolvedLink
  links_back no_links = []
  links_back (link r t ks) = new_link r (back t) ∷ links_back ks

  ranges_back : Ranges → List Range
  ranges_back no_ranges = []
  ranges_back (range n t rs) = new_range n (back t) ∷ ranges_back rs

  part_back : ResolvedPart → Option Resolved
  part_back absent = None
  part_back (present t) = Some (back t)

abbrev IsSame : Resolved → Type 0
IsSame t = back (resolved_of t) ≡ t

abbrev range_back : ℕ × ResolvedTree → Range
range_back r = new_range r.0 (back r.1)

abbrev IsSameRange : Range → Type 0
IsSameRange r = range_back (range_of r) ≡ r

abbrev link_back : Relation × ResolvedTree → ResolvedLink
link_back k = new_link k.0 (back k.1)

abbrev IsSameLink : ResolvedLink → Type 0
IsSameLink k = link_back (resolved_link_of k) ≡ k

all_again : (es : List ((t : Resolved) × IsSame t)) → all_back (terms (map resolved_of (map (λ e. e.0) es))) ≡ map (λ e. e.0) es
all_again [] = refl
all_again (e ∷ es) = let here = e.1 in let rest = all_again es in (cc)

links_again : (es : List ((k : ResolvedLink) × IsSameLink k)) → links_back (links (map resolved_link_of (map (λ e. e.0) es))) ≡ map (λ e. e.0) es
links_again [] = refl
links_again (e ∷ es) = let here = e.1 in let rest = links_again es in (cc)

ranges_again : (es : List ((r : Range) × IsSameRange r)) → ranges_back (ranges (map range_of (map (λ e. e.0) es))) ≡ map (λ e. e.0) es
ranges_again [] = refl
ranges_again (e ∷ es) = let here = e.1 in let rest = ranges_again es in (cc)

abbrev Parts : Type 0
Parts = Resolved-F ((t : Resolved) × IsSame t) ((r : Range) × IsSameRange r) ((k : ResolvedLink) × IsSameLink k)

abbrev bare : Parts → Resolved-F Resolved Range ResolvedLink
bare y = map-Resolved _ _ _ _ _ _ (λ e. e.0) (λ e. e.0) (λ e. e.0) y

form_again : (y : Parts) → back (form_of (bare y)) ≡ roll-Resolved (bare y)
form_again (Resolved-F.Name l r) = sym (v.rolls-Name l r)
form_again (Resolved-F.Number l n) = sym (v.rolls-Number l n)
form_again (Resolved-F.Constant l c) = sym (v.rolls-Constant l c)
form_again (Resolved-F.EmptySet l e) = ap (v.EmptySet l) e.1 ∙ sym (v.rolls-EmptySet l e.0)
form_again (Resolved-F.Bracket l e) = ap (v.Bracket l) e.1 ∙ sym (v.rolls-Bracket l e.0)
form_again (Resolved-F.Listed l form es) = ap (v.Listed l form) (all_again es) ∙ sym (v.rolls-Listed l form (map (λ e. e.0) es))
form_again (Resolved-F.Comprehension l rs None None) = ap (λ z. v.Comprehension l z None None) (ranges_again rs) ∙ sym (v.rolls-Comprehension l (map (λ e. e.0) rs) None None)
form_again (Resolved-F.Comprehension l rs None (Some t)) =
    ap (λ z. v.Comprehension l z None (Some (back (resolved_of t.0)))) (ranges_again rs) ∙ ap (λ u. v.Comprehension l (map (λ e. e.0) rs) None (Some u)) t.1
    ∙ sym (v.rolls-Comprehension l (map (λ e. e.0) rs) None (Some t.0))
form_again (Resolved-F.Comprehension l rs (Some p) None) =
    ap (λ z. v.Comprehension l z (Some (back (resolved_of p.0))) None) (ranges_again rs) ∙ ap (λ u. v.Comprehension l (map (λ e. e.0) rs) (Some u) None) p.1
    ∙ sym (v.rolls-Comprehension l (map (λ e. e.0) rs) (Some p.0) None)
form_again (Resolved-F.Comprehension l rs (Some p) (Some t)) =
    ap (λ z. v.Comprehension l z (Some (back (resolved_of p.0))) (Some (back (resolved_of t.0)))) (ranges_again rs)
    ∙ ap (λ u. v.Comprehension l (map (λ e. e.0) rs) (Some u) (Some (back (resolved_of t.0)))) p.1
    ∙ ap (λ u. v.Comprehension l (map (λ e. e.0) rs) (Some p.0) (Some u)) t.1 ∙ sym (v.rolls-Comprehension l (map (λ e. e.0) rs) (Some p.0) (Some t.0))
form_again (Resolved-F.Unary l op e) = ap (v.Unary l op) e.1 ∙ sym (v.rolls-Unary l op e.0)
form_again (Resolved-F.Binary l op a b) = ap (λ z. v.Binary l op z (back (resolved_of b.0))) a.1 ∙ ap (v.Binary l op a.0) b.1 ∙ sym (v.rolls-Binary l op a.0 b.0)
form_again (Resolved-F.Chain l e ks) = ap (λ z. v.Chain l z (links_back (links (map resolved_link_of (map (λ e. e.0) ks))))) e.1
    ∙ ap (v.Chain l e.0) (links_again ks) ∙ sym (v.rolls-Chain l e.0 (map (λ e. e.0) ks))
form_again (Resolved-F.Quantified q l rs None t) =
    ap (λ z. v.Quantified q l z None (back (resolved_of t.0))) (ranges_again rs) ∙ ap (v.Quantified q l (map (λ e. e.0) rs) None) t.1 ∙ sym (v.rolls-Quantified q l (map (λ e. e.0) rs) None t.0)
form_again (Resolved-F.Quantified q l rs (Some p) t) =
    ap (λ z. v.Quantified q l z (Some (back (resolved_of p.0))) (back (resolved_of t.0))) (ranges_again rs)
    ∙ ap (λ u. v.Quantified q l (map (λ e. e.0) rs) (Some u) (back (resolved_of t.0))) p.1 ∙ ap (v.Quantified q l (map (λ e. e.0) rs) (Some p.0)) t.1
    ∙ sym (v.rolls-Quantified q l (map (λ e. e.0) rs) (Some p.0) t.0)

again : (t : Resolved) → back (resolved_of t) ≡ t
again = ind-Resolved IsSame IsSameRange IsSameLink
    (λ x y is. ap back (rolled x) ∙ subst (λ z. back (form_of z) ≡ roll-Resolved z) is (form_again y))
    (λ x y is. subst (λ z. IsSameRange (roll-Range z)) is (ap range_back (of-range y.variables y.set.0) ∙ ap (new_range y.variables) y.set.1))
    (λ x y is. subst (λ z. IsSameLink (roll-ResolvedLink z)) is (ap link_back (of-link y.relation y.right.0) ∙ ap (new_link y.relation) y.right.1))

pub copied : (t u : Resolved) → resolved_of t ≡ moved (place_in []) (resolved_of u) → t ≡ u
copied t u e = sym (again t) ∙ ap back (e ∙ stays (resolved_of u)) ∙ again u
