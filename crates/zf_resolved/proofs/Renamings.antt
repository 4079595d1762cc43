-- Terms whose parts are renamed, one after another in lists.
use Rattle.zf_resolved.proofs.Prelude.{◌≡◌, ℕ, Option, List, [], ◌∷◌, map, refl, ap, sym, ◌∙◌, Resolved, ResolvedLink, binary, bracket, comprehension, chain, empty_set, links, listed, part_of, quantified, range_of, ranges, reference, resolved_link_of, resolved_of, ResolvedTree, terms, unary, all_renamed, link_renamed, links_renamed, part_renamed, range_renamed, ranges_renamed, renamed, of-Binary, of-Bracket, of-Comprehension, of-Chain, of-Constant, of-EmptySet, of-Listed, of-Name, of-Number, of-Quantified, of-Unary, Span}
use Rattle.zf_tree.specs.declared.operator.Listed.{Listed}
use Rattle.zf_tree.specs.declared.operator.Operator.{Operator}
use Rattle.zf_tree.specs.declared.operator.Unary.{Unary}
use Rattle.zf_tree.specs.declared.symbol.Constant.{Constant}
use Rattle.zf_tree.specs.declared.symbol.Quantifier.{Quantifier}
use Rattle.zf_tree.specs.declared.symbol.Relation.{Relation}
use Rattle.zf_reference.specs.declared.reference.Reference.{Reference}
use Rattle.zf_term.specs.declared.resolved.Range.{Range}
use Rattle.zf_term.specs.declared.resolved.Resolved.TheVariants as v

pub all-terms : (f : Reference → Reference) (ts : List ResolvedTree) → all_renamed f (terms ts) ≡ terms (map (renamed f) ts)
all-terms f [] = refl
all-terms f (t ∷ ts) = let rest = all-terms f ts in (cc)

pub all-links : (f : Reference → Reference) (ls : List (Relation × ResolvedTree)) → links_renamed f (links ls) ≡ links (map (link_renamed f) ls)
all-links f [] = refl
all-links f (l ∷ ls) = let rest = all-links f ls in (cc)

pub all-ranges : (f : Reference → Reference) (rs : List (ℕ × ResolvedTree)) → ranges_renamed f (ranges rs) ≡ ranges (map (range_renamed f) rs)
all-ranges f [] = refl
all-ranges f (r ∷ rs) = let rest = all-ranges f rs in (cc)

-- ---- forms whose parts are renamed

whole_as : (f : Reference → Reference) (whole made : Resolved) (t : ResolvedTree) → whole ≡ made → resolved_of made ≡ t
    → renamed f t ≡ renamed f (resolved_of whole)
whole_as f whole made t is seen = sym (ap (λ w. renamed f (resolved_of w)) is ∙ ap (renamed f) seen)

pub renamed_name : (f : Reference → Reference) (l : Span) (r s : Reference) (whole : Resolved) → whole ≡ v.Name l r → s ≡ f r
    → resolved_of (v.Name l s) ≡ renamed f (resolved_of whole)
renamed_name f l r s whole is h = of-Name l s ∙ ap (reference l) h ∙ whole_as f whole (v.Name l r) _ is (of-Name l r)

pub renamed_number : (f : Reference → Reference) (l : Span) (n : ℕ) (whole : Resolved) → whole ≡ v.Number l n
    → resolved_of (v.Number l n) ≡ renamed f (resolved_of whole)
renamed_number f l n whole is = of-Number l n ∙ whole_as f whole (v.Number l n) _ is (of-Number l n)

pub renamed_constant : (f : Reference → Reference) (l : Span) (k : Constant) (whole : Resolved) → whole ≡ v.Constant l k
    → resolved_of (v.Constant l k) ≡ renamed f (resolved_of whole)
renamed_constant f l k whole is = of-Constant l k ∙ whole_as f whole (v.Constant l k) _ is (of-Constant l k)

pub renamed_empty_set : (f : Reference → Reference) (l : Span) (t u whole : Resolved) → whole ≡ v.EmptySet l t → resolved_of u ≡ renamed f (resolved_of t)
    → resolved_of (v.EmptySet l u) ≡ renamed f (resolved_of whole)
renamed_empty_set f l t u whole is h = of-EmptySet l u ∙ ap (empty_set l) h ∙ whole_as f whole (v.EmptySet l t) _ is (of-EmptySet l t)

pub renamed_bracket : (f : Reference → Reference) (l : Span) (t u whole : Resolved) → whole ≡ v.Bracket l t → resolved_of u ≡ renamed f (resolved_of t)
    → resolved_of (v.Bracket l u) ≡ renamed f (resolved_of whole)
renamed_bracket f l t u whole is h = of-Bracket l u ∙ ap (bracket l) h ∙ whole_as f whole (v.Bracket l t) _ is (of-Bracket l t)

pub renamed_listed : (f : Reference → Reference) (l : Span) (form : Listed) (ts us : List Resolved) (whole : Resolved) → whole ≡ v.Listed l form ts
    → map resolved_of us ≡ map (renamed f) (map resolved_of ts) → resolved_of (v.Listed l form us) ≡ renamed f (resolved_of whole)
renamed_listed f l form ts us whole is h =
    of-Listed l form us ∙ ap (λ ws. listed l form (terms ws)) h ∙ ap (listed l form) (sym (all-terms f (map resolved_of ts)))
    ∙ whole_as f whole (v.Listed l form ts) _ is (of-Listed l form ts)

pub renamed_unary : (f : Reference → Reference) (l : Span) (op : Unary) (t u whole : Resolved) → whole ≡ v.Unary l op t → resolved_of u ≡ renamed f (resolved_of t)
    → resolved_of (v.Unary l op u) ≡ renamed f (resolved_of whole)
renamed_unary f l op t u whole is h = of-Unary l op u ∙ ap (unary l op) h ∙ whole_as f whole (v.Unary l op t) _ is (of-Unary l op t)

pub renamed_binary : (f : Reference → Reference) (l : Span) (op : Operator) (a b c d whole : Resolved) → whole ≡ v.Binary l op a b
    → resolved_of c ≡ renamed f (resolved_of a) → resolved_of d ≡ renamed f (resolved_of b) → resolved_of (v.Binary l op c d) ≡ renamed f (resolved_of whole)
renamed_binary f l op a b c d whole is h k =
    of-Binary l op c d ∙ ap (λ t. binary l op t (resolved_of d)) h ∙ ap (binary l op (renamed f (resolved_of a))) k
    ∙ whole_as f whole (v.Binary l op a b) _ is (of-Binary l op a b)

pub renamed_chain : (f : Reference → Reference) (l : Span) (t u : Resolved) (ks ms : List ResolvedLink) (whole : Resolved) → whole ≡ v.Chain l t ks
    → resolved_of u ≡ renamed f (resolved_of t) → map resolved_link_of ms ≡ map (link_renamed f) (map resolved_link_of ks)
    → resolved_of (v.Chain l u ms) ≡ renamed f (resolved_of whole)
renamed_chain f l t u ks ms whole is h k =
    of-Chain l u ms ∙ ap (λ w. chain l w (links (map resolved_link_of ms))) h
    ∙ ap (chain l (renamed f (resolved_of t))) (ap links k ∙ sym (all-links f (map resolved_link_of ks)))
    ∙ whole_as f whole (v.Chain l t ks) _ is (of-Chain l t ks)

seen_ranges : (f : Reference → Reference) (rs ss : List Range) → map range_of ss ≡ map (range_renamed f) (map range_of rs)
    → ranges (map range_of ss) ≡ ranges_renamed f (ranges (map range_of rs))
seen_ranges f rs ss h = ap ranges h ∙ sym (all-ranges f (map range_of rs))

pub renamed_comprehension : (f : Reference → Reference) (l : Span) (rs ss : List Range) (p q t u : Option Resolved) (whole : Resolved) → whole ≡ v.Comprehension l rs p t
    → map range_of ss ≡ map (range_renamed f) (map range_of rs) → part_of q ≡ part_renamed f (part_of p) → part_of u ≡ part_renamed f (part_of t)
    → resolved_of (v.Comprehension l ss q u) ≡ renamed f (resolved_of whole)
renamed_comprehension f l rs ss p q t u whole is variables filter term =
    of-Comprehension l ss q u ∙ ap (λ ds. comprehension l ds (part_of q) (part_of u)) (seen_ranges f rs ss variables)
    ∙ ap (λ w. comprehension l (ranges_renamed f (ranges (map range_of rs))) w (part_of u)) filter
    ∙ ap (comprehension l (ranges_renamed f (ranges (map range_of rs))) (part_renamed f (part_of p))) term
    ∙ whole_as f whole (v.Comprehension l rs p t) _ is (of-Comprehension l rs p t)

pub renamed_quantified : (f : Reference → Reference) (l : Span) (n : Quantifier) (rs ss : List Range) (p q : Option Resolved) (t u whole : Resolved)
    → whole ≡ v.Quantified n l rs p t → map range_of ss ≡ map (range_renamed f) (map range_of rs) → part_of q ≡ part_renamed f (part_of p)
    → resolved_of u ≡ renamed f (resolved_of t) → resolved_of (v.Quantified n l ss q u) ≡ renamed f (resolved_of whole)
renamed_quantified f l n rs ss p q t u whole is variables constraint body =
    of-Quantified l n ss q u ∙ ap (λ ds. quantified l n ds (part_of q) (resolved_of u)) (seen_ranges f rs ss variables)
    ∙ ap (λ w. quantified l n (ranges_renamed f (ranges (map range_of rs))) w (resolved_of u)) constraint
    ∙ ap (quantified l n (ranges_renamed f (ranges (map range_of rs))) (part_renamed f (part_of p))) body
    ∙ whole_as f whole (v.Quantified n l rs p t) _ is (of-Quantified l n rs p t)
