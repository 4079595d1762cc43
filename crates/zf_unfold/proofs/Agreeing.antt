-- A term with other names means in one context what it means in another, if each name does.
use Rattle.zf_unfold.proofs.Prelude.{◌++◌, ◌+◌, ◌≡◌, List, subst, sym, ℕ, Reference, Value, absent, binary, bracket, comprehension, chain, constant, empty_set, link, listed, no_links, no_ranges, no_terms, number, present, quantified, range, Ranges, reference, ResolvedLinks, ResolvedPart, ResolvedTree, ResolvedTrees, term, unary, Environment, at, AreSame, AreSameLinks, AreSameRanges, IsSame, IsSamePart, renamed, all_renamed, links_renamed, ranges_renamed, part_renamed, append_assoc, Span}
use Rattle.zf_lift.proofs.Forms as forms

-- whatever is bound, each name means what its other name means after these values
pub record Agrees (f : Reference → Reference) (g e : Environment) (row front : List Value) : Type 0 where
  pub names : (locals : List Value) (l : Span) (r : Reference) → IsSame (at g row locals) (reference l (f r)) (at e row (front ++ locals)) (reference l r)
  pub numbers : g.numbers ≡ e.numbers

module _ (f : Reference → Reference) (g e : Environment) (row front : List Value) (h : Agrees f g e row front) where
  -- after further variables
  further : (P : List Value → Type 0) (locals vs : List Value) → P (front ++ (locals ++ vs)) → P ((front ++ locals) ++ vs)
  further P locals vs k = subst P (sym (append_assoc front locals vs)) k

  mutual
    pub same_renamed : (locals : List Value) (t : ResolvedTree) → IsSame (at g row locals) (renamed f t) (at e row (front ++ locals)) t
    same_renamed ls (reference l r) = h.names ls l r
    same_renamed ls (number l n) = forms.same_number (at g row ls) (at e row (front ++ ls)) l n
    same_renamed ls (constant l k) = forms.same_constant (at g row ls) (at e row (front ++ ls)) l k h.numbers
    same_renamed ls (empty_set l t) = forms.same_empty_set (at g row ls) (at e row (front ++ ls)) l (renamed f t) t
    same_renamed ls (bracket l t) = forms.same_bracket (at g row ls) (at e row (front ++ ls)) l (renamed f t) t (same_renamed ls t)
    same_renamed ls (listed l form ts) = forms.same_listed (at g row ls) (at e row (front ++ ls)) l form (all_renamed f ts) ts (all_same ls ts)
    same_renamed ls (comprehension l rs p t) =
        forms.same_comprehension (at g row ls) (at e row (front ++ ls)) l (ranges_renamed f rs) rs (part_renamed f p) p (part_renamed f t) t (ranges_same ls rs)
        (λ vs w. further (λ ws. IsSamePart (at g row (ls ++ vs)) (part_renamed f p) (at e row ws) p) ls vs (part_same (ls ++ vs) p))
        (λ vs w. further (λ ws. IsSamePart (at g row (ls ++ vs)) (part_renamed f t) (at e row ws) t) ls vs (part_same (ls ++ vs) t))
    same_renamed ls (unary l op t) = forms.same_unary (at g row ls) (at e row (front ++ ls)) l op (renamed f t) t (same_renamed ls t)
    same_renamed ls (binary l op a b) =
        forms.same_binary (at g row ls) (at e row (front ++ ls)) l op (renamed f a) (renamed f b) a b (same_renamed ls a) (same_renamed ls b)
    same_renamed ls (chain l t ks) =
        forms.same_chain (at g row ls) (at e row (front ++ ls)) l (renamed f t) t (links_renamed f ks) ks (same_renamed ls t) (links_same ls ks)
    same_renamed ls (quantified l q rs p t) =
        forms.same_quantified (at g row ls) (at e row (front ++ ls)) l q (ranges_renamed f rs) rs (part_renamed f p) p (renamed f t) t (ranges_same ls rs)
        (λ vs w. further (λ ws. IsSamePart (at g row (ls ++ vs)) (part_renamed f p) (at e row ws) p) ls vs (part_same (ls ++ vs) p))
        (λ vs w. further (λ ws. IsSame (at g row (ls ++ vs)) (renamed f t) (at e row ws) t) ls vs (same_renamed (ls ++ vs) t))

    all_same : (locals : List Value) (ts : ResolvedTrees) → AreSame (at g row locals) (all_renamed f ts) (at e row (front ++ locals)) ts
    all_same ls no_terms = forms.same_no_terms (at g row ls) (at e row (front ++ ls))
    all_same ls (term t ts) = forms.same_terms (at g row ls) (at e row (front ++ ls)) (renamed f t) t (all_renamed f ts) ts (same_renamed ls t) (all_same ls ts)

    links_same : (locals : List Value) (ks : ResolvedLinks) → AreSameLinks (at g row locals) (links_renamed f ks) (at e row (front ++ locals)) ks
    links_same ls no_links = forms.same_no_links (at g row ls) (at e row (front ++ ls))
    links_same ls (link r t ks) = forms.same_links (at g row ls) (at e row (front ++ ls)) r (renamed f t) t (links_renamed f ks) ks (same_renamed ls t) (links_same ls ks)

    pub ranges_same : (locals : List Value) (rs : Ranges) → AreSameRanges (at g row locals) (ranges_renamed f rs) (at e row (front ++ locals)) rs
    ranges_same ls no_ranges = forms.same_no_ranges (at g row ls) (at e row (front ++ ls))
    ranges_same ls (range n t rs) = forms.same_ranges (at g row ls) (at e row (front ++ ls)) n (renamed f t) t (ranges_renamed f rs) rs (same_renamed ls t) (ranges_same ls rs)

    pub part_same : (locals : List Value) (p : ResolvedPart) → IsSamePart (at g row locals) (part_renamed f p) (at e row (front ++ locals)) p
    part_same ls absent = forms.same_absent (at g row ls) (at e row (front ++ ls))
    part_same ls (present t) = forms.same_present (at g row ls) (at e row (front ++ ls)) (renamed f t) t (same_renamed ls t)
