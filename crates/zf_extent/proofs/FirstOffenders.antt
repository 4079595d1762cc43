-- The first of several that offend, and how it is found from the front.
use Rattle.zf_extent.proofs.Prelude.{◌≡◌, ℕ, ◌+◌, ◌-◌, ◌<◌, ◌==◌, Bool, Option, List, [], ◌∷◌, ◌++◌, length, map, take, drop, get_or, refl, sym, ap, ◌∙◌, take_rest, Resolved, Defined, links, part_of, range_of, ranges, resolved_link_of, resolved_of, terms, Offender, all_offending, first, is_last, links_offending, offending, part_offending, ranges_offending, tested, unless, option_or, or_else_assoc, Span}
use Rattle.std.proofs.Math.Dec.{eqb-suc-zero}
use Rattle.zf_term.specs.declared.resolved.Range.{Range}
use Rattle.zf_term.specs.declared.resolved.Resolved.TheVariants as v
use Rattle.zf_term.specs.declared.resolved.ResolvedLink.{ResolvedLink}
use Rattle.zf_term.proofs.Walk.{dropped}
use Rattle.zf_term.proofs.ResolvedSeen.{of-Comprehension, link-seen, range-seen}

abbrev pub offending_terms : List Defined → List Resolved → List Offender
offending_terms g ts = all_offending g (terms (map resolved_of ts))

abbrev pub offending_links : List Defined → List ResolvedLink → List Offender
offending_links g ks = links_offending g (links (map resolved_link_of ks))

abbrev pub offending_ranges : List Defined → List Range → List Offender
offending_ranges g rs = ranges_offending g (ranges (map range_of rs))

pub first_of_both : {A : Type 0} (xs ys : List A) → first (xs ++ ys) ≡ option_or (first xs) (first ys)
first_of_both [] ys = refl
first_of_both (x ∷ xs) ys = refl

-- one item further: what it has comes before what the items after it have
pub first_step :
    {X A : Type 0} (all behind : List X → List A) (xs : List X) (i : ℕ) (x : X) (here : List A) (whole found next : Option A)
    → x ≡ get_or xs i x → i < length xs
    → all (x ∷ drop (i + 1) xs) ≡ here ++ behind (drop (i + 1) xs)
    → whole ≡ option_or found (first (all (drop i xs)))
    → next ≡ option_or found (first here)
    → whole ≡ option_or next (first (behind (drop (i + 1) xs)))
first_step all behind xs i x here whole found next at l parts before step =
    let rest = behind (drop (i + 1) xs) in
    before
    ∙ ap (λ ys. option_or found (first (all ys))) (dropped xs i x l at)
    ∙ ap (λ ls. option_or found (first ls)) parts
    ∙ ap (option_or found) (first_of_both here rest)
    ∙ sym (or_else_assoc found (first here) (first rest))
    ∙ ap (λ o. option_or o (first rest)) (sym step)

-- terms, links and ranges, one further
pub terms_step :
    (g : List Defined) (xs : List Resolved) (i : ℕ) (x : Resolved) (whole found next : Option Offender)
    → x ≡ get_or xs i x → i < length xs
    → whole ≡ option_or found (first (offending_terms g (drop i xs)))
    → next ≡ option_or found (first (offending g (resolved_of x)))
    → whole ≡ option_or next (first (offending_terms g (drop (i + 1) xs)))
terms_step g xs i x whole found next at l = first_step (offending_terms g) (offending_terms g) xs i x (offending g (resolved_of x)) whole found next at l refl

pub ranges_step :
    (g : List Defined) (xs : List Range) (i : ℕ) (x : Range) (whole found next : Option Offender)
    → x ≡ get_or xs i x → i < length xs
    → whole ≡ option_or found (first (offending_ranges g (drop i xs)))
    → next ≡ option_or found (first (offending g (resolved_of x.set)))
    → whole ≡ option_or next (first (offending_ranges g (drop (i + 1) xs)))
ranges_step g xs i x whole found next at l =
    first_step (offending_ranges g) (offending_ranges g) xs i x (offending g (resolved_of x.set)) whole found next at l
    (ap (λ r. ranges_offending g (ranges (r ∷ map range_of (drop (i + 1) xs)))) (range-seen x))

abbrev ends : List ResolvedLink → Bool
ends ks = is_last (links (map resolved_link_of ks))

pub links_step :
    (g : List Defined) (xs : List ResolvedLink) (i : ℕ) (x : ResolvedLink) (last : Bool) (whole found next : Option Offender)
    → x ≡ get_or xs i x → i < length xs
    → last ≡ ends (drop (i + 1) xs)
    → whole ≡ option_or found (first (offending_links g (drop i xs)))
    → next ≡ option_or found (first (unless (tested g x.relation last (resolved_of x.right)) (offending g (resolved_of x.right))))
    → whole ≡ option_or next (first (offending_links g (drop (i + 1) xs)))
links_step g xs i x last whole found next at l end =
    let t = resolved_of x.right in
    let rest = map resolved_link_of (drop (i + 1) xs) in
    first_step (offending_links g) (offending_links g) xs i x (unless (tested g x.relation last t) (offending g t)) whole found next at l
    (ap (λ k. links_offending g (links (k ∷ rest))) (link-seen x) ∙ ap (λ b. unless (tested g x.relation b t) (offending g t) ++ links_offending g (links rest)) (sym end))

ends_where : (ks : List ResolvedLink) → (length ks == 0) ≡ ends ks
ends_where [] = refl
ends_where (k ∷ ks) = eqb-suc-zero (length ks)

-- none is after
pub ends_at : (xs : List ResolvedLink) (n : ℕ) → (length (take (length xs - n) (drop n xs)) == 0) ≡ ends (drop n xs)
ends_at xs n = ap (λ ks. length ks == 0) (take_rest xs n) ∙ ends_where (drop n xs)

-- a comprehension: its ranges, the filter, and the term
pub first_of_comprehension :
    (g : List Defined) (l : Span) (rs : List Range) (p t : Option Resolved) (whole : Resolved) (a b c : Option Offender) → whole ≡ v.Comprehension l rs p t
    → a ≡ first (ranges_offending g (ranges (map range_of rs)))
    → b ≡ option_or a (first (part_offending g (part_of p)))
    → c ≡ option_or b (first (part_offending g (part_of t)))
    → c ≡ first (offending g (resolved_of whole))
first_of_comprehension g l rs p t whole a b c is e f h =
    let here = ranges_offending g (ranges (map range_of rs)) in
    let filter = part_offending g (part_of p) in
    let last = part_offending g (part_of t) in
    h
    ∙ ap (λ o. option_or o (first last)) (f ∙ ap (λ o. option_or o (first filter)) e ∙ sym (first_of_both here filter))
    ∙ sym (first_of_both (here ++ filter) last)
    ∙ sym (ap (λ w. first (offending g w)) (of-Comprehension l rs p t))
    ∙ sym (ap (λ w. first (offending g (resolved_of w))) is)
