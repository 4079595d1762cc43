-- What offends in conjuncts: in terms that are joined, what offends in each of them.
use Rattle.zf_extent.proofs.Prelude.{◌≡◌, ℕ, ◌+◌, ◌<◌, Option, List, [], ◌∷◌, ◌++◌, length, map, drop, get_or, refl, sym, ap, ◌∙◌, append_assoc, append-nil, Resolved, all_joined, batch_of, both_hold, conjunct_of, Defined, is_member, joined, moved, numbering, one_holds, resolved_of, ResolvedTree, option_or, or_else_assoc, Offender, direct, first, offending, offending_within, unless, sides_span, Span}
use Rattle.std.proofs.lemmas.Grind.{flat_map-append}
use Rattle.std.proofs.lemmas.List.Concat.{flat_map-cons}
use Rattle.std.specs.List.{flat_map}
use Rattle.zf_data.specs.{all_of}
use Rattle.zf_term.specs.declared.conjunct.Batch.{Batch}
use Rattle.zf_term.specs.declared.conjunct.Conjunct.{Conjunct}
use Rattle.zf_term.specs.declared.conjunct.Sides.{Sides}
use Rattle.zf_term.specs.declared.conjunct.Conjunct.TheVariants as v
use Rattle.zf_term.proofs.ConjunctsSeen.{batch-seen, of-Either, of-Member, of-Term}
use Rattle.zf_extent.proofs.FirstOffenders.{first_of_both, first_step}
use Rattle.zf_extent.proofs.SameOffences.{same_offences}

-- what offends in several terms, and in the conjuncts of a side
abbrev pub offenders : List Defined → List ResolvedTree → List Offender
offenders g ts = flat_map (offending g) ts

abbrev pub side : List Defined → List Batch → List Offender
side g bs = offenders g (all_of (map batch_of bs))

-- ---- terms that are joined

onto : (g : List Defined) (t : ResolvedTree) (ts : List ResolvedTree) → offending g (all_joined t ts) ≡ offending g t ++ offenders g ts
onto g t [] = sym (append-nil (offending g t))
onto g t (u ∷ us) =
    onto g (both_hold t u) us ∙ append_assoc (offending g t) (offending g u) (offenders g us) ∙ ap (λ os. offending g t ++ os) (sym (flat_map-cons (offending g) u us))

of_joined : (g : List Defined) (l : Span) (ts : List ResolvedTree) → offending g (joined l ts) ≡ offenders g ts
of_joined g l [] = refl
of_joined g l (t ∷ ts) = onto g t ts ∙ sym (flat_map-cons (offending g) t ts)

of_either : (g : List Defined) (l : Span) (ts us : List ResolvedTree) → offending g (one_holds l ts us) ≡ offenders g ts ++ offenders g us
of_either g l ts us = ap (λ os. os ++ offending g (joined l us)) (of_joined g l ts) ∙ ap (λ os. offenders g ts ++ os) (of_joined g l us)

of_member : (g : List Defined) (i : ℕ) (e : ResolvedTree) → offending g (is_member i e) ≡ offending_within g e
of_member g i e = append-nil (unless (direct g e) (offending g e))

same_in_all : (g : List Defined) (f : ℕ → ℕ) (ts : List ResolvedTree) → offenders g (map (moved f) ts) ≡ offenders g ts
same_in_all g f [] = refl
same_in_all g f (t ∷ ts) =
    flat_map-cons (offending g) (moved f t) (map (moved f) ts)
    ∙ ap (λ os. os ++ offenders g (map (moved f) ts)) (same_offences g f t)
    ∙ ap (λ os. offending g t ++ os) (same_in_all g f ts)
    ∙ sym (flat_map-cons (offending g) t ts)

-- ---- the forms of conjuncts

pub in_term :
    (g : List Defined) (t u : Resolved) (ps : Option (List ℕ)) (whole : Conjunct) (found next : Option Offender) → whole ≡ v.Term t ps → u ≡ t
    → next ≡ option_or found (first (offending g (resolved_of u))) → next ≡ option_or found (first (offending g (conjunct_of whole)))
in_term g t u ps whole found next is same step =
    step
    ∙ ap (λ s. option_or found (first (offending g (resolved_of s)))) same
    ∙ ap (λ os. option_or found (first os)) (sym (ap (λ c. offending g (conjunct_of c)) is ∙ ap (offending g) (of-Term t ps) ∙ same_offences g (numbering ps) (resolved_of t)))

pub in_member :
    (g : List Defined) (i : ℕ) (t u : Resolved) (ps : Option (List ℕ)) (whole : Conjunct) (found next : Option Offender) → whole ≡ v.Member i t ps → u ≡ t
    → next ≡ option_or found (first (offending_within g (resolved_of u))) → next ≡ option_or found (first (offending g (conjunct_of whole)))
in_member g i t u ps whole found next is same step =
    step
    ∙ ap (λ s. option_or found (first (offending_within g (resolved_of s)))) same
    ∙ ap (λ os. option_or found (first os))
    (sym (ap (λ c. offending g (conjunct_of c)) is ∙ ap (offending g) (of-Member i t ps) ∙ same_offences g (numbering ps) (is_member i (resolved_of t)) ∙ of_member g i (resolved_of t)))

pub in_either :
    (g : List Defined) (s : Sides) (left right bs ds : List Batch) (ps : Option (List ℕ)) (whole : Conjunct) (found a b : Option Offender) → whole ≡ v.Either s left right ps
    → bs ≡ left → ds ≡ right → a ≡ option_or found (first (side g bs)) → b ≡ option_or a (first (side g ds)) → b ≡ option_or found (first (offending g (conjunct_of whole)))
in_either g s left right bs ds ps whole found a b is one other first_side second_side =
    second_side
    ∙ ap (λ o. option_or o (first (side g ds))) (first_side ∙ ap (λ xs. option_or found (first (side g xs))) one)
    ∙ ap (λ xs. option_or (option_or found (first (side g left))) (first (side g xs))) other
    ∙ or_else_assoc found (first (side g left)) (first (side g right))
    ∙ ap (option_or found) (sym (first_of_both (side g left) (side g right)))
    ∙ ap (λ os. option_or found (first os))
    (sym (ap (λ c. offending g (conjunct_of c)) is ∙ ap (offending g) (of-Either s left right ps)
    ∙ same_offences g (numbering ps) (one_holds (sides_span s) (all_of (map batch_of left)) (all_of (map batch_of right)))
    ∙ of_either g (sides_span s) (all_of (map batch_of left)) (all_of (map batch_of right))))

-- ---- one further

pub conjuncts_step :
    (g : List Defined) (xs : List Conjunct) (i : ℕ) (x : Conjunct) (whole found next : Option Offender)
    → x ≡ get_or xs i x → i < length xs
    → whole ≡ option_or found (first (offenders g (map conjunct_of (drop i xs))))
    → next ≡ option_or found (first (offending g (conjunct_of x)))
    → whole ≡ option_or next (first (offenders g (map conjunct_of (drop (i + 1) xs))))
conjuncts_step g xs i x whole found next at l =
    first_step (λ ys. offenders g (map conjunct_of ys)) (λ ys. offenders g (map conjunct_of ys)) xs i x (offending g (conjunct_of x)) whole found next at l
    (flat_map-cons (offending g) (conjunct_of x) (map conjunct_of (drop (i + 1) xs)))

one_more : (g : List Defined) (b : Batch) (bs : List Batch) → side g (b ∷ bs) ≡ offenders g (map conjunct_of b.conjuncts) ++ side g bs
one_more g b bs =
    ap (offenders g) (flat_map-cons (λ items. items) (batch_of b) (map batch_of bs))
    ∙ flat_map-append (offending g) (batch_of b) (all_of (map batch_of bs))
    ∙ ap (λ os. os ++ side g bs) (ap (offenders g) (batch-seen b) ∙ same_in_all g (numbering b.places) (map conjunct_of b.conjuncts))

pub batches_step :
    (g : List Defined) (xs : List Batch) (i : ℕ) (x : Batch) (cs : List Conjunct) (whole found next : Option Offender)
    → x ≡ get_or xs i x → i < length xs → cs ≡ x.conjuncts
    → whole ≡ option_or found (first (side g (drop i xs)))
    → next ≡ option_or found (first (offenders g (map conjunct_of cs)))
    → whole ≡ option_or next (first (side g (drop (i + 1) xs)))
batches_step g xs i x cs whole found next at l same before step =
    first_step (side g) (side g) xs i x (offenders g (map conjunct_of x.conjuncts)) whole found next at l (one_more g x (drop (i + 1) xs)) before
    (step ∙ ap (λ ys. option_or found (first (offenders g (map conjunct_of ys)))) same)
