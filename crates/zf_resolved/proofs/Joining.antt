-- Memberships, and terms that are joined one after another.
use Rattle.zf_resolved.proofs.Prelude.{◌++◌, ◌∙◌, ◌∷◌, ◌≡◌, [], ap, drop, get_or, length, List, map, None, Option, refl, Some, sym, ◌<◌, ◌+◌, ◌≤◌, ℕ, all_of, Conjunct, Resolved, ResolvedLink, all_joined, batch_of, both_hold, chain, conjunct_of, is_member, joined, link, links, moved, no_links, numbering, reference, resolved_link_of, resolved_of, ResolvedTree, term_span, new_link, of-Chain, of-Constant, of-link, of-Name, behind, onto, or_true, tree_in, Span}
use Rattle.std.proofs.lemmas.List.{drop_all}
use Rattle.zf_reference.specs.declared.reference.Reference.TheVariants.{Component}
use Rattle.zf_tree.specs.declared.symbol.Constant.TheVariants.{True}
use Rattle.zf_tree.specs.declared.symbol.Relation.TheVariants.{Member}
use Rattle.zf_term.specs.declared.conjunct.Batch.{Batch}
use Rattle.zf_term.specs.declared.resolved.Resolved.TheVariants as v
use Rattle.zf_term.proofs.Places.{unmoved}
use Rattle.zf_term.proofs.Walk.{dropped}

-- ---- places

pub kept : (t : Resolved) (u : ResolvedTree) (places : Option (List ℕ)) → places ≡ None → resolved_of t ≡ u → resolved_of t ≡ moved (numbering places) u
kept t u places none is = is ∙ sym (ap (λ (ps : Option (List ℕ)). moved (numbering ps) u) none ∙ unmoved u)

-- ---- memberships

pub member_seen : (l : Span) (i : ℕ) (e t : Resolved) (ks : List ResolvedLink) → l ≡ term_span (resolved_of e) → t ≡ v.Name l (Component i)
    → ks ≡ new_link Member e ∷ [] → resolved_of (v.Chain l t ks) ≡ is_member i (resolved_of e)
member_seen l i e t ks m g h =
    of-Chain l t ks
    ∙ ap (λ (u : ResolvedTree). chain l u (links (map resolved_link_of ks))) (ap resolved_of g ∙ of-Name l (Component i))
    ∙ ap (λ (ls : List ResolvedLink). chain l (reference l (Component i)) (links (map resolved_link_of ls))) h
    ∙ ap (λ q. chain l (reference l (Component i)) (links (q ∷ []))) (of-link Member e)
    ∙ ap (λ (n : Span). chain n (reference n (Component i)) (link Member (resolved_of e) no_links)) m

-- ---- terms that are joined

pub onto_append : (o : Option ResolvedTree) (ts us : List ResolvedTree) → onto o (ts ++ us) ≡ onto (onto o ts) us
onto_append o [] us = refl
onto_append o (t ∷ ts) us = onto_append (Some (behind o t)) ts us

onto_some : (t : ResolvedTree) (ts : List ResolvedTree) → onto (Some t) ts ≡ Some (all_joined t ts)
onto_some t [] = refl
onto_some t (u ∷ us) = onto_some (both_hold t u) us

pub whole_joined : (l : Span) (ts : List ResolvedTree) → or_true l (onto None ts) ≡ joined l ts
whole_joined l [] = refl
whole_joined l (t ∷ ts) = ap (or_true l) (onto_some t ts)

-- one batch further
pub batches_step :
    (xs : List Batch) (i : ℕ) (x : Batch) (whole before after : Option ResolvedTree) → x ≡ get_or xs i x → i < length xs
    → onto before (all_of (map batch_of (drop i xs))) ≡ whole → after ≡ onto before (batch_of x)
    → onto after (all_of (map batch_of (drop (i + 1) xs))) ≡ whole
batches_step xs i x whole before after at l is step =
    ap (λ (o : Option ResolvedTree). onto o (all_of (map batch_of (drop (i + 1) xs)))) step
    ∙ sym (onto_append before (batch_of x) (all_of (map batch_of (drop (i + 1) xs))))
    ∙ ap (λ (ys : List Batch). onto before (all_of (map batch_of ys))) (sym (dropped xs i x l at))
    ∙ is

abbrev pub numbered_anew : Batch → List Conjunct → List ResolvedTree
numbered_anew b xs = map (moved (numbering b.places)) (map conjunct_of xs)

-- one conjunct further
pub conjuncts_step :
    (b : Batch) (xs : List Conjunct) (i : ℕ) (x : Conjunct) (t u : Resolved) (whole before after : Option ResolvedTree) → x ≡ get_or xs i x → i < length xs
    → onto before (numbered_anew b (drop i xs)) ≡ whole
    → resolved_of u ≡ conjunct_of x → resolved_of t ≡ moved (numbering b.places) (resolved_of u) → after ≡ Some (behind before (resolved_of t))
    → onto after (numbered_anew b (drop (i + 1) xs)) ≡ whole
conjuncts_step b xs i x t u whole before after at l is one term step =
    let rest = numbered_anew b (drop (i + 1) xs) in
    ap (λ (o : Option ResolvedTree). onto o rest) step
    ∙ ap (λ (s : ResolvedTree). onto (Some (behind before s)) rest) (term ∙ ap (moved (numbering b.places)) one)
    ∙ ap (λ (ys : List Conjunct). onto before (numbered_anew b ys)) (sym (dropped xs i x l at))
    ∙ is

-- ---- no batch is ahead

all_done : (xs : List Batch) (i : ℕ) (whole : Option ResolvedTree) (ts : List ResolvedTree) → length xs ≤ i → onto whole (all_of (map batch_of (drop i xs))) ≡ onto None ts → whole ≡ onto None ts
all_done xs i whole ts past is = ap (λ (ys : List Batch). onto whole (all_of (map batch_of ys))) (sym (drop_all i xs past)) ∙ is

pub none_joined : (l : Span) (xs : List Batch) (i : ℕ) (whole : Option Resolved) (ts : List ResolvedTree) → whole ≡ None → length xs ≤ i
    → onto (tree_in whole) (all_of (map batch_of (drop i xs))) ≡ onto None ts → resolved_of (v.Constant l True) ≡ joined l ts
none_joined l xs i whole ts none past is = of-Constant l True ∙ ap (or_true l) (sym (ap tree_in none) ∙ all_done xs i (tree_in whole) ts past is) ∙ whole_joined l ts

pub some_joined : (l : Span) (xs : List Batch) (i : ℕ) (whole : Option Resolved) (t : Resolved) (ts : List ResolvedTree) → whole ≡ Some t → length xs ≤ i
    → onto (tree_in whole) (all_of (map batch_of (drop i xs))) ≡ onto None ts → resolved_of t ≡ joined l ts
some_joined l xs i whole t ts some past is = ap (or_true l) (sym (ap tree_in some) ∙ all_done xs i (tree_in whole) ts past is) ∙ whole_joined l ts
