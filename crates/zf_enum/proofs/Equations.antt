-- Equations and names, as terms are seen.
use Rattle.zf_enum.proofs.Prelude.{◌∙◌, ◌∷◌, ◌≡◌, ◌≤◌, [], ap, arith, get_or, IfSome, length, List, map, None, Option, Some, sym, ℕ, Reference, Component, Equal, link-seen, of-Chain, of-Name, chain, link, links, no_links, reference, resolved_link_of, resolved_of, Resolved, ResolvedLink, ResolvedTree, IsName, Relation, Span}
use Rattle.zf_term.specs.declared.resolved.Resolved.TheVariants as form

pub some_weaker : {X : Type 0} (r : Option X) (P Q : X → Type 0) → ((x : X) → P x → Q x) → IfSome r P → IfSome r Q
some_weaker (Some x) P Q f h = f x h
some_weaker None P Q f h = tt

pub name_seen : (t : Resolved) (l : Span) (k : ℕ) (r : Reference) → t ≡ form.Name l r → r ≡ Component k → IsName k (resolved_of t)
name_seen t l k r is of = (l, ap resolved_of is ∙ of-Name l r ∙ ap (λ q. reference l q) of)

one_link : (xs : List ResolvedLink) (k : ResolvedLink) → 1 ≤ length xs → length xs ≤ 1 → k ≡ get_or xs 0 k → xs ≡ k ∷ []
one_link [] k least most at = absurd (omega arith)
one_link (x ∷ []) k least most at = ap (λ y. y ∷ []) (sym at)
one_link (x ∷ y ∷ ys) k least most at = absurd (omega arith)

-- a chain of one link
pub relation_seen : (t : Resolved) (l : Span) (first x : Resolved) (ks xs : List ResolvedLink) (k : ResolvedLink) → t ≡ form.Chain l first ks → xs ≡ ks
    → x ≡ first → 1 ≤ length xs → length xs ≤ 1 → k ≡ get_or xs 0 k
    → resolved_of t ≡ chain l (resolved_of x) (link k.relation (resolved_of k.right) no_links)
relation_seen t l first x ks xs k is same here least most at =
    ap resolved_of is ∙ of-Chain l first ks ∙ ap (λ z. chain l (resolved_of z) (links (map resolved_link_of ks))) (sym here)
    ∙ ap (λ zs. chain l (resolved_of x) (links (map resolved_link_of zs))) (sym same ∙ one_link xs k least most at)
    ∙ ap (λ p. chain l (resolved_of x) (link p.0 p.1 no_links)) (link-seen k)

-- one that is an equality
pub equation_is : (p left right : ResolvedTree) (r : Relation) → (span : Span) × (p ≡ chain span left (link r right no_links)) → r ≡ Equal
    → (span : Span) × (p ≡ chain span left (link Equal right no_links))
equation_is p left right r h equal = (h.0, h.1 ∙ ap (λ q. chain h.0 left (link q right no_links)) equal)
