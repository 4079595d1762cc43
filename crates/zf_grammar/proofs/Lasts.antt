-- The last of some terms and links, in a list.
use Rattle.std.proofs.Common.{get_or}
use Rattle.zf_grammar.proofs.Prelude.{◌-◌, ◌∙◌, ◌∷◌, ◌≡◌, ◌≤◌, [], ap, arith, length, List, map, refl, suc, sym, last_link, last_tree, Link, link_of, links, Span, span_of, Term, tree_of, trees}
use Rattle.zf_tree.proofs.TermSeen as of

next : {A : Type 0} (x y : A) (xs : List A) (d : A) → get_or (y ∷ xs) (length (y ∷ xs) - 1) d ≡ get_or (x ∷ (y ∷ xs)) (length (x ∷ (y ∷ xs)) - 1) d
next x y xs d = let n : length (x ∷ (y ∷ xs)) - 1 ≡ suc (length (y ∷ xs) - 1) = omega arith in ap (λ n. get_or (x ∷ (y ∷ xs)) n d) (sym n)

pub last_tree_is : (s : Span) (xs : List Term) (d : Term) → 1 ≤ length xs → span_of (tree_of (get_or xs (length xs - 1) d))
    ≡ last_tree s (trees (map tree_of xs))
last_tree_is s [] d some = absurd (omega arith)
last_tree_is s (x ∷ []) d some = refl
last_tree_is s (x ∷ (y ∷ xs)) d some = ap (λ t. span_of (tree_of t)) (sym (next x y xs d)) ∙ last_tree_is (span_of (tree_of x)) (y ∷ xs) d (omega arith)

link_is : (k : Link) → span_of (tree_of k.right) ≡ span_of (link_of k).1
link_is k = ap (λ p. span_of p.1) (sym (of.of-link k.relation k.right))

pub last_link_is : (s : Span) (ks : List Link) (d : Link) → 1 ≤ length ks → span_of (tree_of (get_or ks (length ks - 1) d).right)
    ≡ last_link s (links (map link_of ks))
last_link_is s [] d some = absurd (omega arith)
last_link_is s (x ∷ []) d some = link_is x
last_link_is s (x ∷ (y ∷ ks)) d some = ap (λ k. span_of (tree_of k.right)) (sym (next x y ks d))
    ∙ last_link_is (span_of (link_of x).1) (y ∷ ks) d (omega arith)
