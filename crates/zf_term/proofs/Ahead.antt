-- What holds of the declarations, and of the links of a chain, that are ahead.
use Rattle.std.proofs.Common.{◌≡◌, ℕ, ◌+◌, ◌<◌, List, length, map, drop, get_or, sym, subst}
use Rattle.zf_tree.specs.declared.tree.VarDecl.{VarDecl}
use Rattle.zf_tree.specs.{link, link_of, Links, links, tree_of, var_decl, var_decl_of, var_decls, VarDecls}
use Rattle.zf_tree.specs.declared.tree.Link.{Link}
use Rattle.zf_tree.proofs.TermSeen as seen
use Rattle.zf_term.proofs.Walk.{at_step}

decl_seen : (d : VarDecl) → var_decl_of d ≡ (d.names, tree_of d.set)
decl_seen d = seen.of-decl d.names d.set

pub decl_ahead : (P : VarDecls → Type 0) (ds : List VarDecl) (i : ℕ) (d : VarDecl) → d ≡ get_or ds i d → i < length ds
    → P (var_decl d.names (tree_of d.set) (var_decls (map var_decl_of (drop (i + 1) ds)))) → P (var_decls (map var_decl_of (drop i ds)))
decl_ahead P ds i d is l h =
    at_step (λ xs. P (var_decls (map var_decl_of xs))) ds i d is l (subst (λ p. P (var_decl p.0 p.1 (var_decls (map var_decl_of (drop (i + 1) ds))))) (sym (decl_seen d)) h)

link_seen : (k : Link) → link_of k ≡ (k.relation, tree_of k.right)
link_seen k = seen.of-link k.relation k.right

-- a link is ahead
pub link_ahead : (P : Links → Type 0) (ks : List Link) (i : ℕ) (k : Link) → k ≡ get_or ks i k → i < length ks
    → P (link k.relation (tree_of k.right) (links (map link_of (drop (i + 1) ks)))) → P (links (map link_of (drop i ks)))
link_ahead P ks i k is l h =
    at_step (λ xs. P (links (map link_of xs))) ks i k is l (subst (λ p. P (link p.0 p.1 (links (map link_of (drop (i + 1) ks))))) (sym (link_seen k)) h)
