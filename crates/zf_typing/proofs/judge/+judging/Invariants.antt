use Rattle.zf_typing.proofs.Prelude.{◌++◌, ◌≡◌, [], drop, List, map, ℕ, span_of, link_of, links, Tree, tree_of, trees, var_decl_of, var_decls, Relation, range_of, resolved_link_of, resolved_of, ResolvedTree, Ty, type_of, types, Offence, AreNew, AreRepeated, LinksOffend, OneOffends, SetsOffend, resolved_all, resolved_links, resolved_ranges, sort_of, Var, variable_of, scope_of, LinksAreTyped, AreMembers, Declare, declared, IsOf, member_need, Span}
use Rattle.zf_term.specs.ResolvedViews as kept
use Rattle.zf_typing.proofs.judge.+judging.Given as goal

abbrev pub invariant-lists::judge_all-loop-member : goal.invariant-lists::judge_all-loop-member
invariant-lists::judge_all-loop-member l = record {
  same : scope_of l.scope ≡ scope_of l.initial.scope;
  told : (us : List Ty) → AreMembers l.form (scope_of l.initial.scope) (trees (map tree_of (drop l.member-index l.terms))) (types us)
      → AreMembers l.form (scope_of l.initial.scope) (trees (map tree_of l.terms)) (types (map type_of l.types ++ us));
  kept : (ts : List ResolvedTree) → kept.terms ts ≡ resolved_all (scope_of l.initial.scope) (trees (map tree_of (drop l.member-index l.terms)))
      → kept.terms (map resolved_of l.resolved ++ ts) ≡ resolved_all (scope_of l.initial.scope) (trees (map tree_of l.terms));
  offends : (kind : Offence) (span : Span) → OneOffends (scope_of l.initial.scope) (member_need l.form)
      (trees (map tree_of (drop l.member-index l.terms))) kind span → OneOffends (scope_of l.initial.scope) (member_need l.form)
      (trees (map tree_of l.terms)) kind span;
}

abbrev pub invariant-chains::judge_links-loop-link : goal.invariant-chains::judge_links-loop-link
invariant-chains::judge_links-loop-link l = record {
  same : scope_of l.scope ≡ scope_of l.initial.scope;
  linked : LinksAreTyped (scope_of l.initial.scope) (sort_of l.left.sort) (links (map link_of (drop l.link-index l.links)))
      → LinksAreTyped (scope_of l.initial.scope) (sort_of l.initial.left.sort) (links (map link_of l.links));
  kept : (ks : List (Relation × ResolvedTree)) → kept.links ks ≡ resolved_links (scope_of l.initial.scope) (links (map link_of (drop l.link-index l.links)))
      → kept.links (map resolved_link_of l.resolved ++ ks) ≡ resolved_links (scope_of l.initial.scope) (links (map link_of l.links));
  offends : (a : Tree) → IsOf (scope_of l.initial.scope) a (sort_of l.initial.left.sort) → l.initial.left.span ≡ span_of a
      → (b : Tree) × IsOf (scope_of l.initial.scope) b (sort_of l.left.sort) × (l.left.span ≡ span_of b)
      × ((kind : Offence) (span : Span) → LinksOffend (scope_of l.initial.scope) b (links (map link_of (drop l.link-index l.links))) kind span
      → LinksOffend (scope_of l.initial.scope) a (links (map link_of l.links)) kind span);
}

abbrev pub invariant-binders::judge_sets-loop-decl : goal.invariant-binders::judge_sets-loop-decl
invariant-binders::judge_sets-loop-decl l = record {
  same : scope_of l.scope ≡ scope_of l.initial.scope;
  declares : (vs : List Var) → Declare (scope_of l.initial.scope) (var_decls (map var_decl_of (drop l.decl-index l.decls))) vs
      → Declare (scope_of l.initial.scope) (var_decls (map var_decl_of l.decls)) (map variable_of l.variables ++ vs);
  apart : AreNew (map variable_of l.variables) (declared (var_decls (map var_decl_of (drop l.decl-index l.decls)))) → AreNew [] (declared (var_decls (map var_decl_of l.decls)));
  repeated : (kind : Offence) (span : Span) → AreRepeated (map variable_of l.variables)
      (declared (var_decls (map var_decl_of (drop l.decl-index l.decls)))) kind span
      → AreRepeated [] (declared (var_decls (map var_decl_of l.decls))) kind span;
  kept : (rs : List (ℕ × ResolvedTree)) → kept.ranges rs ≡ resolved_ranges (scope_of l.initial.scope) (var_decls (map var_decl_of (drop l.decl-index l.decls)))
      → kept.ranges (map range_of l.ranges ++ rs) ≡ resolved_ranges (scope_of l.initial.scope) (var_decls (map var_decl_of l.decls));
  offends : (kind : Offence) (span : Span) → SetsOffend (scope_of l.initial.scope) (var_decls (map var_decl_of (drop l.decl-index l.decls))) kind span
      → SetsOffend (scope_of l.initial.scope) (var_decls (map var_decl_of l.decls)) kind span;
}
