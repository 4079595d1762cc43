-- Resolved terms: each name of a term is resolved where it stands, and all else stays as it is.
use Rattle.std.specs.Prelude.{length, Option, Some, None}
use Rattle.zf_typing.specs.Prelude.{Links, no_decls, no_trees, Perhaps, spelling, Tree, tree, var_decl, VarDecls, Trees, Reference, Global, Sort}
use Rattle.zf_tree.specs.Trees as text
use Rattle.zf_term.specs.{absent, binary, bracket, comprehension, chain, constant, empty_set, int, link, listed, no_links, no_ranges, no_terms, number, present, quantified, range, Ranges, reference, ResolvedLinks, ResolvedPart, ResolvedTree, term, unary}
use Rattle.zf_term.specs.ResolvedTrees.{ResolvedTrees}
use Rattle.zf_typing.specs.Scopes.{Scope, with_variables, meaning}
use Rattle.zf_typing.specs.Typing.{variables, declared}

-- what a name refers to; of a name that is not in scope nothing is asked
abbrev pub referent : Option (Reference × Sort) → Reference
referent None = Global 0
referent (Some p) = p.0

-- the scope within declarations, for names alone: which types the variables have plays no part in it
abbrev pub bound : Scope → VarDecls → Scope
bound s ds = with_variables s (variables (declared ds) int)

abbrev mutual
  pub resolved : Scope → Tree → ResolvedTree
  resolved s (text.named n) = reference n.span (referent (meaning s (spelling n)))
  resolved s (text.numeral l v) = number l v
  resolved s (text.constant l c) = constant l c
  resolved s (text.empty_set l e) = empty_set l (resolved s e)
  resolved s (text.bracket l e) = bracket l (resolved s e)
  resolved s (text.listed l form es) = listed l form (resolved_all s es)
  resolved s (text.comprehension l ds p e) = comprehension l (resolved_ranges s ds) (resolved_part (bound s ds) p) (resolved_part (bound s ds) e)
  resolved s (text.unary l op e) = unary l op (resolved s e)
  resolved s (text.binary l op a b) = binary l op (resolved s a) (resolved s b)
  resolved s (text.chain l e ks) = chain l (resolved s e) (resolved_links s ks)
  resolved s (text.quantified l q ds p e) = quantified l q (resolved_ranges s ds) (resolved_part (bound s ds) p) (resolved (bound s ds) e)

  pub resolved_all : Scope → Trees → ResolvedTrees
  resolved_all s no_trees = no_terms
  resolved_all s (tree e es) = term (resolved s e) (resolved_all s es)

  pub resolved_links : Scope → Links → ResolvedLinks
  resolved_links s text.no_links = no_links
  resolved_links s (text.link r e ks) = link r (resolved s e) (resolved_links s ks)

  pub resolved_ranges : Scope → VarDecls → Ranges
  resolved_ranges s no_decls = no_ranges
  resolved_ranges s (var_decl ns e ds) = range (length ns) (resolved s e) (resolved_ranges s ds)

  pub resolved_part : Scope → Perhaps → ResolvedPart
  resolved_part s text.absent = absent
  resolved_part s (text.present e) = present (resolved s e)
