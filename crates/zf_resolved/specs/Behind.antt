-- Terms that are joined one after another. For private contracts alone.
use Rattle.std.specs.Prelude.{List, [], ◌∷◌, Option, None, Some}
use Rattle.zf_tree.specs.declared.span.Span.{Span}
use Rattle.zf_tree.specs.declared.symbol.Constant.TheVariants.{True}
use Rattle.zf_term.specs.{both_hold, constant, resolved_of, ResolvedTree}
use Rattle.zf_term.specs.declared.resolved.Resolved.{Resolved}

abbrev pub tree_in : Option Resolved → Option ResolvedTree
tree_in None = None
tree_in (Some t) = Some (resolved_of t)

-- a term after what is there
abbrev pub behind : Option ResolvedTree → ResolvedTree → ResolvedTree
behind None t = t
behind (Some u) t = both_hold u t

abbrev pub onto : Option ResolvedTree → List ResolvedTree → Option ResolvedTree
onto o [] = o
onto o (t ∷ ts) = onto (Some (behind o t)) ts

abbrev pub or_true : Span → Option ResolvedTree → ResolvedTree
or_true l None = constant l True
or_true l (Some t) = t
