-- Schemas as plain data.
use Rattle.zf_tree.specs.declared.span.Span.{Span}
use Rattle.zf_term.specs.declared.conjunct.Sides.{Sides}
use Rattle.std.specs.Prelude.{ℕ, List, [], ◌∷◌, fold}
use Rattle.zf_reference.specs.declared.reference.Reference.TheVariants.{Component as component}
use Rattle.zf_tree.specs.declared.operator.Operator.TheVariants.{Connective}
use Rattle.zf_tree.specs.declared.symbol.Connective.TheVariants.{And, Or}
use Rattle.zf_tree.specs.declared.symbol.Constant.TheVariants.{True}
use Rattle.zf_tree.specs.declared.symbol.Relation.TheVariants.{Member}
use Rattle.zf_term.specs.ResolvedTrees.{ResolvedTree, binary, chain, constant, link, no_links, reference}
use Rattle.zf_term.specs.Shapes.{term_span}
use Rattle.zf_term.specs.Types.{Ty}

-- a declared set: that of a declaration, all values of a type, or the two sides of a disjunction
mutual
  pub data DeclaredSet : Type 0 where
    plain : ResolvedTree → DeclaredSet
    carrier : Ty → DeclaredSet
    sides : DeclaredSets → DeclaredSets → DeclaredSet

  pub data DeclaredSets : Type 0 where
    no_sets : DeclaredSets
    set : DeclaredSet → DeclaredSets → DeclaredSets

pub record Comp : Type 0 where
  pub name : List ℕ
  pub type : Ty
  pub sets : List DeclaredSet

pub record Schema : Type 0 where
  pub comps : List Comp
  pub conjuncts : List ResolvedTree

abbrev pub sets_of : List DeclaredSet → DeclaredSets
sets_of [] = no_sets
sets_of (d ∷ ds) = set d (sets_of ds)

-- the component is a member of the set
abbrev pub is_member : (at : ℕ) → ResolvedTree → ResolvedTree
is_member i e = chain (term_span e) (reference (term_span e) (component i)) (link Member e no_links)

-- joined to the left by `\land`
abbrev pub both_hold : ResolvedTree → ResolvedTree → ResolvedTree
both_hold t u = binary (term_span t) (Connective And) t u

abbrev pub all_joined : ResolvedTree → List ResolvedTree → ResolvedTree
all_joined = fold both_hold

abbrev pub joined : Span → List ResolvedTree → ResolvedTree
joined l [] = constant l True
joined l (t ∷ ts) = all_joined t ts

-- from where the one begins to where the other ends
abbrev pub from_to : Span → Span → Span
from_to a b = record { start = a.start; stop = b.stop }

abbrev pub sides_span : Sides → Span
sides_span s = from_to s.left s.right

-- all of these, or all of those
abbrev pub one_holds : Span → List ResolvedTree → List ResolvedTree → ResolvedTree
one_holds l ts us = binary l (Connective Or) (joined l ts) (joined l us)
