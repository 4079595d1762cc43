-- What each form of schema expression is seen as.
use Rattle.std.proofs.Common.{◌≡◌, List, map, sym, ap, ◌∙◌}
use Rattle.zf_tree.specs.declared.tree.Decl.{Decl}
use Rattle.zf_tree.specs.declared.tree.Term.{Term}
use Rattle.zf_tree.specs.declared.span.Span.{Span}
use Rattle.zf_tree.specs.declared.tree.SchemaRef.{SchemaRef}
use Rattle.zf_tree.specs.declared.tree.SchemaExp.{SchemaExp}
use Rattle.zf_tree.specs.declared.tree.SchemaExp.TheOpen.{SchemaExp-F}
use Rattle.zf_tree.specs.declared.tree.SchemaExp.TheViews.{roll-SchemaExp}
use Rattle.zf_tree.specs.declared.tree.SchemaExp.TheVariants as v
use Rattle.zf_tree.specs.declared.tree.SchemaExp.TheFolds.{fold-roll-SchemaExp, map-SchemaExp}
use Rattle.zf_tree.specs.{both, decl_of, either, schema_bracket, schema_reference, schema_step, schema_text, schema_tree_of, SchemaTree, tree_of}

rolled : (x : SchemaExp-F SchemaExp) → schema_tree_of (roll-SchemaExp x) ≡ schema_step (map-SchemaExp SchemaExp SchemaTree schema_tree_of x)
unfolding schema_tree_of
rolled x = fold-roll-SchemaExp SchemaTree schema_step x

pub of-Text : (l : Span) (ds : List Decl) (ps : List Term) → schema_tree_of (v.Text l ds ps) ≡ schema_text l (map decl_of ds) (map tree_of ps)
of-Text l ds ps = ap schema_tree_of (sym (v.rolls-Text l ds ps)) ∙ rolled (SchemaExp-F.Text l ds ps)

pub of-Ref : (l : Span) (r : SchemaRef) → schema_tree_of (v.Ref l r) ≡ schema_reference l r
of-Ref l r = ap schema_tree_of (sym (v.rolls-Ref l r)) ∙ rolled (SchemaExp-F.Ref l r)

pub of-Both : (l : Span) (a b : SchemaExp) → schema_tree_of (v.Both l a b) ≡ both l (schema_tree_of a) (schema_tree_of b)
of-Both l a b = ap schema_tree_of (sym (v.rolls-Both l a b)) ∙ rolled (SchemaExp-F.Both l a b)

pub of-Or : (l : Span) (a b : SchemaExp) → schema_tree_of (v.Or l a b) ≡ either l (schema_tree_of a) (schema_tree_of b)
of-Or l a b = ap schema_tree_of (sym (v.rolls-Or l a b)) ∙ rolled (SchemaExp-F.Or l a b)

pub of-Bracket : (l : Span) (a : SchemaExp) → schema_tree_of (v.Bracket l a) ≡ schema_bracket l (schema_tree_of a)
of-Bracket l a = ap schema_tree_of (sym (v.rolls-Bracket l a)) ∙ rolled (SchemaExp-F.Bracket l a)

pub ruleset seen = (of-Text, of-Ref, of-Both, of-Or, of-Bracket)
