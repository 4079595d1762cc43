-- How the program's schemas are seen as those of `Schemas`.
use Rattle.std.specs.Prelude.{List, map}
use Rattle.zf_data.specs.{all_of}
use Rattle.zf_term.specs.declared.conjunct.Batch.{Batch}
use Rattle.zf_term.specs.declared.conjunct.Conjunct.{Conjunct}
use Rattle.zf_term.specs.declared.conjunct.Conjunct.TheFolds.{fold-Batch, fold-Conjunct}
use Rattle.zf_term.specs.declared.conjunct.Conjunct.TheOpen.{Batch-F, Conjunct-F}
use Rattle.zf_term.specs.declared.schema.Component.{Component}
use Rattle.zf_term.specs.declared.schema.Domain.{Domain, fold-Domain}
use Rattle.zf_term.specs.declared.schema.Domain.TheOpen.{Domain-F}
use Rattle.zf_term.specs.declared.schema.Flat.{Flat}
use Rattle.zf_term.specs.ResolvedTrees.{ResolvedTree}
use Rattle.zf_term.specs.ResolvedViews.{resolved_of}
use Rattle.zf_term.specs.Shapes.{moved}
use Rattle.zf_term.specs.ShapeViews.{numbering}
use Rattle.zf_term.specs.TypeViews.{type_of}
use Rattle.zf_term.specs.Schemas.{DeclaredSet, Comp, Schema, sets_of, is_member, one_holds, plain, carrier, sides, sides_span}

abbrev pub domain_step : Domain-F DeclaredSet → DeclaredSet
domain_step (Domain-F.Plain t) = plain (resolved_of t)
domain_step (Domain-F.Carrier t) = carrier (type_of t)
domain_step (Domain-F.Either left right) = sides (sets_of left) (sets_of right)

unfoldable pub set_of : Domain → DeclaredSet
set_of = fold-Domain DeclaredSet domain_step

abbrev pub comp_of : Component → Comp
comp_of c = record { name = c.name; type = type_of c.ztype; sets = map set_of c.domains }

abbrev pub conjunct_step : Conjunct-F ResolvedTree (List ResolvedTree) → ResolvedTree
conjunct_step (Conjunct-F.Term t places) = moved (numbering places) (resolved_of t)
conjunct_step (Conjunct-F.Member i t places) = moved (numbering places) (is_member i (resolved_of t))
conjunct_step (Conjunct-F.Either s left right places) = moved (numbering places) (one_holds (sides_span s) (all_of left) (all_of right))

abbrev pub batch_step : Batch-F ResolvedTree (List ResolvedTree) → List ResolvedTree
batch_step b = map (moved (numbering b.places)) b.conjuncts

unfoldable pub conjunct_of : Conjunct → ResolvedTree
conjunct_of = fold-Conjunct ResolvedTree (List ResolvedTree) conjunct_step batch_step

-- the conjuncts that are shared
unfoldable pub batch_of : Batch → List ResolvedTree
batch_of = fold-Batch ResolvedTree (List ResolvedTree) conjunct_step batch_step

abbrev pub schema_of : Flat → Schema
schema_of f = record { comps = map comp_of f.components; conjuncts = map conjunct_of f.conjuncts }
