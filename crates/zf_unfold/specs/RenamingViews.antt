-- What names become, and universal quantifiers as they are seen. No public clause rests on this.
use Rattle.std.specs.Prelude.{ℕ, map}
use Rattle.zf_tree.specs.declared.symbol.Quantifier.TheVariants.{ForAll}
use Rattle.zf_reference.specs.declared.reference.Reference.{Reference}
use Rattle.zf_term.specs.{part_of, quantified, range, range_of, Ranges, ranges, resolved_of, ResolvedTree}
use Rattle.zf_unfold.specs.declared.instance.Universal.{Universal}
use Rattle.zf_unfold.specs.declared.renaming.Renaming.{Renaming}
use Rattle.zf_unfold.specs.Renaming.{instance, instances, named}

abbrev pub named_by : Renaming → Reference → Reference
named_by r = named r.count r.member

-- ---- a universal quantifier

abbrev pub ranges_of : Universal → Ranges
ranges_of u = range u.first.now.variables (resolved_of u.first.now.set) (ranges (map range_of u.others.now))

abbrev pub instance_of : (n m : ℕ) → Universal → ResolvedTree
instance_of n m u = instance n m u.span (ranges_of u) (part_of u.constraint.now) (resolved_of u.body.now)

-- of a member, and of so many more
abbrev pub instances_of : (n m more : ℕ) → Universal → ResolvedTree
instances_of n m more u = instances n m more u.span (ranges_of u) (part_of u.constraint.now) (resolved_of u.body.now)

-- the quantifier itself
abbrev pub universal_of : Universal → ResolvedTree
universal_of u = quantified u.span ForAll (ranges_of u) (part_of u.constraint.now) (resolved_of u.body.now)
