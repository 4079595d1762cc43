-- Terms in which the outermost bound variable has the name of a global. No public clause rests on this.
use Rattle.std.specs.Prelude.{ℕ, zero, suc, min, Option, Some, None}
use Rattle.zf_tree.specs.declared.span.Span.{Span}
use Rattle.zf_reference.specs.declared.reference.Reference.{Reference}
use Rattle.zf_reference.specs.declared.reference.Reference.TheVariants.{Component, Local, Global}
use Rattle.zf_tree.specs.declared.operator.Operator.TheVariants.{Connective}
use Rattle.zf_tree.specs.declared.symbol.Connective.TheVariants.{And, Implies}
use Rattle.zf_tree.specs.declared.symbol.Quantifier.TheVariants.{ForAll}
use Rattle.zf_term.specs.{absent, binary, no_ranges, present, quantified, range, Ranges, ResolvedPart, ResolvedTree}
pub use Rattle.zf_resolved.specs.{all_renamed, links_renamed, part_renamed, range_renamed, ranges_renamed, renamed}

-- ---- names

-- a variable where the outermost is no longer bound
abbrev pub inside : (member : ℕ) → ℕ → Reference
inside m zero = Global m
inside m (suc i) = Local i

abbrev pub local_named : Option ℕ → ℕ → Reference
local_named None i = Local i
local_named (Some m) i = inside m i

-- the outermost bound variable has the name of the member, if there is one, and each global after the first n that of the one after them
unfoldable pub named : (n : ℕ) → (member : Option ℕ) → Reference → Reference
named n m (Component i) = Component i
named n m (Local i) = local_named m i
named n m (Global i) = Global (min i n)

-- ---- what a universal quantifier says of a member

-- one variable less of this range
abbrev pub fewer : ℕ → ResolvedTree → Ranges → Ranges
fewer zero t rs = rs
fewer (suc zero) t rs = rs
fewer (suc (suc n)) t rs = range (suc n) t rs

-- the ranges without their first variable
abbrev pub others : Ranges → Ranges
others no_ranges = no_ranges
others (range n t rs) = fewer n t rs

abbrev pub implied : Span → ResolvedPart → ResolvedTree → ResolvedTree
implied l absent t = t
implied l (present p) t = binary l (Connective Implies) p t

-- over ranges, if there are any
abbrev pub over : Span → Ranges → ResolvedPart → ResolvedTree → ResolvedTree
over l no_ranges p t = implied l p t
over l (range n s rs) p t = quantified l ForAll (range n s rs) p t

-- where the first variable has the name of the global m
abbrev pub instance : (n m : ℕ) → Span → Ranges → ResolvedPart → ResolvedTree → ResolvedTree
instance n m l rs p t = over l (others (ranges_renamed (named n None) rs)) (part_renamed (named n (Some m)) p) (renamed (named n (Some m)) t)

-- of this member and so many more
abbrev pub instances : (n m more : ℕ) → Span → Ranges → ResolvedPart → ResolvedTree → ResolvedTree
instances n m zero l rs p t = instance n m l rs p t
instances n m (suc more) l rs p t = binary l (Connective And) (instance n m l rs p t) (instances n (suc m) more l rs p t)
