-- The last bound variable before a place that a term names. No public clause rests on this.
use Rattle.std.specs.Prelude.{ℕ, ◌+◌, nat_lt, cond}
use Rattle.zf_reference.specs.declared.reference.Reference.{Reference}
use Rattle.zf_reference.specs.declared.reference.Reference.TheVariants.{Component, Local, Global}
use Rattle.zf_term.specs.{Ranges, ResolvedLinks, ResolvedPart, ResolvedTree}
use Rattle.zf_term.specs.ResolvedTrees.{ResolvedTrees}
use Rattle.zf_shape.specs.{all_greatest, greatest, links_greatest, part_greatest, ranges_greatest}

-- the place of a bound variable, from 1, if it is one before place m
abbrev pub place_below : ℕ → Reference → ℕ
place_below m (Component i) = 0
place_below m (Local i) = cond (nat_lt i m) (i + 1) 0
place_below m (Global i) = 0

abbrev pub need : ℕ → ResolvedTree → ℕ
need m = greatest (place_below m)

abbrev pub all_need : ℕ → ResolvedTrees → ℕ
all_need m = all_greatest (place_below m)

abbrev pub links_need : ℕ → ResolvedLinks → ℕ
links_need m = links_greatest (place_below m)

abbrev pub ranges_need : ℕ → Ranges → ℕ
ranges_need m = ranges_greatest (place_below m)

abbrev pub part_need : ℕ → ResolvedPart → ℕ
part_need m = part_greatest (place_below m)
