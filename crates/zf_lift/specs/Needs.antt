-- How many first components a term needs. No public clause rests on this.
use Rattle.std.specs.Prelude.{ℕ, ◌+◌}
use Rattle.zf_reference.specs.declared.reference.Reference.{Reference}
use Rattle.zf_reference.specs.declared.reference.Reference.TheVariants.{Component, Local, Global}
use Rattle.zf_term.specs.{Ranges, ResolvedLinks, ResolvedPart, ResolvedTree}
use Rattle.zf_term.specs.ResolvedTrees.{ResolvedTrees}
use Rattle.zf_shape.specs.{all_greatest, greatest, links_greatest, part_greatest, ranges_greatest}

-- the place of a component, from 1
abbrev pub place : Reference → ℕ
place (Component i) = i + 1
place (Local i) = 0
place (Global i) = 0

abbrev pub need : ResolvedTree → ℕ
need = greatest place

abbrev pub all_need : ResolvedTrees → ℕ
all_need = all_greatest place

abbrev pub links_need : ResolvedLinks → ℕ
links_need = links_greatest place

abbrev pub ranges_need : Ranges → ℕ
ranges_need = ranges_greatest place

abbrev pub part_need : ResolvedPart → ℕ
part_need = part_greatest place
