-- New numbers of components by a list, and of parts of a term; the nodes and the height of several terms.
use Rattle.std.specs.Prelude.{ℕ, ◌+◌, max, List, Option, Some, None}
use Rattle.zf_reference.specs.{place_in}
use Rattle.zf_term.specs.ResolvedTrees.{Ranges, ResolvedLinks, ResolvedPart, ResolvedTrees}
use Rattle.zf_term.specs.Shapes.{links_measure, part_measure, ranges_measure, terms_measure}

-- by a list, where there is one
abbrev pub numbering : Option (List ℕ) → ℕ → ℕ
numbering None i = i
numbering (Some places) i = place_in places i

-- ---- nodes

abbrev pub all_nodes : ResolvedTrees → ℕ
all_nodes = terms_measure ◌+◌

abbrev pub link_nodes : ResolvedLinks → ℕ
link_nodes = links_measure ◌+◌

abbrev pub range_nodes : Ranges → ℕ
range_nodes = ranges_measure ◌+◌

abbrev pub part_nodes : ResolvedPart → ℕ
part_nodes = part_measure ◌+◌

-- ---- height

abbrev pub tallest : ResolvedTrees → ℕ
tallest = terms_measure max

abbrev pub tallest_link : ResolvedLinks → ℕ
tallest_link = links_measure max

abbrev pub tallest_range : Ranges → ℕ
tallest_range = ranges_measure max

abbrev pub part_height : ResolvedPart → ℕ
part_height = part_measure max
