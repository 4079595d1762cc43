use Rattle.std.proofs.Common.{rules, ◌≡◌, ◌++◌}
use Rattle.zf_value.proofs.Making.{sorted_out}
use Rattle.zf_ranges.proofs.Listing.{lists_merged}
use Rattle.zf_ranges.proofs.members.merged.Goals as goal

pub returns : goal.returns
returns c =
    let both = sorted_out _ _ _ c.in_ok-sort.ensures.permutation c.in_ok-sort.ensures.sorted c.dedup.ensures.filtered in
    let all : c.append.new.self.items ≡ c.args.left.items ++ c.args.right.items = search rules in
    lists_merged _ _ _ _ all both.0 both.1
