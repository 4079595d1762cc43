use Rattle.zf_ranges.proofs.Listing.{listed_none}
use Rattle.zf_ranges.proofs.members.members_of.Goals as goal

pub returns-in-Undefined-clause-is : goal.returns-in-Undefined-clause-is
returns-in-Undefined-clause-is c = listed_none c.args.of c.new.result.items c.in-Undefined.is c.new.ensures.items
