use Rattle.zf_messages.proofs.Told.{closed_by}
use Rattle.zf_messages.proofs.details.add_closing.Goals as goal

pub returns-in-len1-up : goal.returns-in-len1-up
returns-in-len1-up c = rw (closed_by c.args.source.now c.args.about.now.other.now c.args.about.now.span c.in-len1-up.len_at_least) c.add_other.ensures
