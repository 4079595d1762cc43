use Rattle.zf_value.proofs.set.is_member.Goals as goal

pub returns : goal.returns
returns c = rw (← c.members.ensures.is) c.is_found.ensures
