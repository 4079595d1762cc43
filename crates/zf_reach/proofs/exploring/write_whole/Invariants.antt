use Rattle.zf_reach.proofs.exploring.write_whole.Given as goal

abbrev pub ghost-write_turns : goal.ghost-write_turns
ghost-write_turns g a = g.origin
