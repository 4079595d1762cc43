use Rattle.zf_reach.proofs.exploring.write_turn.Given as goal

abbrev pub ghost-open_turn : goal.ghost-open_turn
ghost-open_turn g a = g.origin

abbrev pub ghost-write_parts : goal.ghost-write_parts
ghost-write_parts g a = g.origin

abbrev pub ghost-close_turn : goal.ghost-close_turn
ghost-close_turn g a = g.origin
