use Rattle.zf_reach.proofs.Prelude.{device_of}
use Rattle.zf_reach.proofs.exploring.explore.Given as goal

abbrev pub ghost-write_whole : goal.ghost-write_whole
ghost-write_whole g a = g.W.Write.contents (device_of a.writer.now)
