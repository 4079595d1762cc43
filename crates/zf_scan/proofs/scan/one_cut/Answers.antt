use Rattle.zf_scan.proofs.Everywhere.{is_cut_or_faults}
use Rattle.zf_scan.proofs.Laws.{is_cut_once, faults_once, is_not_both}
use Rattle.zf_scan.proofs.scan.one_cut.Goals as goal

pub returns : goal.returns
returns c = record { pieces = is_cut_once; fault = faults_once; some = is_cut_or_faults; apart = is_not_both }
