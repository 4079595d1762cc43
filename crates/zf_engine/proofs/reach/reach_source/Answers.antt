use Rattle.zf_engine.proofs.Reaching.{reach_told, unfit_explored}
use Rattle.zf_engine.proofs.reach.reach_source.Goals as goal

pub returns-in-Err-clause-reaches : goal.returns-in-Err-clause-reaches
returns-in-Err-clause-reaches g c =
    let x = c.args.exploration.now in
    reach_told x c.args.file.now c.args.source.now c.in-Err.stop _ _ _
    (unfit_explored x c.args.source.now c.in-Err.stop c.in-Err.ensures.stop) c.tell.ensures.told

pub returns-clause-reaches : goal.returns-clause-reaches
returns-clause-reaches g c =
    reach_told c.args.exploration.now c.args.file.now c.args.source.now c.in-Err-settled_in.stop _ _ _ c.in-Err-settled_in.ensures.stop c.tell-in-Err-settled_in.ensures.told
