-- The searches are in the environment.
use Rattle.zf_steps.proofs.Prelude.{IfOk, List, OnErr, subst, sym, ℕ, Appends, IsExplored, device_of, always_on_err, ending_of, StopsEarly, explored_in, Fits, IsFor, system_of, words, schema_of}
use Rattle.zf_reach.proofs.Running.{stops_at_once}
use Rattle.zf_steps.proofs.flat.explore_flat.Goals as goal

pub returns-in_err-cursor-clause-err : goal.returns-in_err-cursor-clause-err
returns-in_err-cursor-clause-err g c = always_on_err _ (stops_at_once _ _ _ _)

pub explore_all-requires-clause-fits : goal.explore_all-requires-clause-fits
explore_all-requires-clause-fits g c =
    let k = c.in_ok-cursor.cursor in
    subst (λ e. Fits IsFor (system_of e schema_of c.args.system.now) k.state k.init k.operations.items k.part) (sym c.in_ok-cursor.ensures.of_state.environment) c.in_ok-cursor.ensures

pub returns-clause-ok : goal.returns-clause-ok
returns-clause-ok g c =
    subst (λ e. IfOk c.explore_all.result (λ ending. (at text : List ℕ) × IsExplored (explored_in (system_of e schema_of c.args.system.now))
    (words (system_of e schema_of c.args.system.now)) c.args.limit (ending_of ending at) text
    × Appends (g.W.Write.contents (device_of c.args.writer.now)) (g.W.Write.contents (device_of c.explore_all.new.writer)) text)) c.in_ok-cursor.ensures.of_state.environment c.explore_all.ensures.ok

pub returns-clause-err : goal.returns-clause-err
returns-clause-err g c =
    subst (λ e. OnErr c.explore_all.result (StopsEarly (explored_in (system_of e schema_of c.args.system.now)) (words (system_of e schema_of c.args.system.now)) c.args.limit
    (g.W.Write.contents (device_of c.args.writer.now)) (g.W.Write.contents (device_of c.explore_all.new.writer)))) c.in_ok-cursor.ensures.of_state.environment c.explore_all.ensures.err
