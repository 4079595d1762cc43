-- The searches are in the environment.
use Rattle.zf_steps.proofs.Prelude.{IfOk, List, OnErr, subst, sym, ℕ, Appends, IsSearched, device_of, always_on_err, result_of, StopsSearch, explored_in, Fits, IsFor, sought_in, system_of, verdict, words, schema_of}
use Rattle.zf_steps.proofs.flat_seeking.seek_flat.Goals as goal
use Rattle.zf_steps.proofs.Stopping.{stops_at_once}

pub returns-in_err-cursor-clause-err : goal.returns-in_err-cursor-clause-err
returns-in_err-cursor-clause-err g c = always_on_err _ (stops_at_once _ _ _ _ _ _)

pub seek_all-requires-clause-fits : goal.seek_all-requires-clause-fits
seek_all-requires-clause-fits g c =
    let k = c.in_ok-cursor.cursor in
    subst (λ e. Fits IsFor (system_of e schema_of c.args.system.now) k.state k.init k.operations.items k.part) (sym c.in_ok-cursor.ensures.of_state.environment) c.in_ok-cursor.ensures

pub returns-clause-ok : goal.returns-clause-ok
returns-clause-ok g c =
    subst (λ e. IfOk c.seek_all.result (λ finding. (at text : List ℕ) × IsSearched (explored_in (system_of e schema_of c.args.system.now))
    (sought_in (system_of e schema_of c.args.system.now)) (words (system_of e schema_of c.args.system.now))
    (verdict (system_of e schema_of c.args.system.now)) c.args.limit (result_of finding at) text
    × Appends (g.W.Write.contents (device_of c.args.writer.now)) (g.W.Write.contents (device_of c.seek_all.new.writer)) text)) c.in_ok-cursor.ensures.of_state.environment c.seek_all.ensures.ok

pub returns-clause-err : goal.returns-clause-err
returns-clause-err g c =
    subst (λ e. OnErr c.seek_all.result (StopsSearch (explored_in (system_of e schema_of c.args.system.now))
    (sought_in (system_of e schema_of c.args.system.now)) (words (system_of e schema_of c.args.system.now))
    (verdict (system_of e schema_of c.args.system.now)) c.args.limit
    (g.W.Write.contents (device_of c.args.writer.now)) (g.W.Write.contents (device_of c.seek_all.new.writer)))) c.in_ok-cursor.ensures.of_state.environment c.seek_all.ensures.err
