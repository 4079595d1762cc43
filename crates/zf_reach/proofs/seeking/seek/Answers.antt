use Rattle.zf_reach.proofs.Fronts.{always_on_err}
use Rattle.zf_reach.proofs.Seeks.{search_first, stops_in_text, stops_unwritten}
use Rattle.zf_reach.specs.{result_of}
use Rattle.zf_reach.proofs.seeking.seek.Goals as goal

pub returns-in_err-search-clause-err : goal.returns-in_err-search-clause-err
returns-in_err-search-clause-err g c = always_on_err _ (stops_unwritten _ _ _ _ _ _)

pub seek_turns-requires-clause-before : goal.seek_turns-requires-clause-before
seek_turns-requires-clause-before g c =
    let s = c.in_ok-search.ensures in
    search_first (g.M.Machine.explored c.args.machine.now) (g.M.Machine.sought c.args.machine.now) c.args.limit c.requires.limited _ _ _ _ s.met s.none.2 s.none.0 s.none.1

pub seek_turns-requires-clause-fits : goal.seek_turns-requires-clause-fits
seek_turns-requires-clause-fits g c = rw c.in_ok-search.ensures.cursor c.requires.fits

pub returns-in_err-finding-clause-err : goal.returns-in_err-finding-clause-err
returns-in_err-finding-clause-err g c = always_on_err _ (stops_unwritten _ _ _ _ _ _)

pub returns-in_err-text-clause-err : goal.returns-in_err-text-clause-err
returns-in_err-text-clause-err g c = always_on_err _ (stops_unwritten _ _ _ _ _ _)

pub returns-in_err-write_text-clause-err : goal.returns-in_err-write_text-clause-err
returns-in_err-write_text-clause-err g c =
    let stop = g.M.Machine.stop c.seek_turns.new.search.run.cursor in
    always_on_err _ (stops_in_text _ _ _ _ _ _ (result_of c.in_ok-finding.finding stop) _ _ (rw c.deref.ensures.value c.in_ok-text.ensures) c.in_err-write_text.ensures.err)

pub returns-clause-ok : goal.returns-clause-ok
returns-clause-ok g c =
    (g.M.Machine.stop c.seek_turns.new.search.run.cursor, c.deref.result.now, rw c.deref.ensures.value c.in_ok-text.ensures, c.in_ok-write_text.ensures.ok)
