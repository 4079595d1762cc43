use Rattle.zf_reach.proofs.Prelude.{◌∙◌, ap, Appends-nil, false, some_at}
use Rattle.zf_reach.proofs.Fronts.{always_on_err}
use Rattle.zf_reach.proofs.Parts.{closes_unopened, opened, opened_mark, stops_in_mark, stops_unopened}
use Rattle.zf_reach.proofs.exploring.open_turn.Goals as goal

pub returns-in_err-begin_turn-clause-err : goal.returns-in_err-begin_turn-clause-err
returns-in_err-begin_turn-clause-err g c = always_on_err _ (stops_unopened _ _ _ _ _ _ _ _ c.requires.1.1.1.1.1.1.0 c.requires.1.1.1.1.1.1.1.0)

pub returns-in-Out-clause-ok : goal.returns-in-Out-clause-ok
returns-in-Out-clause-ok g c =
    let b = some_at c.args.run.now.met.keys c.args.run.now.place c.requires.1.1.1.1.1.1.1.0 in
    let a = (rw c.in-Out.is at c.in_ok-begin_turn.ensures.begins) b.0 b.1 in
    let same = c.in_ok-begin_turn.ensures.same in
    closes_unopened _ _ _ _ _ _ _ _ b.0 _ c.requires.1.1.1.1.1.1.0 b.1 a.1.1 _ _ (ap (λ m. m.keys) same.0) same.2

pub returns-in-Regular-clause-ok : goal.returns-in-Regular-clause-ok
returns-in-Regular-clause-ok g c =
    let b = some_at c.args.run.now.met.keys c.args.run.now.place c.requires.1.1.1.1.1.1.1.0 in
    let a = (rw c.in-Regular.is at c.in_ok-begin_turn.ensures.begins) b.0 b.1 in
    let same = c.in_ok-begin_turn.ensures.same in
    opened _ _ _ _ (g.M.Machine.HasPassed c.args.machine.now) _ _ _ _ _ b.0 a.0 false c.requires.1.1.1.1.1.1.0 b.1 a.1.0 a.1.1 a.2 (Appends-nil _) _ _ _ _
    (ap (λ m. m.keys) same.0) same.1 same.2 c.in_ok-begin_turn.ensures.stuck

pub returns-in_err-write_stray-in-Stray-clause-err :
    goal.returns-in_err-write_stray-in-Stray-clause-err
returns-in_err-write_stray-in-Stray-clause-err g c =
    let b = some_at c.args.run.now.met.keys c.args.run.now.place c.requires.1.1.1.1.1.1.1.0 in
    let a = (rw c.in-Stray.is at c.in_ok-begin_turn.ensures.begins) b.0 b.1 in
    always_on_err _ (stops_in_mark _ _ _ _ _ _ _ _ _ b.0 a.0 c.requires.1.1.1.1.1.1.0 b.1 a.1.0 a.1.1 _ c.in_ok-begin_turn.ensures.same.1 c.in_err-write_stray-in-Stray.ensures.err)

pub returns-in_ok-write_stray-in-Stray-clause-ok :
    goal.returns-in_ok-write_stray-in-Stray-clause-ok
returns-in_ok-write_stray-in-Stray-clause-ok g c =
    let b = some_at c.args.run.now.met.keys c.args.run.now.place c.requires.1.1.1.1.1.1.1.0 in
    let a = (rw c.in-Stray.is at c.in_ok-begin_turn.ensures.begins) b.0 b.1 in
    let first = c.in_ok-begin_turn.ensures.same in
    let same = c.write_stray.ensures.same in
    opened_mark _ _ _ _ (g.M.Machine.HasPassed c.args.machine.now) _ _ _ _ _ b.0 a.0 c.requires.1.1.1.1.1.1.0 b.1 a.1.0 a.1.1 a.2 _ first.1 c.in_ok-write_stray-in-Stray.ensures.ok
    _ _ _ _ (ap (λ m. m.keys) (same.0 ∙ first.0)) (same.2 ∙ first.1) (same.3 ∙ first.2) (same.4 ∙ c.in_ok-begin_turn.ensures.stuck)
