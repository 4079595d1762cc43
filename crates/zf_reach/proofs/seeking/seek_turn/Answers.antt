use Rattle.zf_reach.proofs.Prelude.{ap, some_at}
use Rattle.zf_reach.proofs.Seeks.{goes_on, search_begun, search_unopened}
use Rattle.zf_reach.proofs.seeking.seek_turn.Goals as goal

pub returns-in-Out-clause-left : goal.returns-in-Out-clause-left
returns-in-Out-clause-left g c =
    let b = some_at c.args.search.now.run.met.keys c.args.search.now.run.place c.requires.next in
    let a = (rw c.in-Out.is at c.in_ok-begin_turn.ensures.begins) b.0 b.1 in
    let same = c.in_ok-begin_turn.ensures.same in
    search_unopened (g.M.Machine.explored c.args.machine.now) (g.M.Machine.sought c.args.machine.now) c.args.limit _
    (g.met.M.Machine.of_graph c.args.machine.now) (g.M.Machine.words c.args.machine.now)
    (g.M.Machine.verdict c.args.machine.now) _ _ _ _ c.requires.before b.0 _ b.1 a.1.1 _ _ (ap (λ m. m.keys) same.0) same.2

pub seek_parts-requires : goal.seek_parts-requires
seek_parts-requires g c =
    let b = some_at c.args.search.now.run.met.keys c.args.search.now.run.place c.requires.next in
    let a = c.in_ok-begin_turn.ensures.begins b.0 b.1 in
    let same = c.in_ok-begin_turn.ensures.same in
    let h = goes_on (g.M.Machine.explored c.args.machine.now) c.in_ok-begin_turn.field-0 c.in-Regular.is b.0 a.0 (g.M.Machine.stop c.begin_turn.new.run.cursor)
    (g.M.Machine.HasPassed c.args.machine.now b.0 0 a.0) a.1 a.2 in
    record {
      begun = search_begun (g.M.Machine.explored c.args.machine.now) (g.M.Machine.sought c.args.machine.now) c.args.limit _ _ _ _ c.requires.before
          (λ of now. g.M.Machine.HasPassed c.args.machine.now of 0 now) b.0 a.0 h.0 b.1 h.1 h.2 h.3 _ _ _ (ap (λ m. m.keys) same.0) same.1 same.2;
      fits = c.in_ok-begin_turn.ensures.fits;
    }
