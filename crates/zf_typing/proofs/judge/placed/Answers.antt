use Rattle.zf_typing.proofs.Prelude.{◌∙◌, refl, sym, true≢false, Offends, sort_of}
use Rattle.zf_term.specs.Faults as fault
use Rattle.zf_typing.proofs.Judging.{judges_ok, judges_err, misplaced, told}
use Rattle.zf_typing.proofs.judge.placed.Goals as goal

pub returns-then-not-meets : goal.returns-then-not-meets
returns-then-not-meets c = λ s e is kept span.
    let n = c.args.place.need in
    let x = sort_of c.args.sort in
    let m = c.args.place.span in
    let lacks = misplaced s n e (fault.misplaced n x) m (x, is, (λ meets. true≢false (sym (c.meets.ensures.1 meets) ∙ c.if-not-meets.true)), refl, span) in
    judges_err s n e c.misplaced.result (told c.misplaced.result (fault.misplaced n x) m (Offends s n e) c.misplaced.ensures lacks)

pub returns : goal.returns
returns c = λ s e is kept span. judges_ok s c.args.place.need e _ (record { is_of = is; met = c.meets.ensures.0 c.if-not-meets.false; term = kept })
