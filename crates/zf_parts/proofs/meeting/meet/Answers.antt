use Rattle.zf_parts.proofs.Prelude.{◌∙◌, ◌≡◌, ◌⊎◌, ap, cond, Out, True, Some, subst, sym, true, ℕ, option_copied, AreMarked, is_marked, Meets}
use Rattle.zf_parts.proofs.Passed.{ends_there, known, marks_one, not_asked, past_end}
use Rattle.zf_parts.proofs.Results.{both_ok}
use Rattle.zf_parts.proofs.meeting.meet.Goals as goal

pub returns-then-number-met-clause-meets : goal.returns-then-number-met-clause-meets
returns-then-number-met-clause-meets g c = λ e a named x d taken h.
    past_end e a (g.S.Located.ranges c.args.search.now) named c.args.parts.places.now (option_copied c.args.parts.after) x d (g.S.Row.values c.args.search.now) (cond c.args.is_out Out True) taken c.args.met.now h c.number_of-number.result c.number_of-number.ensures c.if-number-met.true

pub returns-then-has-clause-meets : goal.returns-then-has-clause-meets
returns-then-has-clause-meets g c = λ e a named x d taken h.
    known e a (g.S.Located.ranges c.args.search.now) named c.args.parts.places.now (option_copied c.args.parts.after) x d (g.S.Row.values c.args.search.now) (cond c.args.is_out Out True) taken c.args.met.now h c.number_of-number.result c.number_of-number.ensures (sym c.has.ensures ∙ c.if-has.true)

pub returns-then-not-branch-clause-meets : goal.returns-then-not-branch-clause-meets
returns-then-not-branch-clause-meets g c = λ e a named x d taken h.
    not_asked e a (g.S.Located.ranges c.args.search.now) named c.args.parts.places.now (option_copied c.args.parts.after) x d (g.S.Row.values c.args.search.now) (cond c.args.is_out Out True) taken c.args.met.now h (rw c.if-not-branch.true at c.in_ok-is_asked.ensures)

pub returns-then-is_out-clause-meets : goal.returns-then-is_out-clause-meets
returns-then-is_out-clause-meets g c = λ e a named x d taken h.
    subst (λ row. AreMarked e a (g.S.Located.ranges c.args.search.now) named c.args.parts.places.now (option_copied c.args.parts.after) d
    (record { weights = c.args.met.now.weights; marks = c.args.met.now.marks; end = c.number_of-number.result; out = Some row }))
    (sym (c.in_ok-row.ensures ∙ c.in_ok-values.ensures))
    (ends_there e a (g.S.Located.ranges c.args.search.now) named c.args.parts.places.now (option_copied c.args.parts.after) x d (g.S.Row.values c.args.search.now) (cond c.args.is_out Out True) taken c.args.met.now h c.number_of-number.result c.number_of-number.ensures c.if-number-met.false (sym c.has.ensures ∙ c.if-has.false)
    (rw c.if-not-branch.false at c.in_ok-is_asked.ensures) (ap (λ o. cond o Out True) c.if-is_out.true))

pub returns-clause-meets : goal.returns-clause-meets
returns-clause-meets g c = both_ok c.mark.result
    {A = is_marked c.mark.new.self c.number_of-number.result ≡ true}
    {B = (k : ℕ) → (k ≡ c.number_of-number.result) ⊎ (is_marked c.mark.new.self k ≡ is_marked c.args.met.now.marks k)}
    {C = Meets (g.S.Row.values c.args.search.now) (g.S.Located.ranges c.args.search.now) (cond c.args.is_out Out True) c.args.parts.places.now
    (option_copied c.args.parts.after) c.args.met.now
    (record { weights = c.args.met.now.weights; marks = c.mark.new.self; end = c.args.met.now.end; out = c.args.met.now.out })}
    (λ there others e a named x d taken h.
    marks_one e a (g.S.Located.ranges c.args.search.now) named c.args.parts.places.now (option_copied c.args.parts.after) x d (g.S.Row.values c.args.search.now) (cond c.args.is_out Out True) taken c.args.met.now h c.number_of-number.result c.number_of-number.ensures c.if-number-met.false (sym c.has.ensures ∙ c.if-has.false)
    (rw c.if-not-branch.false at c.in_ok-is_asked.ensures) (ap (λ o. cond o Out True) c.if-is_out.false) c.mark.new.self there others)
    c.mark.ensures.there c.mark.ensures.others
