use Rattle.zf_parts.proofs.Prelude.{◌∙◌, ap, refl, subst, sym, ◌/◌, bit_of, is_marked, IsPlaced, word_at}
use Rattle.zf_parts.proofs.Marking.{as_sight, read_has}
use Rattle.zf_parts.proofs.marks.Marks.ahead.Goals as goal

pub returns-in-Some : goal.returns-in-Some
returns-in-Some c =
    let h = subst (λ ps. IsPlaced ps c.get-entry.result (c.args.number / 1024) c.in-Some.place) c.deref.ensures.value c.in-Some.ensures in
    as_sight (bit_of c.index.result.now) (is_marked c.args.self.now) c.args.number
    (λ n here. read_has c.args.self.now.pages.items _ _ _ h c.index.result.now c.index.ensures c.index.result.now refl _ n (ap (word_at c.args.self.now.entries) here ∙ sym c.get-entry.ensures) here)
    c.bit_ahead.result c.bit_ahead.ensures.ahead c.bit_ahead.ensures.within
