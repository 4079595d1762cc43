use Rattle.zf_parts.proofs.Prelude.{◌∙◌, inl, inr, refl, ◌/◌, word_at}
use Rattle.zf_parts.proofs.Marking.{page_others, page_there}
use Rattle.zf_parts.proofs.marks.Marks.mark.Goals as goal

pub returns-clause-there : goal.returns-clause-there
returns-clause-there c =
    page_there c.open.new.self.pages.items (c.args.number / 1024) (word_at c.open.new.self.entries (c.args.number / 1024)) c.in_ok-place.place c.in_ok-place.ensures.kept
    c.index_mut.result.now c.index_mut.ensures.value c.set_bit.new.page c.set_bit.ensures.number c.args.number refl c.set_bit.ensures.there

pub returns-clause-others : goal.returns-clause-others
returns-clause-others c = λ i. elim (page_others c.open.new.self.pages.items (c.args.number / 1024) (word_at c.open.new.self.entries (c.args.number / 1024)) c.in_ok-place.place c.in_ok-place.ensures.kept
    c.index_mut.result.now c.index_mut.ensures.value c.set_bit.new.page c.set_bit.ensures.number c.args.number refl c.set_bit.ensures.others (word_at c.open.new.self.entries) refl i) [
      | inl same ↦ inl same
      | inr before ↦ inr (before ∙ c.in_ok-place.ensures.same i)
    ]
