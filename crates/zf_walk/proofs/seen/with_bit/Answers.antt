use Rattle.zf_walk.proofs.Prelude.{cases_eq, ◌∙◌, inl, inr, subst, sym, w64, bit_at_set_other, bit_at_set_same, HasBit}
use Rattle.zf_walk.proofs.seen.with_bit.Goals as goal

pub returns : goal.returns
returns c =
    let other = bit_at_set_other w64 c.args.word c.args.place c.requires in
    let this = bit_at_set_same w64 c.args.word c.args.place c.requires in
    record {
      only = λ i set. elim (cases_eq i c.args.place) [ inl same ↦ inr same | inr ne ↦ inl (sym (other i ne) ∙ set) ];
      more = λ i h. elim (cases_eq i c.args.place) [ inl same ↦ subst (HasBit _) (sym same) this | inr ne ↦ other i ne ∙ h ];
      this = this;
    }
