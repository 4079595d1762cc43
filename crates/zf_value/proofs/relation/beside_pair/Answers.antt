use Rattle.zf_value.proofs.Prelude.{◌∙◌, ◌∷◌, [], ap, sym, slice_cmp, level_of, value_order}
use Rattle.zf_value.proofs.Stretches.{beside_pair}
use Rattle.zf_value.proofs.relation.beside_pair.Goals as goal

pub returns-in-Tuple : goal.returns-in-Tuple
returns-in-Tuple c = c.parts_beside_pair.ensures ∙ ap (λ ps. slice_cmp value_order ps (c.args.x.now ∷ c.args.y.now ∷ [])) c.as_slice.ensures
    ∙ sym (beside_pair _ _ _ _ (c.form.ensures.level ∙ ap level_of c.in-Tuple.is))

pub returns-in-SetOf : goal.returns-in-SetOf
returns-in-SetOf c = sym (beside_pair _ _ _ _ (c.form.ensures.level ∙ ap level_of c.in-SetOf.is))

pub returns-in-Int : goal.returns-in-Int
returns-in-Int c = sym (beside_pair _ _ _ _ (c.form.ensures.level ∙ ap level_of c.in-Int.is))

pub returns-in-Elem : goal.returns-in-Elem
returns-in-Elem c = sym (beside_pair _ _ _ _ (c.form.ensures.level ∙ ap level_of c.in-Elem.is))
