use Rattle.zf_value.proofs.Prelude.{◌∙◌, ◌≡◌, ap, subst, sym, IfOk, IsAscending, members, IfOk-weaker, IsOrdered}
use Rattle.zf_value.proofs.Measures.{members_of_set, no_members}
use Rattle.zf_value.proofs.value.Value.into_members.Goals as goal

pub returns-in_default : goal.returns-in_default
returns-in_default c = record {
  is = c.new.ensures.items ∙ sym (no_members c.self.inside.form c.in_default.not-SetOf) ∙ ap members c.self.view_is;
  ascending = subst IsAscending (sym c.new.ensures.items) tt;
}

pub returns-in-Ok : goal.returns-in-Ok
returns-in-Ok c = record {
  is = c.in-Ok.ensures.is ∙ sym (members_of_set c.self.inside.form _ c.in-SetOf.is) ∙ ap members c.self.view_is;
  ascending = subst IsAscending (sym c.in-Ok.ensures.is) (subst IsOrdered c.in-SetOf.is c.self.invariant);
}

pub returns-in-Err : goal.returns-in-Err
returns-in-Err c =
    let same = c.as_slice.ensures ∙ c.in-Err.ensures.shared in
    record {
      is = subst (λ xs. IfOk c.copied.result (λ out. out.items ≡ xs)) (same ∙ sym (members_of_set c.self.inside.form _ c.in-SetOf.is) ∙ ap members c.self.view_is) c.copied.ensures;
      ascending = IfOk-weaker c.copied.result _ _ (λ out e. subst IsAscending (sym (e ∙ same)) (subst IsOrdered c.in-SetOf.is c.self.invariant)) c.copied.ensures;
    }
