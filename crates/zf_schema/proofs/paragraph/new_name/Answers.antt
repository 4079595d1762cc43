use Rattle.zf_schema.proofs.Prelude.{◌∙◌, ◌≡◌, ap, None, subst, sym, told, true≢false, globals_of, first_named, already_defined, IsNew, IsTaken}
use Rattle.zf_schema.proofs.paragraph.new_name.Goals as goal

pub returns-then-not-is_new-clause-fault : goal.returns-then-not-is_new-clause-fault
returns-then-not-is_new-clause-fault c =
    let g = globals_of c.args.globals.now in
    let n = c.args.name.now in
    let taken : IsNew g n → ⊥ = λ e. true≢false (sym (c.is_new.ensures.1
    (subst (λ x. first_named (λ d. d.name) x g ≡ None) (sym (c.as_slice.ensures ∙ c.spelled-spelled.ensures)) e)) ∙ c.if-not-is_new.true) in
    told c.refused.result (already_defined c.spelled-spelled.result) c.name.inside.span (IsTaken g n) c.refused.ensures
    (ap already_defined c.spelled-spelled.ensures, ap (λ m. m.span) c.name.view_is, taken)
