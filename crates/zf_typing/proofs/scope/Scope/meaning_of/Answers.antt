use Rattle.zf_typing.proofs.Prelude.{◌∙◌, ap, Some, sym, Component, Global, Local, comp_of, entry_of, type_of, typed, variable_of, scope_of}
use Rattle.zf_typing.proofs.Named.{means_local, means_component, means_global, means_nothing}
use Rattle.zf_typing.proofs.scope.Scope.meaning_of.Goals as goal

pub returns-in-Some : goal.returns-in-Some
unfolding scope_of
returns-in-Some c =
    ap (λ t. Some (Local c.in-Some.place, typed (type_of t))) c.in_ok-share.ensures
    ∙ sym (means_local (scope_of c.args.self.now) c.args.name.now c.in-Some.place (variable_of c.in-Some.variable.now) (c.in-Some.ensures))

pub returns-in-Some-component_of : goal.returns-in-Some-component_of
unfolding scope_of
returns-in-Some-component_of c =
    let no_local = c.in_default.ensures in
    ap (λ t. Some (Component c.in-Some-component_of.place, typed (type_of t))) c.in_ok-share-2.ensures
    ∙ sym (means_component (scope_of c.args.self.now) c.args.name.now c.in-Some-component_of.place (comp_of c.in-Some-component_of.component.now) no_local c.in-Some-component_of.ensures)

pub returns-in_ok-sort-in-Some-global_of : goal.returns-in_ok-sort-in-Some-global_of
unfolding scope_of
returns-in_ok-sort-in-Some-global_of c =
    let no_local = c.in_default.ensures in
    ap (λ z. Some (Global c.in-Some-global_of.place, z)) c.in_ok-sort-in-Some-global_of.ensures
    ∙ sym (means_global (scope_of c.args.self.now) c.args.name.now c.in-Some-global_of.place
    (entry_of c.args.name.now c.in-Some-global_of.entry.now) no_local c.in_default-component_of.ensures c.in-Some-global_of.ensures)

pub returns-in-None : goal.returns-in-None
unfolding scope_of
returns-in-None c =
    let no_local = c.in_default.ensures in
    sym (means_nothing (scope_of c.args.self.now) c.args.name.now no_local c.in_default-component_of.ensures c.in-None.ensures)
