use Rattle.zf_term.proofs.Prelude.{◌++◌, ◌∙◌, ◌∷◌, ◌≡◌, [], ap, None, subst, sym, definition_of, globals_of, first_named}
use Rattle.indexmap.proofs.CallerLemmas.{insert_entry-new}
use Rattle.zf_term.proofs.Entries.{no_entry, seen_more}
use Rattle.zf_term.proofs.globals.Globals.define.Goals as goal

pub returns-clause-ok : goal.returns-clause-ok
returns-clause-ok c =
    let map = c.args.self.now.entries in
    let key = c.in_ok-key.key in
    let is = c.in_ok-key.ensures.items ∙ c.as_slice.ensures in
    let new = no_entry key.items map.entries (subst (λ x. first_named (λ d. d.name) x (globals_of c.args.self.now) ≡ None) (sym is) c.requires) in
    seen_more map.entries c.insert.new.self.entries key c.args.entry (c.in_ok-insert.ensures.entries ∙ insert_entry-new _ map key c.args.entry new)
    ∙ ap (λ x. globals_of c.args.self.now ++ record { name = x; definition = definition_of c.args.entry } ∷ []) is
