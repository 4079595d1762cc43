use Rattle.zf_term.proofs.Prelude.{◌∙◌, ap, map, sym, take-map, definition_of}
use Rattle.zf_term.proofs.globals.Globals.truncate.Goals as goal

pub returns : goal.returns
returns c = ap (map (λ e. record { name = e.0.items; definition = definition_of e.1 })) c.truncate.ensures.entries ∙ sym (take-map _ c.args.len c.args.self.now.entries.entries)
