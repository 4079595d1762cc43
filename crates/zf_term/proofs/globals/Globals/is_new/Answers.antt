use Rattle.zf_term.proofs.Entries.{new_name}
use Rattle.zf_term.proofs.globals.Globals.is_new.Goals as goal

pub returns : goal.returns
returns c = new_name c.args.name.now c.args.self.now.entries.entries c.contains_key.result c.contains_key.ensures
