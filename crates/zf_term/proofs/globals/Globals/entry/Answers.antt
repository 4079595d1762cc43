use Rattle.zf_term.proofs.Entries.{entry_found}
use Rattle.zf_term.proofs.globals.Globals.entry.Goals as goal

pub returns : goal.returns
returns c = entry_found c.args.name.now c.args.self.now.entries.entries c.get.result (rw c.as_bytes.ensures.value at c.get.ensures.value)
