use Rattle.zf_grammar.proofs.Prelude.{◌∙◌, ap, first}
use Rattle.zf_grammar.proofs.Cursored.{first_at}
use Rattle.zf_grammar.proofs.cursor.Cursor.peek.Goals as goal

pub returns-in-len1-up : goal.returns-in-len1-up
returns-in-len1-up c = c.seen.ensures _ _ ∙ first_at c.self.inside.text.now c.self.inside.rest.now _ c.in-len1-up.len_at_least ∙ ap first c.self.view_is
