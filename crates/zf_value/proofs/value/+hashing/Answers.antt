use Rattle.zf_value.proofs.Prelude.{◌∙◌, ap, sym, fold}
use Rattle.zf_value.specs.contracts.plain.ValueHash.TheImpl as fed
use Rattle.zf_value.proofs.Levels.{fed_alike}
use Rattle.zf_value.proofs.value.+hashing.Goals as goal

pub ValueHash::hash-returns : goal.ValueHash::hash-returns
ValueHash::hash-returns g t c = c.hash.ensures ∙ ap (fold g.__H.Hasher.write c.args.state.now) (sym (fed_alike c.self.inside.form) ∙ ap fed.ghosts.hash_input c.self.view_is)
