use Rattle.zf_enum.proofs.Prelude.{◌∙◌, ap, fold}
use Rattle.std.specs.Hash.FoldHasher as folding
use Rattle.zf_value.specs.contracts.plain.ValueHash.TheImpl as hashed
use Rattle.zf_enum.specs.{number_of}
use Rattle.zf_enum.proofs.keys.number_of.Goals as goal

pub returns : goal.returns
unfolding number_of
returns c = c.finish.ensures ∙ ap folding.finish (c.hash.ensures ∙ ap (λ h. fold folding.write h (hashed.ghosts.hash_input c.args.value.now)) c.default-hasher.ensures)
