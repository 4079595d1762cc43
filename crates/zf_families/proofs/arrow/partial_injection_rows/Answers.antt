use Rattle.zf_families.proofs.Prelude.{◌∷◌, ◌≡◌, [], IfOk-weaker, arrow_rows}
use Rattle.zf_tree.specs.declared.symbol.Arrow.TheVariants as kind
use Rattle.zf_families.proofs.Injections.{single_pairs, single_pair_rows}
use Rattle.zf_families.proofs.arrow.partial_injection_rows.Goals as goal

pub returns-in-len1 : goal.returns-in-len1
returns-in-len1 c =
    IfOk-weaker c.single_pairs.result (λ rows. rows.items ≡ [] ∷ single_pairs c.args.a.now c.y-item.result) (λ rows. rows.items ≡ arrow_rows kind.PartialInjection c.args.a.now c.args.b.now)
    (λ rows e. single_pair_rows c.args.a.now c.args.b.now c.y-item.result rows.items c.in-len1.len_at_least c.in-len1.len_below c.y-item.is e) c.single_pairs.ensures
