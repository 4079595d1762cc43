use Rattle.zf_families.proofs.Prelude.{◌*◌, ◌+◌, ◌^◌, ◌∙◌, ap, length, min, SET_MAX}
use Rattle.zf_families.proofs.RelationSets.{min_power}
use Rattle.zf_families.proofs.arrow.count_of.Goals as goal

pub returns-in-Relation : goal.returns-in-Relation
returns-in-Relation c =
    rw (c.in-Relation.is) (c.power.ensures ∙ ap (λ n. min (2 ^ n) (SET_MAX + 1)) c.product.ensures ∙ min_power (length c.args.a.now * length c.args.b.now) (SET_MAX + 1))
