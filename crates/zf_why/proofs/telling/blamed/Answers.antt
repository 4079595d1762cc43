use Rattle.zf_why.proofs.Prelude.{◌∙◌, ap, length, map, comp_of, conjunct_of, environment_of, length-map}
use Rattle.zf_why.proofs.Gathered.{blamed_by}
use Rattle.zf_why.proofs.telling.blamed.Goals as goal

pub chosen_parts-requires : goal.chosen_parts-requires
chosen_parts-requires c = ap length c.deref.ensures.value ∙ c.in_ok-chosen.ensures.each ∙ length-map c.args.conjuncts.now conjunct_of

pub returns : goal.returns
returns c =
    let s = c.args.setting.now in
    blamed_by (environment_of s.env.now) (map comp_of s.components.now) s.held.now (map conjunct_of c.args.given.now)
    (map conjunct_of c.args.conjuncts.now) c.chosen_parts.result c.in_ok-chosen.chosen.items c.deref.result.now
    c.in_ok-chosen.ensures c.deref.ensures.value c.chosen_parts.ensures
