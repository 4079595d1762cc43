use Rattle.zf_why.proofs.Prelude.{◌++◌, ◌∙◌, ap, List, map, subst, sym, comp_of, conjunct_of, environment_of, ResolvedTree, CanBegin, Decides, chosen_of, IfOk, Conjunct}
use Rattle.zf_why.proofs.Beginning.{each_begins}
use Rattle.zf_why.proofs.Lists.{seen_both}
use Rattle.zf_why.proofs.setting.Setting.allows.Goals as goal

pub has_row-requires : goal.has_row-requires
has_row-requires c =
    let s = c.args.self.now in
    let is = c.in_ok-push_chosen.ensures ∙ ap (λ (ps : List Conjunct). ps ++ chosen_of c.args.conjuncts.now c.args.chosen.now) c.in_ok-part.ensures in
    subst (λ (ps : List ResolvedTree). CanBegin (environment_of s.env.now) (map comp_of s.components.now) ps) (sym (seen_both conjunct_of c.args.given.now c.args.conjuncts.now _ c.args.chosen.now is))
    (each_begins (environment_of s.env.now) (map comp_of s.components.now) (map conjunct_of c.args.given.now) (map conjunct_of c.args.conjuncts.now) c.args.chosen.now c.requires.begins)

pub returns : goal.returns
returns c =
    let s = c.args.self.now in
    let is = c.in_ok-push_chosen.ensures ∙ ap (λ (ps : List Conjunct). ps ++ chosen_of c.args.conjuncts.now c.args.chosen.now) c.in_ok-part.ensures in
    subst (λ (ps : List ResolvedTree). IfOk c.has_row.result (Decides (environment_of s.env.now) (map comp_of s.components.now) s.held.now ps))
    (seen_both conjunct_of c.args.given.now c.args.conjuncts.now _ c.args.chosen.now is) c.has_row.ensures
