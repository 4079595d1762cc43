use Rattle.zf_why.proofs.Prelude.{◌++◌, Bool, List, map, subst, sym, comp_of, conjunct_of, environment_of, HasRow, IsMinimal, ResolvedTree, chosen_of, IfOk, length-map}
use Rattle.zf_why.proofs.Lists.{all_seen}
use Rattle.zf_why.proofs.explaining.core.Goals as goal

pub minimal-requires-clause-none : goal.minimal-requires-clause-none
minimal-requires-clause-none c = λ h.
    let s = c.args.setting.now in
    c.requires.none (subst (λ (ps : List ResolvedTree). HasRow (environment_of s.env.now) (map comp_of s.components.now) s.held.now
    (map conjunct_of c.args.given.now ++ ps)) (all_seen conjunct_of c.args.conjuncts.now) h)

pub returns : goal.returns
returns c =
    let s = c.args.setting.now in
    let Possible = (λ (m : List Bool). HasRow (environment_of s.env.now) (map comp_of s.components.now) s.held.now
    (map conjunct_of c.args.given.now ++ chosen_of (map conjunct_of c.args.conjuncts.now) m)) in
    subst (λ n. IfOk c.minimal.result (λ chosen. IsMinimal Possible n chosen.items)) (sym (length-map c.args.conjuncts.now conjunct_of)) c.minimal.ensures
