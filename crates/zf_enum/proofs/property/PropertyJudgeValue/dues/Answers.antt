use Rattle.zf_enum.proofs.Prelude.{◌<◌, ◌∙◌, ap, get_or, length, List, map, resolved_of, subst, ℕ, get_or_default}
use Rattle.zf_enum.proofs.Judging.{as_many, need_at}
use Rattle.zf_enum.proofs.property.PropertyJudgeValue.dues.Goals as goal

pub returns-clause-all : goal.returns-clause-all
returns-clause-all c =
    ap length c.deref.ensures.value ∙ as_many c.args.self.now.dues.items (map resolved_of c.args.self.now.conjuncts) c.args.self.now.needed

pub returns-clause-each : goal.returns-clause-each
returns-clause-each c = λ k l.
    let ds = c.args.self.now.dues.items in
    let ts = map resolved_of c.args.self.now.conjuncts in
    let inside : k < length ds = subst (λ (xs : List ℕ). k < length xs) c.deref.ensures.value l in
    let near : k < length ts = subst (λ n. k < n) (as_many ds ts c.args.self.now.needed) inside in
    ap (λ (xs : List ℕ). get_or xs k 0) c.deref.ensures.value ∙ need_at ds ts k (get_or ds k 0) c.args.self.now.needed near (get_or_default ds k 0 (get_or ds k 0) inside)
