use Rattle.zf_enum.proofs.Prelude.{◌≡◌, List, map, sym, subst, Resolved, resolved_of, AreSpreads}
use Rattle.zf_enum.specs.declared.spread.Spread.{Spread}
use Rattle.zf_enum.proofs.conjuncts.Conjuncts.spread.Goals as goal

pub returns : goal.returns
returns c =
    let terms : c.self.inside.terms.items ≡ c.args.self.now = (cc) in
    let held = subst (λ (ss : List Spread). AreSpreads (map resolved_of c.self.inside.terms.items) ss) (sym c.deref.ensures.value) c.self.invariant in
    c.spread_at.ensures (map resolved_of c.args.self.now) (subst (λ (ts : List Resolved). AreSpreads (map resolved_of ts) c.deref.result.now) terms held)
