use Rattle.zf_reach.proofs.Prelude.{◌-◌, ◌≡◌, arith, slice_get, slice_get_within, Some, subst, sym, nil_from_length}
use Rattle.zf_reach.proofs.Trails.{chain_last, chain_over, way_further}
use Rattle.zf_reach.proofs.trail.append_way.Goals as goal

pub append_step-requires-clause-some : goal.append_step-requires-clause-some
append_step-requires-clause-some g c = (chain_last _ _ _ _ _ _ c.in-Some.ensures.items c.steps.invariant.1).some

pub append_step-requires-clause-kept : goal.append_step-requires-clause-kept
append_step-requires-clause-kept g c =
    let l = chain_last _ _ _ _ _ _ c.in-Some.ensures.items c.steps.invariant.1 in
    let w = slice_get_within c.args.search.now.trail.items (c.in-Some.number - 1) l.arrival l.kept in
    let s = l.some in
    omega (arith, w, s)

pub append_step-requires-clause-met : goal.append_step-requires-clause-met
append_step-requires-clause-met g c =
    let l = chain_last _ _ _ _ _ _ c.in-Some.ensures.items c.steps.invariant.1 in
    let w = slice_get_within c.args.search.now.trail.items (c.in-Some.number - 1) l.arrival l.kept in
    let s = l.some in
    let e = c.requires.each in
    omega (arith, w, s, e)

pub steps-preserved : goal.steps-preserved
steps-preserved g c =
    let l = chain_last _ _ _ _ _ _ c.in-Some.ensures.items c.steps.invariant.1 in (
      c.in-Some.number,
      l.chain,
      way_further (g.M.Machine.explored c.args.machine.now)
          (g.M.Machine.words c.args.machine.now) _ _ c.in-Some.number c.steps.invariant.0 l.arrival l.some l.kept l.from _ _ _ c.steps.invariant.2
          c.in_ok-append_step.ensures,
    )

pub returns : goal.returns
returns g c = λ met item shown at.
    let none = c.in_default.ensures.cases.0 in
    let same = c.steps.way.ok in
    let end = chain_over _ _ _ _ (nil_from_length c.steps.way.items (omega (arith, none, same))) c.steps.invariant.1 in
    c.steps.invariant.2 met item shown (subst (λ k. slice_get met k ≡ Some item) (sym end) at)
