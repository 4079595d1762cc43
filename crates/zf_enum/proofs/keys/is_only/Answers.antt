use Rattle.zf_enum.proofs.Prelude.{◌∙◌, ◌+◌, ◌≤◌, ◌≡◌, arith, due, resolved_of, sym, true, uses}
use Rattle.zf_enum.proofs.Keying.{only_one}
use Rattle.zf_enum.proofs.keys.is_only.Goals as goal

pub returns : goal.returns
returns c = λ u.
    let t = resolved_of c.args.term.now in
    let k = c.args.component in
    let named : uses t k ≡ true = sym c.uses.ensures ∙ c.if-not-uses.false in
    let low : due t ≤ k + 1 = omega (arith, c.due.ensures, c.saturating_sub.ensures, c.if-saturating_sub-component.false) in
    only_one t k c.loop-other.other named low (omega (arith, c.loop-other-test.false)) c.loop-other.invariant
