use Rattle.zf_lift.proofs.Prelude.{◌≤◌, ◌∙◌, arith, length, List, subst, sym, Defined, resolved_of, environment_of}
use Rattle.zf_lift.proofs.Arms.{all_told}
use Rattle.zf_lift.proofs.lifting.worked_out.Goals as goal

pub returns : goal.returns
returns c =
    let e = environment_of c.args.base.now in
    let f = environment_of c.args.own.now in
    let part = resolved_of c.args.part.now in
    let t = resolved_of c.args.term.now in
    let behind = subst (λ (ds : List Defined). length ds ≤ length f.outcomes) c.globals.ensures (omega (arith, c.len.ensures.len, c.count.ensures, c.if-count-len.false)) in
    all_told c.args.depth e f part t c.value_behind.result c.unwrap_or.result (sym c.is_liftable.ensures ∙ c.if-not-is_liftable.false) behind c.value_behind.ensures c.unwrap_or.ensures
