use Rattle.zf_why.proofs.Prelude.{None, Option, refl, subst, sym, environment_of, IfOk, resolved_of, in_row, AreOutcomesIn, Related}
use Rattle.zf_why.proofs.HeldOutcomes.{not_two, two}
use Rattle.zf_why.proofs.operands.chain_in.Goals as goal

pub returns-then-further-ne1 : goal.returns-then-further-ne1
returns-then-further-ne1 g c =
    subst (λ (r : Option Related). AreOutcomesIn (in_row (environment_of c.args.env.now) (g.R.Row.values c.args.row.now)) r None)
    (sym (not_two (resolved_of c.args.first.now) c.args.further.now c.if-further-ne1.true)) refl

pub returns : goal.returns
returns g c =
    subst (λ (r : Option Related). IfOk c.both_in.result (AreOutcomesIn (in_row (environment_of c.args.env.now) (g.R.Row.values c.args.row.now)) r))
    (two (resolved_of c.args.first.now) c.args.further.now c.index-further-0.result c.if-further-ne1.false c.index-further-0.is) c.both_in.ensures
