use Rattle.zf_enum.proofs.Prelude.{◌∙◌, ap, length, List, Some, subst, sym, IfOk-weaker, range-is, resolved_of, environment_of, Value, AreRuledOut}
use Rattle.zf_enum.proofs.Balanced.{balanced}
use Rattle.zf_enum.proofs.sums.gather_balanced.Goals as goal

pub returns-in-Ok : goal.returns-in-Ok
returns-in-Ok c =
    let it = c.in-Some.it in
    let is = c.in-Some.ensures in
    let ranges = c.args.ranges.now in
    let places = c.args.places.now in
    let found = c.gather_possible.new.gathered.items in
    let s = c.in-Ok.interval in
    let column = range-is ranges (length places) c.index-ranges-next.result c.requires.deeper c.index-ranges-next.is in record {
      stay = c.gather_possible.ensures.stay;
      leaves = IfOk-weaker c.gather_possible.result _ _
          (λ b h u ts leaf at. balanced (environment_of c.args.env.now) ts leaf is.0 (resolved_of it.left.now) (resolved_of it.right.now) it.relation s ranges places
          found (at ∙ ap Some is.1) c.in-Ok.ensures (subst (λ (range : List Value). AreRuledOut it.relation s range found) (sym column) (h u)))
          c.gather_possible.ensures.ruled_out;
    }
