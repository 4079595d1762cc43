use Rattle.zf_enum.proofs.Prelude.{◌≡◌, [], arith, get_or, List, subst, sym, IfOk-weaker, AllPairs, Less, range-is, length-picked, picked, value_order, Value, resolved_of, environment_of, in_row, HasOutcome, IsKept}
use Rattle.zf_enum.proofs.Trying.{one_candidate}
use Rattle.zf_enum.proofs.candidates.gather_value.Goals as goal

pub gather_outcome-requires : goal.gather_outcome-requires
gather_outcome-requires c = subst (λ (r : List Value). AllPairs (λ v w. value_order v w ≡ Less) r) (sym c.index-ranges-next.is)
    (c.requires.ascending c.args.next c.index-ranges-next.result c.requires.next)

pub returns : goal.returns
returns c =
    let ranges = c.args.ranges.now in
    let front = picked c.args.ranges.now c.args.places.now in
    let t = resolved_of c.args.side.now in
    let e = environment_of c.args.env.now in
    let o = c.in_ok-outcome.outcome in
    let xs = c.gather_outcome.new.gathered.items in
    let range = range-is c.args.ranges.now c.args.next c.index-ranges-next.result c.requires.next c.index-ranges-next.is in
    let here = subst (λ (vs : List Value). HasOutcome (in_row e vs) t o) c.new-row.ensures c.in_ok-outcome.ensures in
    let long = length-picked c.args.ranges.now c.args.places.now c.requires.within in record {
      stay = c.gather_outcome.ensures.stay;
      candidates = IfOk-weaker c.gather_outcome.result _ _
          (λ found h u. one_candidate c.args.tie e t ranges (get_or c.args.ranges.now c.args.next []) front xs o (omega (arith, long, c.requires.due)) here
          (subst (λ (r : List Value). IsKept c.args.tie o r xs) (sym range) (h u))) c.gather_outcome.ensures.kept;
    }
