use Rattle.zf_ranges.proofs.Prelude.{IfOk-weaker, type_of, environment_of}
use Rattle.zf_ranges.proofs.Lacks.{told}
use Rattle.zf_ranges.proofs.Listing.{lists_set}
use Rattle.zf_ranges.proofs.Single.{all_of_carrier, carrier_is_out, endless}
use Rattle.zf_ranges.proofs.leaves.of_carrier.Goals as goal

pub returns-clause-is : goal.returns-clause-is
returns-clause-is c b =
    IfOk-weaker c.members_of.result _ _ (λ xs listed. all_of_carrier (environment_of c.args.env.now)
    (type_of c.args.ztype.now) c.in_ok-outcome.outcome xs.items (endless (environment_of c.args.env.now).numbers (type_of c.args.ztype.now) b)
    c.in_ok-outcome.ensures listed) c.members_of.ensures.is

pub returns-clause-out : goal.returns-clause-out
returns-clause-out c b =
    told c.members_of.result _ _ (carrier_is_out (environment_of c.args.env.now) (type_of c.args.ztype.now) c.in_ok-outcome.outcome
    (endless (environment_of c.args.env.now).numbers (type_of c.args.ztype.now) b) c.in_ok-outcome.ensures) c.members_of.ensures.out

pub returns-clause-ascending : goal.returns-clause-ascending
returns-clause-ascending c = IfOk-weaker c.members_of.result _ _ (λ xs listed. lists_set _ xs.items listed.lists) c.members_of.ensures.is
