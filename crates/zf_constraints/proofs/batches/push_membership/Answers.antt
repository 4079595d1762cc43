use Rattle.zf_constraints.proofs.Prelude.{◌∙◌, ap, on_ok_weaker, resolved_of, is_member}
use Rattle.zf_constraints.proofs.Memberships.{pushed, none_of_carrier, none_of_sides}
use Rattle.zf_constraints.proofs.batches.push_membership.Goals as goal

pub returns-in-Plain : goal.returns-in-Plain
returns-in-Plain c =
    on_ok_weaker c.push.result (pushed c.args.place c.args.domain.now c.in-Plain.set c.member.result c.args.made.now c.push.new.self c.in-Plain.is
    (c.member.ensures ∙ ap (is_member c.args.place) (ap resolved_of c.share.ensures))) c.push.ensures.ok

pub returns-in-Carrier : goal.returns-in-Carrier
returns-in-Carrier c = none_of_carrier c.args.place c.args.domain.now _ c.args.made.now c.in-Carrier.is

pub returns-in-Either : goal.returns-in-Either
returns-in-Either c = none_of_sides c.args.place c.args.domain.now _ _ c.args.made.now c.in-Either.is
