use Rattle.zf_unfold.proofs.Prelude.{environment_of}
use Rattle.zf_unfold.proofs.Steps.{all_values, none_added, one_value_more}
use Rattle.zf_unfold.proofs.members.add_members.Goals as goal

pub loop-member-init : goal.loop-member-init
loop-member-init c = none_added _

pub loop-member-preserved : goal.loop-member-preserved
loop-member-preserved c =
    let l = c.loop-member in
    one_value_more (environment_of c.args.own.now) (environment_of l.own) (environment_of c.add.new.self) c.args.members.now l.member-index
    c.member-item.result c.in_ok-value.value c.member-item.is c.loop-member-test.true c.in_ok-value.ensures l.invariant c.in_ok-add.ensures

pub returns : goal.returns
returns c =
    let l = c.loop-member in all_values (environment_of c.args.own.now) (environment_of l.own) c.args.members.now l.member-index c.loop-member-test.false l.invariant
