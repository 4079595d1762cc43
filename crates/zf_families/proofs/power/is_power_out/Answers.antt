use Rattle.zf_families.proofs.Prelude.{ltb, IsPower, members, SET_MAX}
use Rattle.zf_families.proofs.Told.{TellsOut}
use Rattle.zf_families.proofs.Subsets.{power_out}
use Rattle.zf_families.proofs.power.is_power_out.Goals as goal

pub returns : goal.returns
returns c =
    let told : TellsOut (IsPower (members c.args.a.now)) (ltb SET_MAX c.power.result) =
    rw (← c.members.ensures.is) (power_out c.members.result.now c.members.ensures.ascending c.power.result c.power.ensures) in
    record { out = told.0; there = told.1 }
