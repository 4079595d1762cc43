use Rattle.zf_families.proofs.Prelude.{ltb, AreArrows, members, SET_MAX}
use Rattle.zf_families.proofs.Told.{TellsOut}
use Rattle.zf_families.proofs.ByKind.{arrows_out}
use Rattle.zf_families.proofs.arrow.are_arrows_out.Goals as goal

pub returns : goal.returns
returns c =
    let told : TellsOut (AreArrows c.args.kind (members c.args.a.now) (members c.args.b.now)) (ltb SET_MAX c.count_of.result) =
    rw (← c.members.ensures.is, ← c.members-2.ensures.is)
    (arrows_out c.args.kind c.members.result.now c.members-2.result.now c.members.ensures.ascending c.members-2.ensures.ascending c.count_of.result c.count_of.ensures) in
    record { out = told.0; there = told.1 }
