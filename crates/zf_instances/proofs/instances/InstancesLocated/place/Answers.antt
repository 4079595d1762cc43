use Rattle.zf_enum.proofs.Placing.{is_given, of_given}
use Rattle.zf_instances.proofs.instances.InstancesLocated.place.Goals as goal

pub place-requires : goal.place-requires
place-requires c = is_given c.args.self.now.search.stage.last c.args.i c.requires

pub returns : goal.returns
returns c = of_given c.args.self.now.search.stage.last c.args.i _ c.requires c.place.ensures
