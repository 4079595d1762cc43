use Rattle.zf_meaning.proofs.Prelude.{drop, environment_of}
use Rattle.zf_meaning.proofs.CarrierLists.{CarriersTo}
use Rattle.zf_meaning.proofs.carrier.+carrier.Given as goal

abbrev pub invariant-carriers_of-loop-part : goal.invariant-carriers_of-loop-part
invariant-carriers_of-loop-part l = CarriersTo (environment_of l.env) l.parts (drop l.part-index l.parts) l.gathered.lack l.gathered.values.items
