use Rattle.zf_unfold.proofs.Prelude.{◌≡◌, map, take, environment_of, longer, Is}
use Rattle.zf_unfold.proofs.members.add_members.Given as goal

abbrev pub invariant-loop-member : goal.invariant-loop-member
invariant-loop-member l = environment_of l.own ≡ longer (environment_of l.fn.own) (map Is (take l.member-index l.members))
