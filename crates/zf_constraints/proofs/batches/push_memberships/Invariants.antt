use Rattle.zf_constraints.proofs.Prelude.{◌++◌, ◌≡◌, map, set_of, conjunct_of, membership}
use Rattle.std.specs.Prelude.{flat_map}
use Rattle.zf_constraints.proofs.batches.push_memberships.Given as goal

abbrev pub invariant-loop-domain : goal.invariant-loop-domain
invariant-loop-domain l = map conjunct_of l.made ++ flat_map (membership l.place) (map set_of l.domain-iterator) ≡ map conjunct_of l.initial.made
    ++ flat_map (membership l.place) (map set_of l.domains)
