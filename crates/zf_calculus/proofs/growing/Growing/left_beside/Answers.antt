use Rattle.zf_calculus.proofs.Prelude.{◌+◌, ◌-◌, ◌<◌, ◌≡◌, ◌≤◌, arith, length, length-map, conjunct_of, schema_of}
use Rattle.zf_calculus.proofs.Beside.{left_beside, nodes_beside, sets_beside}
use Rattle.zf_calculus.proofs.growing.Growing.left_beside.Goals as goal

pub returns-in_default : goal.returns-in_default
returns-in_default c =
    let past : c.self.inside.left.sets < 4096 - c.other.inside.left.sets = omega (arith, c.in_default.ensures) in
    rw (← c.self.view_is, ← c.other.view_is) record { ok = tt; passed = sets_beside _ _ _ _ _ _ c.self.invariant c.other.invariant past }

pub returns-in_default-checked_sub-clause-passed : goal.returns-in_default-checked_sub-clause-passed
returns-in_default-checked_sub-clause-passed c =
    let past : c.self.inside.left.nodes < 65536 - c.other.inside.left.nodes = omega (arith, c.in_default-checked_sub.ensures) in
    rw (← c.self.view_is, ← c.other.view_is) (nodes_beside _ _ _ _ _ _ c.self.invariant c.other.invariant past)

pub returns-clause-ok : goal.returns-clause-ok
returns-clause-ok c =
    let sets : c.in-Some.sets + (4096 - c.other.inside.left.sets) ≡ c.self.inside.left.sets = omega (arith, c.in-Some.ensures) in
    let nodes : c.in-Some-checked_sub.nodes + (65536 - c.other.inside.left.nodes) ≡ c.self.inside.left.nodes = omega (arith, c.in-Some-checked_sub.ensures) in
    let few : length (schema_of c.self.inside.flat).conjuncts + length (schema_of c.other.inside.flat).conjuncts ≤ 4096 = omega (
      arith,
      length-map c.self.inside.flat.conjuncts conjunct_of,
      length-map c.other.inside.flat.conjuncts conjunct_of,
      c.if-len-gt-CONJUNCTS_MAX.false,
    ) in
    rw (← c.self.view_is, ← c.other.view_is) (left_beside _ _ _ _ _ _ _ _ c.self.invariant c.other.invariant sets nodes few)
