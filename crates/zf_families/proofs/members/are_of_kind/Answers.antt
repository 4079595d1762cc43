use Rattle.zf_families.proofs.Prelude.{members}
use Rattle.zf_families.proofs.Belonging.{relation_at, injection_second, injection_first, total_at, total_injection_at, no_total_injection}
use Rattle.zf_families.proofs.members.are_of_kind.Goals as goal

pub returns-in-Relation : goal.returns-in-Relation
returns-in-Relation c = rw (c.in-Relation.is) (relation_at (members c.args.a.now) (members c.args.b.now) c.args.r.now c.is_between.result c.is_between.ensures)

pub returns-in-TotalFunction : goal.returns-in-TotalFunction
returns-in-TotalFunction c = rw (c.in-TotalFunction.is, ← c.members.ensures.is) (total_at c.members.result.now (members c.args.b.now) c.args.r.now c.is_graph.result c.members.ensures.ascending c.requires c.is_graph.ensures)

pub returns-then-is_function : goal.returns-then-is_function
returns-then-is_function c = rw (c.in-PartialInjection.is) (injection_second (members c.args.a.now) (members c.args.b.now) c.args.r.now c.requires
    (c.is_function-in-PartialInjection.ensures.0 c.if-is_function.true) c.are_seconds_apart.result c.are_seconds_apart.ensures)

pub returns-else-is_function : goal.returns-else-is_function
returns-else-is_function c = rw (c.in-PartialInjection.is) (injection_first (members c.args.a.now) (members c.args.b.now) c.args.r.now c.is_function-in-PartialInjection.result c.is_function-in-PartialInjection.ensures c.if-is_function.false)

pub returns-then-is_graph : goal.returns-then-is_graph
returns-then-is_graph c =
    rw (c.in-TotalInjection.is, ← c.members-in-TotalInjection.ensures.is)
    (total_injection_at c.members-in-TotalInjection.result.now (members c.args.b.now) c.args.r.now c.are_seconds_apart-then-is_graph.result c.members-in-TotalInjection.ensures.ascending c.requires
    (c.is_graph-in-TotalInjection.ensures.0 c.if-is_graph.true) c.are_seconds_apart-then-is_graph.ensures)

pub returns-else-is_graph : goal.returns-else-is_graph
returns-else-is_graph c =
    rw (c.in-TotalInjection.is, ← c.members-in-TotalInjection.ensures.is)
    (no_total_injection c.members-in-TotalInjection.result.now (members c.args.b.now) c.args.r.now c.is_graph-in-TotalInjection.result c.members-in-TotalInjection.ensures.ascending c.requires c.is_graph-in-TotalInjection.ensures c.if-is_graph.false)
