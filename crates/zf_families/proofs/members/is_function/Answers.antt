use Rattle.zf_value.specs.{members}
use Rattle.zf_families.proofs.Belonging.{function_second, function_first}
use Rattle.zf_families.proofs.members.is_function.Goals as goal

pub returns-then-is_between : goal.returns-then-is_between
returns-then-is_between c = function_second (members c.args.a.now) (members c.args.b.now) c.args.r.now c.requires
    (c.is_between.ensures.0 c.if-is_between.true) c.do_firsts_rise.result c.do_firsts_rise.ensures

pub returns-else-is_between : goal.returns-else-is_between
returns-else-is_between c = function_first (members c.args.a.now) (members c.args.b.now) c.args.r.now c.is_between.result c.is_between.ensures c.if-is_between.false
