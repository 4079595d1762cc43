use Rattle.zf_typing.proofs.Prelude.{◌++◌, ◌≡◌, into_iter_items}
use Rattle.zf_typing.proofs.Halves.{BeginsWith}
use Rattle.zf_typing.proofs.locals.Locals.push_few.Given as goal

abbrev pub invariant-loop-variable : goal.invariant-loop-variable
invariant-loop-variable l = record {
  whole : l.self ++ into_iter_items l.variable-iterator ≡ l.initial.self ++ l.fn.few.items;
  begins : BeginsWith l.initial.self l.self;
}
