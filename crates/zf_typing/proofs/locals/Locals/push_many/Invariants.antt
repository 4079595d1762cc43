use Rattle.zf_typing.proofs.Prelude.{◌++◌, ◌≡◌, map, into_iter_items}
use Rattle.zf_typing.proofs.Halves.{BeginsWith}
use Rattle.zf_typing.proofs.locals.Locals.push_many.Given as goal

abbrev pub invariant-loop-chained : goal.invariant-loop-chained
invariant-loop-chained l = record {
  whole : l.self ++ map (λ c. c.variable) (into_iter_items l.chained-iterator) ≡ l.initial.self ++ map (λ c. c.variable) l.fn.many.items;
  begins : BeginsWith l.initial.self l.self;
}
