use Rattle.zf_typing.proofs.Prelude.{◌*◌, ◌+◌, ◌∙◌, ◌∷◌, ap, arith, drop, refl, sym, at_drop_more, drop_all, bucket_from, bucket}
use Rattle.std.proofs.lemmas.Nat.{mod_below}
use Rattle.zf_typing.proofs.spelling.bucket_of.Goals as goal

pub loop-byte-init : goal.loop-byte-init
unfolding bucket
loop-byte-init c = record {
  small = omega arith;
  ahead = refl;
}

pub loop-byte-preserved : goal.loop-byte-preserved
loop-byte-preserved c = record {
  small = mod_below (c.loop-byte.bucket * 31 + c.from.result) 4096 (omega arith);
  ahead = ap (bucket_from c.loop-byte.bucket) (ap (λ x. x ∷ drop (c.loop-byte.byte-index + 1) c.args.name.now) c.from.ensures
      ∙ sym (at_drop_more (λ z. z) c.args.name.now c.loop-byte.byte-index 0 c.loop-byte-test.true)) ∙ c.loop-byte.invariant.ahead;
}

pub returns-clause-is : goal.returns-clause-is
returns-clause-is c = ap (bucket_from c.loop-byte.bucket) (sym (drop_all c.loop-byte.byte-index c.args.name.now (omega arith))) ∙ c.loop-byte.invariant.ahead
