use Rattle.zf_typing.proofs.Prelude.{◌<◌, ◌≡◌, drop, bucket_from, bucket}
use Rattle.zf_typing.proofs.spelling.bucket_of.Given as goal

abbrev pub invariant-loop-byte : goal.invariant-loop-byte
invariant-loop-byte l = record {
  small : l.bucket < 4096;
  ahead : bucket_from l.bucket (drop l.byte-index l.name) ≡ bucket l.name;
}
