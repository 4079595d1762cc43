use Rattle.zf_typing.proofs.Prelude.{◌+◌, ◌<◌, ◌∙◌, ◌∷◌, ◌≡◌, [], ap, arith, get_or, length, subst, sym, length-append, slice_set, bucket, IsIndexed, Chained}
use Rattle.zf_typing.proofs.Indexed.{with_heads, one_pushed}
use Rattle.zf_typing.proofs.index.Indexed.push.Goals as goal

pub index-previous-requires : goal.index-previous-requires
index-previous-requires c =
    let all = (with_heads c.self.inside.chain.items c.self.inside.heads.items c.make_heads.new.heads.items c.self.invariant c.in_ok-make_heads.ensures.ok).1 in
    omega (arith, all, c.make_heads.new.heads.ok, c.bucket_of-bucket.ensures.small)

pub invariant_of-self-in_err-push : goal.invariant_of-self-in_err-push
invariant_of-self-in_err-push c =
    subst (λ cs. IsIndexed cs c.make_heads.new.heads.items) (sym c.in_err-push.ensures.items)
    (with_heads c.self.inside.chain.items c.self.inside.heads.items c.make_heads.new.heads.items c.self.invariant c.in_ok-make_heads.ensures.ok).0

pub index_mut-requires : goal.index_mut-requires
index_mut-requires c =
    let all = (with_heads c.self.inside.chain.items c.self.inside.heads.items c.make_heads.new.heads.items c.self.invariant c.in_ok-make_heads.ensures.ok).1 in
    omega (arith, all, c.make_heads.new.heads.ok, c.bucket_of-bucket.ensures.small)

pub invariant_of-self-2 : goal.invariant_of-self-2
invariant_of-self-2 c =
    let b = c.bucket_of-bucket.result in
    let at : b ≡ bucket c.args.variable.name = c.bucket_of-bucket.ensures.is ∙ ap bucket c.as_slice.ensures in
    let cs = c.self.inside.chain.items in
    let heads = c.make_heads.new.heads.items in
    let last : Chained = record { variable = c.args.variable; previous = c.index-previous.result.now } in
    let with = with_heads cs c.self.inside.heads.items heads c.self.invariant c.in_ok-make_heads.ensures.ok in
    let many : c.len.result ≡ length cs + 1 = omega (arith, c.len.ensures, c.push.new.self.ok, ap length c.in_ok-push.ensures.items, length-append cs (last ∷ [])) in
    let was : c.index-previous.result.now ≡ get_or heads b c.index-previous.result.now = c.index-previous.ensures in
    let pushed = one_pushed cs heads c.args.variable c.index-previous.result.now c.len.result with.0 with.1
    (subst (λ k. c.index-previous.result.now ≡ get_or heads k c.index-previous.result.now) at was)
    (subst (λ k. k < 4096) at c.bucket_of-bucket.ensures.small) many in
    subst (λ k. IsIndexed c.push.new.self.items (slice_set heads k c.len.result)) (sym at)
    (subst (λ xs. IsIndexed xs (slice_set heads (bucket c.args.variable.name) c.len.result)) (sym c.in_ok-push.ensures.items) pushed)
