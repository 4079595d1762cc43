use Rattle.zf_typing.proofs.Prelude.{◌<◌, ◌∙◌, ◌∷◌, ◌≡◌, [], ap, arith, length, subst, sym, length-append, slice_set, bucket, IsIndexed}
use Rattle.zf_typing.proofs.Indexed.{have_heads, one_popped}
use Rattle.zf_typing.proofs.index.Indexed.pop.Goals as goal

pub index_mut-requires : goal.index_mut-requires
index_mut-requires c =
    let some : 0 < length c.self.inside.chain.items = omega (arith, ap length c.in-Some.ensures.items, length-append c.pop.new.self.items (c.in-Some.last ∷ [])) in
    let all : length c.self.inside.heads.items ≡ 4096 = have_heads c.self.inside.chain.items c.self.inside.heads.items c.self.invariant some in
    omega (arith, all, c.self.inside.heads.ok, c.bucket_of-bucket.ensures.small)

pub invariant_of-self : goal.invariant_of-self
invariant_of-self c =
    subst (λ b. IsIndexed c.pop.new.self.items (slice_set c.self.inside.heads.items b c.in-Some.last.previous)) (sym (c.bucket_of-bucket.ensures.is ∙ ap bucket c.as_slice.ensures))
    (one_popped c.pop.new.self.items c.in-Some.last c.self.inside.heads.items (subst (λ cs. IsIndexed cs c.self.inside.heads.items) c.in-Some.ensures.items c.self.invariant))
