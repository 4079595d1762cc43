use Rattle.zf_typing.proofs.Prelude.{◌-◌, ◌<◌, ◌∙◌, ◌≡◌, ap, arith, get_or, length, subst, sym, true≢false, Decides-eqb, bytes_eq}
use Rattle.zf_typing.proofs.Indexed.{IsAhead, comes_before, first_ahead, have_heads, here_ahead, next_ahead, none_ahead}
use Rattle.zf_typing.proofs.index.found_along.Goals as goal

pub bounds-heads-bucket_of : goal.bounds-heads-bucket_of
bounds-heads-bucket_of c =
    let some : length c.args.chain.now ≡ 0 → ⊥ = λ e. true≢false (sym ((Decides-eqb (length c.args.chain.now) 0).1 e) ∙ sym c.is_empty.ensures ∙ c.if-is_empty.false) in
    omega (arith, have_heads c.args.chain.now c.args.heads.now c.requires (omega (arith, some)), c.bucket_of.ensures.small)

pub loop-ahead-init : goal.loop-ahead-init
loop-ahead-init c =
    let some : length c.args.chain.now ≡ 0 → ⊥ = λ e. true≢false (sym ((Decides-eqb (length c.args.chain.now) 0).1 e) ∙ sym c.is_empty.ensures ∙ c.if-is_empty.false) in
    let there : c.bucket_of.result < length c.args.heads.now = omega (arith, have_heads c.args.chain.now c.args.heads.now c.requires (omega (arith, some)), c.bucket_of.ensures.small) in
    let first : IsAhead c.args.name.now c.args.chain.now (get_or c.args.heads.now c.bucket_of.result 0) = subst
    (λ k. IsAhead c.args.name.now c.args.chain.now (get_or c.args.heads.now k 0)) (sym c.bucket_of.ensures.is)
    (first_ahead c.args.name.now c.args.chain.now c.args.heads.now c.requires (subst (λ k. k < length c.args.heads.now) c.bucket_of.ensures.is there)) in
    record {
      within = first.within;
      is = first;
    }

pub returns-then-is_same-clause-last : goal.returns-then-is_same-clause-last
returns-then-is_same-clause-last c =
    let place = c.loop-ahead.ahead - 1 in
    let x = c.index-chain-place.result in
    here_ahead c.args.name.now c.args.chain.now c.loop-ahead.ahead place x c.loop-ahead.invariant.is (omega (arith, c.loop-ahead-test.true)) c.index-chain-place.is
    (ap (λ n. bytes_eq n c.args.name.now) (sym c.as_slice.ensures) ∙ sym c.is_same.ensures ∙ c.if-is_same.true)

pub loop-ahead-smaller : goal.loop-ahead-smaller
loop-ahead-smaller c =
    let place = c.loop-ahead.ahead - 1 in
    omega (
      arith,
      c.loop-ahead-test.true,
      comes_before c.args.chain.now c.args.heads.now place c.index-chain-place.result c.requires
          (omega (arith, c.loop-ahead.invariant.within, c.loop-ahead-test.true)) c.index-chain-place.is,
    )

pub loop-ahead-preserved : goal.loop-ahead-preserved
loop-ahead-preserved c =
    let place = c.loop-ahead.ahead - 1 in
    let x = c.index-chain-place.result in
    let next : IsAhead c.args.name.now c.args.chain.now x.previous = next_ahead c.args.name.now c.args.chain.now c.args.heads.now c.loop-ahead.ahead place x
    c.requires c.loop-ahead.invariant.is (omega (arith, c.loop-ahead-test.true)) c.index-chain-place.is
    (ap (λ n. bytes_eq n c.args.name.now) (sym c.as_slice.ensures) ∙ sym c.is_same.ensures ∙ c.if-is_same.false) in
    record {
      within = next.within;
      is = next;
    }

pub returns-clause-last : goal.returns-clause-last
returns-clause-last c = none_ahead c.args.name.now c.args.chain.now c.loop-ahead.ahead c.loop-ahead.invariant.is (omega (arith, c.loop-ahead-test.false))
