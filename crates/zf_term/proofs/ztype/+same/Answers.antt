use Rattle.zf_term.proofs.Prelude.{◌<◌, ◌∙◌, ◌≡◌, add-one, ap, arith, length, map, sym, true≢false, type_of}
use Rattle.zf_term.proofs.TypeLists.{grown, apart, same_products}
use Rattle.zf_term.proofs.TypeForms.{same_basics, same_powers}
use Rattle.zf_term.proofs.ztype.+same.Goals as goal

pub ZType::same-returns-in-Product-Product : goal.ZType::same-returns-in-Product-Product
ZType::same-returns-in-Product-Product t c =
    let h = same_products c.in-Product-Product.parts c.in-Product-Product.others c.args.self.now c.args.other.now c.in-Product-Product.is-0 c.in-Product-Product.is-1 in
    let l = ap (map type_of) (c.as_slice.ensures ∙ c.get-in-Product-Product.ensures) in
    let r = ap (map type_of) (c.as_slice-in-Product-Product.ensures ∙ c.get-in-Product-Product-2.ensures) in
    (λ b. h.1 (sym l ∙ c.same_all.ensures.0 b ∙ r), λ e. c.same_all.ensures.1 (l ∙ h.0 e ∙ sym r))

pub same_all-returns-then-not-same : goal.same_all-returns-then-not-same
same_all-returns-then-not-same t c =
    let m : c.loop-i.i < length c.args.others.now = omega (arith, c.loop-i.invariant.1) in (
      λ b. absurd (true≢false (sym b)),
      λ e. absurd (true≢false (sym (c.same.ensures.1 (apart _ _ c.loop-i.i _ _ c.index-parts-i.is c.index-others-i.is c.loop-i-test.true m e)) ∙ c.if-not-same.true)),
    )

pub same_all-loop-i-preserved : goal.same_all-loop-i-preserved
same_all-loop-i-preserved t c =
    let m : c.loop-i.i < length c.args.others.now = omega (arith, c.loop-i.invariant.1) in
    let one : type_of c.index-parts-i.result ≡ type_of c.index-others-i.result = c.same.ensures.0 c.if-not-same.false in
    (rw add-one (grown _ _ c.loop-i.i _ _ c.index-parts-i.is c.index-others-i.is c.loop-i-test.true m c.loop-i.invariant.0 one), c.loop-i.invariant.1)

pub ZType::same-returns-in-Basic-Basic : goal.ZType::same-returns-in-Basic-Basic
ZType::same-returns-in-Basic-Basic t c =
    let h = same_basics c.in-Basic-Basic.name c.in-Basic-Basic.other c.args.self.now c.args.other.now c.in-Basic-Basic.is-0 c.in-Basic-Basic.is-1 in
    (λ b. h.1 (c.same.ensures.0 b), λ e. c.same.ensures.1 (h.0 e))

pub ZType::same-returns-in-Power-Power : goal.ZType::same-returns-in-Power-Power
ZType::same-returns-in-Power-Power t c =
    let h = same_powers c.in-Power-Power.member c.in-Power-Power.other c.args.self.now c.args.other.now c.in-Power-Power.is-0 c.in-Power-Power.is-1 in
    let l = ap type_of c.get.ensures in
    let r = ap type_of c.get-in-Power-Power.ensures in
    (λ b. h.1 (sym l ∙ c.same-in-Power-Power.ensures.0 b ∙ r), λ e. c.same-in-Power-Power.ensures.1 (l ∙ h.0 e ∙ sym r))
