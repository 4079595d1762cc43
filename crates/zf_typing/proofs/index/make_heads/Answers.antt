use Rattle.zf_typing.proofs.Prelude.{◌∙◌, ◌≡◌, arith, inl, inr, length, refl, sym, true≢false, Decides-eqb, AreHeads}
use Rattle.zf_typing.proofs.index.make_heads.Goals as goal

pub returns-in_ok-resize-clause-ok : goal.returns-in_ok-resize-clause-ok
unfolding AreHeads
returns-in_ok-resize-clause-ok c =
    let none : c.args.heads.now.len ≡ 0 = (Decides-eqb c.args.heads.now.len 0).0 (sym c.is_empty.ensures ∙ c.if-is_empty.true) in
    let old : length c.args.heads.now.items ≡ 0 = omega (arith, none, c.args.heads.now.ok) in
    let new : length c.resize.new.self.items ≡ 4096 = omega (arith, c.in_ok-resize.ensures.len, c.resize.new.self.ok) in
    inl (old, new, λ b l. c.in_ok-resize.ensures.by_index.1 b 0 refl (omega (arith, none)) l)

pub returns-else-is_empty-clause-ok : goal.returns-else-is_empty-clause-ok
unfolding AreHeads
returns-else-is_empty-clause-ok c =
    let some : c.args.heads.now.len ≡ 0 → ⊥ = λ e. true≢false (sym ((Decides-eqb c.args.heads.now.len 0).1 e) ∙ sym c.is_empty.ensures ∙ c.if-is_empty.false) in
    inr (omega (arith, some, c.args.heads.now.ok), refl)
