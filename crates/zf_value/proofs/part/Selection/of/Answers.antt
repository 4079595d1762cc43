use Rattle.zf_value.proofs.Prelude.{subst, sym, IsSelected, GivesJust}
use Rattle.zf_value.proofs.Gathered.{selected, not_kept, not_tested}
use Rattle.zf_value.proofs.part.Selection.of.Goals as goal

pub returns-in_err-p : goal.returns-in_err-p
returns-in_err-p c =
    let by = c.args.self.now in
    subst (GivesJust (IsSelected by.test by.keep by.set.now by.given c.args.z.now)) (sym c.from_residual.ensures) (not_tested _ _ _ _ _ c.in_err-p.ensures)

pub returns-then-keeps : goal.returns-then-keeps
returns-then-keeps c = selected _ _ _ _ _ _ _ c.in_ok-p.ensures (c.keeps.ensures.0 c.if-keeps.true) c.of-then-keeps.ensures

pub returns-else-keeps : goal.returns-else-keeps
returns-else-keeps c = not_kept _ _ _ _ _ _ c.in_ok-p.ensures (λ k. let t = c.keeps.ensures.1 k in let f = c.if-keeps.false in (cc))
