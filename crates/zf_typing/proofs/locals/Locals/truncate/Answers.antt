use Rattle.std.proofs.Common.{◌≡◌, ◌++◌, ◌-◌, length, arith, take, ap, ◌∙◌}
use Rattle.zf_typing.proofs.Halves.{take_both}
use Rattle.zf_typing.proofs.locals.Locals.truncate.Goals as goal

pub returns : goal.returns
returns c =
    let few = c.self.inside.few.items in
    let many = c.self.inside.many in
    let less : c.saturating_sub.result ≡ c.args.len - length few = omega (arith, c.saturating_sub.ensures, c.len-few.ensures, c.self.inside.few.ok.0) in
    ap (λ xs. xs ++ c.truncate.new.self) c.truncate-2.ensures.items
    ∙ ap (λ ys. take c.args.len few ++ ys) (c.truncate.ensures ∙ ap (λ k. take k many) less)
    ∙ take_both c.args.len few many
    ∙ ap (take c.args.len) c.self.view_is
