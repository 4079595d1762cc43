use Rattle.zf_typing.proofs.Prelude.{◌∙◌, ◌≡◌, ap, inl, None, refl, Some, sym, spelling, named, reference, not_declared, Offends, referent, sort_of, meaning, meant, scope_of}
use Rattle.zf_term.proofs.ResolvedSeen as seen
use Rattle.zf_typing.proofs.Judging.{judges_err, told}
use Rattle.zf_typing.proofs.judge.named.Goals as goal

pub returns-in_default : goal.returns-in_default
returns-in_default c =
    let found : None ≡ meaning (scope_of c.args.scope.now) (spelling c.args.name.now) = sym (ap meant c.in_default.is) ∙ c.in_ok-reference.ensures in
    let s = scope_of c.args.scope.now in
    let e = named c.args.name.now in
    judges_err s c.args.need e c.not_declared.result
    (told c.not_declared.result (not_declared (spelling c.args.name.now)) c.args.name.now.span (Offends s c.args.need e) c.not_declared.ensures (inl (sym found, refl, refl)))

pub returns : goal.returns
returns c =
    let s = scope_of c.args.scope.now in
    let r = c.in-Some.reference in
    let span = ap (λ n. n.span) c.name.view_is in
    let found : Some (r, sort_of c.in-Some.sort) ≡ meaning s (spelling c.args.name.now) = sym (ap meant c.in-Some.is) ∙ c.in_ok-reference.ensures in
    c.placed.ensures s (named c.args.name.now) (r, sym found) (seen.of-Name c.name.inside.span r ∙ ap (λ l. reference l r) span ∙ ap (λ m. reference c.args.name.now.span (referent m)) found) span
