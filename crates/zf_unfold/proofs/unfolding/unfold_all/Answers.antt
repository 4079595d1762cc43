use Rattle.zf_unfold.proofs.Prelude.{◌∙◌, ◌∷◌, ◌≡◌, [], ap, arith, length, map, resolved_of, subst, sym, Environment, environment_of, longer, AreLifted, Undefined, further}
use Rattle.zf_unfold.proofs.Steps.{are_unfolded, base_added}
use Rattle.zf_unfold.proofs.unfolding.unfold_all.Goals as goal

pub returns : goal.returns
returns c =
    let e = environment_of c.args.env.now in
    let f = environment_of c.add.new.self in
    let g = environment_of c.all_unfolded.new.own in
    let same = c.in_ok-own.ensures in
    let count : c.count-count.result ≡ length e.outcomes = c.count-count.ensures ∙ ap (λ (x : Environment). length x.outcomes) same in
    let globals : c.len.result ≡ length e.globals = c.len.ensures.len ∙ ap length c.globals.ensures ∙ ap (λ (x : Environment). length x.globals) same in
    let b = base_added c.count-count.result e f count (omega (arith, count, globals, c.if-count-len.false)) (c.in_ok-add.ensures ∙ ap (λ (x : Environment). longer x (Undefined ∷ [])) same) in
    let made = are_unfolded e g _ (map resolved_of c.args.terms.now) (further e f g b.longer c.in_ok-all.ensures.grows) (c.in_ok-all.ensures.same e b) in
    subst (λ (x : Environment). AreLifted x e (map resolved_of c.in_ok-all.all.items) (map resolved_of c.args.terms.now)) (sym c.in_ok-env.ensures) made
