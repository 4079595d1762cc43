use Rattle.zf_parts.proofs.Prelude.{◌++◌, ◌∙◌, ◌∷◌, ◌≡◌, [], ap, length, refl, rules, replicate}
use Rattle.zf_parts.proofs.Marking.{opened, zeros_behind}
use Rattle.zf_parts.proofs.words.Words.open.Goals as goal

pub returns-clause-same : goal.returns-clause-same
returns-clause-same c =
    let at : c.len-last.result ≡ length c.reach.new.self.pages.items = search rules in
    opened c.args.self.now.places.items c.reach.new.self.places.items c.args.self.now.pages.items c.args.page (record { number = c.args.page; words = replicate 16 0 })
    c.in_ok-reach.ensures.same c.in_ok-reach.ensures.there c.in_default.ensures refl (zeros_behind [] 16) c.push.new.self.items c.len-last.result
    (c.in_ok-push.ensures.items ∙ ap (λ p. p.items ++ record { number = c.args.page; words = replicate 16 0 } ∷ []) c.in_ok-reach.ensures.pages)
    (at ∙ ap (λ p. length p.items) c.in_ok-reach.ensures.pages)
