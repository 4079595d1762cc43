use Rattle.zf_grammar.proofs.Prelude.{◌∙◌, ap, span_of, tree_of}
use Rattle.zf_grammar.proofs.Lasts.{last_link_is}
use Rattle.zf_grammar.proofs.terms.parts.last_link.Goals as goal

pub returns-in-len1-up : goal.returns-in-len1-up
returns-in-len1-up c =
    c.span.ensures ∙ ap (λ t. span_of (tree_of t)) (c.get.ensures ∙ ap (λ k. k.right) c.last-item.is)
    ∙ last_link_is c.args.begin c.args.links.now c.last-item.result c.in-len1-up.len_at_least
