use Rattle.zf_grammar.proofs.Prelude.{◌∙◌, ap, span_of, tree_of}
use Rattle.zf_grammar.proofs.Lasts.{last_tree_is}
use Rattle.zf_grammar.proofs.terms.parts.last_tree.Goals as goal

pub returns-in-len1-up : goal.returns-in-len1-up
returns-in-len1-up c =
    c.span.ensures ∙ ap (λ t. span_of (tree_of t)) (c.get.ensures ∙ c.last-item.is)
    ∙ last_tree_is c.args.begin c.args.terms.now c.last-item.result c.in-len1-up.len_at_least
