use Rattle.zf_answers.proofs.Prelude.{◌∙◌, ap, not, rules, list_any, bytes_eq, without_size}
use Rattle.std.proofs.lemmas.Fn.{filter_same}
use Rattle.zf_answers.proofs.stated.sets_without_size.Goals as goal

pub returns : goal.returns
returns c =
    filter_same _ (λ set. not (list_any (λ s. bytes_eq s.name set) c.args.sizes.now)) _ (λ set is f called. search rules) _ _ c.retain.ensures.filtered
    ∙ ap (without_size c.args.sizes.now) c.in_ok-sets.ensures
