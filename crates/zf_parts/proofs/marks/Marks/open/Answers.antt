use Rattle.zf_parts.proofs.Prelude.{◌∙◌, ◌≡◌, ap, rules, subst, sym, ◌%◌, ◌+◌, eqb, has_in, word_at}
use Rattle.zf_parts.proofs.Marking.{page_more}
use Rattle.zf_parts.proofs.marks.Marks.open.Goals as goal

pub returns-clause-same : goal.returns-clause-same
returns-clause-same c =
    page_more c.args.self.now.pages.items c.args.page c.page_of.result c.page_of.ensures.number (word_at c.args.self.now.entries) (word_at c.put.new.self)
    (search rules) c.in_ok-put.ensures.others
    (λ n here. ap (λ e. has_in c.args.self.now.pages.items e n) (sym c.requires.entry) ∙ subst (λ ps. has_in ps c.args.entry n ≡ eqb c.args.entry (n % 1024 + 1)) c.deref.ensures.value (c.in_default.ensures n here) ∙ ap (λ e. eqb e (n % 1024 + 1)) c.requires.entry)
    (λ n. c.page_of.ensures.bits n ∙ ap (λ e. eqb e (n % 1024 + 1)) c.requires.entry)
    c.push.new.self.items c.in_ok-push.ensures.items
