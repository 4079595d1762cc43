use Rattle.zf_grammar.proofs.Prelude.{◌-◌, ◌≡◌, ◌≤◌, tall, decls, items_from, read_decl, read_term}
use Rattle.zf_scan.specs.declared.next.Mark.TheVariants as mark
use Rattle.zf_grammar.proofs.terms.Grammar.decls.Given as goal

-- the declarations so far, and those that are left, are the whole
abbrev pub invariant-loop-turn : goal.invariant-loop-turn
invariant-loop-turn g l = record {
  same : decls (read_term l.self.below) l.fn.tokens ≡ items_from mark.Separator (read_decl (read_term l.self.below)) (l._turn-end - l._turn) (tall l.decls l.height) l.tokens;
  low : l.height ≤ l.self.below;
}
