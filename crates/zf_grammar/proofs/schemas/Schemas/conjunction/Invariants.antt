use Rattle.zf_grammar.proofs.Prelude.{joining, ◌+◌, ◌-◌, ◌≡◌, ◌≤◌, is_and, conjunction, joined, read_schema, schema_part}
use Rattle.zf_tree.specs.declared.tree.SchemaExp.TheVariants as schema
use Rattle.zf_grammar.proofs.schemas.Schemas.conjunction.Given as goal

-- what was read so far, and the turns that are left, are the whole
abbrev pub invariant-loop-turn : goal.invariant-loop-turn
invariant-loop-turn g l = record {
  same : conjunction l.self.below (read_schema l.self.below) l.fn.tokens
      ≡ joined is_and (schema_part l.self.below (read_schema l.self.below)) (joining schema.Both) (l.self.below + 1) (l._turn-end - l._turn) l.left l.tokens;
  low : l.left.height ≤ l.self.below + 1;
}
