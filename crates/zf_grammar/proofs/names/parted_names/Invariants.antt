use Rattle.zf_grammar.proofs.Prelude.{◌-◌, ◌≡◌, read_name, parted, parted_from}
use Rattle.zf_grammar.proofs.names.parted_names.Given as goal

-- the names so far, and those that are left, are the whole
abbrev pub invariant-loop-turn : goal.invariant-loop-turn
invariant-loop-turn l = parted l.part read_name l.fn.tokens ≡ parted_from l.part read_name (l._turn-end - l._turn) l.names l.tokens
