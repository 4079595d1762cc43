use Rattle.zf_grammar.proofs.Prelude.{◌-◌, ◌≡◌, boxes_from, read_boxes}
use Rattle.zf_grammar.proofs.boxes.boxes.Given as goal

-- the boxes so far, and those that are left, are the whole
abbrev pub invariant-loop-turn : goal.invariant-loop-turn
invariant-loop-turn l = read_boxes l.highest l.fn.tokens ≡ boxes_from l.highest (l._turn-end - l._turn) l.boxes l.tokens
