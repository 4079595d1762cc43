use Rattle.zf_grammar.proofs.Prelude.{◌+◌, ◌≡◌, length, true, begins_decl}
use Rattle.zf_grammar.proofs.cursor.Cursor.begins_decl.Given as goal

-- the names so far leave what the symbols ahead say
abbrev pub invariant-loop-turn : goal.invariant-loop-turn
invariant-loop-turn l = record {
  same : begins_decl true l.self ≡ begins_decl l.due l.ahead;
  left : length l.ahead + l._turn ≡ l._turn-end;
}
