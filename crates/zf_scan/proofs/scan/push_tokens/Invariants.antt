use Rattle.zf_scan.proofs.Prelude.{◌++◌, ◌≡◌, drop, map, token_at}
use Rattle.zf_scan.proofs.scan.push_tokens.Given as goal

-- the tokens so far, and those of the symbols ahead, are the whole
abbrev pub invariant-loop-symbol : goal.invariant-loop-symbol
invariant-loop-symbol l = l.initial.tokens ++ map (token_at l.source) l.symbols ≡ l.tokens ++ map (token_at l.source) (drop l.symbol-index l.symbols)
