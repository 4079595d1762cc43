use Rattle.zf_scan.proofs.Prelude.{◌++◌, ◌-◌, ◌≤◌, length, List, map, Before, IsCutUpTo, token_at, SOURCE_MAX, Token}
use Rattle.zf_scan.proofs.BoxParts.{IsPart}
use Rattle.zf_scan.proofs.scan.next_box.Given as goal

abbrev pub invariant-loop-start : goal.invariant-loop-start
invariant-loop-start l = record {
  before : (tokens : List Token) → IsCutUpTo l.source l.initial.border tokens → Before l.source l.start l.place (tokens ++ map (token_at l.source) l.symbols.items);
  part : IsPart l.place (map (token_at l.source) l.symbols.items);
  short : length l.source ≤ SOURCE_MAX;
  within : l.start ≤ length l.source;
  further : l.initial.border.start ≤ l.start;
}

abbrev pub decreases-loop-start : goal.decreases-loop-start
decreases-loop-start l = length l.source - l.start
