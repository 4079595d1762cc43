-- What the program's results of reading say, in the words of `Parsing`.
use Rattle.std.specs.Prelude.{ℕ, ◌⊎◌, List, Result, Ok, Err}
use Rattle.zf_parse.specs.Prelude.{TextFault, Token, IsWantOfMemory, boxes_of}
use Rattle.zf_tree.specs.declared.tree.Spec.{Spec}
use Rattle.zf_parse.specs.declared.unread.Unread.{Unread}
use Rattle.zf_parse.specs.Parsing.{ReadsLow, RefusesTokens, ReadsSource, RefusesSource}

abbrev pub Parses : Result Spec TextFault → List Token → Type 0
Parses (Ok spec) tokens = ReadsLow (boxes_of spec) tokens
Parses (Err fault) tokens = RefusesTokens fault.kind fault.span tokens

abbrev pub ReadsSpec : Result Spec Unread → List ℕ → Type 0
ReadsSpec (Ok spec) source = ReadsSource (boxes_of spec) source
ReadsSpec (Err unread) source = IsWantOfMemory unread.fault ⊎ RefusesSource source unread.fault
