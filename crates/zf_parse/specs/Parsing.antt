-- What reading the tokens of a text answers, and what reading a source does.
use Rattle.std.specs.Prelude.{◌≡◌, ℕ, ◌⊎◌, ◌≤◌, List}
use Rattle.zf_parse.specs.Prelude.{TextFault, TextFaultKind, Unexpected, NotInProfile, TooDeep, nowhere, OutOfMemory, Span, Token, HasFault, IsCutInto, highest, height_limit, BoxTree}
use Rattle.zf_parse.specs.Reads.{Reads}

-- a tree that reads the tokens, with no part above the limit
pub record ReadsLow (boxes : List BoxTree) (tokens : List Token) : Type 0 where
  pub reads : Reads boxes tokens
  pub low : highest boxes ≤ height_limit

-- when each fault comes: no tree reads the tokens, none within the limit does, or memory ended
abbrev pub RefusesTokens : TextFaultKind → Span → List Token → Type 0
RefusesTokens Unexpected span tokens = (boxes : List BoxTree) → Reads boxes tokens → ⊥
RefusesTokens NotInProfile span tokens = (boxes : List BoxTree) → Reads boxes tokens → ⊥
RefusesTokens TooDeep span tokens = (boxes : List BoxTree) → ReadsLow boxes tokens → ⊥
RefusesTokens OutOfMemory span tokens = span ≡ nowhere
RefusesTokens _ span tokens = ⊥

-- the source is cut, and the tree reads its tokens
abbrev pub ReadsSource : List BoxTree → List ℕ → Type 0
ReadsSource boxes source = (tokens : List Token) × IsCutInto source tokens × ReadsLow boxes tokens

abbrev pub IsGrammarFault : TextFaultKind → Type 0
IsGrammarFault Unexpected = Unit {0}
IsGrammarFault NotInProfile = Unit {0}
IsGrammarFault TooDeep = Unit {0}
IsGrammarFault _ = ⊥

-- the source is not cut, with this fault; or it is, and its tokens are refused with it
abbrev pub RefusesSource : List ℕ → TextFault → Type 0
RefusesSource source fault =
    HasFault source fault ⊎ ((tokens : List Token) × IsCutInto source tokens × RefusesTokens fault.kind fault.span tokens × IsGrammarFault fault.kind)
