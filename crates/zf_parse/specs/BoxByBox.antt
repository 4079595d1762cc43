-- Reading a source box by box. No public clause rests on this file.
use Rattle.std.specs.Prelude.{◌≡◌, ℕ, ◌≤◌, List, [], ◌++◌, Result, Ok, Err, map}
use Rattle.zf_parse.specs.Prelude.{AllByRecursion, TextFaultKind, Unexpected, NotInProfile, TooDeep, nowhere, OutOfMemory, Span, Token, IsCutUpTo, reduced, Symbol, box_height, highest, height_limit, BoxIsLevelled, SpellsBox, SpellsBoxes, SpellsUpTo, box_of, BoxTree}
use Rattle.zf_scan.specs.declared.scan.Border.{Border}
use Rattle.zf_tree.specs.declared.tree.ZBox.{ZBox}
use Rattle.zf_parse.specs.declared.unread.Unread.{Unread}

-- ---- one box

-- the box is spelled by the symbols, with no part above the limit
pub record ReadsBox (b : BoxTree) (ts : List Symbol) : Type 0 where
  pub levelled : BoxIsLevelled b
  pub spelled : SpellsBox b ts []
  pub low : box_height b ≤ height_limit

abbrev pub RefusesBox : TextFaultKind → Span → List Symbol → Type 0
RefusesBox Unexpected span ts = (b : BoxTree) → BoxIsLevelled b → SpellsBox b ts [] → ⊥
RefusesBox NotInProfile span ts = (b : BoxTree) → BoxIsLevelled b → SpellsBox b ts [] → ⊥
RefusesBox TooDeep span ts = (b : BoxTree) → ReadsBox b ts → ⊥
RefusesBox OutOfMemory span ts = span ≡ nowhere
RefusesBox _ span ts = ⊥

abbrev pub ReadsOneBox : Result ZBox Unread → List Symbol → Type 0
ReadsOneBox (Ok b) ts = ReadsBox (box_of b) ts
ReadsOneBox (Err unread) ts = RefusesBox unread.fault.kind unread.fault.span ts

-- ---- the boxes so far

-- of the boxes that spell some symbols and then these, those that spell these
pub record Later (all : List BoxTree) (us : List Symbol) : Type 0 where
  pub later : List BoxTree
  pub levelled : AllByRecursion BoxIsLevelled later
  pub spelled : SpellsBoxes later us
  pub low : highest later ≤ highest all

-- the boxes are spelled by these symbols, whatever follows them; whatever boxes are, what follows is for further ones
pub record AreSoFar (boxes : List BoxTree) (ts : List Symbol) : Type 0 where
  pub levelled : AllByRecursion BoxIsLevelled boxes
  pub low : highest boxes ≤ height_limit
  pub spelled : (us : List Symbol) → SpellsUpTo boxes (ts ++ us) us
  pub apart : (all : List BoxTree) (us : List Symbol) → AllByRecursion BoxIsLevelled all → SpellsBoxes all (ts ++ us) → Later all us

-- the boxes of a source up to a border
abbrev pub ReadsUpTo : List ℕ → Border → List ZBox → Type 0
ReadsUpTo source border boxes = (tokens : List Token) × IsCutUpTo source border tokens × AreSoFar (map box_of boxes) (reduced tokens)
