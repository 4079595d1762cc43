-- When a tree reads the tokens of a text.
use Rattle.std.specs.Prelude.{List}
use Rattle.zf_parse.specs.Prelude.{AllByRecursion, Token, BoxIsLevelled, reduced, SpellsBoxes, BoxTree}

pub record Reads (boxes : List BoxTree) (tokens : List Token) : Type 0 where
  pub levelled : AllByRecursion BoxIsLevelled boxes
  pub spelled : SpellsBoxes boxes (reduced tokens)
