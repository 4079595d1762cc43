-- What is claimed of lines of some components.
use Rattle.std.specs.Prelude.{◌≡◌, ℕ, List, Option}
use Rattle.zf_read.specs.Prelude.{Comp, Value, Environment, Spelling, AreClear}
use Rattle.zf_read.specs.HeldLaws.{HaveClearNames}
use Rattle.zf_read.specs.Held.{IsHeldLine}
use Rattle.zf_read.specs.HeldLines.{IsLineOfSome}

-- where names are clear, a line of some components holds one list of values
abbrev pub OneHeldLine : Type 0
OneHeldLine = (ss : List Spelling) (e : Environment) (cs : List Comp) (text : List ℕ) (held other : List (Option Value)) → AreClear ss e.sizes → HaveClearNames cs
    → IsHeldLine ss e cs text held → IsHeldLine ss e cs text other → held ≡ other

-- it is the line of a row of some of the components, whose values are held
abbrev pub HeldIsLine : Type 0
HeldIsLine = (ss : List Spelling) (e : Environment) (cs : List Comp) (text : List ℕ) (held : List (Option Value)) → IsHeldLine ss e cs text held → IsLineOfSome ss e cs text held

-- and each such line, in whatever order they stand, is one
abbrev pub LineIsHeld : Type 0
LineIsHeld = (ss : List Spelling) (e : Environment) (cs : List Comp) (text : List ℕ) (held : List (Option Value)) → IsLineOfSome ss e cs text held → IsHeldLine ss e cs text held
