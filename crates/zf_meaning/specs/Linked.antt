-- The last link of a chain. No public clause rests on this.
use Rattle.zf_meaning.specs.Prelude.{Relation, ResolvedTree, Outcome, Truth, IsLink}
use Rattle.zf_meaning.specs.Environments.{Context}
use Rattle.zf_meaning.specs.Meaning.{HasOutcome, infinite_right}

-- u is the truth of a link after an operand of this outcome; the right side has an outcome, which need not be worked out
unfoldable pub IsLastLink : Context → Relation → ResolvedTree → Outcome → Truth → Type 0
IsLastLink c r t x u = (y : Outcome) × HasOutcome c t y × IsLink (infinite_right c r t) r x y u
