-- What is known of a conjunct with several values, a bit each.
use Rattle.std.specs.Prelude.{◌≡◌, ℕ}
use Rattle.std.specs.Int.{bit_at}
use Rattle.zf_walk.specs.declared.judge.Truth.{Truth}
use Rattle.zf_walk.specs.declared.judge.Truth.TheVariants.{True, False, Out}
use Rattle.zf_walk.specs.declared.seen.Seen.{Seen}

-- nothing is known
abbrev pub unseen : Seen
unseen = record { falses = 0; trues = 0 }

-- the word has the bit of the place
abbrev pub HasBit : ℕ → ℕ → Type 0
HasBit word i = bit_at word i ≡ 1

-- that is known to be the truth with the value at place i
abbrev pub IsSeen : Seen → ℕ → Truth → Type 0
IsSeen s i False = HasBit s.falses i
IsSeen s i True = HasBit s.trues i
IsSeen s i Out = ⊥
