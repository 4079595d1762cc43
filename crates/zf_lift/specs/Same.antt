-- Terms that mean the same, each in a context of its own. No public clause rests on this.
use Rattle.std.specs.Prelude.{◌≡◌, ◌↔◌, List}
use Rattle.zf_lift.specs.Prelude.{Ranges, ResolvedLinks, ResolvedPart, ResolvedTree, ResolvedTrees, Value, Outcome, Truth, AreLinked, Builds, Context, HasOutcome, HaveOutcomes, HaveRanges, infinite_in, IsConstraint, IsTruth}
use Rattle.zf_outcome.specs.{Several}

pub record IsSame (c : Context) (t : ResolvedTree) (d : Context) (u : ResolvedTree) : Type 0 where
  pub outcome : (o : Outcome) → HasOutcome c t o ↔ HasOutcome d u o
  pub truth : (a : Truth) → IsTruth c t a ↔ IsTruth d u a
  pub infinite : infinite_in c.environment t ≡ infinite_in d.environment u

abbrev pub AreSame : Context → ResolvedTrees → Context → ResolvedTrees → Type 0
AreSame c ts d us = (s : Several) → HaveOutcomes c ts s ↔ HaveOutcomes d us s

abbrev pub AreSameRanges : Context → Ranges → Context → Ranges → Type 0
AreSameRanges c rs d ss = (s : Several) → HaveRanges c rs s ↔ HaveRanges d ss s

abbrev pub AreSameLinks : Context → ResolvedLinks → Context → ResolvedLinks → Type 0
AreSameLinks c ks d ls = (x : Outcome) (a : Truth) → AreLinked c x ks a ↔ AreLinked d x ls a

pub record IsSamePart (c : Context) (p : ResolvedPart) (d : Context) (q : ResolvedPart) : Type 0 where
  pub constraint : (a : Truth) → IsConstraint c p a ↔ IsConstraint d q a
  pub builds : (vs : List Value) (o : Outcome) → Builds c vs p o ↔ Builds d vs q o
