-- Rows that do not count, and the parts of a binder that tell so before all variables are bound. No public clause rests on this.
use Rattle.std.specs.Prelude.{◌≡◌, ◌⊎◌, ℕ, ◌+◌, ◌<◌, ◌≤◌, max, List, length, Option, Some, None, IfSome, slice_get}
use Rattle.zf_meaning.specs.Prelude.{Local, Quantifier, Resolved, size-Resolved, binary, bracket, comprehension, chain, constant, empty_set, link, listed, no_links, number, quantified, reference, resolved_of, ResolvedPart, ResolvedTree, unary, Value, Outcome, Truth, IsTold, Span}
use Rattle.zf_tree.specs.declared.symbol.Quantifier.TheVariants.{ForAll, Exists, ExistsOne}
use Rattle.zf_tree.specs.declared.symbol.Relation.TheVariants.{Equal}
use Rattle.zf_value.specs.declared.value.Outcome.TheVariants as outcome
use Rattle.zf_value.specs.declared.value.Truth.TheVariants.{True, False}
use Rattle.zf_meaning.specs.declared.evaluate.early.Piece.{Piece}
use Rattle.zf_meaning.specs.declared.evaluate.early.Frame.{Frame}
use Rattle.zf_meaning.specs.declared.evaluate.early.Wanted.{Wanted}
use Rattle.zf_meaning.specs.declared.rows.Passing.{Passing}
use Rattle.zf_meaning.specs.declared.rows.Passing.TheVariants as passing
use Rattle.zf_meaning.specs.Environments.{Context, within}
use Rattle.zf_meaning.specs.Meaning.{HasOutcome, IsConstraint, IsTruth}
use Rattle.zf_meaning.specs.Needs.{need, part_need}
use Rattle.zf_meaning.specs.Rowed.{IsPassed}

-- what a quantifier tells of a row that does not count
abbrev pub neutral : Quantifier → Truth
neutral ForAll = True
neutral Exists = False
neutral ExistsOne = False

-- the variables that are bound are a row that does not count for this binder
unfoldable pub IsNeutral : ResolvedTree → Context → Type 0
IsNeutral (reference l r) c = ⊥
IsNeutral (number l n) c = ⊥
IsNeutral (constant l k) c = ⊥
IsNeutral (empty_set l t) c = ⊥
IsNeutral (bracket l t) c = ⊥
IsNeutral (listed l form ts) c = ⊥
IsNeutral (comprehension l rs p t) c = IsConstraint c p False
IsNeutral (unary l op t) c = ⊥
IsNeutral (binary l op a b) c = ⊥
IsNeutral (chain l t ks) c = ⊥
IsNeutral (quantified l q rs p t) c = IsTold q (λ a. IsConstraint c p a) (λ b. IsTruth c t b) (neutral q)

-- where the predicate is false, the row does not count for the binder
unfoldable pub Refutes : ResolvedTree → ResolvedTree → Type 0
Refutes t whole = (c : Context) → IsTruth c t False → IsNeutral whole c

-- where the first predicate is false, the second is
unfoldable pub Falsifies : ResolvedTree → ResolvedTree → Type 0
Falsifies t whole = (c : Context) → IsTruth c t False → IsTruth c whole False

-- a part of the binder that has to hold for a row to count
pub record IsPart (whole part : Resolved) : Type 0 where
  pub refutes : Refutes (resolved_of part) (resolved_of whole)
  pub smaller : size-Resolved part < size-Resolved whole

-- ---- what a variable has to equal

abbrev pub IsVariable : ℕ → ResolvedTree → Type 0
IsVariable place t = (l : Span) × (t ≡ reference l (Local place))

abbrev pub IsEquation : ResolvedTree → ResolvedTree → ResolvedTree → Type 0
IsEquation a b t = (l : Span) × (t ≡ chain l a (link Equal b no_links))

-- an outcome, not out, other than that of a variable with this value
abbrev pub IsOther : Outcome → Option Value → Type 0
IsOther (outcome.Is w) v = v ≡ Some w → ⊥
IsOther outcome.Undefined v = Unit {0}
IsOther outcome.Out v = ⊥

-- the predicate is false where the term has another outcome than the variable at the place
unfoldable pub Wants : ResolvedTree → ℕ → ResolvedTree → Type 0
Wants t place e = (c : Context) (o : Outcome) → HasOutcome c e o → IsOther o (slice_get c.locals place) → IsTruth c t False

-- the term needs only variables before the one that it is wanted for, which is of the binder
pub record IsEarlier (frame : Frame) (wanted : Wanted) : Type 0 where
  pub outside : frame.outside ≤ wanted.local
  pub needs : need frame.whole (resolved_of wanted.term.now) ≤ wanted.local

pub record IsWanted (term : Resolved) (frame : Frame) (wanted : Wanted) : Type 0 where
  pub wants : Wants (resolved_of term) wanted.local (resolved_of wanted.term.now)
  pub smaller : size-Resolved wanted.term.now < size-Resolved term
  pub earlier : IsEarlier frame wanted

-- which rows are passed for a term of this outcome, of which the place of the row tells
abbrev pub PassesBy : Outcome → ℕ → Passing → Type 0
PassesBy (outcome.Is w) place p = p ≡ passing.Others place w
PassesBy outcome.Undefined place p = p ≡ passing.Front place
PassesBy outcome.Out place p = ⊥

-- ---- pieces

-- such a part, which needs as many first variables as it says
pub record IsPiece (whole : Resolved) (frame : Frame) (piece : Piece) : Type 0 where
  pub part : IsPart whole piece.term.now
  pub needs : need frame.whole (resolved_of piece.term.now) ≤ frame.outside + piece.front
  pub wanted : IfSome piece.wanted (IsWanted piece.term.now frame)

-- a quantifier with this constraint and body needs so many first variables of its own
abbrev pub NeedsFront : Frame → ℕ → ResolvedPart → ResolvedTree → Type 0
NeedsFront frame front p t = max (need frame.whole t) (part_need frame.whole p) ≤ frame.outside + front

-- of the rows that may be passed beside this one, none counts but it
unfoldable pub ArePassed : ResolvedTree → Context → List Value → Passing → Type 0
ArePassed whole c row passing = (vs : List Value) → length vs ≡ length row → IsPassed passing row vs → (vs ≡ row) ⊎ IsNeutral whole (within c vs)

-- nor does it
pub record AreNeutral (whole : ResolvedTree) (c : Context) (row : List Value) (passing : Passing) : Type 0 where
  pub here : IsNeutral whole (within c row)
  pub passed : ArePassed whole c row passing

-- the variables of the frame are bound to the row
pub record IsBound (frame : Frame) (here c : Context) (row : List Value) : Type 0 where
  pub is : here ≡ within c row
  pub outside : length c.locals ≡ frame.outside
  pub whole : length c.locals + length row ≡ frame.whole

abbrev pub AreNeutralIf : ResolvedTree → Context → List Value → Option Passing → Type 0
AreNeutralIf whole c row None = Unit {0}
AreNeutralIf whole c row (Some p) = AreNeutral whole c row p

abbrev pub ArePassedIf : ResolvedTree → Context → List Value → Option Passing → Type 0
ArePassedIf whole c row None = Unit {0}
ArePassedIf whole c row (Some p) = ArePassed whole c row p
