-- Predicates that fix a component, and the places of a range that they leave. No public clause rests on this.
use Rattle.std.specs.Prelude.{◌≡◌, ◌⊎◌, ℕ, ◌<◌, true, false, List, length, Some, Contains, slice_get}
use Rattle.zf_enum.specs.Prelude.{Component, Equal, chain, link, no_links, reference, ResolvedTree, Value, Outcome, Is, Undefined, Out, IsMember, members, IsRowOf, Environment, HasOutcome, in_row, Span}
use Rattle.zf_enum.specs.declared.candidates.Tie.{Tie}
use Rattle.zf_enum.specs.declared.candidates.Tie.TheVariants as tie
use Rattle.zf_enum.specs.Uses.{uses}

-- ---- equations

-- the term is the name of the component
abbrev pub IsName : ℕ → ResolvedTree → Type 0
IsName k t = (span : Span) × (t ≡ reference span (Component k))

-- of the two sides of an equation one is the component, and t the other, which doesn't name it
abbrev pub IsBeside : ResolvedTree → ResolvedTree → ℕ → ResolvedTree → Type 0
IsBeside left right k t = (uses t k ≡ false) × ((IsName k left × (t ≡ right)) ⊎ (IsName k right × (t ≡ left)))

-- the predicate equates the component with the term
abbrev pub Fixes : ResolvedTree → ℕ → ResolvedTree → Type 0
Fixes p k t = (span : Span) × (left right : ResolvedTree) × (p ≡ chain span left (link Equal right no_links)) × IsBeside left right k t

-- ---- candidates

-- where the value stands in the range, its place is among these
abbrev pub HasPlace : Value → List Value → List ℕ → Type 0
HasPlace v range places = (i : ℕ) → slice_get range i ≡ Some v → Contains places i

-- where what an outcome leaves stands in the range, its place is among these; it is not out
abbrev pub IsKept : Tie → Outcome → List Value → List ℕ → Type 0
IsKept tie.Value (Is v) range places = HasPlace v range places
IsKept tie.Value Undefined range places = Unit {0}
IsKept tie.Value Out range places = ⊥
IsKept tie.Members (Is s) range places = (v : Value) → IsMember v (members s) → HasPlace v range places
IsKept tie.Members Undefined range places = ⊥
IsKept tie.Members Out range places = ⊥

-- the row begins with these values, but for components that the term doesn't use
abbrev pub GoesOn : ResolvedTree → List Value → List Value → Type 0
GoesOn t front row = (k : ℕ) → k < length front → uses t k ≡ true → slice_get front k ≡ slice_get row k

-- on each row of the ranges that so begins, the places of what the term leaves of a range are among these
abbrev pub AreCandidates : Tie → Environment → ResolvedTree → List (List Value) → List Value → List Value → List ℕ → Type 0
AreCandidates n e t ranges front range places = (row : List Value) → IsRowOf ranges row → GoesOn t front row → (o : Outcome) × HasOutcome (in_row e row) t o × IsKept n o range places
