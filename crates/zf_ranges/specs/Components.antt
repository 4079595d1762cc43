-- The ranges of components one after another. No public clause of a search rests on this.
use Rattle.std.specs.Prelude.{◌≡◌, ℕ, suc, zero, List, [], ◌∷◌, Option, Some, None, IsSomeAnd}
use Rattle.zf_ranges.specs.Prelude.{Comp, sets_of, Value, Environment}
use Rattle.zf_ranges.specs.declared.start_fault.StartFault.{StartFault}
use Rattle.zf_ranges.specs.declared.start_fault.StartFault.TheVariants.{DeclaredOut, OutOfMemory}
use Rattle.zf_ranges.specs.DeclaredSets.{IsOneOut}
use Rattle.zf_ranges.specs.Ranges.{IsComponentRange, AreRanges, IsNoneOut, first_held, later_held}

-- what is held of the component at this place
abbrev pub held_at : ℕ → List (Option Value) → Option Value
held_at zero held = first_held held
held_at (suc place) held = held_at place (later_held held)

abbrev pub IsOneRange : Environment → Comp → Option Value → List Value → Type 0
IsOneRange e c held xs = IsComponentRange e c held xs × (IsOneOut e (sets_of c.sets) → ⊥)

abbrev pub AreAllRanges : Environment → List Comp → List (Option Value) → List (List Value) → Type 0
AreAllRanges e cs held ranges = AreRanges e cs held ranges × IsNoneOut e cs

-- the component at this place is out, unless memory ends
abbrev pub IsOutBy : Environment → Comp → ℕ → StartFault → Type 0
IsOutBy e c place (DeclaredOut other) = (other ≡ place) × IsOneOut e (sets_of c.sets)
IsOutBy e c place OutOfMemory = Unit {0}

-- where a value of the component is held its range, else nothing
abbrev pub IsHeldRange : Environment → Comp → Option Value → Option (List Value) → Type 0
IsHeldRange e c None range = range ≡ None
IsHeldRange e c (Some v) range = IsSomeAnd range (IsComponentRange e c (Some v))

abbrev pub AreHeldRanges : Environment → List Comp → List (Option Value) → List (Option (List Value)) → Type 0
AreHeldRanges e [] held [] = Unit {0}
AreHeldRanges e [] held (range ∷ ranges) = ⊥
AreHeldRanges e (c ∷ cs) held [] = ⊥
AreHeldRanges e (c ∷ cs) held (range ∷ ranges) = IsHeldRange e c (first_held held) range × AreHeldRanges e cs (later_held held) ranges
