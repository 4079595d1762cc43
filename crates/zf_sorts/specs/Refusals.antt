-- What a refusal says, and the program's faults as plain data.
use Rattle.std.specs.Prelude.{◌≡◌}
use Rattle.zf_tree.specs.declared.span.Span.{Span}
use Rattle.zf_term.specs.{already_defined, clash, Fault, local_twice, mismatch, misplaced, no_members, not_a_schema, not_declared, Offence, too_large, type_of, unfit}
use Rattle.zf_sorts.specs.declared.fault.Offence as program
use Rattle.zf_sorts.specs.declared.fault.Offence.TheVariants as variant
use Rattle.zf_sorts.specs.declared.fault.TypeFault.{TypeFault}
use Rattle.zf_sorts.specs.declared.fault.Refusal.{Refusal}
use Rattle.zf_sorts.specs.declared.fault.Refusal.TheVariants as refusal
use Rattle.zf_sorts.specs.RuleViews.{sort_of}

abbrev pub offence_of : program.Offence → Offence
offence_of (variant.NotDeclared x) = not_declared x
offence_of (variant.AlreadyDefined x) = already_defined x
offence_of (variant.NotASchema x) = not_a_schema x
offence_of (variant.LocalTwice x) = local_twice x
offence_of (variant.Mismatch x y) = mismatch (sort_of x) (sort_of y)
offence_of (variant.Unfit n f) = unfit (type_of n) (type_of f)
offence_of variant.NoMembers = no_members
offence_of (variant.Misplaced n z) = misplaced n (sort_of z)
offence_of (variant.Clash c) = clash c.name (type_of c.left) (type_of c.right)
offence_of (variant.TooLarge l) = too_large l

-- without its hint
abbrev pub fault_of : TypeFault → Fault
fault_of f = record { offence = offence_of f.offence; span = f.span }

-- the fact holds of the fault, unless memory ran out
abbrev pub IfFault : Refusal → (Offence → Span → Type 0) → Type 0
IfFault (refusal.Fault f) P = P (offence_of f.offence) f.span
IfFault refusal.OutOfMemory P = Unit {0}

-- the fault is this one, unless memory ran out
abbrev pub IsRefusal : Refusal → Offence → Span → Type 0
IsRefusal r o s = IfFault r (λ p at. (p ≡ o) × (at ≡ s))

-- the fault is still the same, unless memory ran out
abbrev pub IsStill : (old new : Refusal) → Type 0
IsStill (refusal.Fault f) new = IsRefusal new (offence_of f.offence) f.span
IsStill refusal.OutOfMemory new = new ≡ refusal.OutOfMemory
