-- For private contracts alone: what can't be taken in, and the refusal of a step that stops.
use Rattle.std.specs.Prelude.{◌≡◌, ◌⊎◌, ℕ, List, [], ◌∷◌, Some, None}
use Rattle.zf_schema.specs.Prelude.{clash, Comp, DeclaredSet, Defined, first_named, IsTooLarge, not_a_schema, not_declared, Offence, ResolvedTree, Schema, schema, term_span, too_large, Ty, type_of, Agree, Agrees, Clashes, constrained, grown, OneClashes, Stops, Name, DeclTree, spelling, Tree, Offends, Scope, IsRefusal, Span}
use Rattle.zf_sorts.specs.declared.fault.Refusal.{Refusal}
use Rattle.zf_sorts.specs.declared.fault.Refusal.TheVariants as refusal
use Rattle.zf_calculus.specs.declared.stop.Stop.{Stop}
use Rattle.zf_calculus.specs.declared.stop.Stop.TheVariants.{Clash, TooLarge, OutOfMemory}
use Rattle.zf_calculus.specs.Calculus as calculus
use Rattle.zf_tree.specs.declared.operator.Need.TheVariants as need
use Rattle.zf_schema.specs.Expressions.{inside}
use Rattle.zf_schema.specs.SchemaOffences.{IsNoSchema, OffendsAlone, OffendsAfter, ConstrainsTooMuch}

-- the refusal is that of the stop, at the place
abbrev pub Refuses : Stop → Span → Refusal → Type 0
Refuses (Clash c) l r = IsRefusal r (clash c.name (type_of c.left) (type_of c.right)) l
Refuses (TooLarge m) l r = IsRefusal r (too_large m) l
Refuses OutOfMemory l r = r ≡ refusal.OutOfMemory

-- a disjunction that stops: a clash is at the place of a name, a limit at that of the disjunction
abbrev pub either_span : Stop → (whole name : Span) → Span
either_span (Clash c) l n = n
either_span (TooLarge m) l n = l
either_span OutOfMemory l n = l

-- the global of the name is this schema
abbrev pub IsNamed : List Defined → List ℕ → Schema → Type 0
IsNamed g x a = (i : ℕ) × (first_named (λ d. d.name) x g ≡ Some (i, record { name = x; definition = schema a }))

-- no global of the name, without its strokes, is a schema
abbrev pub LacksSchema : List Defined → Name → Offence → Type 0
LacksSchema g n o =
    ((o ≡ not_declared (spelling n)) × (first_named (λ d. d.name) n.base g ≡ None))
    ⊎ ((o ≡ not_a_schema (spelling n)) × (i : ℕ) × (d : Defined) × (first_named (λ e. e.name) n.base g ≡ Some (i, d)) × IsNoSchema d.definition)

-- the globals and these components are in scope
abbrev pub over : List Defined → List Comp → Scope
over g cs = record { globals = g; comps = cs; locals = [] }

-- the name can't be declared to be in the set
abbrev pub CantAdd : Schema → Name → Ty → DeclaredSet → Offence → Span → Type 0
CantAdd a n t d o m = (m ≡ n.span) × Stops (Clashes a.comps (calculus.comp (spelling n) t (d ∷ []))) (Agrees a.comps (calculus.comp (spelling n) t (d ∷ []))) (grown a (calculus.comp (spelling n) t (d ∷ []))) o

-- the conjunct passes a limit
abbrev pub CantTake : Schema → ResolvedTree → Offence → Span → Type 0
CantTake a t o m = (m ≡ term_span t) × IsTooLarge (constrained a (t ∷ [])) o

-- the conjunction can't be: the fault is at this place
abbrev pub CantConjoin : Span → Schema → Schema → Offence → Span → Type 0
CantConjoin l a b o m = (m ≡ l) × Stops (OneClashes a.comps b.comps) (Agree a.comps b.comps) (calculus.conjoined a b) o

-- the declaration can't be taken in
abbrev pub CantDeclare : List Defined → Schema → DeclTree → Offence → Span → Type 0
CantDeclare g a d o m = OffendsAlone g d o m ⊎ OffendsAfter g a d o m

-- the predicate can't be taken
abbrev pub CantConstrain : List Defined → Schema → Tree → Offence → Span → Type 0
CantConstrain g a p o m = Offends (inside g a) need.Predicate p o m ⊎ ConstrainsTooMuch g a p o m
