-- The schema calculus: what schemas are made of others by inclusion, decoration, `\Delta`, `\Xi`, conjunction and disjunction.
use Rattle.std.specs.Prelude.{◌≡◌, ℕ, ◌+◌, List, [], ◌∷◌, ◌++◌, map, fold, Option, slice_get, if◌then◌else◌}
use Rattle.zf_calculus.specs.Prelude.{AllByRecursion, IfSome, option_map_or, Equal, RefMark, Plain, Delta, Xi, carrier, chain, Comp, DeclaredSet, first_named, link, moved, no_links, one_holds, reference, ResolvedTree, Schema, sets_of, sides, Ty, constraints, Span}
use Rattle.std.specs.Str.{bytes_eq}
use Rattle.zf_reference.specs.declared.reference.Reference.TheVariants.{Component}
pub use Rattle.zf_term.specs.{joined}

abbrev pub comp : List ℕ → Ty → List DeclaredSet → Comp
comp name type sets = record { name = name; type = type; sets = sets }

abbrev pub schema_with : List Comp → List ResolvedTree → Schema
schema_with comps conjuncts = record { comps = comps; conjuncts = conjuncts }

abbrev pub empty_schema : Schema
empty_schema = schema_with [] []

abbrev pub comp_named : List ℕ → List Comp → Option (ℕ × Comp)
comp_named = first_named (λ c. c.name)

-- the component has the type of the one that has its name, if one has
abbrev pub HasTypeOf : Option (ℕ × Comp) → Comp → Type 0
HasTypeOf found c = IfSome found (λ p. p.1.type ≡ c.type)

abbrev pub Agrees : List Comp → Comp → Type 0
Agrees cs c = HasTypeOf (comp_named c.name cs) c

-- no component gets two types
abbrev pub Agree : List Comp → List Comp → Type 0
Agree cs ds = AllByRecursion (Agrees cs) ds

-- one more component: one that is there already keeps its first place and gains the declared sets, a new one goes last
abbrev pub with_comp : List Comp → Comp → List Comp
with_comp [] c = c ∷ []
with_comp (d ∷ ds) c = if bytes_eq d.name c.name then comp d.name d.type (d.sets ++ c.sets) ∷ ds else d ∷ with_comp ds c

abbrev pub with_comps : List Comp → List Comp → List Comp
with_comps = fold with_comp

-- ---- conjunction and inclusion

-- where the component that has this place among ds is among cs
abbrev pub new_place : List Comp → List Comp → ℕ → ℕ
new_place ds cs i = option_map_or (λ c. option_map_or (λ p. p.0) (comp_named c.name cs) i) (slice_get ds i) i

-- the conjuncts of a schema of components ds, over the components cs
abbrev pub carried : List Comp → List Comp → List ResolvedTree → List ResolvedTree
carried ds cs ts = map (moved (new_place ds cs)) ts

-- A's components, then those of B that are new; the declared sets and conjuncts of A, then those of B
abbrev pub conjoined : Schema → Schema → Schema
conjoined a b = schema_with (with_comps a.comps b.comps) (a.conjuncts ++ carried b.comps (with_comps a.comps b.comps) b.conjuncts)

-- ---- decoration, `\Delta` and `\Xi`

-- strokes are appended to the name of each component, and to nothing else
abbrev pub decorated : List ℕ → Schema → Schema
decorated strokes a = schema_with (map (λ c. comp (c.name ++ strokes) c.type c.sets) a.comps) a.conjuncts

-- the stroke of a state after an operation
abbrev pub prime : List ℕ
prime = 39 ∷ []

-- `S \land S'`
abbrev pub delta : Schema → Schema
delta a = conjoined a (decorated prime a)

-- `x = x'`, for the component at a place
abbrev pub unchanged : Span → List Comp → List Comp → ℕ → ResolvedTree
unchanged l cs all i = chain l (reference l (Component i)) (link Equal (reference l (Component (new_place cs all i))) no_links)

abbrev pub all_unchanged : Span → List Comp → List Comp → ℕ → List Comp → List ResolvedTree
all_unchanged l primed all i [] = []
all_unchanged l primed all i (c ∷ cs) = unchanged l primed all i ∷ all_unchanged l primed all (i + 1) cs

-- `\Delta S`, where no component changes
abbrev pub xi : Span → Schema → Schema
xi l a = schema_with (delta a).comps ((delta a).conjuncts ++ all_unchanged l (decorated prime a).comps (delta a).comps 0 a.comps)

abbrev pub marked : RefMark → Span → Schema → Schema
marked Plain l a = a
marked Delta l a = delta a
marked Xi l a = xi l a

-- the components of S and of S' agree, where both are taken
abbrev pub MarkAgrees : RefMark → Schema → Type 0
MarkAgrees Plain a = Unit {0}
MarkAgrees _ a = Agree a.comps (decorated prime a).comps

-- ---- disjunction

-- the declared sets of a component on a side; all values of its type where the side lacks it
abbrev pub sets_on : Option (ℕ × Comp) → Ty → List DeclaredSet
sets_on found t = option_map_or (λ p. p.1.sets) found (carrier t ∷ [])

abbrev pub either_comps : List Comp → List Comp → List Comp
either_comps cs ds =
    map (λ c. comp c.name c.type (sides (sets_of (sets_on (comp_named c.name cs) c.type)) (sets_of (sets_on (comp_named c.name ds) c.type)) ∷ []))
    (with_comps cs ds)

abbrev pub disjoined : Span → Schema → Schema → Schema
disjoined l a b =
    schema_with (either_comps a.comps b.comps)
    (one_holds l (constraints a) (carried b.comps (with_comps a.comps b.comps) (constraints b)) ∷ [])
