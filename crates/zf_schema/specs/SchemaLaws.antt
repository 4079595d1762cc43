-- What holds of every schema expression, of every item and of every text.
use Rattle.std.specs.Prelude.{◌≡◌, ℕ, List, [], ◌∷◌, ◌++◌, map, length, slice_get, Option, Some, None}
use Rattle.zf_schema.specs.Prelude.{BoxTree, free, given, ParagraphTree, SchemaTree, abbreviation, chain, Comp, constructor, DeclaredSet, Defined, Definition, Fault, free_type, given_set, link, no_links, Offence, reference, Schema, schema, sets_of, sides, Ty, Agree, all_unchanged, AreOnce, comp, comp_named, conjoined, decorated, delta, disjoined, EachOnce, MarkAgrees, new_place, prime, sets_on, with_comps, xi, Span}
use Rattle.std.specs.List.{AllByRecursion}
use Rattle.zf_tree.specs.declared.symbol.Relation.TheVariants.{Equal}
use Rattle.zf_tree.specs.declared.tree.RefMark.TheVariants.{Xi}
use Rattle.zf_reference.specs.declared.reference.Reference.TheVariants.{Component}
use Rattle.std.specs.Option.{option_or}
use Rattle.zf_schema.specs.Checking.{Item, Defines, OffendsItem, IsChecked}
use Rattle.zf_schema.specs.Expressions.{IsSchema}
use Rattle.zf_schema.specs.SchemaOffences.{OffendsSchema}

-- a schema expression is one schema at most
abbrev pub OneSchema : Type 0
OneSchema = (g : List Defined) (x : SchemaTree) (a b : Schema) → IsSchema g x a → IsSchema g x b → a ≡ b

-- one that is a schema has no offence
abbrev pub NoSchemaOffence : Type 0
NoSchemaOffence = (g : List Defined) (x : SchemaTree) (a : Schema) (o : Offence) (m : Span) → IsSchema g x a → OffendsSchema g x o m → ⊥

-- a paragraph or box makes one list of globals at most
abbrev pub OneDefinition : Type 0
OneDefinition = (g : List Defined) (item : Item) (h i : List Defined) → Defines g item h → Defines g item i → h ≡ i

-- one that is well typed has no offence
abbrev pub NoItemOffence : Type 0
NoItemOffence = (g : List Defined) (item : Item) (h : List Defined) (o : Offence) (m : Span) → Defines g item h → OffendsItem g item o m → ⊥

-- a text defines one list of globals, and has one number of faults
abbrev pub OneCheck : Type 0
OneCheck =
    (boxes : List BoxTree) (g h : List Defined) (es fs : List Fault)
    → IsChecked boxes g es → IsChecked boxes h fs → (g ≡ h) × (length es ≡ length fs)

-- ---- the schema calculus

-- decoration changes the names of components, and nothing else: conjuncts tell components by place, so a bound variable captures none
abbrev pub DecorationRenames : Type 0
DecorationRenames =
    (strokes : List ℕ) (a : Schema)
    → ((decorated strokes a).conjuncts ≡ a.conjuncts)
    × (map (λ c. c.name) (decorated strokes a).comps ≡ map (λ c. c.name ++ strokes) a.comps)
    × (map (λ c. c.type) (decorated strokes a).comps ≡ map (λ c. c.type) a.comps)
    × (map (λ c. c.sets) (decorated strokes a).comps ≡ map (λ c. c.sets) a.comps)

-- names with their types
abbrev pub signature : List Comp → List (List ℕ × Ty)
signature cs = map (λ c. (c.name, c.type)) cs

-- the components of the one are the first of the other, in order
abbrev pub StandsFirst : Schema → Schema → Type 0
StandsFirst a b = (more : List (List ℕ × Ty)) × (signature b.comps ≡ signature a.comps ++ more)

abbrev pub FirstKept : Type 0
FirstKept = (l : Span) (a b : Schema) → StandsFirst a (conjoined a b) × StandsFirst a (delta a) × StandsFirst a (xi l a) × StandsFirst a (disjoined l a b)

-- ---- conjunction, by name

-- the type of the component of this name
abbrev pub type_found : Option (ℕ × Comp) → Option Ty
type_found None = None
type_found (Some p) = Some p.1.type

abbrev pub type_named : List ℕ → List Comp → Option Ty
type_named x cs = type_found (comp_named x cs)

-- the sets in which it is declared to be
abbrev pub sets_found : Option (ℕ × Comp) → List DeclaredSet
sets_found None = []
sets_found (Some p) = p.1.sets

abbrev pub sets_named : List ℕ → List Comp → List DeclaredSet
sets_named x cs = sets_found (comp_named x cs)

-- the component, unless one is found, and the rest
abbrev pub unless_found : Option (ℕ × Comp) → Comp → List Comp → List Comp
unless_found None d rest = d ∷ rest
unless_found (Some p) d rest = rest

-- the components whose names no component of the one schema has
abbrev pub new_comps : List Comp → List Comp → List Comp
new_comps cs [] = []
new_comps cs (d ∷ ds) = unless_found (comp_named d.name cs) d (new_comps cs ds)

-- the components are those of the one schema, then those of the other that are new
abbrev pub CompsJoined : Type 0
CompsJoined = (a b : Schema) → AreOnce b.comps → signature (conjoined a b).comps ≡ signature a.comps ++ signature (new_comps a.comps b.comps)

-- a component has the type that the one schema gives it, or else the other
abbrev pub TypesJoined : Type 0
TypesJoined = (a b : Schema) (x : List ℕ) → type_named x (conjoined a b).comps ≡ option_or (type_named x a.comps) (type_named x b.comps)

-- it has the declared sets of the one, then those of the other
abbrev pub SetsJoined : Type 0
SetsJoined = (a b : Schema) (x : List ℕ) → AreOnce b.comps → sets_named x (conjoined a b).comps ≡ sets_named x a.comps ++ sets_named x b.comps

-- at the place stands a component of this name and type
abbrev pub StandsAt : List Comp → ℕ → Comp → Type 0
StandsAt cs i c = (d : Comp) × (slice_get cs i ≡ Some d) × (d.name ≡ c.name) × (d.type ≡ c.type)

-- what names a component of the other schema by place goes on naming that component
abbrev pub PlacesCarried : Type 0
PlacesCarried =
    (l : Span) (a b : Schema) (i : ℕ) (c : Comp) → AreOnce b.comps → Agree a.comps b.comps → slice_get b.comps i ≡ Some c
    → StandsAt (conjoined a b).comps (new_place b.comps (with_comps a.comps b.comps) i) c
    × StandsAt (disjoined l a b).comps (new_place b.comps (with_comps a.comps b.comps) i) c

-- ---- disjunction, by name

abbrev pub TypesOfEither : Type 0
TypesOfEither = (l : Span) (a b : Schema) (x : List ℕ) → type_named x (disjoined l a b).comps ≡ option_or (type_named x a.comps) (type_named x b.comps)

-- it has the components that the conjunction has, of the same types
abbrev pub CompsOfEither : Type 0
CompsOfEither = (l : Span) (a b : Schema) → signature (disjoined l a b).comps ≡ signature (conjoined a b).comps

-- a component has one declared set, whose sides are its declared sets in the one schema and in the other
abbrev pub SetsOfEither : Type 0
SetsOfEither =
    (l : Span) (a b : Schema) (x : List ℕ) (t : Ty) → type_named x (disjoined l a b).comps ≡ Some t
    → sets_named x (disjoined l a b).comps ≡ sides (sets_of (sets_on (comp_named x a.comps) t)) (sets_of (sets_on (comp_named x b.comps) t)) ∷ []

-- ---- `\Xi`

-- of the conjuncts that `\Xi S` adds to `\Delta S`, the one at the place of a component equates it with the primed one
abbrev pub XiEquates : Type 0
XiEquates =
    (l : Span) (a : Schema) (i : ℕ) (c : Comp) → AreOnce a.comps → MarkAgrees Xi a → slice_get a.comps i ≡ Some c
    → (j : ℕ)
    × (slice_get (all_unchanged l (decorated prime a).comps (delta a).comps 0 a.comps) i ≡ Some (chain l (reference l (Component i)) (link Equal (reference l (Component j)) no_links)))
    × StandsAt (xi l a).comps i c
    × StandsAt (xi l a).comps j (comp (c.name ++ prime) c.type c.sets)

-- ---- the globals of a text

-- what is defined after globals stands after them, so a global keeps its place
abbrev pub GlobalsKept : Type 0
GlobalsKept = (g : List Defined) (item : Item) (h : List Defined) → Defines g item h → (more : List Defined) × (h ≡ g ++ more)

abbrev pub AreDefinedOnce : List Defined → Type 0
AreDefinedOnce = EachOnce (λ d. d.name)

abbrev pub HasCompsOnce : Definition → Type 0
HasCompsOnce (given_set n) = Unit {0}
HasCompsOnce (free_type n names) = Unit {0}
HasCompsOnce (constructor n of_type place) = Unit {0}
HasCompsOnce (abbreviation t r x) = Unit {0}
HasCompsOnce (schema a) = AreOnce a.comps

abbrev pub HaveCompsOnce : List Defined → Type 0
HaveCompsOnce g = AllByRecursion (λ d. HasCompsOnce d.definition) g

-- after such globals a name is one component of a schema expression at most
abbrev pub CompsOnce : Type 0
CompsOnce = (g : List Defined) (x : SchemaTree) (a : Schema) → HaveCompsOnce g → IsSchema g x a → AreOnce a.comps

-- a name is defined once, and is one component of a schema at most
abbrev pub NamesOnce : Type 0
NamesOnce = (boxes : List BoxTree) (g : List Defined) (faults : List Fault) → IsChecked boxes g faults → AreDefinedOnce g × HaveCompsOnce g

-- how many given sets and free types a paragraph defines
abbrev pub elements : ParagraphTree → ℕ
elements (given ns) = length ns
elements (free n ns) = 1
elements _ = 0
