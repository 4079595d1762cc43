-- What a text defines, and the faults of its paragraphs and boxes.
use Rattle.std.specs.Prelude.{◌≡◌, ◌⊎◌, ℕ, ◌+◌, List, [], ◌∷◌, ◌++◌, map, flat_map, None}
use Rattle.zf_schema.specs.Prelude.{Name, BoxTree, DeclTree, definition, free, given, ParagraphTree, schema_box, spelling, Tree, zed, abbreviation, already_defined, constructor, Defined, Definition, Fault, first_named, free_type, given_set, Offence, ResolvedTree, Schema, schema, Ty, IsOf, Offends, resolved, typed, Span}
use Rattle.zf_tree.specs.Trees as text
use Rattle.zf_tree.specs.declared.operator.Need.TheVariants as need
pub use Rattle.zf_term.specs.{has_elements, next_number}
use Rattle.zf_extent.specs.{extent_of}
use Rattle.zf_schema.specs.Expressions.{outside, IsText, IsSchema}
use Rattle.zf_schema.specs.SchemaOffences.{OffendsText, OffendsSchema}

pub data Item : Type 0 where
  a_paragraph : ParagraphTree → Item
  a_box : Name → List DeclTree → List Tree → Item

abbrev pub items_in : BoxTree → List Item
items_in (zed ps) = map a_paragraph ps
items_in (schema_box n ds ps) = a_box n ds ps ∷ []

abbrev pub items : List BoxTree → List Item
items = flat_map items_in

-- no global has the name
abbrev pub IsNew : List Defined → Name → Type 0
IsNew g n = first_named (λ d. d.name) (spelling n) g ≡ None

abbrev pub with_global : List Defined → Name → Definition → List Defined
with_global g n d = g ++ record { name = spelling n; definition = d } ∷ []

-- a term of this type, as what a name is defined as after the globals
abbrev pub abbreviated : List Defined → Ty → ResolvedTree → Definition
abbreviated g t r = abbreviation t r (extent_of g r)

-- ---- what each defines

abbrev pub Gives : List Defined → List Name → List Defined → Type 0
Gives g [] h = h ≡ g
Gives g (n ∷ ns) h = IsNew g n × Gives (with_global g n (given_set (next_number g))) ns h

-- the constructors of the free type of this number and name, from this place on
abbrev pub Constructs : List Defined → (number : ℕ) → (of_type : List ℕ) → (place : ℕ) → List Name → List Defined → Type 0
Constructs g number of_type place [] h = h ≡ g
Constructs g number of_type place (n ∷ ns) h = IsNew g n × Constructs (with_global g n (constructor number of_type place)) number of_type (place + 1) ns h

abbrev pub DefinesParagraph : List Defined → ParagraphTree → List Defined → Type 0
DefinesParagraph g (given ns) h = Gives g ns h
DefinesParagraph g (free n ns) h = IsNew g n × Constructs (with_global g n (free_type (next_number g) (map spelling ns))) (next_number g) (spelling n) 0 ns h
DefinesParagraph g (text.abbreviation n e) h = IsNew g n × ((t : Ty) × IsOf (outside g) e (typed t) × (h ≡ with_global g n (abbreviated g t (resolved (outside g) e))))
DefinesParagraph g (definition n x) h = IsNew g n × ((a : Schema) × IsSchema g x a × (h ≡ with_global g n (schema a)))

-- the paragraph or box is well typed after the globals g, and makes the globals h
abbrev pub Defines : List Defined → Item → List Defined → Type 0
Defines g (a_paragraph p) h = DefinesParagraph g p h
Defines g (a_box n ds ps) h = IsNew g n × ((a : Schema) × IsText g ds ps a × (h ≡ with_global g n (schema a)))

-- ---- what is wrong with one that is not well typed

-- the name is that of a global
abbrev pub IsTaken : List Defined → Name → Offence → Span → Type 0
IsTaken g n o m = (o ≡ already_defined (spelling n)) × (m ≡ n.span) × (IsNew g n → ⊥)

abbrev pub OffendsGiven : List Defined → List Name → Offence → Span → Type 0
OffendsGiven g [] o m = ⊥
OffendsGiven g (n ∷ ns) o m = IsTaken g n o m ⊎ OffendsGiven (with_global g n (given_set (next_number g))) ns o m

abbrev pub OffendsConstructors : List Defined → (number : ℕ) → (of_type : List ℕ) → (place : ℕ) → List Name → Offence → Span → Type 0
OffendsConstructors g number of_type place [] o m = ⊥
OffendsConstructors g number of_type place (n ∷ ns) o m =
    IsTaken g n o m ⊎ OffendsConstructors (with_global g n (constructor number of_type place)) number of_type (place + 1) ns o m

abbrev pub OffendsParagraph : List Defined → ParagraphTree → Offence → Span → Type 0
OffendsParagraph g (given ns) o m = OffendsGiven g ns o m
OffendsParagraph g (free n ns) o m =
    IsTaken g n o m ⊎ OffendsConstructors (with_global g n (free_type (next_number g) (map spelling ns))) (next_number g) (spelling n) 0 ns o m
OffendsParagraph g (text.abbreviation n e) o m = IsTaken g n o m ⊎ Offends (outside g) need.Expression e o m
OffendsParagraph g (definition n x) o m = IsTaken g n o m ⊎ OffendsSchema g x o m

-- the offence, at the place, is one of the paragraph or box after the globals g
abbrev pub OffendsItem : List Defined → Item → Offence → Span → Type 0
OffendsItem g (a_paragraph p) o m = OffendsParagraph g p o m
OffendsItem g (a_box n ds ps) o m = IsTaken g n o m ⊎ OffendsText g ds ps o m

-- ---- one after another

-- it is well typed and defines what it does, or it is not, defines nothing and has one fault
abbrev pub ChecksOne : List Defined → Item → List Defined → List Fault → Type 0
ChecksOne g item h faults =
    (Defines g item h × (faults ≡ []))
    ⊎ (((other : List Defined) → Defines g item other → ⊥) × (h ≡ g) × ((f : Fault) × OffendsItem g item f.offence f.span × (faults ≡ f ∷ [])))

-- what the items define after the globals g, and their faults, in order
abbrev pub ChecksAll : List Defined → List Item → List Defined → List Fault → Type 0
ChecksAll g [] h faults = (h ≡ g) × (faults ≡ [])
ChecksAll g (item ∷ rest) h faults =
    (mid : List Defined) × (first more : List Fault) × ChecksOne g item mid first × ChecksAll mid rest h more × (faults ≡ first ++ more)

abbrev pub IsChecked : List BoxTree → List Defined → List Fault → Type 0
IsChecked boxes globals faults = ChecksAll [] (items boxes) globals faults
