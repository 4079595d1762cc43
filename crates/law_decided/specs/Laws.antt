-- What is not well typed has an offence: of the two, one always holds.
use Rattle.std.specs.Prelude.{◌⊎◌, ℕ, List}
use Rattle.zf_tree.specs.declared.span.Span.{Span}
use Rattle.zf_tree.specs.{BoxTree, DeclTree, SchemaTree, Tree}
use Rattle.zf_tree.specs.declared.operator.Need.{Need}
use Rattle.zf_term.specs.{Defined, Fault, Offence, Schema}
use Rattle.zf_typing.specs.{IsOf, Offends, Scope}
use Rattle.zf_sorts.specs.{Meets, Sort}
use Rattle.zf_schema.specs.{Defines, IsChecked, IsSchema, IsText, Item, OffendsItem, OffendsSchema, OffendsText}

-- there is an offence, at some place
abbrev pub SomeOffence : (Offence → Span → Type 0) → Type 0
SomeOffence offends = (offence : Offence) × (span : Span) × offends offence span

-- a term has a sort that its place takes, or an offence there
abbrev pub EveryTermIsJudged : Type 0
EveryTermIsJudged = (s : Scope) (n : Need) (e : Tree) → ((x : Sort) × IsOf s e x × Meets n x) ⊎ SomeOffence (Offends s n e)

-- declarations with predicates are a schema, or have an offence
abbrev pub EverySchemaTextIsJudged : Type 0
EverySchemaTextIsJudged = (g : List Defined) (ds : List DeclTree) (ps : List Tree) → ((a : Schema) × IsText g ds ps a) ⊎ SomeOffence (OffendsText g ds ps)

-- a schema expression is a schema, or has an offence
abbrev pub EverySchemaIsJudged : Type 0
EverySchemaIsJudged = (g : List Defined) (x : SchemaTree) → ((a : Schema) × IsSchema g x a) ⊎ SomeOffence (OffendsSchema g x)

-- a paragraph or box makes globals of those before it, or has an offence
abbrev pub EveryItemIsJudged : Type 0
EveryItemIsJudged = (g : List Defined) (item : Item) → ((h : List Defined) × Defines g item h) ⊎ SomeOffence (OffendsItem g item)

-- a text defines globals and has faults: none for what is well typed, and one that is an offence for each paragraph or box that is not
abbrev pub EveryTextHasAVerdict : Type 0
EveryTextHasAVerdict = (boxes : List BoxTree) → (globals : List Defined) × (faults : List Fault) × IsChecked boxes globals faults
