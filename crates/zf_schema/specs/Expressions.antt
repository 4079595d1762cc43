-- Which schema a schema expression or a box is, where it is well typed.
use Rattle.std.specs.Prelude.{◌≡◌, ℕ, List, [], ◌∷◌, ◌++◌, Some}
use Rattle.zf_schema.specs.Prelude.{Name, SchemaRef, both, DeclTree, either, include, schema_bracket, schema_reference, schema_span, schema_text, SchemaTree, spelling, Tree, vars, conjuncts, DeclaredSet, Defined, first_named, from_to, plain, ResolvedTree, Schema, schema, Ty, IsOf, resolved, Scope, predicate, set_sort, Adds, Agree, comp, conjoined, decorated, disjoined, empty_schema, Includes, IsNext, MarkAgrees, marked, schema_with, Span}

-- what is in scope in a declared set: the globals
abbrev pub outside : List Defined → Scope
outside g = record { globals = g; comps = []; locals = [] }

-- in a predicate: the components too
abbrev pub inside : List Defined → Schema → Scope
inside g a = record { globals = g; comps = a.comps; locals = [] }

-- the reference is to this schema: its base names a schema, which is marked, and then decorated by the strokes
abbrev pub Refers : List Defined → SchemaRef → Schema → Type 0
Refers g r b =
    (i : ℕ) × (x : List ℕ) × (a : Schema) × (first_named (λ d. d.name) r.name.base g ≡ Some (i, record { name = x; definition = schema a }))
    × MarkAgrees r.mark a × IsNext (decorated r.name.strokes (marked r.mark r.name.span a)) b

-- names that are declared to be in a set
abbrev pub AddsAll : Schema → List Name → Ty → DeclaredSet → Schema → Type 0
AddsAll a [] t d b = b ≡ a
AddsAll a (n ∷ ns) t d b = (mid : Schema) × Adds a (comp (spelling n) t (d ∷ [])) mid × AddsAll mid ns t d b

abbrev pub DeclaresOne : List Defined → Schema → DeclTree → Schema → Type 0
DeclaresOne g a (vars ns e) b = (t : Ty) × IsOf (outside g) e (set_sort t) × AddsAll a ns t (plain (resolved (outside g) e)) b
DeclaresOne g a (include r) b = (c : Schema) × Refers g r c × Includes a c b

abbrev pub Declares : List Defined → Schema → List DeclTree → Schema → Type 0
Declares g a [] b = b ≡ a
Declares g a (d ∷ ds) b = (mid : Schema) × DeclaresOne g a d mid × Declares g mid ds b

abbrev pub TakesAll : Schema → List ResolvedTree → Schema → Type 0
TakesAll a [] b = b ≡ a
TakesAll a (c ∷ cs) b = (mid : Schema) × IsNext (schema_with a.comps (a.conjuncts ++ c ∷ [])) mid × TakesAll mid cs b

-- a predicate, split at its outermost `\land`
abbrev pub ConstrainsOne : List Defined → Schema → Tree → Schema → Type 0
ConstrainsOne g a p b = IsOf (inside g a) p predicate × TakesAll a (conjuncts (resolved (inside g a) p)) b

abbrev pub Constrains : List Defined → Schema → List Tree → Schema → Type 0
Constrains g a [] b = b ≡ a
Constrains g a (p ∷ ps) b = (mid : Schema) × ConstrainsOne g a p mid × Constrains g mid ps b

-- declarations, and then predicates over them
abbrev pub IsText : List Defined → List DeclTree → List Tree → Schema → Type 0
IsText g ds ps b = (mid : Schema) × Declares g empty_schema ds mid × Constrains g mid ps b

-- from where the one expression begins to where the other ends
abbrev pub both_span : SchemaTree → SchemaTree → Span
both_span x y = from_to (schema_span x) (schema_span y)

abbrev pub IsSchema : List Defined → SchemaTree → Schema → Type 0
IsSchema g (schema_text s ds ps) c = IsText g ds ps c
IsSchema g (schema_reference s r) c = Refers g r c
IsSchema g (both s x y) c = (a b : Schema) × IsSchema g x a × IsSchema g y b × Agree a.comps b.comps × IsNext (conjoined a b) c
IsSchema g (either s x y) c = (a b : Schema) × IsSchema g x a × IsSchema g y b × Agree a.comps b.comps × IsNext (disjoined (both_span x y) a b) c
IsSchema g (schema_bracket s x) c = IsSchema g x c
