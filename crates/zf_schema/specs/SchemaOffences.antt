-- What is wrong with a schema expression or a box that is not well typed. It has no order: clashes and limits alone hang on what stands before them.
use Rattle.std.specs.Prelude.{◌≡◌, ◌⊎◌, ℕ, List, [], ◌∷◌, ◌++◌, None, Some}
use Rattle.zf_schema.specs.Prelude.{Name, SchemaRef, both, DeclTree, either, include, schema_bracket, schema_reference, schema_text, SchemaTree, spelling, Tree, vars, conjuncts, DeclaredSet, Defined, Definition, first_named, IsTooLarge, not_a_schema, not_declared, Offence, plain, ResolvedTree, Schema, schema, term_span, Ty, IsOf, Offends, resolved, predicate, set_sort, Adds, Agree, Agrees, Clashes, comp, conjoined, decorated, disjoined, empty_schema, IsNext, MarkAgrees, MarkClashes, marked, OneClashes, schema_with, Stops, with_comp, Span}
use Rattle.zf_tree.specs.declared.operator.Need.TheVariants as need
use Rattle.zf_schema.specs.Expressions.{both_span, ConstrainsOne, Declares, DeclaresOne, inside, IsSchema, outside, Refers}

-- it holds of one of them
abbrev pub AnyByRecursion : {A : Type 0} → (A → Type 0) → List A → Type 0
AnyByRecursion P [] = ⊥
AnyByRecursion P (a ∷ rest) = P a ⊎ AnyByRecursion P rest

abbrev pub IsNoSchema : Definition → Type 0
IsNoSchema (schema a) = ⊥
IsNoSchema _ = Unit {0}

-- the base of a reference is not declared, or is no schema; or the schema can't be taken as it is marked
abbrev pub CantRefer : List Defined → SchemaRef → Offence → Type 0
CantRefer g r o =
    ((o ≡ not_declared (spelling r.name)) × (first_named (λ d. d.name) r.name.base g ≡ None))
    ⊎ (((o ≡ not_a_schema (spelling r.name)) × (i : ℕ) × (d : Defined) × (first_named (λ e. e.name) r.name.base g ≡ Some (i, d)) × IsNoSchema d.definition)
    ⊎ ((i : ℕ) × (x : List ℕ) × (a : Schema) × (first_named (λ d. d.name) r.name.base g ≡ Some (i, record { name = x; definition = schema a }))
    × Stops (MarkClashes r.mark a) (MarkAgrees r.mark a) (decorated r.name.strokes (marked r.mark r.name.span a)) o))

abbrev pub OffendsRef : List Defined → SchemaRef → Offence → Span → Type 0
OffendsRef g r o m = (m ≡ r.name.span) × CantRefer g r o

-- one of the names can't be declared to be in the set, after those before it
abbrev pub OffendsNames : Schema → List Name → Ty → DeclaredSet → Offence → Span → Type 0
OffendsNames a [] t d o m = ⊥
OffendsNames a (n ∷ ns) t d o m =
    ((m ≡ n.span) × Stops (Clashes a.comps (comp (spelling n) t (d ∷ []))) (Agrees a.comps (comp (spelling n) t (d ∷ []))) (schema_with (with_comp a.comps (comp (spelling n) t (d ∷ []))) a.conjuncts) o)
    ⊎ ((mid : Schema) × Adds a (comp (spelling n) t (d ∷ [])) mid × OffendsNames mid ns t d o m)

-- what a declaration offends wherever it stands: its set is none, or its reference can't be taken
abbrev pub OffendsAlone : List Defined → DeclTree → Offence → Span → Type 0
OffendsAlone g (vars ns e) o m = Offends (outside g) need.Set e o m
OffendsAlone g (include r) o m = OffendsRef g r o m

-- what it offends after those before it: a component gets two types, or a limit is passed
abbrev pub OffendsAfter : List Defined → Schema → DeclTree → Offence → Span → Type 0
OffendsAfter g a (vars ns e) o m = (t : Ty) × IsOf (outside g) e (set_sort t) × OffendsNames a ns t (plain (resolved (outside g) e)) o m
OffendsAfter g a (include r) o m = (c : Schema) × Refers g r c × (m ≡ r.name.span) × Stops (OneClashes a.comps c.comps) (Agree a.comps c.comps) (conjoined a c) o

abbrev pub OneOffendsAfter : List Defined → Schema → List DeclTree → Offence → Span → Type 0
OneOffendsAfter g a [] o m = ⊥
OneOffendsAfter g a (d ∷ ds) o m = OffendsAfter g a d o m ⊎ ((mid : Schema) × DeclaresOne g a d mid × OneOffendsAfter g mid ds o m)

abbrev pub OffendsDecls : List Defined → Schema → List DeclTree → Offence → Span → Type 0
OffendsDecls g a ds o m = AnyByRecursion (λ d. OffendsAlone g d o m) ds ⊎ OneOffendsAfter g a ds o m

-- one of the conjuncts passes a limit, after those before it
abbrev pub OffendsConjuncts : Schema → List ResolvedTree → Offence → Span → Type 0
OffendsConjuncts a [] o m = ⊥
OffendsConjuncts a (c ∷ cs) o m =
    ((m ≡ term_span c) × IsTooLarge (schema_with a.comps (a.conjuncts ++ c ∷ [])) o)
    ⊎ ((mid : Schema) × IsNext (schema_with a.comps (a.conjuncts ++ c ∷ [])) mid × OffendsConjuncts mid cs o m)

-- what a predicate offends after those before it
abbrev pub ConstrainsTooMuch : List Defined → Schema → Tree → Offence → Span → Type 0
ConstrainsTooMuch g a p o m = IsOf (inside g a) p predicate × OffendsConjuncts a (conjuncts (resolved (inside g a) p)) o m

abbrev pub OneConstrainsTooMuch : List Defined → Schema → List Tree → Offence → Span → Type 0
OneConstrainsTooMuch g a [] o m = ⊥
OneConstrainsTooMuch g a (p ∷ ps) o m = ConstrainsTooMuch g a p o m ⊎ ((mid : Schema) × ConstrainsOne g a p mid × OneConstrainsTooMuch g mid ps o m)

-- one that is no predicate offends wherever it stands
abbrev pub OffendsPredicates : List Defined → Schema → List Tree → Offence → Span → Type 0
OffendsPredicates g a ps o m = AnyByRecursion (λ p. Offends (inside g a) need.Predicate p o m) ps ⊎ OneConstrainsTooMuch g a ps o m

-- predicates are judged over the components that the declarations make
abbrev pub OffendsText : List Defined → List DeclTree → List Tree → Offence → Span → Type 0
OffendsText g ds ps o m = OffendsDecls g empty_schema ds o m ⊎ ((mid : Schema) × Declares g empty_schema ds mid × OffendsPredicates g mid ps o m)

-- where the first of the names stands; where there is none, the whole
abbrev pub names_span : (whole : Span) → List Name → Span
names_span s [] = s
names_span s (n ∷ ns) = n.span

abbrev pub decls_span : (whole : Span) → List DeclTree → Span
decls_span s [] = s
decls_span s (vars ns e ∷ ds) = names_span s ns
decls_span s (include r ∷ ds) = r.name.span

-- where the first name of a schema expression stands
abbrev pub name_span : SchemaTree → Span
name_span (schema_text s ds ps) = decls_span s ds
name_span (schema_reference s r) = r.name.span
name_span (both s x y) = name_span x
name_span (either s x y) = name_span x
name_span (schema_bracket s x) = name_span x

-- a disjunction can't be: a clash is at the place of a name, a limit at that of the disjunction
abbrev pub StopsEither : (Offence → Type 0) → Type 0 → Schema → (whole name : Span) → Offence → Span → Type 0
StopsEither clashes agree next l name o m = ((m ≡ name) × clashes o) ⊎ ((m ≡ l) × agree × IsTooLarge next o)

abbrev pub OffendsSchema : List Defined → SchemaTree → Offence → Span → Type 0
OffendsSchema g (schema_text s ds ps) o m = OffendsText g ds ps o m
OffendsSchema g (schema_reference s r) o m = OffendsRef g r o m
OffendsSchema g (both s x y) o m =
    OffendsSchema g x o m
    ⊎ (OffendsSchema g y o m
    ⊎ ((a b : Schema) × IsSchema g x a × IsSchema g y b × (m ≡ name_span y) × Stops (OneClashes a.comps b.comps) (Agree a.comps b.comps) (conjoined a b) o))
OffendsSchema g (either s x y) o m =
    OffendsSchema g x o m
    ⊎ (OffendsSchema g y o m
    ⊎ ((a b : Schema) × IsSchema g x a × IsSchema g y b × StopsEither (OneClashes a.comps b.comps) (Agree a.comps b.comps) (disjoined (both_span x y) a b) (both_span x y) (name_span y) o m))
OffendsSchema g (schema_bracket s x) o m = OffendsSchema g x o m
