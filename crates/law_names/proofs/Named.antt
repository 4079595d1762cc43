-- Each given set and free type of a text, and each component of its schemas, is named clearly, and there are no more types than the text has bytes.
use Rattle.law_names.proofs.Prelude.{◌+◌, ◌∷◌, ◌≡◌, ◌≤◌, [], ap, arith, inl, inr, length, List, map, Some, subst, sym, ℕ, none-some, same_Some, spelling, BoxTree, DeclTree, free, given, include, ParagraphTree, SchemaTree, Tree, vars, Name, ReadsSource, abbreviation, constructor, Defined, Definition, free_type, given_set, schema, AreApart, AreNames, IsName, AllByRecursion, DeclaredSet, Fault, Schema, Ty, comp, empty_schema, first_named, marked, plain, slice_get, suc, zero}
use Rattle.zf_tree.specs.Trees as text
use Rattle.zf_tree.specs.declared.tree.SchemaRef.{SchemaRef}
use Rattle.zf_typing.specs.{resolved}
use Rattle.zf_schema.specs.{a_box, a_paragraph, AddsAll, ChecksAll, ChecksOne, Constructs, Declares, DeclaresOne, Defines, DefinesParagraph, Gives, IsChecked, IsSchema, IsText, Item, items, next_number, outside, Refers, with_global}
use Rattle.zf_schema.proofs.Named.{named_there}
use Rattle.zf_schema.proofs.Numbering.{next_more, defined_numbers}
use Rattle.zf_schema.proofs.Once.{constrained_comps}
use Rattle.law_names.proofs.Apart.{constructors_apart}
use Rattle.law_names.proofs.Components.{HaveNames, decorated_named, disjoined_named, joined_named, marked_named, one_more_named, strokes_of}
use Rattle.law_names.proofs.Spelled.{IsDeclSpelled, IsSchemaSpelled, IsParagraphSpelled, IsItemSpelled, item_elements, AreItemsSpelled, items_spelled}

-- a given set, a free type or the components of a schema are so named
abbrev pub IsNamed : List ℕ → Definition → Type 0
IsNamed name (given_set n) = IsName name
IsNamed name (free_type n constructors) = AreNames constructors × AreApart constructors
IsNamed name (constructor n of_type place) = Unit {0}
IsNamed name (abbreviation t r x) = Unit {0}
IsNamed name (schema a) = HaveNames a.comps

abbrev pub AreNamed : List Defined → Type 0
AreNamed g = AllByRecursion (λ d. IsNamed d.name d.definition) g

-- what holds of all holds of the one that is found
pub found_in : (P : Defined → Type 0) (x : List ℕ) (g : List Defined) (p : ℕ × Defined) → AllByRecursion P g → first_named (λ d. d.name) x g ≡ Some p → P p.1
found_in P x g p all e = at g p.0 all (named_there (λ (d : Defined). d.name) x g p e).0
  where
    at : (g : List Defined) (i : ℕ) → AllByRecursion P g → slice_get g i ≡ Some p.1 → P p.1
    at [] i all there = absurd (none-some p.1 there)
    at (d ∷ g) zero all there = subst P (same_Some d p.1 there) all.0
    at (d ∷ g) (suc i) all there = at g i all.1 there

one_more : (g : List Defined) (n : Name) (d : Definition) → AreNamed g → IsNamed (spelling n) d → AreNamed (with_global g n d)
one_more [] n d all one = (one, tt)
one_more (e ∷ g) n d all one = (all.0, one_more g n d all.1 one)

-- ---- schema expressions

reference_named : (g : List Defined) (r : SchemaRef) (b : Schema) → AreNamed g → Refers g r b → IsName (spelling r.name) → HaveNames b.comps
reference_named g r b all p named =
    let base = found_in (λ d. IsNamed d.name d.definition) r.name.base g (p.0, record { name = p.1; definition = schema p.2 }) all p.3 in
    let strokes = strokes_of r.name.base r.name.strokes named in
    let whole = decorated_named r.name.strokes (marked r.mark r.name.span p.2) strokes (marked_named r.mark r.name.span p.2 base) in
    subst (λ v. HaveNames v.comps) (sym p.5.0) whole

all_added_named : (a : Schema) (ns : List Name) (t : Ty) (s : DeclaredSet) (b : Schema) → AddsAll a ns t s b → AreNames (map spelling ns) → HaveNames a.comps → HaveNames b.comps
all_added_named a [] t s b p names all = subst (λ v. HaveNames v.comps) (sym p) all
all_added_named a (n ∷ ns) t s b p names all =
    let added = one_more_named a.comps (comp (spelling n) t (s ∷ [])) all names.0 in
    all_added_named p.0 ns t s b p.2 names.1 (subst (λ v. HaveNames v.comps) (sym p.1.1.0) added)

declaration_named : (g : List Defined) (a : Schema) (d : DeclTree) (b : Schema) → AreNamed g → DeclaresOne g a d b → IsDeclSpelled d → HaveNames a.comps → HaveNames b.comps
declaration_named g a (vars ns e) b known p names all = all_added_named a ns p.0 (plain (resolved (outside g) e)) b p.2 names all
declaration_named g a (include r) b known p names all =
    subst (λ v. HaveNames v.comps) (sym p.2.1.0) (joined_named a.comps p.0.comps all (reference_named g r p.0 known p.1 names))

declared_named : (g : List Defined) (a : Schema) (ds : List DeclTree) (b : Schema) → AreNamed g → Declares g a ds b → AllByRecursion IsDeclSpelled ds → HaveNames a.comps → HaveNames b.comps
declared_named g a [] b known p names all = subst (λ v. HaveNames v.comps) (sym p) all
declared_named g a (d ∷ ds) b known p names all = declared_named g p.0 ds b known p.2 names.1 (declaration_named g a d p.0 known p.1 names.0 all)

text_named : (g : List Defined) (ds : List DeclTree) (es : List Tree) (b : Schema) → AreNamed g → IsText g ds es b → AllByRecursion IsDeclSpelled ds → HaveNames b.comps
text_named g ds es b known p names = subst HaveNames (sym (constrained_comps g p.0 es b p.2)) (declared_named g empty_schema ds p.0 known p.1 names tt)

schema_named : (g : List Defined) (x : SchemaTree) (c : Schema) → AreNamed g → IsSchema g x c → IsSchemaSpelled x → HaveNames c.comps
schema_named g (text.schema_text s ds ps) c known p names = text_named g ds ps c known p names
schema_named g (text.schema_reference s r) c known p names = reference_named g r c known p names
schema_named g (text.both s x y) c known p names =
    subst (λ v. HaveNames v.comps) (sym p.5.0) (joined_named p.0.comps p.1.comps (schema_named g x p.0 known p.2 names.0) (schema_named g y p.1 known p.3 names.1))
schema_named g (text.either s x y) c known p names =
    subst (λ v. HaveNames v.comps) (sym p.5.0) (disjoined_named p.0.comps p.1.comps (schema_named g x p.0 known p.2 names.0) (schema_named g y p.1 known p.3 names.1))
schema_named g (text.schema_bracket s x) c known p names = schema_named g x c known p names

-- ---- paragraphs and boxes

given_named : (g : List Defined) (ns : List Name) (h : List Defined) → Gives g ns h → AreNames (map spelling ns) → AreNamed g → AreNamed h
given_named g [] h p names all = subst AreNamed (sym p) all
given_named g (n ∷ ns) h p names all =
    let given_set = given_set (next_number g) in
    given_named (with_global g n given_set) ns h p.1 names.1 (one_more g n given_set all names.0)

constructors_named :
    (g : List Defined) (number : ℕ) (of_type : List ℕ) (place : ℕ) (ns : List Name) (h : List Defined) → Constructs g number of_type place ns h → AreNamed g → AreNamed h
constructors_named g number of_type place [] h p all = subst AreNamed (sym p) all
constructors_named g number of_type place (n ∷ ns) h p all =
    let element = constructor number of_type place in
    constructors_named (with_global g n element) number of_type (place + 1) ns h p.1 (one_more g n element all tt)

paragraph_named : (g : List Defined) (p : ParagraphTree) (h : List Defined) → DefinesParagraph g p h → IsParagraphSpelled p → AreNamed g → AreNamed h
paragraph_named g (given ns) h p names all = given_named g ns h p names all
paragraph_named g (free n ns) h p names all =
    let of_type = free_type (next_number g) (map spelling ns) in
    let after = with_global g n of_type in
    constructors_named after (next_number g) (spelling n) 0 ns h p.1
    (one_more g n of_type all (names, constructors_apart after (next_number g) (spelling n) 0 ns h p.1))
paragraph_named g (text.abbreviation n e) h p names all = subst AreNamed (sym p.1.2) (one_more g n _ all tt)
paragraph_named g (text.definition n x) h p names all = subst AreNamed (sym p.1.2) (one_more g n (schema p.1.0) all (schema_named g x p.1.0 all p.1.1 names))

-- the globals are so named, and there are this many more types
abbrev IsNamedAfter : List Defined → ℕ → List Defined → Type 0
IsNamedAfter g more h = (AreNamed g → AreNamed h) × (next_number h ≤ next_number g + more)

item_named : (g : List Defined) (item : Item) (h : List Defined) → Defines g item h → IsItemSpelled item → IsNamedAfter g (item_elements item) h
item_named g (a_paragraph p) h q names = (paragraph_named g p h q names, omega (arith, defined_numbers g p h q))
item_named g (a_box n ds ps) h p names = (
  λ all. subst AreNamed (sym p.1.2) (one_more g n (schema p.1.0) all (text_named g ds ps p.1.0 all p.1.1 names)),
  omega (arith, ap next_number p.1.2, next_more g n (schema p.1.0)),
)

step_named : (g : List Defined) (item : Item) (h : List Defined) (fs : List Fault) → ChecksOne g item h fs → IsItemSpelled item → IsNamedAfter g (item_elements item) h
step_named g item h fs (inl p) names = item_named g item h p.0 names
step_named g item h fs (inr p) names = (λ all. subst AreNamed (sym p.1) all, omega (arith, ap next_number p.1))

run_named :
    (most made : ℕ) (g : List Defined) (steps : List Item) (h : List Defined) (fs : List Fault) → ChecksAll g steps h fs → AreItemsSpelled most made steps → next_number g ≤ made
    → AreNamed g → AreNamed h × (next_number h ≤ most)
run_named most made g [] h fs p names few all = (subst AreNamed (sym p.0) all, omega (arith, ap next_number p.0, names))
run_named most made g (item ∷ steps) h fs p names few all =
    let step = step_named g item p.0 p.1 p.3 names.0 in
    run_named most (made + item_elements item) p.0 steps h p.2 p.4 names.1 (omega (arith, step.1, few)) (step.0 all)

-- the globals of a source
pub globals_named :
    (boxes : List BoxTree) (source : List ℕ) (g : List Defined) (faults : List Fault) → ReadsSource boxes source → IsChecked boxes g faults
    → AreNamed g × (next_number g ≤ length source)
globals_named boxes source g faults r c = run_named (length source) 0 [] (items boxes) g faults c (items_spelled boxes source r) (omega arith) tt
