-- A schema expression, and each of its parts, is one schema at most.
use Rattle.zf_schema.proofs.Prelude.{both_span, ◌∙◌, ◌∷◌, ◌≡◌, [], ap, List, Some, subst, sym, ℕ, same_Some, spelling, both, DeclTree, either, include, schema_reference, schema_bracket, schema_text, SchemaTree, Tree, vars, Name, SchemaRef, Comp, DeclaredSet, Defined, plain, Schema, schema, first_named, ResolvedTree, conjuncts, Ty, one_sort, same_set, resolved, set_sort, comp, conjoined, decorated, disjoined, marked, empty_schema, Adds, Includes, AddsAll, Constrains, ConstrainsOne, Declares, DeclaresOne, inside, IsSchema, IsText, outside, Refers, TakesAll}

-- ---- the base of a reference

-- the schema that the name is
pub one_base :
    (g : List Defined) (name : List ℕ) (i j : ℕ) (x y : List ℕ) (a b : Schema)
    → first_named (λ d. d.name) name g ≡ Some (i, record { name = x; definition = schema a })
    → first_named (λ d. d.name) name g ≡ Some (j, record { name = y; definition = schema b }) → a ≡ b
one_base g name i j x y a b p q =
    let same = same_Some (i, record { name = x; definition = schema a }) (j, record { name = y; definition = schema b }) (sym p ∙ q) in
    let definition = ap (λ v. v.1.definition) same in
    (cc)

pub one_reference : (g : List Defined) (r : SchemaRef) (b c : Schema) → Refers g r b → Refers g r c → b ≡ c
one_reference g r b c p q =
    let base = one_base g r.name.base p.0 q.0 p.1 q.1 p.2 q.2 p.3 q.3 in
    p.5.0 ∙ ap (λ a. decorated r.name.strokes (marked r.mark r.name.span a)) base ∙ sym q.5.0

-- ---- declarations

pub one_added : (a : Schema) (c : Comp) (b d : Schema) → Adds a c b → Adds a c d → b ≡ d
one_added a c b d p q = p.1.0 ∙ sym q.1.0

pub all_added : (a : Schema) (ns : List Name) (t : Ty) (s : DeclaredSet) (b c : Schema) → AddsAll a ns t s b → AddsAll a ns t s c → b ≡ c
all_added a [] t s b c p q = p ∙ sym q
all_added a (n ∷ ns) t s b c p q =
    let mid = one_added a (comp (spelling n) t (s ∷ [])) p.0 q.0 p.1 q.1 in
    all_added q.0 ns t s b c (subst (λ m. AddsAll m ns t s b) mid p.2) q.2

pub one_declaration : (g : List Defined) (a : Schema) (d : DeclTree) (b c : Schema) → DeclaresOne g a d b → DeclaresOne g a d c → b ≡ c
one_declaration g a (vars ns e) b c p q =
    let type = same_set p.0 q.0 (one_sort (outside g) e (set_sort p.0) (set_sort q.0) p.1 q.1) in
    let set = plain (resolved (outside g) e) in
    all_added a ns q.0 set b c (subst (λ t. AddsAll a ns t set b) type p.2) q.2
one_declaration g a (include r) b c p q =
    let included = one_reference g r p.0 q.0 p.1 q.1 in
    let taken = subst (λ s. Includes a s b) included p.2 in
    taken.1.0 ∙ sym q.2.1.0

pub all_declared : (g : List Defined) (a : Schema) (ds : List DeclTree) (b c : Schema) → Declares g a ds b → Declares g a ds c → b ≡ c
all_declared g a [] b c p q = p ∙ sym q
all_declared g a (d ∷ ds) b c p q =
    let mid = one_declaration g a d p.0 q.0 p.1 q.1 in
    all_declared g q.0 ds b c (subst (λ m. Declares g m ds b) mid p.2) q.2

-- ---- predicates

pub all_taken : (a : Schema) (cs : List ResolvedTree) (b d : Schema) → TakesAll a cs b → TakesAll a cs d → b ≡ d
all_taken a [] b d p q = p ∙ sym q
all_taken a (c ∷ cs) b d p q =
    let mid = p.1.0 ∙ sym q.1.0 in
    all_taken q.0 cs b d (subst (λ m. TakesAll m cs b) mid p.2) q.2

pub one_constraint : (g : List Defined) (a : Schema) (e : Tree) (b c : Schema) → ConstrainsOne g a e b → ConstrainsOne g a e c → b ≡ c
one_constraint g a e b c p q = all_taken a (conjuncts (resolved (inside g a) e)) b c p.1 q.1

pub all_constrained : (g : List Defined) (a : Schema) (es : List Tree) (b c : Schema) → Constrains g a es b → Constrains g a es c → b ≡ c
all_constrained g a [] b c p q = p ∙ sym q
all_constrained g a (e ∷ es) b c p q =
    let mid = one_constraint g a e p.0 q.0 p.1 q.1 in
    all_constrained g q.0 es b c (subst (λ m. Constrains g m es b) mid p.2) q.2

-- ---- boxes and schema expressions

pub one_text : (g : List Defined) (ds : List DeclTree) (es : List Tree) (b c : Schema) → IsText g ds es b → IsText g ds es c → b ≡ c
one_text g ds es b c p q =
    let mid = all_declared g empty_schema ds p.0 q.0 p.1 q.1 in
    all_constrained g q.0 es b c (subst (λ m. Constrains g m es b) mid p.2) q.2

pub one_schema : (g : List Defined) (x : SchemaTree) (b c : Schema) → IsSchema g x b → IsSchema g x c → b ≡ c
one_schema g (schema_text s ds es) b c p q = one_text g ds es b c p q
one_schema g (schema_reference s r) b c p q = one_reference g r b c p q
one_schema g (both s x y) b c p q =
    let left = one_schema g x p.0 q.0 p.2 q.2 in
    let right = one_schema g y p.1 q.1 p.3 q.3 in
    p.5.0 ∙ ap (λ a. conjoined a p.1) left ∙ ap (λ a. conjoined q.0 a) right ∙ sym q.5.0
one_schema g (either s x y) b c p q =
    let left = one_schema g x p.0 q.0 p.2 q.2 in
    let right = one_schema g y p.1 q.1 p.3 q.3 in
    p.5.0 ∙ ap (λ a. disjoined (both_span x y) a p.1) left ∙ ap (λ a. disjoined (both_span x y) q.0 a) right ∙ sym q.5.0
one_schema g (schema_bracket s x) b c p q = one_schema g x b c p q
