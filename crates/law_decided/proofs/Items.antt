-- A paragraph or box defines something, or has an offence; so a text has its globals and its faults.
use Rattle.law_decided.proofs.Prelude.{◌+◌, ◌∷◌, ◌≡◌, ◌⊎◌, [], inl, inr, List, map, None, Option, refl, Some, subst, ℕ, spelling, BoxTree, definition, free, given, ParagraphTree, Tree, Name, constructor, Defined, free_type, given_set, Schema, schema, first_named, Ty, already_defined, Fault, Offence, Offends, resolved, typed, IsOf, OffendsSchema, OffendsText, SomeOffence, ChecksAll, Constructs, Defines, DefinesParagraph, Gives, IsChecked, IsNew, IsSchema, IsTaken, IsText, Item, OffendsConstructors, OffendsGiven, OffendsItem, OffendsParagraph, a_box, a_paragraph, abbreviated, items, next_number, outside, with_global, Span}
use Rattle.zf_tree.specs.Trees as text
use Rattle.zf_tree.specs.declared.operator.Need.TheVariants as need
use Rattle.zf_checker.proofs.OneDefinition.{no_item_offence}
use Rattle.law_decided.proofs.Decided.{Decided}
use Rattle.law_decided.proofs.Schemas.{text_judged, schema_judged}
use Rattle.law_decided.proofs.Terms.{IsJudged, judged}

is_new : (g : List Defined) (n : Name) → Decided (IsNew g n)
is_new g n = by (first_named (λ d. d.name) (spelling n) g)
  where
    by : (o : Option (ℕ × Defined)) → Decided (o ≡ None)
    by None = inl refl
    by (Some p) = inr (λ e. (cc))

-- ---- a name is that of a global, or what it is given to is judged

module _ (g : List Defined) (n : Name) (Made : List Defined → Type 0) (Later : Offence → Span → Type 0) where
  if_new : Decided (IsNew g n) → ((h : List Defined) × Made h) ⊎ SomeOffence Later → ((h : List Defined) × (IsNew g n × Made h)) ⊎ SomeOffence (λ k m. IsTaken g n k m ⊎ Later k m)
  if_new (inr taken) rest = inr (already_defined (spelling n), n.span, inl (refl, refl, taken))
  if_new (inl new) (inl p) = inl (p.0, (new, p.1))
  if_new (inl new) (inr o) = inr (o.0, o.1, inr o.2)

given_judged : (g : List Defined) (ns : List Name) → ((h : List Defined) × Gives g ns h) ⊎ SomeOffence (OffendsGiven g ns)
given_judged g [] = inl (g, refl)
given_judged g (n ∷ ns) =
    let next = with_global g n (given_set (next_number g)) in
    if_new g n (Gives next ns) (OffendsGiven next ns) (is_new g n) (given_judged next ns)

constructors_judged :
    (g : List Defined) (number : ℕ) (of_type : List ℕ) (place : ℕ) (ns : List Name)
    → ((h : List Defined) × Constructs g number of_type place ns h) ⊎ SomeOffence (OffendsConstructors g number of_type place ns)
constructors_judged g number of_type place [] = inl (g, refl)
constructors_judged g number of_type place (n ∷ ns) =
    let next = with_global g n (constructor number of_type place) in
    if_new g n (Constructs next number of_type (place + 1) ns) (OffendsConstructors next number of_type (place + 1) ns) (is_new g n)
    (constructors_judged next number of_type (place + 1) ns)

-- what an abbreviation stands for
of_term :
    (g : List Defined) (n : Name) (e : Tree) → IsJudged (outside g) need.Expression e
    → ((h : List Defined) × ((t : Ty) × IsOf (outside g) e (typed t) × (h ≡ with_global g n (abbreviated g t (resolved (outside g) e))))) ⊎ SomeOffence (Offends (outside g) need.Expression e)
of_term g n e (inl p) = inl (with_global g n (abbreviated g p.2.0 (resolved (outside g) e)), (p.2.0, subst (IsOf (outside g) e) p.2.1 p.1, refl))
of_term g n e (inr o) = inr o

-- what a name of a schema stands for
module _ (g : List Defined) (n : Name) (IsOne : Schema → Type 0) (Later : Offence → Span → Type 0) where
  of_schema : ((a : Schema) × IsOne a) ⊎ SomeOffence Later → ((h : List Defined) × ((a : Schema) × IsOne a × (h ≡ with_global g n (schema a)))) ⊎ SomeOffence Later
  of_schema (inl p) = inl (with_global g n (schema p.0), (p.0, p.1, refl))
  of_schema (inr o) = inr o

paragraph_judged : (g : List Defined) (p : ParagraphTree) → ((h : List Defined) × DefinesParagraph g p h) ⊎ SomeOffence (OffendsParagraph g p)
paragraph_judged g (given ns) = given_judged g ns
paragraph_judged g (free n ns) =
    let next = with_global g n (free_type (next_number g) (map spelling ns)) in
    if_new g n (Constructs next (next_number g) (spelling n) 0 ns) (OffendsConstructors next (next_number g) (spelling n) 0 ns) (is_new g n)
    (constructors_judged next (next_number g) (spelling n) 0 ns)
paragraph_judged g (text.abbreviation n e) =
    if_new g n (λ h. (t : Ty) × IsOf (outside g) e (typed t) × (h ≡ with_global g n (abbreviated g t (resolved (outside g) e)))) (Offends (outside g) need.Expression e) (is_new g n)
    (of_term g n e (judged (outside g) need.Expression e))
paragraph_judged g (definition n x) =
    if_new g n (λ h. (a : Schema) × IsSchema g x a × (h ≡ with_global g n (schema a))) (OffendsSchema g x) (is_new g n)
    (of_schema g n (IsSchema g x) (OffendsSchema g x) (schema_judged g x))

pub item_judged : (g : List Defined) (item : Item) → ((h : List Defined) × Defines g item h) ⊎ SomeOffence (OffendsItem g item)
item_judged g (a_paragraph p) = paragraph_judged g p
item_judged g (a_box n ds ps) =
    if_new g n (λ h. (a : Schema) × IsText g ds ps a × (h ≡ with_global g n (schema a))) (OffendsText g ds ps) (is_new g n)
    (of_schema g n (IsText g ds ps) (OffendsText g ds ps) (text_judged g ds ps))

-- ---- one after another

abbrev HasVerdict : List Defined → List Item → Type 0
HasVerdict g steps = (h : List Defined) × (faults : List Fault) × ChecksAll g steps h faults

of_item : (g : List Defined) (item : Item) (steps : List Item) → ((h : List Defined) × Defines g item h) ⊎ SomeOffence (OffendsItem g item)
    → ((mid : List Defined) → HasVerdict mid steps) → HasVerdict g (item ∷ steps)
of_item g item steps (inl p) rest = let q = rest p.0 in (q.0, q.1, (p.0, [], q.1, inl (p.1, refl), q.2, refl))
of_item g item steps (inr o) rest =
    let q = rest g in
    let f : Fault = record { offence = o.0; span = o.1 } in
    (q.0, f ∷ q.1, (g, f ∷ [], q.1, inr (λ other d. no_item_offence g item other o.0 o.1 d o.2, refl, (f, o.2, refl)), q.2, refl))

steps_judged : (g : List Defined) (steps : List Item) → HasVerdict g steps
steps_judged g [] = (g, [], (refl, refl))
steps_judged g (item ∷ steps) = of_item g item steps (item_judged g item) (λ mid. steps_judged mid steps)

pub text_has_verdict : (boxes : List BoxTree) → (globals : List Defined) × (faults : List Fault) × IsChecked boxes globals faults
text_has_verdict boxes = steps_judged [] (items boxes)
