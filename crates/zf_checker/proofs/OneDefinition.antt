-- A paragraph or box defines one thing at most, and one that is well typed has no offence.
use Rattle.zf_checker.proofs.Prelude.{◌+◌, ◌∙◌, ◌∷◌, ◌≡◌, [], ap, inl, inr, List, map, refl, sym, ℕ, spelling, definition, free, given, ParagraphTree, Name, constructor, Defined, free_type, given_set, schema, Offence, no_offence, one_sort, same_typed, resolved, typed, outside, Span}
use Rattle.zf_tree.specs.Trees as text
use Rattle.zf_tree.specs.declared.operator.Need.TheVariants as need
use Rattle.zf_schema.specs.{a_box, a_paragraph, abbreviated, Constructs, Defines, DefinesParagraph, Gives, Item, next_number, OffendsConstructors, OffendsGiven, OffendsItem, OffendsParagraph, with_global}
use Rattle.zf_schema.proofs.NoSchemaOffence.{no_schema_offence, no_text_offence}
use Rattle.zf_schema.proofs.OneSchema.{one_schema, one_text}

-- ---- what it defines is one thing

pub one_list_given : (g : List Defined) (ns : List Name) (h i : List Defined) → Gives g ns h → Gives g ns i → h ≡ i
one_list_given g [] h i p q = p ∙ sym q
one_list_given g (n ∷ ns) h i p q = one_list_given (with_global g n (given_set (next_number g))) ns h i p.1 q.1

pub one_list_constructed :
    (g : List Defined) (number : ℕ) (of_type : List ℕ) (place : ℕ) (ns : List Name) (h i : List Defined)
    → Constructs g number of_type place ns h → Constructs g number of_type place ns i → h ≡ i
one_list_constructed g number of_type place [] h i p q = p ∙ sym q
one_list_constructed g number of_type place (n ∷ ns) h i p q =
    one_list_constructed (with_global g n (constructor number of_type place)) number of_type (place + 1) ns h i p.1 q.1

pub one_paragraph : (g : List Defined) (p : ParagraphTree) (h i : List Defined) → DefinesParagraph g p h → DefinesParagraph g p i → h ≡ i
one_paragraph g (given ns) h i p q = one_list_given g ns h i p q
one_paragraph g (free n ns) h i p q =
    one_list_constructed (with_global g n (free_type (next_number g) (map spelling ns))) (next_number g) (spelling n) 0 ns h i p.1 q.1
one_paragraph g (text.abbreviation n e) h i p q =
    let type = same_typed p.1.0 q.1.0 (one_sort (outside g) e (typed p.1.0) (typed q.1.0) p.1.1 q.1.1) in
    p.1.2 ∙ ap (λ t. with_global g n (abbreviated g t (resolved (outside g) e))) type ∙ sym q.1.2
one_paragraph g (definition n x) h i p q =
    let one = one_schema g x p.1.0 q.1.0 p.1.1 q.1.1 in
    p.1.2 ∙ ap (λ a. with_global g n (schema a)) one ∙ sym q.1.2

pub one_definition : (g : List Defined) (item : Item) (h i : List Defined) → Defines g item h → Defines g item i → h ≡ i
one_definition g (a_paragraph p) h i q r = one_paragraph g p h i q r
one_definition g (a_box n ds es) h i p q =
    let one = one_text g ds es p.1.0 q.1.0 p.1.1 q.1.1 in
    p.1.2 ∙ ap (λ a. with_global g n (schema a)) one ∙ sym q.1.2

-- ---- what defines something has no offence

pub no_given_offends : (g : List Defined) (ns : List Name) (h : List Defined) (k : Offence) (m : Span) → Gives g ns h → OffendsGiven g ns k m → ⊥
no_given_offends g [] h k m p o = o
no_given_offends g (n ∷ ns) h k m p (inl o) = o.2 p.0
no_given_offends g (n ∷ ns) h k m p (inr o) = no_given_offends (with_global g n (given_set (next_number g))) ns h k m p.1 o

pub no_constructor_offends :
    (g : List Defined) (number : ℕ) (of_type : List ℕ) (place : ℕ) (ns : List Name) (h : List Defined) (k : Offence) (m : Span)
    → Constructs g number of_type place ns h → OffendsConstructors g number of_type place ns k m → ⊥
no_constructor_offends g number of_type place [] h k m p o = o
no_constructor_offends g number of_type place (n ∷ ns) h k m p (inl o) = o.2 p.0
no_constructor_offends g number of_type place (n ∷ ns) h k m p (inr o) =
    no_constructor_offends (with_global g n (constructor number of_type place)) number of_type (place + 1) ns h k m p.1 o

pub no_paragraph_offence : (g : List Defined) (p : ParagraphTree) (h : List Defined) (k : Offence) (m : Span) → DefinesParagraph g p h → OffendsParagraph g p k m → ⊥
no_paragraph_offence g (given ns) h k m p o = no_given_offends g ns h k m p o
no_paragraph_offence g (free n ns) h k m p (inl o) = o.2 p.0
no_paragraph_offence g (free n ns) h k m p (inr o) =
    no_constructor_offends (with_global g n (free_type (next_number g) (map spelling ns))) (next_number g) (spelling n) 0 ns h k m p.1 o
no_paragraph_offence g (text.abbreviation n e) h k m p (inl o) = o.2 p.0
no_paragraph_offence g (text.abbreviation n e) h k m p (inr o) = no_offence (outside g) need.Expression e (typed p.1.0) k m p.1.1 (p.1.0, refl) o
no_paragraph_offence g (definition n x) h k m p (inl o) = o.2 p.0
no_paragraph_offence g (definition n x) h k m p (inr o) = no_schema_offence g x p.1.0 k m p.1.1 o

pub no_item_offence : (g : List Defined) (item : Item) (h : List Defined) (k : Offence) (m : Span) → Defines g item h → OffendsItem g item k m → ⊥
no_item_offence g (a_paragraph p) h k m q o = no_paragraph_offence g p h k m q o
no_item_offence g (a_box n ds es) h k m p (inl o) = o.2 p.0
no_item_offence g (a_box n ds es) h k m p (inr o) = no_text_offence g ds es p.1.0 k m p.1.1 o
