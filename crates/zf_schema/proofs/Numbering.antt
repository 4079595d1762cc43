-- The number of the next given set or free type, after what is defined.
use Rattle.zf_schema.proofs.Prelude.{◌+◌, ◌∷◌, ◌≡◌, ◌≤◌, [], ap, arith, Err, false, is_err, length, List, map, Ok, OnOk, Result, true≢false, ℕ, spelling, definition, free, given, ParagraphTree, Name, abbreviation, constructor, Defined, Definition, free_type, given_set, schema, has_elements, next_number, resolved, abbreviated, Constructs, DefinesParagraph, Gives, with_global, outside, elements}
use Rattle.std.proofs.lemmas.Grind.{common_steps}
use Rattle.std.proofs.lemmas.List.Sums.{sum_by-cons}
use Rattle.zf_tree.specs.Trees as text

at_most_one : (d : Definition) → has_elements d ≤ 1
at_most_one (given_set n) = omega arith
at_most_one (free_type n names) = omega arith
at_most_one (constructor n of_type place) = omega arith
at_most_one (abbreviation t r x) = omega arith
at_most_one (schema a) = omega arith

-- there are no more than globals
pub few_numbers : (g : List Defined) → next_number g ≤ length g
few_numbers [] = omega arith
few_numbers (d ∷ g) = omega (arith, sum_by-cons (λ (x : Defined). has_elements x.definition) d g, at_most_one d.definition, few_numbers g)

pub next_more : (g : List Defined) (n : Name) (d : Definition) → next_number (with_global g n d) ≡ next_number g + has_elements d
next_more g n d = grind (arith, common_steps)

given_numbers : (g : List Defined) (ns : List Name) (h : List Defined) → Gives g ns h → next_number h ≡ next_number g + length ns
given_numbers g [] h p = omega (arith, ap next_number p)
given_numbers g (n ∷ ns) h p =
    let given_set = given_set (next_number g) in
    omega (arith, given_numbers (with_global g n given_set) ns h p.1, next_more g n given_set)

constructed_numbers :
    (g : List Defined) (number : ℕ) (of_type : List ℕ) (place : ℕ) (ns : List Name) (h : List Defined) → Constructs g number of_type place ns h → next_number h ≡ next_number g
constructed_numbers g number of_type place [] h p = ap next_number p
constructed_numbers g number of_type place (n ∷ ns) h p =
    let element = constructor number of_type place in
    omega (arith, constructed_numbers (with_global g n element) number of_type (place + 1) ns h p.1, next_more g n element)

pub defined_numbers : (g : List Defined) (p : ParagraphTree) (h : List Defined) → DefinesParagraph g p h → next_number h ≡ next_number g + elements p
defined_numbers g (given ns) h p = given_numbers g ns h p
defined_numbers g (free n ns) h p =
    let of_type = free_type (next_number g) (map spelling ns) in
    omega (arith, constructed_numbers (with_global g n of_type) (next_number g) (spelling n) 0 ns h p.1, next_more g n of_type)
defined_numbers g (text.abbreviation n e) h p =
    let term = abbreviated g p.1.0 (resolved (outside g) e) in
    omega (arith, ap next_number p.1.2, next_more g n term)
defined_numbers g (definition n x) h p = omega (arith, ap next_number p.1.2, next_more g n (schema p.1.0))

-- the number is kept, where the paragraph defines what it does
pub numbered_after :
    {A E : Type 0} (r : Result A E) (g : List Defined) (p : ParagraphTree) (h : List Defined) (n m : ℕ)
    → is_err r ≡ false → OnOk r (DefinesParagraph g p h) → n ≡ next_number g → m ≡ elements p → n + m ≡ next_number h
numbered_after (Ok x) g p h n m e d number more = omega (arith, defined_numbers g p h d, number, more)
numbered_after (Err x) g p h n m e d number more = absurd (true≢false e)
