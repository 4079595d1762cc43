-- What a text defines is well typed after what was defined before.
use Rattle.zf_checker.proofs.Prelude.{◌++◌, ◌+◌, ◌∙◌, ◌∷◌, ◌≡◌, [], ap, arith, inl, inr, length, List, map, refl, slice_get, Some, subst, sym, ℕ, append_assoc, length-append, none-some, spelling, definition, free, given, ParagraphTree, schema_text, Name, constructor, Defined, Definition, free_type, given_set, schema, resolved, Fault, outside, AreWellTyped, GlobalsWellTyped, IsMadeAfter}
use Rattle.zf_tree.specs.Trees as text
use Rattle.zf_schema.specs.{a_box, a_paragraph, abbreviated, ChecksAll, ChecksOne, Constructs, Defines, DefinesParagraph, Gives, Item, items, next_number, with_global}
use Rattle.zf_checker.proofs.Fronts.{in_front, at_seam, before_or_last}

none_yet : AreWellTyped []
none_yet i d at = absurd (none-some d at)

one_more : (g : List Defined) (n : Name) (d : Definition) → IsMadeAfter g (spelling n) d → AreWellTyped g → AreWellTyped (with_global g n d)
one_more g n d made well i e at =
    let last : Defined = record { name = spelling n; definition = d } in
    elim (before_or_last g last i e at) [
      | inl p ↦ subst (λ before. IsMadeAfter before e.name e.definition) (sym p.1) (well i e p.0)
      | inr p ↦ subst (λ before. IsMadeAfter before e.name e.definition) (sym p.1) (subst (λ (f : Defined). IsMadeAfter g f.name f.definition) p.0 made)
    ]

given_well : (g : List Defined) (ns : List Name) (h : List Defined) → AreWellTyped g → Gives g ns h → AreWellTyped h
given_well g [] h well p = subst AreWellTyped (sym p) well
given_well g (n ∷ ns) h well p =
    let given_set = given_set (next_number g) in
    given_well (with_global g n given_set) ns h (one_more g n given_set refl well) p.1

-- the constructors that are left, after those before this place
constructors_well :
    (g : List Defined) (number : ℕ) (of_type : List ℕ) (place : ℕ) (ns : List Name) (h : List Defined)
    → (i : ℕ) (before : List (List ℕ)) → slice_get g i ≡ Some (record { name = of_type; definition = free_type number (before ++ map spelling ns) })
    → length before ≡ place → length g ≡ i + 1 + place
    → AreWellTyped g → Constructs g number of_type place ns h → AreWellTyped h
constructors_well g number of_type place [] h i before at there behind well p = subst AreWellTyped (sym p) well
constructors_well g number of_type place (n ∷ ns) h i before at there behind well p =
    let element = constructor number of_type place in
    let last : Defined = record { name = spelling n; definition = element } in
    let names = before ++ spelling n ∷ map spelling ns in
    let same : names ≡ (before ++ spelling n ∷ []) ++ map spelling ns = sym (append_assoc before (spelling n ∷ []) (map spelling ns)) in
    let own : slice_get names place ≡ Some (spelling n) = subst (λ k. slice_get names k ≡ Some (spelling n)) there (at_seam before (spelling n) (map spelling ns)) in
    let kept = in_front g (last ∷ []) i (record { name = of_type; definition = free_type number names }) at in
    let next = subst (λ ms. slice_get (with_global g n element) i ≡ Some (record { name = of_type; definition = free_type number ms })) same kept in
    let one_further = length-append before (spelling n ∷ []) ∙ ap (λ k. k + 1) there in
    let one_longer : length (with_global g n element) ≡ i + 1 + (place + 1) = omega (arith, length-append g (last ∷ []), behind) in
    let made = one_more g n element (i, names, at, own, behind) well in
    constructors_well (with_global g n element) number of_type (place + 1) ns h i (before ++ spelling n ∷ []) next one_further one_longer made p.1

paragraph_well : (g : List Defined) (p : ParagraphTree) (h : List Defined) → AreWellTyped g → DefinesParagraph g p h → AreWellTyped h
paragraph_well g (given ns) h well p = given_well g ns h well p
paragraph_well g (free n ns) h well p =
    let of_type = free_type (next_number g) (map spelling ns) in
    let last : Defined = record { name = spelling n; definition = of_type } in
    let one_longer : length (with_global g n of_type) ≡ length g + 1 + 0 = omega (arith, length-append g (last ∷ [])) in
    let made = one_more g n of_type refl well in
    constructors_well (with_global g n of_type) (next_number g) (spelling n) 0 ns h (length g) [] (at_seam g last []) refl one_longer made p.1
paragraph_well g (text.abbreviation n e) h well p =
    subst AreWellTyped (sym p.1.2) (one_more g n (abbreviated g p.1.0 (resolved (outside g) e)) (e, p.1.1, refl, refl) well)
paragraph_well g (definition n x) h well p = subst AreWellTyped (sym p.1.2) (one_more g n (schema p.1.0) (x, p.1.1) well)

item_well : (g : List Defined) (item : Item) (h : List Defined) → AreWellTyped g → Defines g item h → AreWellTyped h
item_well g (a_paragraph p) h well q = paragraph_well g p h well q
item_well g (a_box n ds es) h well p = subst AreWellTyped (sym p.1.2) (one_more g n (schema p.1.0) (schema_text n.span ds es, p.1.1) well)

step_well : (g : List Defined) (item : Item) (h : List Defined) (fs : List Fault) → AreWellTyped g → ChecksOne g item h fs → AreWellTyped h
step_well g item h fs well (inl p) = item_well g item h well p.0
step_well g item h fs well (inr p) = subst AreWellTyped (sym p.1) well

run_well : (g : List Defined) (steps : List Item) (h : List Defined) (fs : List Fault) → AreWellTyped g → ChecksAll g steps h fs → AreWellTyped h
run_well g [] h fs well p = subst AreWellTyped (sym p.0) well
run_well g (item ∷ steps) h fs well p = run_well p.0 steps h p.2 (step_well g item p.0 p.1 well p.3) p.4

pub globals_well_typed : GlobalsWellTyped
globals_well_typed boxes g faults p = run_well [] (items boxes) g faults none_yet p
