-- The globals of a text: where they stand, and that each has a name of its own.
use Rattle.zf_checker.proofs.Prelude.{if◌then◌else◌, ◌++◌, ◌+◌, ◌∙◌, ◌∷◌, ◌≡◌, [], ap, Bool, false, inl, inr, List, map, None, Option, refl, Some, subst, sym, true, ℕ, append-nil, append_assoc, none-some, bytes_eq, spelling, definition, free, given, ParagraphTree, Name, swapped, constructor, Defined, Definition, free_type, given_set, schema, first_named, later, resolved, Fault, outside, AreDefinedOnce, GlobalsKept, HasCompsOnce, HaveCompsOnce, NamesOnce, schema_once, text_once}
use Rattle.zf_tree.specs.Trees as text
use Rattle.zf_schema.specs.{a_box, a_paragraph, abbreviated, ChecksAll, ChecksOne, Constructs, Defines, DefinesParagraph, Gives, IsNew, Item, items, next_number, with_global}

-- ---- what is defined stands after what was

abbrev Keeps : List Defined → List Defined → Type 0
Keeps g h = (more : List Defined) × (h ≡ g ++ more)

keeps_all : (g h : List Defined) → h ≡ g → Keeps g h
keeps_all g h e = ([], e ∙ sym (append-nil g))

keeps_behind : (g : List Defined) (d : Defined) (h : List Defined) → Keeps (g ++ d ∷ []) h → Keeps g h
keeps_behind g d h p = (d ∷ p.0, p.1 ∙ append_assoc g (d ∷ []) p.0)

given_keeps : (g : List Defined) (ns : List Name) (h : List Defined) → Gives g ns h → Keeps g h
given_keeps g [] h p = keeps_all g h p
given_keeps g (n ∷ ns) h p =
    keeps_behind g (record { name = spelling n; definition = given_set (next_number g) }) h (given_keeps (with_global g n (given_set (next_number g))) ns h p.1)

constructors_keep :
    (g : List Defined) (number : ℕ) (of_type : List ℕ) (place : ℕ) (ns : List Name) (h : List Defined) → Constructs g number of_type place ns h → Keeps g h
constructors_keep g number of_type place [] h p = keeps_all g h p
constructors_keep g number of_type place (n ∷ ns) h p =
    keeps_behind g (record { name = spelling n; definition = constructor number of_type place }) h
    (constructors_keep (with_global g n (constructor number of_type place)) number of_type (place + 1) ns h p.1)

paragraph_keeps : (g : List Defined) (p : ParagraphTree) (h : List Defined) → DefinesParagraph g p h → Keeps g h
paragraph_keeps g (given ns) h p = given_keeps g ns h p
paragraph_keeps g (free n ns) h p =
    let of_type = free_type (next_number g) (map spelling ns) in
    keeps_behind g (record { name = spelling n; definition = of_type }) h (constructors_keep (with_global g n of_type) (next_number g) (spelling n) 0 ns h p.1)
paragraph_keeps g (text.abbreviation n e) h p = (record { name = spelling n; definition = abbreviated g p.1.0 (resolved (outside g) e) } ∷ [], p.1.2)
paragraph_keeps g (definition n x) h p = (record { name = spelling n; definition = schema p.1.0 } ∷ [], p.1.2)

pub globals_kept : GlobalsKept
globals_kept g (a_paragraph p) h q = paragraph_keeps g p h q
globals_kept g (a_box n ds es) h p = (record { name = spelling n; definition = schema p.1.0 } ∷ [], p.1.2)

-- ---- names of their own

-- a name that none of these has, nor one more
none_behind : (x : List ℕ) (g : List Defined) (d : Defined) → first_named (λ e. e.name) x g ≡ None → bytes_eq d.name x ≡ false → first_named (λ e. e.name) x (g ++ d ∷ []) ≡ None
none_behind x [] d none other = ap (λ t. if t then Some (0, d) else None) other
none_behind x (e ∷ g) d none other = by (bytes_eq e.name x) (first_named (λ e. e.name) x g) none (λ rest. none_behind x g d rest other)
  where
    by :
        (t : Bool) (o : Option (ℕ × Defined)) → (if t then Some (0, e) else later o) ≡ None → (o ≡ None → first_named (λ e. e.name) x (g ++ d ∷ []) ≡ None)
        → (if t then Some (0, e) else later (first_named (λ e. e.name) x (g ++ d ∷ []))) ≡ None
    by true o none rest = absurd (none-some (0, e) (sym none))
    by false None none rest = ap later (rest refl)
    by false (Some p) none rest = absurd (none-some (p.0 + 1, p.1) (sym none))

defined_once : (g : List Defined) (d : Defined) → first_named (λ e. e.name) d.name g ≡ None → AreDefinedOnce g → AreDefinedOnce (g ++ d ∷ [])
defined_once [] d new once = (refl, tt)
defined_once (e ∷ g) d new once = by (bytes_eq e.name d.name) refl (first_named (λ e. e.name) d.name g) new (λ rest. defined_once g d rest once.1)
  where
    by :
        (t : Bool) → bytes_eq e.name d.name ≡ t → (o : Option (ℕ × Defined)) → (if t then Some (0, e) else later o) ≡ None → (o ≡ None → AreDefinedOnce (g ++ d ∷ []))
        → AreDefinedOnce (e ∷ g ++ d ∷ [])
    by true same o none rest = absurd (none-some (0, e) (sym none))
    by false same None none rest = (none_behind e.name g d once.0 (swapped d.name e.name ∙ same), rest refl)
    by false same (Some p) none rest = absurd (none-some (p.0 + 1, p.1) (sym none))

comps_once : (g : List Defined) (d : Defined) → HasCompsOnce d.definition → HaveCompsOnce g → HaveCompsOnce (g ++ d ∷ [])
comps_once [] d one all = (one, tt)
comps_once (e ∷ g) d one all = (all.0, comps_once g d one all.1)

abbrev pub IsClean : List Defined → Type 0
IsClean g = AreDefinedOnce g × HaveCompsOnce g

one_more_clean : (g : List Defined) (n : Name) (d : Definition) → IsNew g n → HasCompsOnce d → IsClean g → IsClean (with_global g n d)
one_more_clean g n d new one clean =
    let global : Defined = record { name = spelling n; definition = d } in
    (defined_once g global new clean.0, comps_once g global one clean.1)

given_clean : (g : List Defined) (ns : List Name) (h : List Defined) → IsClean g → Gives g ns h → IsClean h
given_clean g [] h clean p = subst IsClean (sym p) clean
given_clean g (n ∷ ns) h clean p =
    let given_set = given_set (next_number g) in
    given_clean (with_global g n given_set) ns h (one_more_clean g n given_set p.0 tt clean) p.1

constructors_clean :
    (g : List Defined) (number : ℕ) (of_type : List ℕ) (place : ℕ) (ns : List Name) (h : List Defined) → IsClean g → Constructs g number of_type place ns h → IsClean h
constructors_clean g number of_type place [] h clean p = subst IsClean (sym p) clean
constructors_clean g number of_type place (n ∷ ns) h clean p =
    let element = constructor number of_type place in
    constructors_clean (with_global g n element) number of_type (place + 1) ns h (one_more_clean g n element p.0 tt clean) p.1

paragraph_clean : (g : List Defined) (p : ParagraphTree) (h : List Defined) → IsClean g → DefinesParagraph g p h → IsClean h
paragraph_clean g (given ns) h clean p = given_clean g ns h clean p
paragraph_clean g (free n ns) h clean p =
    let of_type = free_type (next_number g) (map spelling ns) in
    constructors_clean (with_global g n of_type) (next_number g) (spelling n) 0 ns h (one_more_clean g n of_type p.0 tt clean) p.1
paragraph_clean g (text.abbreviation n e) h clean p =
    subst IsClean (sym p.1.2) (one_more_clean g n (abbreviated g p.1.0 (resolved (outside g) e)) p.0 tt clean)
paragraph_clean g (definition n x) h clean p = subst IsClean (sym p.1.2) (one_more_clean g n (schema p.1.0) p.0 (schema_once g x p.1.0 clean.1 p.1.1) clean)

item_clean : (g : List Defined) (item : Item) (h : List Defined) → IsClean g → Defines g item h → IsClean h
item_clean g (a_paragraph p) h clean q = paragraph_clean g p h clean q
item_clean g (a_box n ds es) h clean p = subst IsClean (sym p.1.2) (one_more_clean g n (schema p.1.0) p.0 (text_once g ds es p.1.0 p.1.1) clean)

step_clean : (g : List Defined) (item : Item) (h : List Defined) (fs : List Fault) → IsClean g → ChecksOne g item h fs → IsClean h
step_clean g item h fs clean (inl p) = item_clean g item h clean p.0
step_clean g item h fs clean (inr p) = subst IsClean (sym p.1) clean

pub run_clean : (g : List Defined) (steps : List Item) (h : List Defined) (fs : List Fault) → IsClean g → ChecksAll g steps h fs → IsClean h
run_clean g [] h fs clean p = subst IsClean (sym p.0) clean
run_clean g (item ∷ steps) h fs clean p = run_clean p.0 steps h p.2 (step_clean g item p.0 p.1 clean p.3) p.4

pub names_once : NamesOnce
names_once boxes g faults p = run_clean [] (items boxes) g faults (tt, tt) p
