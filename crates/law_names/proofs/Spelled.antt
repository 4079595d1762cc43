-- What the paragraphs of a source define has names of the bytes of names, and they define no more types than the source has bytes.
use Rattle.law_names.proofs.Prelude.{◌++◌, ◌+◌, ◌∷◌, ◌≡◌, ◌≤◌, [], arith, length, length-append, List, map, refl, subst, sym, ℕ, spelling, Name, reduced, separator, Symbol, Kind, ReadsSource, PartedBy, SpellsBoxes, SpellsName, SpellsParagraph, a_box, a_paragraph, Item, items, items_in, AreNames, IsName, AllByRecursion, And, Delta, Or, Plain, RefMark, SpellsDecl, SpellsMarked, SpellsSchema, Xi, elements}
use Rattle.std.proofs.lemmas.List.Concat.{flat_map-cons}
use Rattle.zf_scan.specs.declared.token.Kind.TheVariants as k
use Rattle.zf_tree.specs.{abbreviation, both, BoxTree, DeclTree, definition, either, free, given, include, ParagraphTree, schema_box, schema_bracket, schema_reference, schema_text, SchemaTree, vars, zed}
use Rattle.law_names.proofs.Fronts.{begins_behind, Behind, next_behind, name_behind, then, term_behind, decl_behind, decls_behind, predicates_behind, schema_behind}
use Rattle.law_names.proofs.Tokens.{AreSpelled, symbols_spelled}

-- the symbols that are left, of which each is spelled so; with what was made they are no more than this
record Left (most made : ℕ) (ts : List Symbol) : Type 0 where
  spelled : AreSpelled ts
  room : made + length ts ≤ most

behind_spelled : (front us : List Symbol) → AreSpelled (front ++ us) → AreSpelled us
behind_spelled [] us h = h
behind_spelled (t ∷ front) us h = behind_spelled front us h.1

left_behind : {most made : ℕ} {ts us : List Symbol} → Behind ts us → Left most made ts → Left most made us
left_behind {most = most} {made = made} {us = us} b l =
    let h = subst (Left most made) b.whole l in
    record { spelled = behind_spelled b.front us h.spelled; room = omega (arith, length-append b.front us, h.room) }

-- ---- names

name_left : {most made : ℕ} (n : Name) {ts us : List Symbol} → SpellsName n ts us → Left most made ts → IsName (spelling n) × Left most (made + 1) us
name_left {most = most} {made = made} n h l =
    let m = subst (Left most made) h l in
    (m.spelled.0 n.base n.strokes refl, record { spelled = m.spelled.1; room = omega (arith, m.room) })

names_left : {most : ℕ} (kind : Kind) (ns : List Name) (made : ℕ) {ts us : List Symbol} → PartedBy kind SpellsName ns ts us → Left most made ts
    → AreNames (map spelling ns) × Left most (made + length ns) us
names_left kind [] made h l = absurd h
names_left kind (n ∷ []) made h l =
    let one = name_left n h l in
    ((one.0, tt), one.1)
names_left {most = most} kind (n ∷ (m ∷ ns)) made {us = us} h l =
    let one = name_left n h.2 l in
    let more = names_left kind (m ∷ ns) (made + 1) h.4 (left_behind (next_behind {kind = kind} h.3) one.1) in
    let sum : made + 1 + length (m ∷ ns) ≡ made + length (n ∷ (m ∷ ns)) = omega arith in
    ((one.0, more.0), subst (λ made. Left most made us) sum more.1)

-- ---- declarations and schema expressions

-- the names that are declared, or that of the schema that is taken in
abbrev pub IsDeclSpelled : DeclTree → Type 0
IsDeclSpelled (vars ns e) = AreNames (map spelling ns)
IsDeclSpelled (include r) = IsName (spelling r.name)

abbrev pub IsSchemaSpelled : SchemaTree → Type 0
IsSchemaSpelled (schema_text s ds ps) = AllByRecursion IsDeclSpelled ds
IsSchemaSpelled (schema_reference s r) = IsName (spelling r.name)
IsSchemaSpelled (both s x y) = IsSchemaSpelled x × IsSchemaSpelled y
IsSchemaSpelled (either s x y) = IsSchemaSpelled x × IsSchemaSpelled y
IsSchemaSpelled (schema_bracket s x) = IsSchemaSpelled x

rest_spelled : {ts us : List Symbol} → Behind ts us → AreSpelled ts → AreSpelled us
rest_spelled {us = us} b s = behind_spelled b.front us (subst AreSpelled b.whole s)

name_spelled : (n : Name) {ts us : List Symbol} → SpellsName n ts us → AreSpelled ts → IsName (spelling n)
name_spelled n h s = (subst AreSpelled h s).0 n.base n.strokes refl

marked_spelled : (m : RefMark) (n : Name) (ts us : List Symbol) → SpellsMarked m n ts us → AreSpelled ts → IsName (spelling n)
marked_spelled Plain n ts us h s = name_spelled n h s
marked_spelled Delta n ts us h s = name_spelled n h.2 (rest_spelled (next_behind {kind = k.Delta} h.1) s)
marked_spelled Xi n ts us h s = name_spelled n h.2 (rest_spelled (next_behind {kind = k.Xi} h.1) s)

decl_spelled : (d : DeclTree) (ts us : List Symbol) → SpellsDecl d ts us → AreSpelled ts → IsDeclSpelled d
decl_spelled (vars ns e) ts us h s = (names_left {most = length ts} k.Comma ns 0 h.2 (record { spelled = s; room = omega arith })).0
decl_spelled (include r) ts us h s = marked_spelled r.mark r.name ts us h s

decls_spelled : (ds : List DeclTree) (ts us : List Symbol) → PartedBy separator SpellsDecl ds ts us → AreSpelled ts → AllByRecursion IsDeclSpelled ds
decls_spelled [] ts us h s = absurd h
decls_spelled (d ∷ []) ts us h s = (decl_spelled d ts us h s, tt)
decls_spelled (d ∷ (e ∷ ds)) ts us h s =
    let next = rest_spelled (next_behind {kind = separator} h.3) (rest_spelled (decl_behind d ts h.0 h.2) s) in
    (decl_spelled d ts h.0 h.2 s, decls_spelled (e ∷ ds) h.1 us h.4 next)

schema_spelled : (x : SchemaTree) (ts us : List Symbol) → SpellsSchema x ts us → AreSpelled ts → IsSchemaSpelled x
schema_spelled (schema_text s ds ps) ts us h all = decls_spelled ds h.0 h.1 h.4 (rest_spelled (begins_behind {kind = k.OpenSquare} s h.3) all)
schema_spelled (schema_reference s r) ts us h all = marked_spelled r.mark r.name ts us h.1 all
schema_spelled (both s x y) ts us h all = (
  schema_spelled x ts h.0 h.3 all,
  schema_spelled y h.1 us h.5 (rest_spelled (then (schema_behind x h.3) (next_behind {kind = k.Connective And} h.4)) all),
)
schema_spelled (either s x y) ts us h all = (
  schema_spelled x ts h.0 h.3 all,
  schema_spelled y h.1 us h.5 (rest_spelled (then (schema_behind x h.3) (next_behind {kind = k.Connective Or} h.4)) all),
)
schema_spelled (schema_bracket s x) ts us h all = schema_spelled x h.0 h.1 h.3 (rest_spelled (begins_behind {kind = k.OpenRound} s h.2) all)

-- ---- paragraphs

-- the given sets, the constructors or the components of a paragraph are so named
abbrev pub IsParagraphSpelled : ParagraphTree → Type 0
IsParagraphSpelled (given ns) = AreNames (map spelling ns)
IsParagraphSpelled (free n ns) = AreNames (map spelling ns)
IsParagraphSpelled (abbreviation n t) = Unit {0}
IsParagraphSpelled (definition n x) = IsSchemaSpelled x

abbrev pub IsItemSpelled : Item → Type 0
IsItemSpelled (a_paragraph p) = IsParagraphSpelled p
IsItemSpelled (a_box n ds ps) = AllByRecursion IsDeclSpelled ds

abbrev pub item_elements : Item → ℕ
item_elements (a_paragraph p) = elements p
item_elements (a_box n ds ps) = 0

weaker : {most made : ℕ} {us : List Symbol} → Left most made us → (less : ℕ) → less ≤ made → Left most less us
weaker l less h = record { spelled = l.spelled; room = omega (arith, l.room) }

paragraph_left : {most made : ℕ} (p : ParagraphTree) {ts us : List Symbol} → SpellsParagraph p ts us → Left most made ts → IsParagraphSpelled p × Left most (made + elements p) us
paragraph_left {made = made} (given ns) h l =
    let names = names_left k.Comma ns made h.3 (left_behind (next_behind {kind = k.OpenSquare} h.2) l) in
    (names.0, left_behind (next_behind {kind = k.CloseSquare} h.4) names.1)
paragraph_left {made = made} (free n ns) h l =
    let one = name_left n h.2 l in
    let names = names_left k.Bar ns (made + 1) h.4 (left_behind (next_behind {kind = k.FreeType} h.3) one.1) in
    (names.0, weaker names.1 (made + 1) (omega arith))
paragraph_left {made = made} (abbreviation n t) h l =
    (tt, weaker (left_behind (then (name_behind {n = n} h.2) (then (next_behind {kind = k.Abbreviates} h.3) (term_behind t h.4))) l) (made + 0) (omega arith))
paragraph_left {made = made} (definition n x) {us = us} h l =
    let before = then (name_behind {n = n} h.3) (next_behind {kind = k.Defines} h.4) in
    (schema_spelled x h.1 us h.5 (rest_spelled before l.spelled), weaker (left_behind (then before (schema_behind x h.5)) l) (made + 0) (omega arith))

-- ---- boxes

-- each item is so named, and the types of all are no more than this
abbrev pub AreItemsSpelled : (most made : ℕ) → List Item → Type 0
AreItemsSpelled most made [] = made ≤ most
AreItemsSpelled most made (item ∷ rest) = IsItemSpelled item × AreItemsSpelled most (made + item_elements item) rest

paragraphs_left : (most made : ℕ) (ps : List ParagraphTree) (ts us : List Symbol) (rest : List Item) → PartedBy separator SpellsParagraph ps ts us → Left most made ts
    → ((made : ℕ) → Left most made us → AreItemsSpelled most made rest) → AreItemsSpelled most made (map a_paragraph ps ++ rest)
paragraphs_left most made [] ts us rest h l more = absurd h
paragraphs_left most made (p ∷ []) ts us rest h l more =
    let one = paragraph_left p h l in
    (one.0, more (made + elements p) one.1)
paragraphs_left most made (p ∷ (q ∷ ps)) ts us rest h l more =
    let one = paragraph_left p h.2 l in
    (one.0, paragraphs_left most (made + elements p) (q ∷ ps) h.1 us rest h.4 (left_behind (next_behind {kind = separator} h.3) one.1) more)

boxes_left : (most made : ℕ) (bs : List BoxTree) (ts : List Symbol) → SpellsBoxes bs ts → Left most made ts → AreItemsSpelled most made (items bs)
boxes_left most made [] ts h l = omega (arith, l.room)
boxes_left most made (zed ps ∷ bs) ts h l =
    let box = h.1 in
    subst (AreItemsSpelled most made) (sym (flat_map-cons items_in (zed ps) bs))
    (paragraphs_left most made ps box.0 box.1 (items bs) box.3 (left_behind (next_behind {kind = k.BeginZed} box.2) l)
    (λ made l. boxes_left most made bs h.0 h.2 (left_behind (next_behind {kind = k.EndBox} box.4) l)))
boxes_left most made (schema_box n ds ps ∷ bs) ts h l =
    let box = h.1 in
    let begins : Behind ts box.0 = next_behind {kind = k.BeginSchema n.base} (n.span, box.4) in
    let all = then begins (then (decls_behind ds box.5) (then (predicates_behind k.Where ps box.6) (next_behind {kind = k.EndBox} box.7))) in
    subst (AreItemsSpelled most made) (sym (flat_map-cons items_in (schema_box n ds ps) bs))
    (decls_spelled ds box.0 box.1 box.5 (rest_spelled begins l.spelled), boxes_left most (made + 0) bs h.0 h.2 (weaker (left_behind all l) (made + 0) (omega arith)))

-- the items of a source
pub items_spelled : (boxes : List BoxTree) (source : List ℕ) → ReadsSource boxes source → AreItemsSpelled (length source) 0 (items boxes)
items_spelled boxes source r =
    let symbols = symbols_spelled source r.0 r.1 in
    boxes_left (length source) 0 boxes (reduced r.0) r.2.reads.spelled (record { spelled = symbols.0; room = omega (arith, symbols.1) })
