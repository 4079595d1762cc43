-- Where a box ends: after its end, whatever follows.
use Rattle.zf_parse.proofs.Prelude.{◌++◌, ◌∙◌, ◌∷◌, ◌≡◌, [], ap, false, List, refl, subst, sym, true, append_cancel_right, if◌then◌else◌, BoxTree, DeclTree, include, ParagraphTree, schema_reference, schema_box, SchemaTree, Tree, vars, zed, And, Or, Name, RefMark, Delta, Plain, Xi, ends_box, separator, Symbol, symbol, Kind, here, Next, Span, through, PartedBy, Spells, SpellsBox, SpellsDecl, SpellsMarked, SpellsName, SpellsParagraph, SpellsPredicates, SpellsSchema}
use Rattle.zf_scan.specs.declared.token.Kind.TheVariants as k
use Rattle.zf_tree.specs.Trees as shape
use Rattle.zf_grammar.proofs.TermsApart.{behind, Spelling, Own, starts_own, begins_own, ends_own, next_own, nothing_own, as_own, two, then_own, three, four, parted_own, name_own, names_own, term_own}

-- ---- declarations, schema expressions and paragraphs

marked_own : (m : RefMark) (n : Name) (ts us : List Symbol) → SpellsMarked m n ts us → Own (SpellsMarked m n) ts us
marked_own Plain n ts us h = as_own (name_own n ts us h) (λ x y p. p)
marked_own Delta n ts us h = two (next_own k.Delta ts h.0 refl h.1) (name_own n h.0 us h.2) (λ x a y p q. (a, p, q))
marked_own Xi n ts us h = two (next_own k.Xi ts h.0 refl h.1) (name_own n h.0 us h.2) (λ x a y p q. (a, p, q))

decl_own : (d : DeclTree) (ts us : List Symbol) → SpellsDecl d ts us → Own (SpellsDecl d) ts us
decl_own (vars ns t) ts us h = three (names_own ns ts h.0 h.2) (next_own k.Colon h.0 h.1 refl h.3) (term_own t h.1 us h.4) (λ x a b y p q r. (a, b, p, q, r))
decl_own (include r) ts us h = as_own (marked_own r.mark r.name ts us h) (λ x y p. p)

decls_own : (ds : List DeclTree) (ts us : List Symbol) → PartedBy separator SpellsDecl ds ts us → Own (PartedBy separator SpellsDecl ds) ts us
decls_own ds ts us h = parted_own separator SpellsDecl refl decl_own ds ts us h

predicates_own : (kind : Kind) → ends_box kind ≡ false → (ps : List Tree) (ts us : List Symbol) → SpellsPredicates kind ps ts us → Own (SpellsPredicates kind ps) ts us
predicates_own kind kept [] ts us h = nothing_own (SpellsPredicates kind []) ts us (λ r. refl) h
predicates_own kind kept (p ∷ ps) ts us h =
    two (next_own kind ts h.0 kept h.1) (parted_own separator Spells refl term_own (p ∷ ps) h.0 us h.2) (λ x a y p q. (a, p, q))

-- a schema reference, of which the first symbol shows where it begins
abbrev Reference : Span → RefMark → Name → Spelling
Reference l m n ts us = (l ≡ through (here ts) n.span) × SpellsMarked m n ts us

same_place : {l : Span} {ts us vs xs : List Symbol} (n : Name) (s : Symbol) → l ≡ through (here ts) n.span → ts ≡ s ∷ us → vs ≡ s ∷ xs
    → l ≡ through (here vs) n.span
same_place n s at e f = at ∙ ap (λ ts. through (here ts) n.span) e ∙ sym (ap (λ ts. through (here ts) n.span) f)

reference_own : (l : Span) (m : RefMark) (n : Name) (ts us : List Symbol) → Reference l m n ts us → Own (Reference l m n) ts us
reference_own l Plain n ts us h = as_own (name_own n ts us h.1) (λ x y p. (same_place n _ h.0 h.1 p, p))
reference_own l Delta n ts us h =
    two (starts_own k.Delta h.1.1.0 ts h.1.0 refl h.1.1.1) (name_own n h.1.0 us h.1.2) (λ x a y p q. (same_place n _ h.0 h.1.1.1 p, (a, (h.1.1.0, p), q)))
reference_own l Xi n ts us h =
    two (starts_own k.Xi h.1.1.0 ts h.1.0 refl h.1.1.1) (name_own n h.1.0 us h.1.2) (λ x a y p q. (same_place n _ h.0 h.1.1.1 p, (a, (h.1.1.0, p), q)))

schema_own : (x : SchemaTree) (ts us : List Symbol) → SpellsSchema x ts us → Own (SpellsSchema x) ts us
schema_own (shape.schema_text l ds ps) ts us h =
    four (begins_own k.OpenSquare l ts h.0 refl h.3) (decls_own ds h.0 h.1 h.4) (predicates_own k.Bar refl ps h.1 h.2 h.5) (ends_own k.CloseSquare l h.2 us refl h.6)
    (λ x a b c y p q r s. (a, b, c, p, q, r, s))
schema_own (schema_reference l r) ts us h = as_own (reference_own l r.mark r.name ts us h) (λ x y p. p)
schema_own (shape.both l x y) ts us h =
    three (schema_own x ts h.0 h.3) (next_own (k.Connective And) h.0 h.1 refl h.4) (schema_own y h.1 us h.5) (λ x a b y p q r. (a, b, h.2, p, q, r))
schema_own (shape.either l x y) ts us h =
    three (schema_own x ts h.0 h.3) (next_own (k.Connective Or) h.0 h.1 refl h.4) (schema_own y h.1 us h.5) (λ x a b y p q r. (a, b, h.2, p, q, r))
schema_own (shape.schema_bracket l x) ts us h =
    three (begins_own k.OpenRound l ts h.0 refl h.2) (schema_own x h.0 h.1 h.3) (ends_own k.CloseRound l h.1 us refl h.4) (λ x a b y p q r. (a, b, p, q, r))

paragraph_own : (p : ParagraphTree) (ts us : List Symbol) → SpellsParagraph p ts us → Own (SpellsParagraph p) ts us
paragraph_own (shape.given ns) ts us h = three (next_own k.OpenSquare ts h.0 refl h.2) (names_own ns h.0 h.1 h.3) (next_own k.CloseSquare h.1 us refl h.4) (λ x a b y p q r. (a, b, p, q, r))
paragraph_own (shape.free n ns) ts us h =
    three (name_own n ts h.0 h.2) (next_own k.FreeType h.0 h.1 refl h.3) (parted_own k.Bar SpellsName refl name_own ns h.1 us h.4) (λ x a b y p q r. (a, b, p, q, r))
paragraph_own (shape.abbreviation n t) ts us h = three (name_own n ts h.0 h.2) (next_own k.Abbreviates h.0 h.1 refl h.3) (term_own t h.1 us h.4) (λ x a b y p q r. (a, b, p, q, r))
paragraph_own (shape.definition n x) ts us h = three (name_own n ts h.0 h.3) (next_own k.Defines h.0 h.1 refl h.4) (schema_own x h.1 us h.5) (λ x a b y p q r. (a, b, h.2, p, q, r))

-- ---- boxes

-- what is spelled up to the rest is a front of its own that ends with the end of a box
record Closed (S : Spelling) (ts us : List Symbol) : Type 0 where
  own : List Symbol → List Symbol
  whole : ts ≡ own us
  always : (r : List Symbol) → S (own r) r
  closes : (r : List Symbol) → behind (own r) ≡ r
  appends : (r e : List Symbol) → own (r ++ e) ≡ own r ++ e

-- a front that does not end a box, and the end of a box
closed : {P S : Spelling} {ts a us : List Symbol} → Own P ts a → Next k.EndBox a us → ((x a y : List Symbol) → P x a → Next k.EndBox a y → S x y) → Closed S ts us
closed o end pack =
    let last : List Symbol → List Symbol = λ r. symbol k.EndBox end.0 ∷ r in
    record {
      own = λ r. o.own (last r);
      whole = o.whole ∙ ap o.own end.1;
      always = λ r. pack (o.own (last r)) (last r) r (o.always (last r)) (end.0, refl);
      closes = λ r. o.passes (last r);
      appends = λ r e. o.appends (last r) e;
    }

box_closed : (b : BoxTree) (ts us : List Symbol) → SpellsBox b ts us → Closed (SpellsBox b) ts us
box_closed (zed ps) ts us h =
    closed (then_own (next_own k.BeginZed ts h.0 refl h.2) (parted_own separator SpellsParagraph refl paragraph_own ps h.0 h.1 h.3)) h.4 (λ x b y m e. (m.0, b, m.1, m.2, e))
box_closed (schema_box n ds ps) ts us h =
    closed (then_own (starts_own (k.BeginSchema n.base) n.span ts h.0 refl h.4) (then_own (decls_own ds h.0 h.1 h.5) (predicates_own k.Where refl ps h.1 h.2 h.6))) h.7
    (λ x c y m e. (m.0, m.2.0, c, h.3, m.1, m.2.1, m.2.2, e))

-- the symbols of one box: its end stands last, and nowhere else
abbrev pub EndsOnce : List Symbol → Type 0
EndsOnce [] = ⊥
EndsOnce (t ∷ []) = ends_box t.kind ≡ true
EndsOnce (t ∷ (u ∷ ts)) = (ends_box t.kind ≡ false) × EndsOnce (u ∷ ts)

-- what stands after them is all that follows them
behind_end : (ts es : List Symbol) → EndsOnce ts → behind (ts ++ es) ≡ es
behind_end [] es h = absurd h
behind_end (t ∷ []) es h = ap (λ b. if b then es else behind es) h
behind_end (t ∷ (u ∷ ts)) es h = ap (λ b. if b then u ∷ (ts ++ es) else behind (u ∷ (ts ++ es))) h.0 ∙ behind_end (u ∷ ts) es h.1

-- what follows a box is nothing to it
pub box_before : (b : BoxTree) (ts es : List Symbol) → SpellsBox b ts [] → SpellsBox b (ts ++ es) es
box_before b ts es h =
    let c = box_closed b ts [] h in
    let same : c.own es ≡ ts ++ es = c.appends [] es ∙ ap (λ ts. ts ++ es) (sym c.whole) in
    subst (λ ts. SpellsBox b ts es) same (c.always es)

-- a box ends where its end stands
pub box_apart : (b : BoxTree) (ts es us : List Symbol) → EndsOnce ts → SpellsBox b (ts ++ es) us → (us ≡ es) × SpellsBox b ts []
box_apart b ts es us ends h =
    let c = box_closed b (ts ++ es) us h in
    let rest : us ≡ es = sym (c.closes us) ∙ ap behind (sym c.whole) ∙ behind_end ts es ends in
    let front : c.own [] ++ es ≡ ts ++ es = sym (c.appends [] es) ∙ ap c.own (sym rest) ∙ sym c.whole in
    (rest, subst (λ ts. SpellsBox b ts []) (append_cancel_right (c.own []) ts es front) (c.always []))
