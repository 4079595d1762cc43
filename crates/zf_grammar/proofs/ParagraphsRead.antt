-- Paragraphs: what is read is spelled, and what is spelled is read.
use Rattle.zf_grammar.proofs.Prelude.{◌∙◌, ◌∷◌, ◌≡◌, ◌≤◌, [], ap, arith, false, length, List, Ok, refl, subst, sym, true, ℕ, is_bare, paragraph_of, ParagraphTree, schema_tree_of, SchemaTree, Tree, tree_of, Name, is_mark, next_of, Symbol, symbol, Kind, tree_height, paragraph_height, schema_height, expression_level, IsAt, ParagraphIsLevelled, SchemaIsLevelled, first, read_name, rest, parted, Next, PartedBy, Spells, SpellsName, SpellsNames, SpellsParagraph, SpellsSchema, binds, expect, Outcome, read_names, tall, read_term, Tall, Span}
use Rattle.zf_scan.specs.declared.next.Mark.TheVariants as mark
use Rattle.zf_scan.specs.declared.next.Next as code
use Rattle.zf_scan.specs.declared.token.Kind.TheVariants as k
use Rattle.zf_tree.specs.declared.tree.Paragraph.{Paragraph}
use Rattle.zf_tree.specs.declared.tree.Paragraph.TheVariants as paragraph
use Rattle.zf_grammar.specs.{abbreviation, definition, free_type, given, named, named_by, read_paragraph, read_schema}
use Rattle.zf_tree.specs.Trees as shape
use Rattle.zf_grammar.proofs.Marks.{marked, seen, passed, next_shorter, expect_ok, ok_expect}
use Rattle.zf_grammar.proofs.NamesRead.{name_shorter, names_shorter, parted_names_shorter, parted_names_ok, ok_name, ok_parted_names, name_ok, names_ok, ok_names}
use Rattle.zf_grammar.proofs.TermFirsts.{term_shorter}
use Rattle.zf_grammar.proofs.TermSteps.{ok_pair, bind_ok, if_ok, if_cases}
use Rattle.zf_grammar.proofs.BoxItems.{IsThere, Answers, Seen, and_answers, then_answers, if_true, if_false, done}
use Rattle.zf_grammar.proofs.BoxDecls.{term_there, not_at}
use Rattle.zf_grammar.proofs.TermAnswers.{term_read}
use Rattle.zf_grammar.proofs.SchemaExps.{Closes, schema_shorter, schema_sound, schema_answers}

-- ---- what is read is there

abbrev pub ParagraphIsThere : ℕ → Tall Paragraph → List Symbol → List Symbol → Type 0
ParagraphIsThere = IsThere paragraph_of paragraph_height ParagraphIsLevelled SpellsParagraph

given_sound : (n : ℕ) (begin ts us : List Symbol) (x : Tall Paragraph) → Next k.OpenSquare begin ts → given ts ≡ Ok (x, us) → ParagraphIsThere n x begin us
unfolding given
given_sound n begin ts us x opened e =
    let ns = bind_ok (read_names ts) _ (x, us) e in
    let end = bind_ok (expect mark.CloseSquare ns.1) _ (x, us) ns.3 in
    subst (λ p. ParagraphIsThere n p.0 begin p.1) (ok_pair (tall (paragraph.Given ns.0) 0, end.1) (x, us) end.3)
    (record { fits = tt; high_is = refl; low = omega arith; spelled = (ts, ns.1, opened, names_ok ts ns.1 ns.0 ns.2, expect_ok mark.CloseSquare ns.1 end.1 end.0 end.2) })

free_sound : (n : ℕ) (name : Name) (begin a ts us : List Symbol) (x : Tall Paragraph) → SpellsName name begin a → Next k.FreeType a ts → free_type name ts ≡ Ok (x, us) → ParagraphIsThere n x begin us
unfolding free_type
free_sound n name begin a ts us x left is e =
    let ns = bind_ok (parted mark.Bar read_name ts) _ (x, us) e in
    subst (λ p. ParagraphIsThere n p.0 begin p.1) (ok_pair (tall (paragraph.Free name ns.0) 0, ns.1) (x, us) ns.3)
    (record { fits = tt; high_is = refl; low = omega arith; spelled = (a, ts, left, is, parted_names_ok mark.Bar ts ns.1 ns.0 ns.2) })

abbreviation_sound : (n : ℕ) (name : Name) (begin a ts us : List Symbol) (x : Tall Paragraph) → SpellsName name begin a → Next k.Abbreviates a ts
    → abbreviation n name ts ≡ Ok (x, us) → ParagraphIsThere n x begin us
unfolding abbreviation
abbreviation_sound n name begin a ts us x left is e =
    let t = bind_ok (read_term n expression_level ts) _ (x, us) e in
    let s = term_there n expression_level ts t.1 t.0 (omega arith) t.2 in
    subst (λ p. ParagraphIsThere n p.0 begin p.1) (ok_pair (tall (paragraph.Abbrev name t.0.part) t.0.height, t.1) (x, us) t.3)
    (record { fits = s.fits; high_is = s.high_is; low = s.low; spelled = (a, ts, left, is, s.spelled) })

bare_is : (s : List ℕ) → is_bare s ≡ true → s ≡ []
bare_is [] e = refl
bare_is (c ∷ s) e = absurd (cc)

definition_sound : (n : ℕ) (name : Name) (begin a ts us : List Symbol) (x : Tall Paragraph) → SpellsName name begin a → Next k.Defines a ts
    → definition n name ts ≡ Ok (x, us) → ParagraphIsThere n x begin us
unfolding definition
definition_sound n name begin a ts us x left is e =
    let bare = if_ok (is_bare name.strokes) _ (x, us) _ e in
    let t = bind_ok (read_schema n ts) _ (x, us) bare.1 in
    let s = schema_sound n ts t.1 t.0 t.2 in
    subst (λ p. ParagraphIsThere n p.0 begin p.1) (ok_pair (tall (paragraph.Defs name t.0.part) t.0.height, t.1) (x, us) t.3)
    (record { fits = s.fits.1; high_is = s.high_is; low = s.low; spelled = (a, ts, bare_is name.strokes bare.0, left, is, s.spelled) })

named_at : (n : ℕ) (name : Name) (begin : List Symbol) (kind : Kind) (span : Span) (ts us : List Symbol) (x : Tall Paragraph)
    → SpellsName name begin (symbol kind span ∷ ts) → named_by n name (next_of kind) (symbol kind span ∷ ts) ≡ Ok (x, us)
    → ParagraphIsThere n x begin us
named_at n name begin k.FreeType span ts us x left e = free_sound n name begin _ ts us x left (span, refl) e
named_at n name begin k.Abbreviates span ts us x left e = abbreviation_sound n name begin _ ts us x left (span, refl) e
named_at n name begin k.Defines span ts us x left e = definition_sound n name begin _ ts us x left (span, refl) e
named_at n name begin _ span ts us x left e = absurd (cc)

named_sound : (n : ℕ) (ts us : List Symbol) (x : Tall Paragraph) → named n ts ≡ Ok (x, us) → ParagraphIsThere n x ts us
unfolding named
named_sound n ts us x e =
    let name = bind_ok (read_name ts) _ (x, us) e in
    after name.0 name.1 (name_ok ts name.1 name.0 name.2) name.3
  where
    after : (name : Name) (a : List Symbol) → SpellsName name ts a → named_by n name (first a) a ≡ Ok (x, us) → ParagraphIsThere n x ts us
    after name [] left e = absurd (cc)
    after name (b ∷ a) left e = named_at n name ts b.kind b.span a us x left e

pub paragraph_sound : (n : ℕ) (ts us : List Symbol) (x : Tall Paragraph) → read_paragraph n ts ≡ Ok (x, us) → ParagraphIsThere n x ts us
unfolding read_paragraph
paragraph_sound n ts us x e =
    if_cases (is_mark mark.OpenSquare (first ts)) (given (rest ts)) (named n ts) (x, us) e
    (λ is e. given_sound n ts (rest ts) us x (marked mark.OpenSquare ts is) e) (λ is e. named_sound n ts us x e)

-- ---- what is there is read

-- no paragraph goes on with such a symbol
pub record EndsParagraph (x : code.Next) : Type 0 where
  pub loose : binds x ≤ expression_level
  pub no_bar : is_mark mark.Bar x ≡ false
  pub closes : Closes x

abbrev ParagraphIsRead : ℕ → ParagraphTree → Outcome (Tall Paragraph) → List Symbol → Type 0
ParagraphIsRead n p o us = Answers (Seen paragraph_of p (paragraph_height p)) n (paragraph_height p) o us

given_answers : (n : ℕ) (ns : List Name) (ts b us : List Symbol) → SpellsNames ns ts b → Next k.CloseSquare b us → ParagraphIsRead n (shape.given ns) (given ts) us
unfolding given
given_answers n ns ts b us names close =
    let Is = Seen paragraph_of (shape.given ns) 0 in
    then_answers Is n 0 (read_names ts) _ ns b us (ok_names ns ts b (not_at mark.Comma k.CloseSquare b us close refl) names)
    (then_answers Is n 0 (expect mark.CloseSquare b) _ close.0 us us (ok_expect mark.CloseSquare b us close)
    (done Is n 0 (tall (paragraph.Given ns) 0) us (record { is = refl; high = refl }) (omega arith)))

free_answers : (n : ℕ) (name : Name) (ns : List Name) (ts us : List Symbol) → PartedBy k.Bar SpellsName ns ts us → is_mark mark.Bar (first us) ≡ false
    → ParagraphIsRead n (shape.free name ns) (free_type name ts) us
unfolding free_type
free_answers n name ns ts us h stop =
    let Is = Seen paragraph_of (shape.free name ns) 0 in
    then_answers Is n 0 (parted mark.Bar read_name ts) _ ns us us (ok_parted_names mark.Bar ns ts us stop h)
    (done Is n 0 (tall (paragraph.Free name ns) 0) us (record { is = refl; high = refl }) (omega arith))

abbreviation_answers : (n : ℕ) (name : Name) (t : Tree) (ts us : List Symbol) → IsAt expression_level t → Spells t ts us → binds (first us) ≤ expression_level
    → ParagraphIsRead n (shape.abbreviation name t) (abbreviation n name ts) us
unfolding abbreviation
abbreviation_answers n name t ts us at h stop =
    let Is = Seen paragraph_of (shape.abbreviation name t) (tree_height t) in
    and_answers (Seen tree_of t (tree_height t)) Is n (tree_height t) n (tree_height t) (read_term n expression_level ts) _ us us (λ above. above)
    (term_read n expression_level t ts us at h stop)
    (λ x s low. done Is n (tree_height t) (tall (paragraph.Abbrev name x.part) x.height) us (record { is = ap (shape.abbreviation name) s.is; high = s.high }) low)

definition_answers : (n : ℕ) (name : Name) (t : SchemaTree) (ts us : List Symbol) → name.strokes ≡ [] → SchemaIsLevelled t → SpellsSchema t ts us
    → Closes (first us) → ParagraphIsRead n (shape.definition name t) (definition n name ts) us
unfolding definition
definition_answers n name t ts us bare lev h closes =
    let Is = Seen paragraph_of (shape.definition name t) (schema_height t) in
    if_true Is n (schema_height t) (is_bare name.strokes) _ _ us (ap is_bare bare)
    (and_answers (Seen schema_tree_of t (schema_height t)) Is n (schema_height t) n (schema_height t) (read_schema n ts) _ us us (λ above. above) (schema_answers n t ts us lev h closes)
    (λ x s low. done Is n (schema_height t) (tall (paragraph.Defs name x.part) x.height) us (record { is = ap (shape.definition name) s.is; high = s.high }) low))

-- after a name and its symbol
behind : (n : ℕ) (p : ParagraphTree) (name : Name) (ts a us : List Symbol) → SpellsName name ts a → (kind : Kind) (b : List Symbol) → Next kind a b
    → (o : Outcome (Tall Paragraph)) → ((span : Span) → named_by n name (next_of kind) (symbol kind span ∷ b) ≡ o) → ParagraphIsRead n p o us
    → ParagraphIsRead n p (read_paragraph n ts) us
unfolding read_paragraph named
behind n p name ts a us left kind b next o is answers =
    let Is = Seen paragraph_of p (paragraph_height p) in
    let same : named_by n name (first a) a ≡ o = ap (λ a. named_by n name (first a) a) next.1 ∙ is next.0 in
    if_false Is n (paragraph_height p) (is_mark mark.OpenSquare (first ts)) _ _ us (ap (λ ts. is_mark mark.OpenSquare (first ts)) left)
    (then_answers Is n (paragraph_height p) (read_name ts) (λ n' us. named_by n n' (first us) us) name a us (ok_name name ts a left) (subst (λ o. ParagraphIsRead n p o us) (sym same) answers))

pub paragraph_answers : (n : ℕ) (p : ParagraphTree) (ts us : List Symbol) → ParagraphIsLevelled p → SpellsParagraph p ts us → EndsParagraph (first us) → ParagraphIsRead n p (read_paragraph n ts) us
unfolding read_paragraph
paragraph_answers n (shape.given ns) ts us lev h ends =
    let (a, b, begin, names, close) = h in
    let Is = Seen paragraph_of (shape.given ns) 0 in
    if_true Is n 0 (is_mark mark.OpenSquare (first ts)) _ _ us (seen mark.OpenSquare ts a begin)
    (subst (λ a. ParagraphIsRead n (shape.given ns) (given a) us) (sym (passed ts a begin)) (given_answers n ns a b us names close))
paragraph_answers n (shape.free name ns) ts us lev h ends =
    let (a, b, left, next, names) = h in
    behind n (shape.free name ns) name ts a us left k.FreeType b next (free_type name b) (λ span. refl) (free_answers n name ns b us names ends.no_bar)
paragraph_answers n (shape.abbreviation name t) ts us lev h ends =
    let (a, b, left, next, set) = h in
    behind n (shape.abbreviation name t) name ts a us left k.Abbreviates b next (abbreviation n name b) (λ span. refl) (abbreviation_answers n name t b us lev set ends.loose)
paragraph_answers n (shape.definition name t) ts us lev h ends =
    let (a, b, bare, left, next, exp) = h in
    behind n (shape.definition name t) name ts a us left k.Defines b next (definition n name b) (λ span. refl) (definition_answers n name t b us bare lev exp ends.closes)

pub paragraph_shorter : (p : ParagraphTree) (ts us : List Symbol) → SpellsParagraph p ts us → length us ≤ length ts
paragraph_shorter (shape.given ns) ts us h = omega (arith, next_shorter ts h.0 h.2, names_shorter ns h.0 h.1 h.3, next_shorter h.1 us h.4)
paragraph_shorter (shape.free n ns) ts us h = omega (arith, name_shorter n ts h.0 h.2, next_shorter h.0 h.1 h.3, parted_names_shorter k.Bar ns h.1 us h.4)
paragraph_shorter (shape.abbreviation n t) ts us h = omega (arith, name_shorter n ts h.0 h.2, next_shorter h.0 h.1 h.3, term_shorter t h.1 us h.4)
paragraph_shorter (shape.definition n t) ts us h = omega (arith, name_shorter n ts h.0 h.3, next_shorter h.0 h.1 h.4, schema_shorter t h.1 us h.5)
