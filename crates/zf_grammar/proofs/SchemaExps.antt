-- Schema expressions: what is read is spelled, and what is spelled is read.
use Rattle.zf_grammar.proofs.Prelude.{◌+◌, ◌-◌, ◌<◌, ◌∙◌, ◌∷◌, ◌≡◌, ◌≤◌, [], ap, arith, Bool, Err, false, inl, inr, length, List, map, max, Ok, refl, subst, suc, sym, true, zero, ℕ, leb-false, leb-true, AllByRecursion, if◌then◌else◌, ◌⊎◌, nat_le, both, decl_of, DeclTree, either, schema_reference, schema_tree_of, SchemaTree, Tree, tree_of, And, Or, Name, RefMark, Delta, Plain, Xi, SchemaExp, is_mark, next_of, separator, Symbol, symbol, Kind, is_and, is_or, predicates, read_decls, read_ref, schema_part_by, conjunction, disjunction, joined, read_schema, schema_bracket, schema_part, schema_text, decl_height, tree_height, most, schema_height, DeclIsLevelled, IsLevelled, quantifier_level, schema_level, SchemaIsLevelled, first, rest, Ends, joining, Next, schema_span, Span, Starts, through, PartedBy, SpellsDecl, SpellsMarked, SpellsPredicates, SpellsSchema, and_then, binds, expect, here, Outcome, Parser, tall, TooDeep, Tall}
use Rattle.zf_scan.specs.declared.next.Mark.TheVariants as mark
use Rattle.zf_scan.specs.declared.next.Next as code
use Rattle.zf_scan.specs.declared.next.Next.TheVariants as next
use Rattle.zf_scan.specs.declared.token.Kind.TheVariants as k
use Rattle.zf_tree.specs.declared.tree.SchemaExp.TheVariants as schema
use Rattle.zf_tree.specs.Trees as shape
use Rattle.zf_grammar.proofs.Marks.{begins_next, ends_next, ends_ok, is_through, passed, next_shorter, ok_expect}
use Rattle.zf_grammar.proofs.TermSteps.{ok_pair, bind_ok, if_ok, if_cases}
use Rattle.zf_grammar.proofs.BoxItems.{IsThere, IsTooHigh, Answers, Seen, and_answers, then_answers, done}
use Rattle.zf_grammar.proofs.BoxDecls.{Stops, not_at, ref_sound, ref_read, ref_shorter, decls_sound, decls_answers, decls_shorter, predicates_sound, predicates_answers, predicates_shorter}
use Rattle.zf_tree.proofs.SchemaSeen as of

-- ---- lengths

pub schema_shorter : (t : SchemaTree) (ts us : List Symbol) → SpellsSchema t ts us → length us + 1 ≤ length ts
schema_shorter (shape.schema_text l ds ps) ts us h =
    omega (
      arith,
      next_shorter ts h.0 (begins_next h.3),
      decls_shorter ds h.0 h.1 h.4,
      predicates_shorter k.Bar ps h.1 h.2 h.5,
      next_shorter h.2 us (ends_next h.6),
    )
schema_shorter (schema_reference l r) ts us h = ref_shorter r ts us h.1
schema_shorter (both l a b) ts us h = omega (arith, schema_shorter a ts h.0 h.3, next_shorter h.0 h.1 h.4, schema_shorter b h.1 us h.5)
schema_shorter (either l a b) ts us h = omega (arith, schema_shorter a ts h.0 h.3, next_shorter h.0 h.1 h.4, schema_shorter b h.1 us h.5)
schema_shorter (shape.schema_bracket l a) ts us h =
    omega (arith, next_shorter ts h.0 (begins_next h.2), schema_shorter a h.0 h.1 h.3, next_shorter h.1 us (ends_next h.4))

-- ---- connectives

-- where a test of kinds holds of one kind only, it stands there
stands_there : (test : code.Next → Bool) (kind : Kind) → ((other : Kind) → test (next_of other) ≡ true → other ≡ kind) → test next.End ≡ false
    → (ts : List Symbol) → test (first ts) ≡ true → Next kind ts (rest ts)
stands_there test kind only ends [] e = absurd (cc (e, ends))
stands_there test kind only ends (t ∷ ts) e = (t.span, ap (λ kind. symbol kind t.span ∷ ts) (only t.kind e))

and_is : (kind : Kind) → is_and (next_of kind) ≡ true → kind ≡ k.Connective And
and_is (k.Connective And) e = refl
and_is (k.Connective _) e = absurd (cc)
and_is _ e = absurd (cc)

or_is : (kind : Kind) → is_or (next_of kind) ≡ true → kind ≡ k.Connective Or
or_is (k.Connective Or) e = refl
or_is (k.Connective _) e = absurd (cc)
or_is _ e = absurd (cc)

-- ---- what is read is there

-- a levelled tree of this level or a tighter one
abbrev pub SchemaIsAt : ℕ → SchemaTree → Type 0
SchemaIsAt place t = (place ≤ schema_level t) × SchemaIsLevelled t

abbrev pub SchemaIsThere : ℕ → ℕ → Tall SchemaExp → List Symbol → List Symbol → Type 0
SchemaIsThere place = IsThere schema_tree_of schema_height (SchemaIsAt place) SpellsSchema

-- an expression that was made is seen as a tree that is there
made : (place n : ℕ) (t : SchemaTree) (x : SchemaExp) (h : ℕ) (ts us vs : List Symbol) (y : Tall SchemaExp) → schema_tree_of x ≡ t → ◌≡◌ {A = Outcome (Tall SchemaExp)} (Ok (tall x h, us)) (Ok (y, vs))
    → SchemaIsAt place t → h ≡ schema_height t → h ≤ n → SpellsSchema t ts us → SchemaIsThere place n y ts vs
made place n t x h ts us vs y is e at high low spelled =
    subst (λ p. SchemaIsThere place n p.0 ts p.1) (ok_pair (tall x h, us) (y, vs) e)
    (record { fits = subst (SchemaIsAt place) (sym is) at; high_is = high ∙ ap schema_height (sym is); low = low; spelled = subst (λ t. SpellsSchema t ts us) (sym is) spelled })

text_sound : (n : ℕ) (span : Span) (begin ts us : List Symbol) (x : Tall SchemaExp) → Starts k.OpenSquare span begin ts
    → schema_text span n ts ≡ Ok (x, us) → SchemaIsThere 2 (n + 1) x begin us
unfolding schema_text
text_sound n span begin ts us x opened e =
    let ds = bind_ok (read_decls n ts) _ (x, us) e in
    let ps = bind_ok (predicates n mark.Bar ds.1) _ (x, us) ds.3 in
    let end = bind_ok (expect mark.CloseSquare ps.1) _ (x, us) ps.3 in
    let d = decls_sound n ts ds.1 ds.0 ds.2 in
    let p = predicates_sound n mark.Bar ds.1 ps.1 ps.0 ps.2 in
    let whole = through span end.0 in
    made 2 (n + 1) (shape.schema_text whole (map decl_of ds.0.part) (map tree_of ps.0.part)) (schema.Text whole ds.0.part ps.0.part)
    (max ds.0.height ps.0.height + 1) begin end.1 us x (of.of-Text whole ds.0.part ps.0.part) end.3
    (omega arith, (d.fits, p.fits)) (omega (arith, d.high_is, p.high_is)) (omega (arith, d.high_is, p.high_is, d.low, p.low))
    (ts, ds.1, ps.1, (span, opened, refl), d.spelled, p.spelled, ends_ok mark.CloseSquare span end.0 ps.1 end.1 end.2)

abbrev as_reference : Parser (Tall SchemaExp)
as_reference ts = and_then (read_ref ts) (λ r us. Ok (tall (schema.Ref (through (here ts) r.name.span) r) 1, us))

ref_exp_sound : (n : ℕ) (ts us : List Symbol) (x : Tall SchemaExp) → as_reference ts ≡ Ok (x, us) → SchemaIsThere 2 (n + 1) x ts us
ref_exp_sound n ts us x e =
    let r = bind_ok (read_ref ts) _ (x, us) e in
    let whole = through (here ts) r.0.name.span in
    made 2 (n + 1) (schema_reference whole r.0) (schema.Ref whole r.0) 1 ts r.1 us x (of.of-Ref whole r.0) r.3 (omega arith, tt) refl (omega arith)
    (refl, ref_sound ts r.1 r.0 r.2)

module _ (joins : code.Next → Bool) (operand : Parser (Tall SchemaExp)) (make : SchemaExp → SchemaExp → SchemaExp) (highest : ℕ) (Whole : Tall SchemaExp → List Symbol → Type 0)
    (step : (x y : Tall SchemaExp) (a us : List Symbol) → Whole x a → joins (first a) ≡ true → operand (rest a) ≡ Ok (y, us)
    → max x.height y.height + 1 ≤ highest → Whole (tall (make x.part y.part) (max x.height y.height + 1)) us) where
  joined_sound : (j : ℕ) (x z : Tall SchemaExp) (a us : List Symbol) → Whole x a → joined joins operand make highest j x a ≡ Ok (z, us) → Whole z us
  unfolding joined
  joined_sound zero x z a us h e = subst (λ p. Whole p.0 p.1) (ok_pair (x, a) (z, us) e) h
  joined_sound (suc j) x z a us h e =
      if_cases (joins (first a)) _ _ (z, us) e
      (λ is e.
      let y = bind_ok (operand (rest a)) _ (z, us) e in
      let low = if_ok (nat_le (max x.height y.0.height + 1) highest) _ (z, us) _ y.3 in
      joined_sound j (tall (make x.part y.0.part) (max x.height y.0.height + 1)) z y.1 us (step x y.0 a y.1 h is y.2 (leb-true _ _ low.0)) low.1)
      (λ is e. subst (λ p. Whole p.0 p.1) (ok_pair (x, a) (z, us) e) h)

abbrev SchemaIsSound : ℕ → Parser (Tall SchemaExp) → Type 0
SchemaIsSound n below = (ts us : List Symbol) (x : Tall SchemaExp) → below ts ≡ Ok (x, us) → SchemaIsThere 0 n x ts us

module _ (n : ℕ) (below : Parser (Tall SchemaExp)) (ok : SchemaIsSound n below) where
  bracket_sound : (span : Span) (begin ts us : List Symbol) (x : Tall SchemaExp) → Starts k.OpenRound span begin ts
      → schema_bracket n below span ts ≡ Ok (x, us) → SchemaIsThere 2 (n + 1) x begin us
  unfolding schema_bracket
  bracket_sound span begin ts us x opened e =
      let y = bind_ok (below ts) _ (x, us) e in
      let end = bind_ok (expect mark.CloseRound y.1) _ (x, us) y.3 in
      let s = ok ts y.1 y.0 y.2 in
      let whole = through span end.0 in
      made 2 (n + 1) (shape.schema_bracket whole (schema_tree_of y.0.part)) (schema.Bracket whole y.0.part) (y.0.height + 1) begin end.1 us x
      (of.of-Bracket whole y.0.part) end.3
      (omega arith, s.fits.1) (omega (arith, s.high_is)) (omega (arith, s.high_is, s.low))
      (ts, y.1, (span, opened, refl), s.spelled, ends_ok mark.CloseRound span end.0 y.1 end.1 end.2)

  part_at : (kind : Kind) (span : Span) (ts us : List Symbol) (x : Tall SchemaExp) → schema_part_by n below span (next_of kind) (symbol kind span ∷ ts) ≡ Ok (x, us)
      → SchemaIsThere 2 (n + 1) x (symbol kind span ∷ ts) us
  part_at k.OpenSquare span ts us x e = text_sound n span (symbol k.OpenSquare span ∷ ts) ts us x refl e
  part_at k.OpenRound span ts us x e = bracket_sound span (symbol k.OpenRound span ∷ ts) ts us x refl e
  part_at kind span ts us x e = ref_exp_sound n _ us x e

  part_sound : (ts us : List Symbol) (x : Tall SchemaExp) → schema_part n below ts ≡ Ok (x, us) → SchemaIsThere 2 (n + 1) x ts us
  unfolding schema_part
  part_sound [] us x e = ref_exp_sound n [] us x e
  part_sound (t ∷ ts) us x e = part_at t.kind t.span ts us x e

  and_step : (begin : List Symbol) (x y : Tall SchemaExp) (a us : List Symbol) → SchemaIsThere 1 (n + 1) x begin a → is_and (first a) ≡ true
      → schema_part n below (rest a) ≡ Ok (y, us) → max x.height y.height + 1 ≤ n + 1
      → SchemaIsThere 1 (n + 1) (tall (joining schema.Both x.part y.part) (max x.height y.height + 1)) begin us
  and_step begin x y a us s is e low =
      let t = part_sound (rest a) us y e in
      made 1 (n + 1) (both _ (schema_tree_of x.part) (schema_tree_of y.part)) (joining schema.Both x.part y.part) (max x.height y.height + 1) begin us us _
      (of.of-Both _ x.part y.part) refl
      (omega arith, (s.fits.0, t.fits.0, s.fits.1, t.fits.1)) (omega (arith, s.high_is, t.high_is)) low
      (a, rest a, refl, s.spelled, stands_there is_and _ and_is refl a is, t.spelled)

  conjunction_sound : (ts us : List Symbol) (x : Tall SchemaExp) → conjunction n below ts ≡ Ok (x, us) → SchemaIsThere 1 (n + 1) x ts us
  unfolding conjunction
  conjunction_sound ts us x e =
      let y = bind_ok (schema_part n below ts) _ (x, us) e in
      let s = part_sound ts y.1 y.0 y.2 in
      let tight = s.fits.0 in
      joined_sound is_and (schema_part n below) (joining schema.Both) (n + 1) (λ x a. SchemaIsThere 1 (n + 1) x ts a) (and_step ts) (length y.1) y.0 x y.1 us
      (record { fits = (omega arith, s.fits.1); high_is = s.high_is; low = s.low; spelled = s.spelled }) y.3

  or_step : (begin : List Symbol) (x y : Tall SchemaExp) (a us : List Symbol) → SchemaIsThere 0 (n + 1) x begin a → is_or (first a) ≡ true
      → conjunction n below (rest a) ≡ Ok (y, us) → max x.height y.height + 1 ≤ n + 1
      → SchemaIsThere 0 (n + 1) (tall (joining schema.Or x.part y.part) (max x.height y.height + 1)) begin us
  or_step begin x y a us s is e low =
      let t = conjunction_sound (rest a) us y e in
      made 0 (n + 1) (either _ (schema_tree_of x.part) (schema_tree_of y.part)) (joining schema.Or x.part y.part) (max x.height y.height + 1) begin us us _
      (of.of-Or _ x.part y.part) refl
      (omega arith, (t.fits.0, s.fits.1, t.fits.1)) (omega (arith, s.high_is, t.high_is)) low
      (a, rest a, refl, s.spelled, stands_there is_or _ or_is refl a is, t.spelled)

  disjunction_sound : (ts us : List Symbol) (x : Tall SchemaExp) → disjunction n below ts ≡ Ok (x, us) → SchemaIsThere 0 (n + 1) x ts us
  unfolding disjunction
  disjunction_sound ts us x e =
      let y = bind_ok (conjunction n below ts) _ (x, us) e in
      let s = conjunction_sound ts y.1 y.0 y.2 in
      joined_sound is_or (conjunction n below) (joining schema.Or) (n + 1) (λ x a. SchemaIsThere 0 (n + 1) x ts a) (or_step ts) (length y.1) y.0 x y.1 us
      (record { fits = (omega arith, s.fits.1); high_is = s.high_is; low = s.low; spelled = s.spelled }) y.3

-- what is read is a levelled tree of the stated height that spells the symbols
pub schema_sound : (n : ℕ) → SchemaIsSound n (read_schema n)
unfolding read_schema
schema_sound zero ts us x e = absurd (cc)
schema_sound (suc n) ts us x e =
    let s = disjunction_sound n (read_schema n) (schema_sound n) ts us x e in
    record { fits = s.fits; high_is = s.high_is; low = omega (arith, s.low); spelled = s.spelled }

-- ---- what is there is read

abbrev pub SchemaIsRead : ℕ → SchemaTree → Outcome (Tall SchemaExp) → List Symbol → Type 0
SchemaIsRead n t o us = Answers (Seen schema_tree_of t (schema_height t)) n (schema_height t) o us

ref_first : (n : ℕ) (below : Parser (Tall SchemaExp)) (m : RefMark) (r : Name) (ts us : List Symbol) → SpellsMarked m r ts us
    → schema_part n below ts ≡ as_reference ts
unfolding schema_part
ref_first n below Plain r ts us h = ap (schema_part n below) h ∙ sym (ap as_reference h)
ref_first n below Delta r ts us h = ap (schema_part n below) h.1.1 ∙ sym (ap as_reference h.1.1)
ref_first n below Xi r ts us h = ap (schema_part n below) h.1.1 ∙ sym (ap as_reference h.1.1)

-- predicates that may be left out, and the symbol after them
pub begins : (P : code.Next → Type 0) (kind end : Kind) (ps : List Tree) (ts a us : List Symbol) → SpellsPredicates kind ps ts a → Next end a us → P (next_of kind) → P (next_of end) → P (first ts)
begins P kind end [] ts a us h close begin ends = subst (λ ts. P (first ts)) (sym (h ∙ close.1)) ends
begins P kind end (p ∷ ps) ts a us h close begin ends = subst (λ ts. P (first ts)) (sym h.1.1) begin

-- the outcome of a run of operands, of which the first are read and `us` is left
module _ (joins : code.Next → Bool) (operand : Parser (Tall SchemaExp)) (make : SchemaExp → SchemaExp → SchemaExp) (highest : ℕ) (ts : List Symbol) where
  abbrev start : Outcome (Tall SchemaExp)
  start = and_then (operand ts) (λ x us. joined joins operand make highest (length us) x us)

  -- one more operand, and the rest
  abbrev further : Tall SchemaExp → ℕ → Tall SchemaExp → Parser (Tall SchemaExp)
  further x j y us =
      if nat_le (max x.height y.height + 1) highest then joined joins operand make highest j
      (tall (make x.part y.part) (max x.height y.height + 1)) us else Err TooDeep

  record IsRun (t : SchemaTree) (us : List Symbol) : Type 0 where
    value : Tall SchemaExp
    is : Seen schema_tree_of t (schema_height t) value
    low : schema_height t ≤ highest
    turns : ℕ
    enough : length us ≤ turns
    same : start ≡ joined joins operand make highest turns value us

  abbrev Runs : SchemaTree → List Symbol → Type 0
  Runs t us = IsRun t us ⊎ IsTooHigh highest (schema_height t) start

  -- one more operand
  module _ (t u node : SchemaTree) (mid b us : List Symbol) (is_joined : joins (first mid) ≡ true) (after : rest mid ≡ b) (shorter : length b + 1 ≤ length mid) (short : length us ≤ length b)
      (high : schema_height node ≡ max (schema_height t) (schema_height u) + 1)
      (seen : (x y : SchemaExp) → schema_tree_of x ≡ t → schema_tree_of y ≡ u → schema_tree_of (make x y) ≡ node) where
    fits : (r : IsRun t mid) (j : ℕ) (y : Tall SchemaExp) → Seen schema_tree_of u (schema_height u) y → length us ≤ j
        → start ≡ further r.value j y us
        → (c : Bool) → nat_le (max r.value.height y.height + 1) highest ≡ c → Runs node us
    fits r j y sy few e true is =
        let low = leb-true (max r.value.height y.height + 1) highest is in
        inl (record {
          value = tall (make r.value.part y.part) (max r.value.height y.height + 1);
          is = record { is = seen r.value.part y.part r.is.is sy.is; high = omega (arith, r.is.high, sy.high) };
          low = omega (arith, r.is.high, sy.high);
          turns = j;
          enough = few;
          same = rw is at e;
        })
    fits r j y sy few e false is =
        let above = leb-false (max r.value.height y.height + 1) highest is in
        inr (record { above = omega (arith, r.is.high, sy.high); refused = rw is at e })

    one_turn : (x : Tall SchemaExp) (j : ℕ) → joined joins operand make highest (suc j) x mid ≡ and_then (operand b) (further x j)
    unfolding joined
    one_turn x j = rw (is_joined, after) refl

    turn : Runs t mid → SchemaIsRead highest u (operand b) us → Runs node us
    turn (inr d) a = inr (record { above = omega (arith, d.above); refused = d.refused })
    turn (inl r) a =
        let enough = r.enough in
        let turns_is : r.turns ≡ suc (r.turns - 1) = omega arith in
        let e = r.same ∙ ap (λ j. joined joins operand make highest j r.value mid) turns_is ∙ one_turn r.value (r.turns - 1) in
        by r (r.turns - 1) (omega arith) e a
      where
        by : (r : IsRun t mid) (j : ℕ) → length us ≤ j → start ≡ and_then (operand b) (further r.value j) → SchemaIsRead highest u (operand b) us → Runs node us
        by r j few e (inl y) =
            fits r j y.value y.is few (e ∙ ap (λ o. and_then o (further r.value j)) y.read) (nat_le (max r.value.height y.value.height + 1) highest) refl
        by r j few e (inr d) = inr (record { above = omega (arith, d.above); refused = e ∙ ap (λ o. and_then o (further r.value j)) d.refused })

  stops : (j : ℕ) (x : Tall SchemaExp) (us : List Symbol) → joins (first us) ≡ false → joined joins operand make highest j x us ≡ Ok (x, us)
  unfolding joined
  stops zero x us none = refl
  stops (suc j) x us none = rw none refl

  -- no operand follows
  finish : (t : SchemaTree) (us : List Symbol) → joins (first us) ≡ false → Runs t us → SchemaIsRead highest t start us
  finish t us none (inl r) = inl (record { value = r.value; is = r.is; low = r.low; read = r.same ∙ stops r.turns r.value us none })
  finish t us none (inr d) = inr d

  -- the first operand
  begun : (t : SchemaTree) (us : List Symbol) → SchemaIsRead highest t (operand ts) us → Runs t us
  begun t us (inl r) =
      inl (record {
        value = r.value;
        is = r.is;
        low = r.low;
        turns = length us;
        enough = omega arith;
        same = ap
            (λ o. and_then o (λ x us. joined joins operand make highest (length us) x us)) r.read;
      })
  begun t us (inr d) = inr (record { above = d.above; refused = ap (λ o. and_then o (λ x us. joined joins operand make highest (length us) x us)) d.refused })

-- no schema expression goes on with such a symbol
pub record Closes (x : code.Next) : Type 0 where
  pub no_and : is_and x ≡ false
  pub no_or : is_or x ≡ false

abbrev SchemaIsComplete : ℕ → Parser (Tall SchemaExp) → Type 0
SchemaIsComplete n below = (t : SchemaTree) (ts us : List Symbol) → SchemaIsLevelled t → SpellsSchema t ts us → Closes (first us) → SchemaIsRead n t (below ts) us

module _ (n : ℕ) (below : Parser (Tall SchemaExp)) (ok : SchemaIsComplete n below) where
  text_answers : (l span : Span) (ds : List DeclTree) (ps : List Tree) (ts us : List Symbol) → l.start ≡ span.start → AllByRecursion DeclIsLevelled ds → AllByRecursion IsLevelled ps
      → (b c : List Symbol) → PartedBy separator SpellsDecl ds ts b → SpellsPredicates k.Bar ps b c → Ends k.CloseSquare l c us
      → SchemaIsRead (n + 1) (shape.schema_text l ds ps) (schema_text span n ts) us
  unfolding schema_text
  text_answers l span ds ps ts us start lev_d lev_p b c decls under ends =
      let close = ends_next ends in
      let whole = through span close.0 in
      let Is = Seen schema_tree_of (shape.schema_text l ds ps) (schema_height (shape.schema_text l ds ps)) in
      let h = schema_height (shape.schema_text l ds ps) in
      let last : is_mark mark.Separator (first b) ≡ false = begins (λ x. is_mark mark.Separator x ≡ false) k.Bar k.CloseSquare ps b c us under close refl refl in
      let stop : Stops (first b) = begins Stops k.Bar k.CloseSquare ps b c us under close (record { loose = omega arith; no_comma = refl; no_colon = refl })
      (record { loose = omega arith; no_comma = refl; no_colon = refl }) in
      let loose : binds (first c) ≤ quantifier_level = subst (λ c. binds (first c) ≤ quantifier_level) (sym close.1) (omega arith) in
      and_answers (Seen (map decl_of) ds (most decl_height ds)) Is n (most decl_height ds) (n + 1) h (read_decls n ts) _ b us (λ above. omega arith) (decls_answers n ds ts b last stop lev_d decls)
      (λ xs sx low_x.
      and_answers (Seen (map tree_of) ps (most tree_height ps)) Is n (most tree_height ps) (n + 1) h (predicates n mark.Bar b) _ c us (λ above. omega arith)
      (predicates_answers n mark.Bar ps b c (not_at mark.Bar k.CloseSquare c us close refl) (not_at mark.Separator k.CloseSquare c us close refl) loose lev_p under)
      (λ ys sy low_y.
      let same : shape.schema_text whole (map decl_of xs.part) (map tree_of ys.part)
      ≡ shape.schema_text l ds ps = ap (λ l. shape.schema_text l (map decl_of xs.part) (map tree_of ys.part)) (is_through l span close.0 start ends.2)
      ∙ ap (λ ds. shape.schema_text l ds (map tree_of ys.part)) sx.is ∙ ap (shape.schema_text l ds) sy.is in
      then_answers Is (n + 1) h (expect mark.CloseSquare c) _ close.0 us us (ok_expect mark.CloseSquare c us close)
      (done Is (n + 1) h (tall (schema.Text whole xs.part ys.part) (max xs.height ys.height + 1)) us
      (record { is = of.of-Text whole xs.part ys.part ∙ same; high = omega (arith, sx.high, sy.high) }) (omega (arith, sx.high, sy.high)))))

  bracket_answers : (l span : Span) (t : SchemaTree) (ts b us : List Symbol) → l.start ≡ span.start → SchemaIsLevelled t → SpellsSchema t ts b → Ends k.CloseRound l b us
      → SchemaIsRead (n + 1) (shape.schema_bracket l t) (schema_bracket n below span ts) us
  unfolding schema_bracket
  bracket_answers l span t ts b us start lev h ends =
      let close = ends_next ends in
      let whole = through span close.0 in
      let Is = Seen schema_tree_of (shape.schema_bracket l t) (schema_height t + 1) in
      let closes : Closes (first b) = subst (λ b. Closes (first b)) (sym close.1) (record { no_and = refl; no_or = refl }) in
      and_answers (Seen schema_tree_of t (schema_height t)) Is n (schema_height t) (n + 1) (schema_height t + 1) (below ts) _ b us (λ above. omega arith) (ok t ts b lev h closes)
      (λ x s low.
      then_answers Is (n + 1) (schema_height t + 1) (expect mark.CloseRound b) _ close.0 us us (ok_expect mark.CloseRound b us close)
      (done Is (n + 1) (schema_height t + 1) (tall (schema.Bracket whole x.part) (x.height + 1)) us
      (record {
        is = of.of-Bracket whole x.part ∙ ap (λ l. shape.schema_bracket l (schema_tree_of x.part)) (is_through l span close.0 start ends.2)
            ∙ ap (shape.schema_bracket l) s.is;
        high = omega (arith, s.high);
      }) (omega (arith, s.high))))

  part_is : (kind : Kind) (span : Span) (ts a : List Symbol) → Starts kind span ts a → schema_part n below ts ≡ schema_part_by n below span (next_of kind) (symbol kind span ∷ a)
  unfolding schema_part
  part_is kind span ts a starts = ap (schema_part n below) starts

  part_answers : (t : SchemaTree) (ts us : List Symbol) → SchemaIsAt 2 t → SpellsSchema t ts us → SchemaIsRead (n + 1) t (schema_part n below ts) us
  part_answers (shape.schema_text l ds ps) ts us at h =
      let (a, b, c, begin, decls, under, ends) = h in
      subst (λ o. SchemaIsRead (n + 1) (shape.schema_text l ds ps) o us) (sym (part_is k.OpenSquare begin.0 ts a begin.1))
      (text_answers l begin.0 ds ps a us begin.2 at.1.0 at.1.1 b c decls under ends)
  part_answers (schema_reference l r) ts us at h =
      let Is = Seen schema_tree_of (schema_reference l r) 1 in
      let whole = through (here ts) r.name.span in
      subst (λ o. SchemaIsRead (n + 1) (schema_reference l r) o us) (sym (ref_first n below r.mark r.name ts us h.1))
      (then_answers Is (n + 1) 1 (read_ref ts) _ r us us (ref_read r ts us h.1)
      (done Is (n + 1) 1 (tall (schema.Ref whole r) 1) us (record { is = of.of-Ref whole r ∙ ap (λ l. schema_reference l r) (sym h.0); high = refl }) (omega arith)))
  part_answers (both l a b) ts us at h = absurd (omega (arith, at.0))
  part_answers (either l a b) ts us at h = absurd (omega (arith, at.0))
  part_answers (shape.schema_bracket l t) ts us at h =
      let (a, b, begin, inner, ends) = h in
      subst (λ o. SchemaIsRead (n + 1) (shape.schema_bracket l t) o us) (sym (part_is k.OpenRound begin.0 ts a begin.1))
      (bracket_answers l begin.0 t a b us begin.2 at.1 inner ends)

  -- two expressions joined
  both_seen : (make : Span → SchemaExp → SchemaExp → SchemaExp) (node : Span → SchemaTree → SchemaTree → SchemaTree)
      → ((l : Span) (x y : SchemaExp) → schema_tree_of (make l x y) ≡ node l (schema_tree_of x) (schema_tree_of y))
      → (l : Span) (a b : SchemaTree) → l ≡ through (schema_span a) (schema_span b)
      → (x y : SchemaExp) → schema_tree_of x ≡ a → schema_tree_of y ≡ b → schema_tree_of (joining make x y) ≡ node l a b
  both_seen make node of l a b span x y is_x is_y =
      of _ x y ∙ ap (λ a. node (through (schema_span a) (schema_span (schema_tree_of y))) a (schema_tree_of y)) is_x
      ∙ ap (λ b. node (through (schema_span a) (schema_span b)) a b) is_y ∙ ap (λ l. node l a b) (sym span)

  abbrev AndRuns : List Symbol → SchemaTree → List Symbol → Type 0
  AndRuns ts = Runs is_and (schema_part n below) (joining schema.Both) (n + 1) ts

  and_begun : (t : SchemaTree) (ts us : List Symbol) → SchemaIsAt 2 t → SpellsSchema t ts us → AndRuns ts t us
  and_begun t ts us at h = begun is_and (schema_part n below) (joining schema.Both) (n + 1) ts t us (part_answers t ts us at h)

  and_runs : (t : SchemaTree) (ts us : List Symbol) → SchemaIsAt 1 t → SpellsSchema t ts us → AndRuns ts t us
  and_runs (both l a b) ts us at h =
      let (mid, c, span, left, next, right) = h in
      let runs = and_runs a ts mid (at.1.0, at.1.2) left in
      let after = part_answers b c us (at.1.1, at.1.3) right in
      turn is_and (schema_part n below) (joining schema.Both) (n + 1) ts a b (both l a b) mid c us
      (ap (λ ts. is_and (first ts)) next.1) (passed mid c next) (next_shorter mid c next) (omega (arith, schema_shorter b c us right)) refl
      (both_seen schema.Both both of.of-Both l a b span) runs after
  and_runs (either l a b) ts us at h = absurd (omega (arith, at.0))
  and_runs t ts us at h = and_begun t ts us (omega arith, at.1) h

  conjunction_answers : (t : SchemaTree) (ts us : List Symbol) → SchemaIsAt 1 t → SpellsSchema t ts us → is_and (first us) ≡ false → SchemaIsRead (n + 1) t (conjunction n below ts) us
  unfolding conjunction
  conjunction_answers t ts us at h none =
      finish is_and (schema_part n below) (joining schema.Both) (n + 1) ts t us none (and_runs t ts us at h)

  abbrev OrRuns : List Symbol → SchemaTree → List Symbol → Type 0
  OrRuns ts = Runs is_or (conjunction n below) (joining schema.Or) (n + 1) ts

  or_begun : (t : SchemaTree) (ts us : List Symbol) → SchemaIsAt 1 t → SpellsSchema t ts us → is_and (first us) ≡ false → OrRuns ts t us
  or_begun t ts us at h none = begun is_or (conjunction n below) (joining schema.Or) (n + 1) ts t us (conjunction_answers t ts us at h none)

  or_runs : (t : SchemaTree) (ts us : List Symbol) → SchemaIsLevelled t → SpellsSchema t ts us → is_and (first us) ≡ false → OrRuns ts t us
  or_runs (either l a b) ts us lev h none =
      let (mid, c, span, left, next, right) = h in
      let runs = or_runs a ts mid lev.1 left (ap (λ ts. is_and (first ts)) next.1) in
      let after = conjunction_answers b c us (lev.0, lev.2) right none in
      turn is_or (conjunction n below) (joining schema.Or) (n + 1) ts a b (either l a b) mid c us
      (ap (λ ts. is_or (first ts)) next.1) (passed mid c next) (next_shorter mid c next) (omega (arith, schema_shorter b c us right)) refl
      (both_seen schema.Or either of.of-Or l a b span) runs after
  or_runs t ts us lev h none = or_begun t ts us (omega arith, lev) h none

  disjunction_answers : (t : SchemaTree) (ts us : List Symbol) → SchemaIsLevelled t → SpellsSchema t ts us → Closes (first us) → SchemaIsRead (n + 1) t (disjunction n below ts) us
  unfolding disjunction
  disjunction_answers t ts us lev h closes =
      finish is_or (conjunction n below) (joining schema.Or) (n + 1) ts t us closes.no_or (or_runs t ts us lev h closes.no_and)

some_schema_height : (t : SchemaTree) → 0 < schema_height t
some_schema_height (schema_reference l r) = omega arith
some_schema_height _ = omega arith

-- a levelled tree that is spelled, and with which what follows does not go on, is the one that is read, unless it is too high
pub schema_answers : (n : ℕ) → SchemaIsComplete n (read_schema n)
unfolding read_schema
schema_answers zero t ts us lev h closes = inr (record { above = some_schema_height t; refused = refl })
schema_answers (suc n) t ts us lev h closes =
    let is : n + 1 ≡ suc n = omega arith in
    subst (λ m. SchemaIsRead m t (disjunction n (read_schema n) ts) us) is (disjunction_answers n (read_schema n) (schema_answers n) t ts us lev h closes)
