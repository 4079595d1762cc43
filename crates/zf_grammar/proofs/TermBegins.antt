-- What begins a term: what is read there is levelled, of the stated height, and spells the symbols.
use Rattle.zf_grammar.proofs.Prelude.{◌+◌, ◌<◌, ◌∙◌, ◌∷◌, ◌≡◌, ◌≤◌, [], ap, arith, length, List, max, Ok, refl, subst, sym, true, ℕ, leb-true, nat_le, ident_of, bracket, constant, span_of, named, numeral, part_of, Tree, Trees, tree_of, Listed, Unary, Minus, Quantifier, Name, Term, is_mark, next_of, Symbol, symbol, Mark, Kind, trees_height, AreAt, AreEnough, AreTwo, atom_level, expression_level, level, listed_level, member_place, quantifier_level, unary_level, first, After, Before, Closes, last_tree, Span, through, IsOver, Opens, parting, SpellsItems, Tall, expect}
use Rattle.zf_scan.specs.declared.next.Mark.TheVariants as mark
use Rattle.zf_scan.specs.declared.token.Kind.TheVariants as k
use Rattle.zf_tree.specs.declared.operator.Listed.TheVariants as list
use Rattle.zf_tree.specs.declared.operator.Sign.TheVariants as sign
use Rattle.zf_tree.specs.declared.operator.Unary.TheVariants as one
use Rattle.zf_tree.specs.declared.tree.Term.TheVariants as term
use Rattle.zf_grammar.specs.{beginning, beginning_by, begins_decl, braced, comprehension, closed_by, decls, display, empty_set, further, listed, part, parted_by, prefixed, quantified, round, round_by, tall}
use Rattle.zf_tree.specs.Trees as shape
use Rattle.zf_grammar.proofs.Marks.{kind_of, ends_ok, expect_ok}
use Rattle.zf_tree.proofs.TermSeen as of
use Rattle.zf_grammar.proofs.TermSteps.{ok_value, ok_rest, bind_ok, if_ok, if_cases}
use Rattle.zf_grammar.proofs.TermParts.{trees_of, decls_of, Sound, AreSome, Reader, IsSound, made, further_sound, decls_sound, part_sound}
use Rattle.zf_grammar.proofs.TermTables.{unary_level_le, member_place_le}

-- ---- what stands between the terms of a list, and after them

pub same_parting : (form : Listed) → kind_of (parted_by form) ≡ parting form
same_parting list.Product = refl
same_parting _ = refl

closed_ok : (form : Listed) (begin last end : Span) (ts us : List Symbol) → closed_by form last ts ≡ Ok (end, us) → Closes form (through begin end) ts us
closed_ok list.Tuple begin last end ts us e = ends_ok mark.CloseRound begin end ts us e
closed_ok list.Display begin last end ts us e = ends_ok mark.CloseBrace begin end ts us e
closed_ok list.Product begin last end ts us e = ok_rest last end ts us e

-- a product ends with its last term
closed_last : (form : Listed) (last end : Span) (ts us : List Symbol) → closed_by form last ts ≡ Ok (end, us) → form ≡ list.Product → last ≡ end
closed_last list.Product last end ts us e is = ok_value last end ts us e
closed_last _ last end ts us e is = absurd (cc)

module _ (below : Reader) (n : ℕ) (ok : IsSound n below) where
  abbrev pub Whole : ℕ → Tall Term → List Symbol → List Symbol → Type 0
  Whole least x ts us = Sound (n + 1) least x ts us

  -- ---- lists of terms

  pub record AllTerms (place : ℕ) (m : Mark) (x : Tall Term) (all : Tall (List Term)) (ts a us : List Symbol) : Type 0 where
    pub levelled : AreAt place (trees_of all.part)
    pub two : is_mark m (first a) ≡ true → 0 < length a → AreTwo (trees_of all.part)
    pub over : IsOver (through (span_of (tree_of x.part)) (last_tree (span_of (tree_of x.part)) (trees_of all.part))) (trees_of all.part)
    pub high : all.height ≡ trees_height (trees_of all.part)
    pub low : x.height ≤ n → all.height ≤ n
    pub spelled : SpellsItems (kind_of m) (trees_of all.part) ts us

  two_of : (x : Term) (more : List Term) → AreSome more → AreTwo (trees_of (x ∷ more))
  two_of x [] some = absurd some
  two_of x (y ∷ more) some = tt

  pub all_sound : (highest least place : ℕ) (m : Mark) (x : Tall Term) (all : Tall (List Term)) (ts a us : List Symbol) → place ≤ atom_level
      → place ≤ level (tree_of x.part) → Sound highest least x ts a
      → further below m place x a ≡ Ok (all, us) → AllTerms place m x all ts a us
  unfolding further
  all_sound highest least place m x all ts a us fits first_fits s e =
      let r = further_sound below n ok place fits (length a) m (tall (x.part ∷ []) x.height) all a us e in
      let is : all.part ≡ x.part ∷ r.more = r.items in
      let high_all : all.height ≡ trees_height (trees_of (x.part ∷ r.more)) = omega (arith, s.high, r.high) in
      record {
        levelled = subst (λ xs. AreAt place (trees_of xs)) (sym is) (first_fits, s.levelled, r.levelled);
        two = λ marked long. subst (λ xs. AreTwo (trees_of xs)) (sym is) (two_of x.part r.more (r.spelled.1 marked long));
        over = subst (λ xs. IsOver (through (span_of (tree_of x.part)) (last_tree (span_of (tree_of x.part)) (trees_of xs))) (trees_of xs)) (sym is) refl;
        high = high_all ∙ ap (λ xs. trees_height (trees_of xs)) (sym is);
        low = r.low;
        spelled = subst (λ xs. SpellsItems (kind_of m) (trees_of xs) ts us) (sym is) (a, s.spelled, r.spelled.0);
      }

  -- what is there before the terms of a list, of which the first is read
  pub record Listing (span : Span) (least : ℕ) (form : Listed) (x z : Tall Term) (begin ts a : List Symbol) : Type 0 where
    pub fits : least ≤ listed_level form
    pub place : member_place form ≤ level (tree_of x.part)
    pub enough : (vs : Trees) → (is_mark (parted_by form) (first a) ≡ true → 0 < length a → AreTwo vs) → AreEnough form vs
    pub from : form ≡ list.Product → span ≡ span_of (tree_of x.part)
    pub opens : (vs : Trees) (end : Span) → (form ≡ list.Product → IsOver (through span end) vs) → Opens form (through span end) vs begin ts
    pub low : (h : ℕ) → (x.height ≤ n → h ≤ n) → z.height ≡ h + 1 → h ≤ n

  pub listed_sound : (highest : ℕ) (span : Span) (least : ℕ) (form : Listed) (x z : Tall Term) (begin ts a us : List Symbol) → Listing span least form x z begin ts a
      → Sound highest quantifier_level x ts a → listed below span form x a ≡ Ok (z, us)
      → Whole least z begin us
  unfolding listed
  listed_sound highest span least form x z begin ts a us l s e =
      let all = bind_ok (further below (parted_by form) (member_place form) x a) _ (z, us) e in
      let end = bind_ok (closed_by form (last_tree span (trees_of all.0.part)) all.1) _ (z, us) all.3 in
      let r = all_sound highest quantifier_level (member_place form) (parted_by form) x all.0 ts a all.1 (member_place_le form) l.place s all.2 in
      let high_z : all.0.height + 1 ≡ z.height = ap (λ z. z.height) (ok_value _ z end.1 us end.3) in
      let low = l.low all.0.height r.low (sym high_z) in
      let over : form ≡ list.Product → IsOver (through span end.0) (trees_of all.0.part) = λ product.
      subst (λ last. IsOver (through span last) (trees_of all.0.part)) (closed_last form _ end.0 all.1 end.1 end.2 product)
      (subst (λ begin. IsOver (through begin (last_tree begin (trees_of all.0.part))) (trees_of all.0.part)) (sym (l.from product)) r.over) in
      let items = subst (λ kind. SpellsItems kind (trees_of all.0.part) ts all.1) (same_parting form) r.spelled in
      made (n + 1) least (shape.listed (through span end.0) form (trees_of all.0.part))
      (term.Listed (through span end.0) form all.0.part) (all.0.height + 1) begin end.1 us z
      (of.of-Listed (through span end.0) form all.0.part) end.3
      (record {
        fits = l.fits;
        levelled = (l.enough (trees_of all.0.part) r.two, r.levelled);
        high = omega (arith, r.high);
        low = omega (arith, r.high);
        spelled = (ts, all.1, l.opens (trees_of all.0.part) end.0 over, items, closed_ok form span _ end.0 all.1 end.1 end.2);
      })

  -- ---- brackets

  tuple_sound : (span : Span) (least : ℕ) (c : Span) (x y : Tall Term) (ts a us : List Symbol) → least ≤ atom_level → Sound n quantifier_level x ts (symbol k.Comma c ∷ a)
      → round_by below span x (next_of k.Comma) (symbol k.Comma c ∷ a) ≡ Ok (y, us) → Whole least y (symbol k.OpenRound span ∷ ts) us
  tuple_sound span least c x y ts a us fits s e =
      let g = if_ok (nat_le expression_level (level (tree_of x.part))) _ (y, us) _ e in
      listed_sound n span least list.Tuple x y _ ts (symbol k.Comma c ∷ a) us
      (record {
        fits = fits;
        place = leb-true expression_level (level (tree_of x.part)) g.0;
        enough = λ vs two. two refl (omega arith);
        from = λ is. absurd (cc);
        opens = λ vs end _. (span, refl, refl);
        low = λ h low e. low s.low;
      }) s g.1

  round_at : (span : Span) (least : ℕ) (x y : Tall Term) (kind : Kind) (c : Span) (ts a us : List Symbol) → least ≤ atom_level → Sound n quantifier_level x ts (symbol kind c ∷ a)
      → round_by below span x (next_of kind) (symbol kind c ∷ a) ≡ Ok (y, us) → Whole least y (symbol k.OpenRound span ∷ ts) us
  round_at span least x y k.CloseRound c ts a us fits s e =
      let high = s.high in
      let low = s.low in
      made (n + 1) least (bracket (through span c) (tree_of x.part)) (term.Bracket (through span c) x.part) (x.height + 1) _ a us y (of.of-Bracket (through span c) x.part) e
      (record {
        fits = fits;
        levelled = s.levelled;
        high = omega arith;
        low = omega arith;
        spelled = (ts, symbol k.CloseRound c ∷ a, (span, refl, refl), s.spelled, (c, refl, refl));
      })
  round_at span least x y k.Comma c ts a us fits s e = tuple_sound span least c x y ts a us fits s e
  round_at span least x y _ c ts a us fits s e = absurd (cc)

  round_then : (span : Span) (least : ℕ) (x y : Tall Term) (ts a us : List Symbol) → least ≤ atom_level → Sound n quantifier_level x ts a
      → round_by below span x (first a) a ≡ Ok (y, us) → Whole least y (symbol k.OpenRound span ∷ ts) us
  round_then span least x y ts [] us fits s e = absurd (cc)
  round_then span least x y ts (b ∷ a) us fits s e = round_at span least x y b.kind b.span ts a us fits s e

  round_sound : (span : Span) (least : ℕ) (y : Tall Term) (ts us : List Symbol) → least ≤ atom_level → round below span ts ≡ Ok (y, us) → Whole least y (symbol k.OpenRound span ∷ ts) us
  unfolding round
  round_sound span least y ts us fits e =
      let x = bind_ok (below quantifier_level ts) _ (y, us) e in
      round_then span least x.0 y ts x.1 us fits (ok quantifier_level ts x.1 x.0 (omega arith) x.2) x.3

  -- ---- braces

  display_sound : (span : Span) (least : ℕ) (y : Tall Term) (ts us : List Symbol) → least ≤ atom_level → display below span ts ≡ Ok (y, us) → Whole least y (symbol k.OpenBrace span ∷ ts) us
  unfolding display
  display_sound span least y ts us fits e =
      if_cases (is_mark mark.CloseBrace (first ts)) _ _ (y, us) e (λ is e. absurd (cc))
      (λ is e.
      let x = bind_ok (below expression_level ts) _ (y, us) e in
      let s = ok expression_level ts x.1 x.0 (omega arith) x.2 in
      listed_sound n span least list.Display x.0 y _ ts x.1 us (record {
        fits = fits;
        place = s.fits;
        enough = λ vs two. tt;
        from = λ is. absurd (cc);
        opens = λ vs end _. (span, refl, refl);
        low = λ h low e. low s.low;
      })
      (record { fits = omega arith; levelled = s.levelled; high = s.high; low = s.low; spelled = s.spelled }) x.3)

  comprehension_sound : (span : Span) (least : ℕ) (y : Tall Term) (ts us : List Symbol) → least ≤ atom_level → comprehension below span ts ≡ Ok (y, us) → Whole least y (symbol k.OpenBrace span ∷ ts) us
  unfolding comprehension
  comprehension_sound span least y ts us fits e =
      let ds = bind_ok (decls below ts) _ (y, us) e in
      let p = bind_ok (part below mark.Bar quantifier_level ds.1) _ (y, us) ds.3 in
      let q = bind_ok (part below mark.At expression_level p.1) _ (y, us) p.3 in
      let end = bind_ok (expect mark.CloseBrace q.1) _ (y, us) q.3 in
      let s = decls_sound below n ok ds.0 ts ds.1 ds.2 in
      let sp = part_sound below n ok mark.Bar quantifier_level p.0 ds.1 p.1 (omega arith) p.2 in
      let sq = part_sound below n ok mark.At expression_level q.0 p.1 q.1 (omega arith) q.2 in
      made (n + 1) least (shape.comprehension (through span end.0) (decls_of ds.0.part) (part_of p.0.part) (part_of q.0.part))
      (term.Comprehension (through span end.0) ds.0.part p.0.part q.0.part)
      (max (max ds.0.height p.0.height) q.0.height + 1) _ end.1 us y
      (of.of-Comprehension (through span end.0) ds.0.part p.0.part q.0.part) end.3
      (record {
        fits = fits;
        levelled = (s.levelled, sp.levelled, sq.levelled);
        high = omega (arith, s.high, sp.high, sq.high);
        low = omega (arith, s.high, sp.high, sq.high, s.low, sp.low, sq.low);
        spelled = (ts, ds.1, p.1, q.1, (span, refl, refl), s.spelled, sp.spelled, sq.spelled, ends_ok mark.CloseBrace span end.0 q.1 end.1 end.2);
      })

  braced_sound : (span : Span) (least : ℕ) (y : Tall Term) (ts us : List Symbol) → least ≤ atom_level → braced below span ts ≡ Ok (y, us) → Whole least y (symbol k.OpenBrace span ∷ ts) us
  unfolding braced
  braced_sound span least y ts us fits e =
      if_cases (begins_decl true ts) _ _ (y, us) e (λ is e. comprehension_sound span least y ts us fits e) (λ is e. display_sound span least y ts us fits e)

  quantified_sound : (span : Span) (least : ℕ) (q : Quantifier) (y : Tall Term) (ts us : List Symbol) → least ≤ quantifier_level
      → quantified below span q ts ≡ Ok (y, us) → Whole least y (symbol (k.Quantifier q) span ∷ ts) us
  unfolding quantified
  quantified_sound span least q y ts us fits e =
      let ds = bind_ok (decls below ts) _ (y, us) e in
      let p = bind_ok (part below mark.Bar quantifier_level ds.1) _ (y, us) ds.3 in
      let at = bind_ok (expect mark.At p.1) _ (y, us) p.3 in
      let x = bind_ok (below quantifier_level at.1) _ (y, us) at.3 in
      let s = decls_sound below n ok ds.0 ts ds.1 ds.2 in
      let sp = part_sound below n ok mark.Bar quantifier_level p.0 ds.1 p.1 (omega arith) p.2 in
      let sx = ok quantifier_level at.1 x.1 x.0 (omega arith) x.2 in
      let whole = through span (span_of (tree_of x.0.part)) in
      made (n + 1) least (shape.quantified whole q (decls_of ds.0.part) (part_of p.0.part) (tree_of x.0.part))
      (term.Quantified q whole ds.0.part p.0.part x.0.part) (max (max ds.0.height p.0.height) x.0.height + 1) _ x.1 us y
      (of.of-Quantified whole q ds.0.part p.0.part x.0.part) x.3
      (record {
        fits = fits;
        levelled = (s.levelled, sp.levelled, sx.levelled);
        high = omega (arith, s.high, sp.high, sx.high);
        low = omega (arith, s.high, sp.high, sx.high, s.low, sp.low, sx.low);
        spelled = (ts, ds.1, p.1, at.1, (span, refl, refl), s.spelled, sp.spelled, expect_ok mark.At p.1 at.1 at.0 at.2, sx.spelled, refl);
      })

  -- ---- the first symbols

  empty_set_sound : (span : Span) (least : ℕ) (y : Tall Term) (ts us : List Symbol) → least ≤ atom_level → empty_set below span ts ≡ Ok (y, us) → Whole least y (symbol k.EmptySet span ∷ ts) us
  unfolding empty_set
  empty_set_sound span least y ts us fits e =
      let start = bind_ok (expect mark.OpenSquare ts) _ (y, us) e in
      let x = bind_ok (below expression_level start.1) _ (y, us) start.3 in
      let end = bind_ok (expect mark.CloseSquare x.1) _ (y, us) x.3 in
      let s = ok expression_level start.1 x.1 x.0 (omega arith) x.2 in
      made (n + 1) least (shape.empty_set (through span end.0) (tree_of x.0.part)) (term.EmptySet (through span end.0) x.0.part) (x.0.height + 1) _ end.1 us y
      (of.of-EmptySet (through span end.0) x.0.part) end.3
      (record {
        fits = fits;
        levelled = (s.fits, s.levelled);
        high = omega (arith, s.high);
        low = omega (arith, s.high, s.low);
        spelled = (ts, start.1, x.1, (span, refl, refl), expect_ok mark.OpenSquare ts start.1 start.0 start.2, s.spelled, ends_ok mark.CloseSquare span end.0 x.1 end.1 end.2);
      })

  prefixed_sound : (least : ℕ) (span : Span) (op : Unary) (kind : Kind) (ts us : List Symbol) (y : Tall Term) → ((t : Tree) → Before op (through span (span_of t)) t (symbol kind span ∷ ts) ts)
      → ((t : Tree) (a : List Symbol) → After op (through span (span_of t)) t a a)
      → prefixed below least span op (symbol kind span ∷ ts) ≡ Ok (y, us) → Whole least y (symbol kind span ∷ ts) us
  unfolding prefixed
  prefixed_sound least span op kind ts us y before after e =
      let g = if_ok (nat_le least (unary_level op)) _ (y, us) _ e in
      let x = bind_ok (below (unary_level op) ts) _ (y, us) g.1 in
      let s = ok (unary_level op) ts x.1 x.0 (omega (arith, unary_level_le op)) x.2 in
      let whole = through span (span_of (tree_of x.0.part)) in
      made (n + 1) least (shape.unary whole op (tree_of x.0.part)) (term.Unary whole op x.0.part) (x.0.height + 1) _ x.1 us y (of.of-Unary whole op x.0.part) x.3
      (record {
        fits = leb-true least (unary_level op) g.0;
        levelled = (s.fits, s.levelled);
        high = omega (arith, s.high);
        low = omega (arith, s.high, s.low);
        spelled = (
          ts,
          x.1,
          before (tree_of x.0.part),
          s.spelled,
          after (tree_of x.0.part) x.1,
        );
      })

  beginning_at : (least : ℕ) (kind : Kind) (span : Span) (ts us : List Symbol) (y : Tall Term) → least ≤ atom_level
      → beginning_by below least span (next_of kind) (symbol kind span ∷ ts) ≡ Ok (y, us) → Whole least y (symbol kind span ∷ ts) us
  beginning_at least (k.Name b s) span ts us y fits e =
      let name : Name = record { base = b; strokes = s; span = span } in
      made (n + 1) least (named name) (term.Name span (ident_of name)) 1 _ ts us y (of.of-Name span (ident_of name)) e
      (record { fits = fits; levelled = tt; high = refl; low = omega arith; spelled = refl })
  beginning_at least (k.Number v) span ts us y fits e =
      made (n + 1) least (numeral span v) (term.Number span v) 1 _ ts us y (of.of-Number span v) e (record { fits = fits; levelled = tt; high = refl; low = omega arith; spelled = refl })
  beginning_at least (k.Constant c) span ts us y fits e =
      made (n + 1) least (constant span c) (term.Constant span c) 1 _ ts us y (of.of-Constant span c) e (record { fits = fits; levelled = tt; high = refl; low = omega arith; spelled = refl })
  beginning_at least k.EmptySet span ts us y fits e = empty_set_sound span least y ts us fits e
  beginning_at least k.OpenRound span ts us y fits e = round_sound span least y ts us fits e
  beginning_at least k.OpenBrace span ts us y fits e = braced_sound span least y ts us fits e
  beginning_at least (k.Prefix s) span ts us y fits e = prefixed_sound least span (one.Sign (sign.Symbol s)) (k.Prefix s) ts us y (λ t. (span, refl, refl)) (λ t a. (refl, refl)) e
  beginning_at least (k.Infix Minus) span ts us y fits e = prefixed_sound least span (one.Sign sign.Minus) (k.Infix Minus) ts us y (λ t. (span, refl, refl)) (λ t a. (refl, refl)) e
  beginning_at least (k.Infix _) span ts us y fits e = absurd (cc)
  beginning_at least k.Not span ts us y fits e = prefixed_sound least span one.Not k.Not ts us y (λ t. (span, refl, refl)) (λ t a. (refl, refl)) e
  beginning_at least (k.Quantifier q) span ts us y fits e =
      let g = if_ok (nat_le least quantifier_level) _ (y, us) _ e in
      quantified_sound span least q y ts us (leb-true least quantifier_level g.0) g.1
  beginning_at least _ span ts us y fits e = absurd (cc)

  pub beginning_sound : (least : ℕ) (ts us : List Symbol) (y : Tall Term) → least ≤ atom_level → beginning below least ts ≡ Ok (y, us) → Whole least y ts us
  unfolding beginning
  beginning_sound least [] us y fits e = absurd (cc)
  beginning_sound least (s ∷ ts) us y fits e = beginning_at least s.kind s.span ts us y fits e
