-- What begins a term: what a levelled tree spells there is read.
use Rattle.zf_grammar.proofs.Prelude.{last_tree, Span, span_of, through, ◌+◌, ◌∙◌, ◌∷◌, ◌≡◌, ◌≤◌, ap, arith, false, List, Ok, refl, subst, sym, true, ℕ, le-leb, ident_of, Listed, Sign, Unary, Minus, Quantifier, Name, Term, is_mark, next_of, Symbol, symbol, tree_height, trees_height, AreAt, expression_level, IsLevelled, level, member_place, negation_level, quantifier_level, sign_level, unary_level, first, parting, Spells, SpellsFurther, Tall, Kind, Next, Outcome, bracket, constant, named, numeral, part_of, Perhaps, Tree, tree, tree_of, VarDecls, Trees}
use Rattle.zf_scan.specs.declared.next.Mark.TheVariants as mark
use Rattle.zf_tree.specs.declared.symbol.Constant.{Constant}
use Rattle.zf_scan.specs.declared.token.Kind.TheVariants as k
use Rattle.zf_tree.specs.declared.operator.Listed.TheVariants as list
use Rattle.zf_tree.specs.declared.operator.Sign.TheVariants as sign
use Rattle.zf_tree.specs.declared.operator.Unary.TheVariants as one
use Rattle.zf_grammar.specs.Reading as reading
use Rattle.zf_tree.specs.declared.tree.Term.TheVariants as term
use Rattle.zf_grammar.specs.{beginning, begins_decl, binds, braced, comprehension, closed_by, display, empty_set, listed, parted_by, prefixed, quantified, round, tall}
use Rattle.zf_tree.specs.Trees as shape
use Rattle.zf_grammar.proofs.Marks.{ends_next, is_through, kind_of, ok_expect}
use Rattle.zf_grammar.proofs.TermFirsts.{not_closed}
use Rattle.zf_tree.proofs.TermSeen as of
use Rattle.zf_grammar.proofs.TermBegins.{same_parting}
use Rattle.zf_grammar.proofs.TermParts.{decls_of, trees_of}
use Rattle.zf_grammar.proofs.TermPartsRead.{IsRead, Reader, IsComplete, first_is, part_first, from_false, decls_begin, items_do_not, further_stops, all_complete, decls_complete, part_complete}

-- what follows the terms of a list does not go on with them, nor part further ones
pub record Closing (form : Listed) (last end : Span) (ts us : List Symbol) : Type 0 where
  pub closed : closed_by form last ts ≡ Ok (end, us)
  pub none : is_mark (parted_by form) (first ts) ≡ false
  pub stop : binds (first ts) ≤ member_place form

pub parts : (form : Listed) → binds (next_of (kind_of (parted_by form))) ≤ member_place form
parts list.Product = omega arith
parts _ = omega arith

closing_by : (form : Listed) (last end : Span) {kind : Kind} (ts us : List Symbol) → closed_by form last ts ≡ Ok (end, us) → Next kind ts us
    → is_mark (parted_by form) (next_of kind) ≡ false
    → binds (next_of kind) ≤ member_place form → Closing form last end ts us
closing_by form last end ts us closed h none stop =
    record {
      closed = closed;
      none = first_is (λ x. is_mark (parted_by form) x ≡ false) ts us h none;
      stop = first_is
          (λ x. binds x ≤ member_place form) ts us h stop;
    }

module _ (below : Reader) (n : ℕ) (ok : IsComplete n below) where
  pub moved : (o p : Outcome (Tall Term)) (t : Tree) (us : List Symbol) → o ≡ p → IsRead p t us → IsRead o t us
  moved o p t us e r = record { term = r.term; is = r.is; read = e ∙ r.read }

  pub name_begins : (least : ℕ) (m : Name) (ts us : List Symbol) → Spells (named m) ts us → IsRead (beginning below least ts) (named m) us
  unfolding beginning
  name_begins least m ts us h = record { term = term.Name m.span (ident_of m); is = of.of-Name m.span (ident_of m); read = ap (beginning below least) h }

  pub numeral_begins : (least : ℕ) (l : Span) (v : ℕ) (ts us : List Symbol) → Spells (numeral l v) ts us → IsRead (beginning below least ts) (numeral l v) us
  unfolding beginning
  numeral_begins least l v ts us h = record { term = term.Number l v; is = of.of-Number l v; read = ap (beginning below least) h }

  pub constant_begins : (least : ℕ) (l : Span) (c : Constant) (ts us : List Symbol) → Spells (constant l c) ts us → IsRead (beginning below least ts) (constant l c) us
  unfolding beginning
  constant_begins least l c ts us h = record { term = term.Constant l c; is = of.of-Constant l c; read = ap (beginning below least) h }

  pub empty_set_begins : (least : ℕ) (l : Span) (t : Tree) (ts us : List Symbol) → IsLevelled (shape.empty_set l t) → tree_height (shape.empty_set l t) ≤ n + 1
      → Spells (shape.empty_set l t) ts us → IsRead (beginning below least ts) (shape.empty_set l t) us
  unfolding beginning empty_set
  empty_set_begins least l t ts us lev low h =
      let x = ok expression_level t h.1 h.2 lev.0 lev.1 (omega arith) h.5 (first_is (λ x. binds x ≤ expression_level) h.2 us (ends_next h.6) (omega arith)) in
      record {
        term = term.EmptySet (through h.3.0 h.6.0) x.term;
        is = of.of-EmptySet (through h.3.0 h.6.0) x.term ∙ ap (λ l. shape.empty_set l (tree_of x.term)) (is_through l h.3.0 h.6.0 h.3.2 h.6.2)
            ∙ ap (shape.empty_set l) x.is;
        read = ap (beginning below least) h.3.1
            ∙ rw (ok_expect mark.OpenSquare h.0 h.1 h.4, x.read, ok_expect mark.CloseSquare h.2 us (ends_next h.6)) refl;
      }

  pub bracket_begins : (least : ℕ) (l : Span) (t : Tree) (ts us : List Symbol) → IsLevelled t → tree_height t ≤ n → Spells (bracket l t) ts us → IsRead (beginning below least ts) (bracket l t) us
  unfolding beginning round
  bracket_begins least l t ts us lev low h =
      let x = ok quantifier_level t h.0 (symbol k.CloseRound h.4.0 ∷ us) (omega arith) lev low (subst (Spells t h.0) h.4.1 h.3) (omega arith) in
      record {
        term = term.Bracket (through h.2.0 h.4.0) x.term;
        is = of.of-Bracket (through h.2.0 h.4.0) x.term ∙ ap (λ l. bracket l (tree_of x.term)) (is_through l h.2.0 h.4.0 h.2.2 h.4.2) ∙ ap (bracket l) x.is;
        read = ap (beginning below least) h.2.1 ∙ rw x.read refl;
      }

  pub listed_complete : (form : Listed) (begin end l : Span) (x : Term) (t : Tree) (vs : Trees) (a b us : List Symbol) → through begin end ≡ l → tree_of x ≡ t
      → AreAt (member_place form) vs → trees_height vs ≤ n → SpellsFurther (parting form) vs a b → Closing form (last_tree begin (tree t vs)) end b us
      → IsRead (listed below begin form (tall x (tree_height t)) a) (shape.listed l form (tree t vs)) us
  unfolding listed
  listed_complete form begin end l x t vs a b us span is lev low h closing =
      let more = subst (λ kind. SpellsFurther kind vs a b) (sym (same_parting form)) h in
      let all = all_complete below n ok (parted_by form) (member_place form) (parts form) x t vs a b is lev low closing.none closing.stop more in
      let closed : closed_by form (last_tree begin (trees_of all.all)) b ≡ Ok (end, us) = ap (λ vs. closed_by form (last_tree begin vs) b) all.are ∙ closing.closed in
      record {
        term = term.Listed (through begin end) form all.all;
        is = of.of-Listed (through begin end) form all.all ∙ ap (λ l. shape.listed l form (trees_of all.all)) span ∙ ap (shape.listed l form) all.are;
        read = rw (all.read, closed) refl;
      }

  pub tuple_begins : (least : ℕ) (l : Span) (t u : Tree) (vs : Trees) (ts us : List Symbol) → AreAt expression_level (tree t (tree u vs))
      → trees_height (tree t (tree u vs)) ≤ n → Spells (shape.listed l list.Tuple (tree t (tree u vs))) ts us
      → IsRead (beginning below least ts) (shape.listed l list.Tuple (tree t (tree u vs))) us
  unfolding beginning round
  tuple_begins least l t u vs ts us lev low h =
      let (a, b, starts, (c, s, (d, e, comma, s_u, further_u)), close) = h in
      let at : List Symbol = symbol k.Comma comma.0 ∷ d in
      let x = ok quantifier_level t a at (omega arith) lev.1 (omega arith) (subst (Spells t a) comma.1 s) (omega arith) in
      let fits : expression_level ≤ level (tree_of x.term) = omega (arith, ap level x.is, lev.0) in
      moved _ _ _ us (ap (beginning below least) starts.1 ∙ rw (x.read, le-leb expression_level (level (tree_of x.term)) fits) refl)
      (listed_complete list.Tuple starts.0 close.0 l x.term t (tree u vs) at b us (is_through l starts.0 close.0 starts.2 close.2) x.is lev.2 (omega arith)
      (d, e, (comma.0, refl), s_u, further_u)
      (closing_by list.Tuple _ close.0 b us (ok_expect mark.CloseRound b us (ends_next close)) (ends_next close) refl (omega arith)))

  pub display_begins : (least : ℕ) (l : Span) (t : Tree) (vs : Trees) (ts us : List Symbol) → AreAt expression_level (tree t vs) → trees_height (tree t vs) ≤ n
      → Spells (shape.listed l list.Display (tree t vs)) ts us
      → IsRead (beginning below least ts) (shape.listed l list.Display (tree t vs)) us
  unfolding beginning braced display
  display_begins least l t vs ts us lev low h =
      let (a, b, starts, (c, s, more), close) = h in
      let end = closing_by list.Display (last_tree starts.0 (tree t vs)) close.0 b us (ok_expect mark.CloseBrace b us (ends_next close)) (ends_next close) refl
      (omega arith) in
      let x = ok expression_level t a c lev.0 lev.1 (omega arith) s (further_stops below n ok mark.Comma expression_level (parts list.Display) vs c b end.stop more) in
      let is : begins_decl true a ≡ false = from_false (begins_decl true a) (items_do_not t vs a c b us lev.1 lev.2 s more (ends_next close)) in
      moved _ _ _ us (ap (beginning below least) starts.1 ∙ rw (is, not_closed t a c s, x.read) refl)
      (listed_complete list.Display starts.0 close.0 l x.term t vs c b us (is_through l starts.0 close.0 starts.2 close.2) x.is lev.2 (omega arith) more end)

  pub comprehension_begins : (least : ℕ) (l : Span) (ds : VarDecls) (p t : Perhaps) (ts us : List Symbol) → IsLevelled (shape.comprehension l ds p t)
      → tree_height (shape.comprehension l ds p t) ≤ n + 1 → Spells (shape.comprehension l ds p t) ts us
      → IsRead (beginning below least ts) (shape.comprehension l ds p t) us
  unfolding beginning braced comprehension
  comprehension_begins least l ds p t ts us lev low h =
      let (a, b, c, d, starts, decls_h, p_h, t_h, ends) = h in
      let close = ends_next ends in
      let no_at = first_is (λ x. is_mark mark.At x ≡ false) d us close refl in
      let stop_d = first_is (λ x. binds x ≤ expression_level) d us close (omega arith) in
      let no_bar = part_first k.At (λ x. is_mark mark.Bar x ≡ false) t c d t_h refl (first_is (λ x. is_mark mark.Bar x ≡ false) d us close refl) in
      let stop_c = part_first k.At (λ x. binds x ≤ quantifier_level) t c d t_h (omega arith) (first_is (λ x. binds x ≤ quantifier_level) d us close (omega arith)) in
      let no_sep = part_first k.Bar (λ x. is_mark mark.Separator x ≡ false) p b c p_h refl
      (part_first k.At (λ x. is_mark mark.Separator x ≡ false) t c d t_h refl (first_is (λ x. is_mark mark.Separator x ≡ false) d us close refl)) in
      let stop_b = part_first k.Bar (λ x. binds x ≤ expression_level) p b c p_h (omega arith) (part_first k.At (λ x. binds x ≤ expression_level) t c d t_h (omega arith) stop_d) in
      let xs = decls_complete below n ok ds a b lev.0 (omega arith) no_sep stop_b decls_h in
      let q = part_complete below n ok mark.Bar quantifier_level p b c lev.1 (omega arith) no_bar stop_c p_h in
      let r = part_complete below n ok mark.At expression_level t c d lev.2 (omega arith) no_at stop_d t_h in
      let are = xs.are in
      let is_p = q.is in
      let is_t = r.is in
      let span = through starts.0 ends.0 in
      let span_is = is_through l starts.0 ends.0 starts.2 ends.2 in
      let same : shape.comprehension span (decls_of xs.all) (part_of q.term) (part_of r.term) ≡ shape.comprehension l ds p t = cc in
      record {
        term = term.Comprehension span xs.all q.term r.term;
        is = of.of-Comprehension span xs.all q.term r.term ∙ same;
        read = ap (beginning below least) starts.1 ∙ rw (decls_begin ds a b decls_h, xs.read, q.read, r.read, ok_expect mark.CloseBrace d us close) refl;
      }

  pub quantified_begins : (least : ℕ) (l : Span) (w : Quantifier) (ds : VarDecls) (p : Perhaps) (t : Tree) (ts us : List Symbol) → least ≤ quantifier_level
      → IsLevelled (shape.quantified l w ds p t) → tree_height (shape.quantified l w ds p t) ≤ n + 1
      → Spells (shape.quantified l w ds p t) ts us → binds (first us) ≤ quantifier_level → IsRead (beginning below least ts) (shape.quantified l w ds p t) us
  unfolding beginning quantified
  quantified_begins least l w ds p t ts us fits lev low h stop =
      let (a, b, c, d, starts, decls_h, p_h, at, t_h, ends) = h in
      let no_bar = first_is (λ x. is_mark mark.Bar x ≡ false) c d at refl in
      let stop_c = first_is (λ x. binds x ≤ quantifier_level) c d at (omega arith) in
      let no_sep = part_first k.Bar (λ x. is_mark mark.Separator x ≡ false) p b c p_h refl (first_is (λ x. is_mark mark.Separator x ≡ false) c d at refl) in
      let stop_b = part_first k.Bar (λ x. binds x ≤ expression_level) p b c p_h (omega arith) (first_is (λ x. binds x ≤ expression_level) c d at (omega arith)) in
      let xs = decls_complete below n ok ds a b lev.0 (omega arith) no_sep stop_b decls_h in
      let q = part_complete below n ok mark.Bar quantifier_level p b c lev.1 (omega arith) no_bar stop_c p_h in
      let x = ok quantifier_level t d us (omega arith) lev.2 (omega arith) t_h stop in
      let are = xs.are in
      let is_p = q.is in
      let is_t = x.is in
      let span = through starts.0 (span_of (tree_of x.term)) in
      let span_is = is_through l starts.0 (span_of (tree_of x.term)) starts.2 (ends ∙ sym (ap (λ t. (span_of t).stop) x.is)) in
      let same : shape.quantified span w (decls_of xs.all) (part_of q.term) (tree_of x.term) ≡ shape.quantified l w ds p t = cc in
      record {
        term = term.Quantified w span xs.all q.term x.term;
        is = of.of-Quantified span w xs.all q.term x.term ∙ same;
        read = ap (beginning below least) starts.1 ∙ rw (le-leb least quantifier_level fits, xs.read, q.read, ok_expect mark.At c d at, x.read) refl;
      }

  prefixed_complete : (op : Unary) (least : ℕ) (begin l : Span) (t : Tree) (ts a us : List Symbol) → l.start ≡ begin.start → l.stop ≡ (span_of t).stop
      → least ≤ unary_level op → IsLevelled (shape.unary l op t) → tree_height t ≤ n → reading.rest ts ≡ a → Spells t a us → binds (first us) ≤ unary_level op
      → IsRead (prefixed below least begin op ts) (shape.unary l op t) us
  unfolding prefixed
  prefixed_complete op least begin l t ts a us begins ends fits lev low is h stop =
      let x = ok (unary_level op) t a us lev.0 lev.1 low h stop in
      let span = through begin (span_of (tree_of x.term)) in
      let span_is = is_through l begin (span_of (tree_of x.term)) begins (ends ∙ sym (ap (λ t. (span_of t).stop) x.is)) in
      record {
        term = term.Unary span op x.term;
        is = of.of-Unary span op x.term ∙ ap (λ l. shape.unary l op (tree_of x.term)) span_is ∙ ap (shape.unary l op) x.is;
        read = rw (le-leb least (unary_level op) fits, is, x.read) refl;
      }

  pub sign_begins : (s : Sign) (least : ℕ) (l : Span) (t : Tree) (ts us : List Symbol) → least ≤ sign_level s → IsLevelled (shape.unary l (one.Sign s) t)
      → tree_height t ≤ n → Spells (shape.unary l (one.Sign s) t) ts us → binds (first us) ≤ sign_level s
      → IsRead (beginning below least ts) (shape.unary l (one.Sign s) t) us
  unfolding beginning
  sign_begins sign.Minus least l t ts us fits lev low h stop =
      moved _ _ _ us (ap (beginning below least) h.2.1)
      (prefixed_complete (one.Sign sign.Minus) least h.2.0 l t (symbol (k.Infix Minus) h.2.0 ∷ h.0) h.0 us h.2.2 h.4.0 fits lev low refl
      (subst (Spells t h.0) h.4.1 h.3) stop)
  sign_begins (sign.Symbol s) least l t ts us fits lev low h stop =
      moved _ _ _ us (ap (beginning below least) h.2.1)
      (prefixed_complete (one.Sign (sign.Symbol s)) least h.2.0 l t (symbol (k.Prefix s) h.2.0 ∷ h.0) h.0 us h.2.2 h.4.0 fits lev low refl
      (subst (Spells t h.0) h.4.1 h.3) stop)

  pub not_begins : (least : ℕ) (l : Span) (t : Tree) (ts us : List Symbol) → least ≤ negation_level → IsLevelled (shape.unary l one.Not t) → tree_height t ≤ n
      → Spells (shape.unary l one.Not t) ts us → binds (first us) ≤ negation_level
      → IsRead (beginning below least ts) (shape.unary l one.Not t) us
  unfolding beginning
  not_begins least l t ts us fits lev low h stop =
      moved _ _ _ us (ap (beginning below least) h.2.1)
      (prefixed_complete one.Not least h.2.0 l t (symbol k.Not h.2.0 ∷ h.0) h.0 us h.2.2 h.4.0 fits lev low refl (subst (Spells t h.0) h.4.1 h.3) stop)
