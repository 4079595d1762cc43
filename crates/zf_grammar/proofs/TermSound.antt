-- What is read is a levelled tree of the stated height that spells the symbols.
use Rattle.zf_grammar.proofs.Prelude.{◌+◌, ◌<◌, ◌∙◌, ◌∷◌, ◌≡◌, ◌≤◌, [], ap, arith, length, List, max, Ok, refl, subst, suc, sym, zero, ℕ, leb-false, leb-true, nat_le, chain, new_link, over_links, Span, span_of, through, Tree, link_of, tree_of, Operator, Relation, Link, Term, next_of, Symbol, symbol, Kind, links_height, atom_level, chain_level, expression_level, left_place, level, LinksAreLevelled, operator_level, postfix_level, product_level, quantifier_level, right_place, first, Behind, Between, SpellsLinks, Tall, Outcome}
use Rattle.zf_scan.specs.declared.next.Mark.TheVariants as mark
use Rattle.zf_scan.specs.declared.token.Kind.TheVariants as k
use Rattle.zf_tree.specs.declared.operator.Listed.TheVariants as list
use Rattle.zf_tree.specs.declared.operator.Operator.TheVariants as operator
use Rattle.zf_tree.specs.declared.operator.Unary.TheVariants as one
use Rattle.zf_tree.specs.declared.tree.Term.TheVariants as term
use Rattle.zf_grammar.specs.{beginning, beyond, binary, binds, chain_links, chained, climb, ended_by, links_from, listed, longer_by, over, over_both, place_before, read_term, role_of, tall, whole, with_item}
use Rattle.zf_tree.specs.Trees as shape
use Rattle.zf_tree.proofs.TermSeen as of
use Rattle.zf_grammar.proofs.Marks.{ends_ok}
use Rattle.zf_grammar.proofs.TermSteps.{ok_pair, ok_value, ok_rest, bind_ok, if_ok, if_cases}
use Rattle.zf_grammar.proofs.TermBegins.{listed_sound, beginning_sound}
use Rattle.zf_grammar.proofs.TermParts.{links_of, Sound, IsLink, Reader, IsSound, made, link_first, links_sound, one_link}
use Rattle.zf_grammar.proofs.TermTables.{stands}

ended_ok : (op : Operator) (begin end : Span) (t : Tree) (ts us : List Symbol) → ended_by op (span_of t) ts ≡ Ok (end, us)
    → Behind op (through begin end) t ts us
ended_ok operator.Image begin end t ts us e = ends_ok mark.CloseImage begin end ts us e
ended_ok _ begin end t ts us e = (ap (λ s. s.stop) (sym (ok_value (span_of t) end ts us e)), ok_rest (span_of t) end ts us e)

module _ (below : Reader) (n : ℕ) (ok : IsSound n below) where
  abbrev Whole : ℕ → Tall Term → List Symbol → List Symbol → Type 0
  Whole least x ts us = Sound (n + 1) least x ts us

  -- what goes on with a term, which spells the symbols from `ts` to `a`

  binary_sound : (least : ℕ) (op : Operator) (x z : Tall Term) (ts a b us : List Symbol) → least < operator_level op + 1
      → left_place op ≤ level (tree_of x.part) → Sound (n + 1) quantifier_level x ts a → Between op a b → beyond op a ≡ b
      → binary below op x a ≡ Ok (z, us) → z.height ≤ n + 1 → Whole least z ts us
  unfolding binary
  binary_sound least op x z ts a b us fits left sx between is e low =
      let y = bind_ok (below (right_place op) (beyond op a)) _ (z, us) e in
      let end = bind_ok (ended_by op (span_of (tree_of y.0.part)) y.1) _ (z, us) y.3 in
      let l = through (span_of (tree_of x.part)) end.0 in
      let sy = subst (λ a. Sound n (right_place op) y.0 a y.1) is (ok (right_place op) (beyond op a) y.1 y.0 (omega (arith, (stands op).right)) y.2) in
      let high_z : max x.height y.0.height + 1 ≡ z.height = ap (λ z. z.height) (ok_value (over_both (term.Binary l op) x y.0) z end.1 us end.3) in
      made (n + 1) least (shape.binary l op (tree_of x.part) (tree_of y.0.part)) (term.Binary l op x.part y.0.part) (max x.height y.0.height + 1) ts end.1 us z
      (of.of-Binary l op x.part y.0.part) end.3
      (record {
        fits = omega arith;
        levelled = (left, sx.levelled, sy.fits, sy.levelled);
        high = omega (arith, sx.high, sy.high);
        low = omega (arith, sx.high, sy.high);
        spelled = (a, b, y.1, refl, sx.spelled, between, sy.spelled, ended_ok op (span_of (tree_of x.part)) end.0 (tree_of y.0.part) y.1 end.1 end.2);
      })

  inverse_sound : (least : ℕ) (o : Span) (x z : Tall Term) (ts a us : List Symbol) → least < postfix_level + 1 → postfix_level ≤ level (tree_of x.part)
      → Sound (n + 1) quantifier_level x ts (symbol k.Inverse o ∷ a)
      → ◌≡◌ {A = Outcome (Tall Term)} (Ok (over (term.Unary (through (span_of (tree_of x.part)) o) one.Inverse) x, a)) (Ok (z, us)) → z.height ≤ n + 1 → Whole least z ts us
  inverse_sound least o x z ts a us fits left sx e low =
      let l = through (span_of (tree_of x.part)) o in
      let high_z : x.height + 1 ≡ z.height = ap (λ z. z.height) (ok_value _ z a us e) in
      made (n + 1) least (shape.unary l one.Inverse (tree_of x.part)) (term.Unary l one.Inverse x.part) (x.height + 1) ts a us z (of.of-Unary l one.Inverse x.part) e
      (record {
        fits = omega arith;
        levelled = (left, sx.levelled);
        high = omega (arith, sx.high);
        low = omega (arith, sx.high);
        spelled =
            (ts, symbol k.Inverse o ∷ a, (refl, refl), sx.spelled, (o, refl, refl));
      })

  product_sound : (least : ℕ) (o : Span) (x z : Tall Term) (ts a us : List Symbol) → least < product_level + 1 → product_level + 1 ≤ level (tree_of x.part)
      → Sound (n + 1) quantifier_level x ts (symbol k.Cross o ∷ a)
      → listed below (span_of (tree_of x.part)) list.Product x (symbol k.Cross o ∷ a) ≡ Ok (z, us) → z.height ≤ n + 1 → Whole least z ts us
  product_sound least o x z ts a us fits left sx e low =
      listed_sound below n ok (n + 1) (span_of (tree_of x.part)) least list.Product x z ts ts (symbol k.Cross o ∷ a) us
      (record { fits = omega arith; place = left; enough = λ vs two. two refl (omega arith); from = λ _. refl; opens = λ vs end over. (over refl, refl); low = λ h _ e. omega arith }) sx e

  -- the links of a chain, the first of which is there
  record SomeLinks (ks : Tall (List Link)) (ts us : List Symbol) : Type 0 where
    levelled : LinksAreLevelled (links_of ks.part)
    high : ks.height ≡ links_height (links_of ks.part)
    spelled : SpellsLinks (links_of ks.part) ts us

  some_links : (r : Relation) (o : Span) (ks : Tall (List Link)) (a us : List Symbol) → chain_links below (symbol (k.Relation r) o ∷ a) ≡ Ok (ks, us) → SomeLinks ks (symbol (k.Relation r) o ∷ a) us
  unfolding chain_links links_from
  some_links r o ks a us e =
      let x = bind_ok (below expression_level a) _ (ks, us) e in
      let one = subst (λ p. IsLink n p x.0.height (symbol (k.Relation r) o ∷ a) x.1) (sym (of.of-link r x.0.part)) (one_link below n ok r o a x.1 x.0 x.2) in
      let more = links_sound below n ok (length a) (with_item (tall [] 0) (tall (new_link r x.0.part) x.0.height)) ks x.1 us x.3 in
      let is : ks.part ≡ new_link r x.0.part ∷ more.more = more.items in
      let high_ks : ks.height ≡ links_height (links_of (new_link r x.0.part ∷ more.more)) = omega (arith, one.high, more.high) in
      let spelled = link_first (link_of (new_link r x.0.part)) (links_of more.more) _ one.spelled.0 x.1 us one.spelled.1 one.spelled.2 more.spelled in
      record {
        levelled = subst (λ xs. LinksAreLevelled (links_of xs)) (sym is) (one.fits, one.levelled, more.levelled);
        high = high_ks ∙ ap (λ xs. links_height (links_of xs)) (sym is);
        spelled = subst (λ xs. SpellsLinks (links_of xs) (symbol (k.Relation r) o ∷ a) us) (sym is) spelled;
      }

  chained_sound : (least : ℕ) (r : Relation) (o : Span) (x z : Tall Term) (ts a us : List Symbol) → least < chain_level + 1
      → expression_level ≤ level (tree_of x.part) → Sound (n + 1) quantifier_level x ts (symbol (k.Relation r) o ∷ a)
      → chained below x (symbol (k.Relation r) o ∷ a) ≡ Ok (z, us) → z.height ≤ n + 1 → Whole least z ts us
  unfolding chained
  chained_sound least r o x z ts a us fits left sx e low =
      let ks = bind_ok (chain_links below (symbol (k.Relation r) o ∷ a)) _ (z, us) e in
      let l = over_links (tree_of x.part) (links_of ks.0.part) in
      let s = some_links r o ks.0 a ks.1 ks.2 in
      let high_z : max x.height ks.0.height + 1 ≡ z.height = ap (λ z. z.height) (ok_value _ z ks.1 us ks.3) in
      made (n + 1) least (chain l (tree_of x.part) (links_of ks.0.part)) (term.Chain l x.part ks.0.part) (max x.height ks.0.height + 1) ts ks.1 us z (of.of-Chain l x.part ks.0.part) ks.3
      (record {
        fits = omega arith;
        levelled = (left, sx.levelled, s.levelled);
        high = omega (arith, sx.high, s.high);
        low = omega
            (arith, sx.high, s.high);
        spelled = (symbol (k.Relation r) o ∷ a, refl, sx.spelled, s.spelled);
      })

  longer_at : (least : ℕ) (x z : Tall Term) (kind : Kind) (o : Span) (ts a us : List Symbol) → least < binds (next_of kind)
      → place_before (role_of (next_of kind)) ≤ level (tree_of x.part) → Sound (n + 1) quantifier_level x ts (symbol kind o ∷ a)
      → longer_by below x (role_of (next_of kind)) (symbol kind o ∷ a) ≡ Ok (z, us) → z.height ≤ n + 1 → Whole least z ts us
  longer_at least x z (k.Infix op) o ts a us fits left sx e low = binary_sound least (operator.Function op) x z ts _ a us fits left sx (o, refl) refl e low
  longer_at least x z (k.Arrow op) o ts a us fits left sx e low = binary_sound least (operator.Generic op) x z ts _ a us fits left sx (o, refl) refl e low
  longer_at least x z (k.Connective c) o ts a us fits left sx e low = binary_sound least (operator.Connective c) x z ts _ a us fits left sx (o, refl) refl e low
  longer_at least x z k.OpenImage o ts a us fits left sx e low = binary_sound least operator.Image x z ts _ a us fits left sx (o, refl) refl e low
  longer_at least x z (k.Name b s) o ts a us fits left sx e low = binary_sound least operator.Application x z ts _ _ us fits left sx refl refl e low
  longer_at least x z (k.Number v) o ts a us fits left sx e low = binary_sound least operator.Application x z ts _ _ us fits left sx refl refl e low
  longer_at least x z (k.Constant c) o ts a us fits left sx e low = binary_sound least operator.Application x z ts _ _ us fits left sx refl refl e low
  longer_at least x z k.EmptySet o ts a us fits left sx e low = binary_sound least operator.Application x z ts _ _ us fits left sx refl refl e low
  longer_at least x z k.OpenRound o ts a us fits left sx e low = binary_sound least operator.Application x z ts _ _ us fits left sx refl refl e low
  longer_at least x z k.OpenBrace o ts a us fits left sx e low = binary_sound least operator.Application x z ts _ _ us fits left sx refl refl e low
  longer_at least x z (k.Relation r) o ts a us fits left sx e low = chained_sound least r o x z ts a us fits left sx e low
  longer_at least x z k.Cross o ts a us fits left sx e low = product_sound least o x z ts a us fits left sx e low
  longer_at least x z k.Inverse o ts a us fits left sx e low = inverse_sound least o x z ts a us fits left sx e low
  longer_at least x z _ o ts a us fits left sx e low = absurd (omega arith)

  longer_sound : (least : ℕ) (x z : Tall Term) (ts a us : List Symbol) → least < binds (first a) → place_before (role_of (first a)) ≤ level (tree_of x.part)
      → Sound (n + 1) quantifier_level x ts a → longer_by below x (role_of (first a)) a ≡ Ok (z, us) → z.height ≤ n + 1 → Whole least z ts us
  longer_sound least x z ts [] us fits left sx e low = absurd (omega arith)
  longer_sound least x z ts (s ∷ a) us fits left sx e low = longer_at least x z s.kind s.span ts a us fits left sx e low

  anywhere : (highest least : ℕ) (x : Tall Term) (ts us : List Symbol) → Sound highest least x ts us → Sound highest quantifier_level x ts us
  anywhere highest least x ts us s = record { fits = omega arith; levelled = s.levelled; high = s.high; low = s.low; spelled = s.spelled }

  climb_sound : (j least : ℕ) (x z : Tall Term) (ts a us : List Symbol) → Whole least x ts a → climb below (n + 1) least j x a ≡ Ok (z, us) → Whole least z ts us
  unfolding climb
  climb_sound zero least x z ts a us sx e = absurd (cc)
  climb_sound (suc j) least x z ts a us sx e =
      if_cases (nat_le (binds (first a)) least) _ _ (z, us) e
      (λ stop e. subst (λ p. Sound (n + 1) least p.0 ts p.1) (ok_pair (x, a) (z, us) e) sx)
      (λ go e.
      let g = if_ok (nat_le (place_before (role_of (first a))) (level (tree_of x.part))) _ (z, us) _ e in
      let y = bind_ok (longer_by below x (role_of (first a)) a) _ (z, us) g.1 in
      let low = if_ok (nat_le y.0.height (n + 1)) (climb below (n + 1) least j y.0 y.1) (z, us) _ y.3 in
      climb_sound j least y.0 z ts y.1 us
      (longer_sound least x y.0 ts a y.1 (leb-false _ _ go) (leb-true _ _ g.0) (anywhere (n + 1) least x ts a sx) y.2 (leb-true _ _ low.0))
      low.1)

  whole_sound : (least : ℕ) (ts us : List Symbol) (y : Tall Term) → least ≤ atom_level → whole below (n + 1) least ts ≡ Ok (y, us) → Whole least y ts us
  unfolding whole
  whole_sound least ts us y fits e =
      let x = bind_ok (beginning below least ts) _ (y, us) e in
      climb_sound (n + 1) least x.0 y ts x.1 us (beginning_sound below n ok least ts x.1 x.0 fits x.2) x.3

-- what is read at a place is a levelled tree of that level or a tighter one, of the stated height, that spells the symbols
pub term_sound : (n : ℕ) → IsSound n (read_term n)
unfolding read_term
term_sound zero least ts us x fits e = absurd (cc)
term_sound (suc n) least ts us x fits e =
    let s = whole_sound (read_term n) n (term_sound n) least ts us x fits e in
    record { fits = s.fits; levelled = s.levelled; high = s.high; low = omega (arith, s.low); spelled = s.spelled }
