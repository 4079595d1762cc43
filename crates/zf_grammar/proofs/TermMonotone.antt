-- With more height allowed, an outcome other than TooDeep stays.
use Rattle.zf_grammar.proofs.Prelude.{◌+◌, ◌∙◌, ◌∷◌, ◌≡◌, ◌≤◌, [], ap, arith, Bool, Err, false, inl, inr, length, List, Ok, refl, subst, suc, sym, true, zero, ℕ, ⊎_elim, le-leb, leb-true, if◌then◌else◌, ◌⊎◌, nat_le, tree_of, Listed, Operator, Unary, Minus, new_link, Quantifier, Link, Term, is_mark, Symbol, Mark, expression_level, level, member_place, quantifier_level, right_place, unary_level, first, rest, Role, Tall, Outcome, Parser, and_then, expect, read_decl, Span}
use Rattle.zf_scan.specs.declared.next.Mark.TheVariants as mark
use Rattle.zf_scan.specs.declared.next.Next.{Next}
use Rattle.zf_scan.specs.declared.next.Next.TheVariants as next
use Rattle.zf_grammar.specs.declared.role.Role.TheVariants as role
use Rattle.zf_tree.specs.declared.operator.Listed.TheVariants as list
use Rattle.zf_tree.specs.declared.operator.Sign.TheVariants as sign
use Rattle.zf_tree.specs.declared.operator.Unary.TheVariants as one
use Rattle.zf_grammar.specs.{beginning, beginning_by, begins_decl, beyond, binary, binds, braced, comprehension, chain_links, chained, climb, decls, display, empty_set, further, here, items, items_from, links_by, links_from, listed, longer_by, part, parted_by, place_before, prefixed, quantified, read_names, read_term, Refused, role_of, round, round_by, tall, TooDeep, whole, with_item}

abbrev pub Under : {A : Type 0} → Outcome A → Outcome A → Type 0
Under r s = (r ≡ Err TooDeep) ⊎ (r ≡ s)

same : {A : Type 0} (r : Outcome A) → Under r r
same r = inr refl

and_equal : {A B : Type 0} (r s : Outcome A) (f g : A → Parser B) → r ≡ s → ((a : A) (us : List Symbol) → Under (f a us) (g a us)) → Under (and_then r f) (and_then s g)
and_equal (Ok p) s f g e h = subst (λ s. Under (f p.0 p.1) (and_then s g)) e (h p.0 p.1)
and_equal (Err x) s f g e h = inr (ap (λ s. and_then s g) e)

and_under : {A B : Type 0} (r s : Outcome A) (f g : A → Parser B) → Under r s → ((a : A) (us : List Symbol) → Under (f a us) (g a us)) → Under (and_then r f) (and_then s g)
and_under r s f g u h = ⊎_elim (λ e. inl (ap (λ r. and_then r f) e)) (λ e. and_equal r s f g e h) u

if_under : {A : Type 0} (b : Bool) (p q r s : Outcome A) → Under p q → Under r s → Under (if b then p else r) (if b then q else s)
if_under true p q r s x y = x
if_under false p q r s x y = y

module _ {A : Type 0} (m : Mark) (item more : Parser (Tall A)) (up : (ts : List Symbol) → Under (item ts) (more ts)) where
  items_from_under : (j : ℕ) (xs : Tall (List A)) (ts : List Symbol) → Under (items_from m item j xs ts) (items_from m more j xs ts)
  unfolding items_from
  items_from_under zero xs ts = same _
  items_from_under (suc j) xs ts =
      if_under (is_mark m (first ts)) _ _ _ _ (and_under _ _ _ _ (up (rest ts)) (λ x us. items_from_under j (with_item xs x) us)) (same _)

abbrev Reader : Type 0
Reader = ℕ → Parser (Tall Term)

abbrev pub IsUnder : Reader → Reader → Type 0
IsUnder below above = (least : ℕ) (ts : List Symbol) → Under (below least ts) (above least ts)

module _ (below above : Reader) (up : IsUnder below above) where
  further_under : (m : Mark) (place : ℕ) (x : Tall Term) (ts : List Symbol) → Under (further below m place x ts) (further above m place x ts)
  unfolding further
  further_under m place x ts = items_from_under m (below place) (above place) (up place) (length ts) (tall (x.part ∷ []) x.height) ts

  links_at : (j : ℕ) → ((xs : Tall (List Link)) (ts : List Symbol) → Under (links_from below j xs ts) (links_from above j xs ts)) → (xs : Tall (List Link)) (after : Next) (ts : List Symbol)
      → Under (links_by below (links_from below j) xs after ts) (links_by above (links_from above j) xs after ts)
  links_at j again xs (next.Relation r) ts = and_under _ _ _ _ (up expression_level _) (λ x us. again (with_item xs (tall (new_link r x.part) x.height)) us)
  links_at j again xs _ ts = same _

  links_under : (j : ℕ) (xs : Tall (List Link)) (ts : List Symbol) → Under (links_from below j xs ts) (links_from above j xs ts)
  unfolding links_from
  links_under zero xs ts = same _
  links_under (suc j) xs ts = links_at j (links_under j) xs (first ts) ts

  decl_under : (ts : List Symbol) → Under (read_decl below ts) (read_decl above ts)
  unfolding read_decl
  decl_under ts =
      and_under _ _ _ _ (same (read_names ts)) (λ ns us. and_under _ _ _ _ (same (expect mark.Colon us)) (λ _ vs. and_under _ _ _ _ (up expression_level vs) (λ x ws. same _)))

  decls_under : (ts : List Symbol) → Under (decls below ts) (decls above ts)
  unfolding items
  decls_under ts =
      and_under _ _ _ _ (decl_under ts) (λ x us. items_from_under mark.Separator (read_decl below) (read_decl above) decl_under (length us) (tall (x.part ∷ []) x.height) us)

  part_under : (m : Mark) (place : ℕ) (ts : List Symbol) → Under (part below m place ts) (part above m place ts)
  unfolding part
  part_under m place ts = if_under (is_mark m (first ts)) _ _ _ _ (and_under _ _ _ _ (up place (rest ts)) (λ x us. same _)) (same _)

  listed_under : (span : Span) (form : Listed) (x : Tall Term) (ts : List Symbol) → Under (listed below span form x ts) (listed above span form x ts)
  unfolding listed
  listed_under span form x ts = and_under _ _ _ _ (further_under (parted_by form) (member_place form) x ts) (λ all us. same _)

  empty_set_under : (span : Span) (ts : List Symbol) → Under (empty_set below span ts) (empty_set above span ts)
  unfolding empty_set
  empty_set_under span ts = and_under _ _ _ _ (same (expect mark.OpenSquare ts)) (λ _ us. and_under _ _ _ _ (up expression_level us) (λ x vs. same _))

  round_at : (span : Span) (x : Tall Term) (after : Next) (ts : List Symbol) → Under (round_by below span x after ts) (round_by above span x after ts)
  round_at span x next.Comma ts = if_under (nat_le expression_level (level (tree_of x.part))) _ _ _ _ (listed_under span list.Tuple x ts) (same _)
  round_at span x _ ts = same _

  round_under : (span : Span) (ts : List Symbol) → Under (round below span ts) (round above span ts)
  unfolding round
  round_under span ts = and_under _ _ _ _ (up quantifier_level ts) (λ x us. round_at span x (first us) us)

  display_under : (span : Span) (ts : List Symbol) → Under (display below span ts) (display above span ts)
  unfolding display
  display_under span ts =
      if_under (is_mark mark.CloseBrace (first ts)) _ _ _ _ (same _)
      (and_under _ _ _ _ (up expression_level ts) (λ x us. listed_under span list.Display x us))

  comprehension_under : (span : Span) (ts : List Symbol) → Under (comprehension below span ts) (comprehension above span ts)
  unfolding comprehension
  comprehension_under span ts =
      and_under _ _ _ _ (decls_under ts) (λ ds us. and_under _ _ _ _ (part_under mark.Bar quantifier_level us) (λ p vs. and_under _ _ _ _ (part_under mark.At expression_level vs) (λ q ws. same _)))

  braced_under : (span : Span) (ts : List Symbol) → Under (braced below span ts) (braced above span ts)
  unfolding braced
  braced_under span ts = if_under (begins_decl true ts) _ _ _ _ (comprehension_under span ts) (display_under span ts)

  prefixed_under : (least : ℕ) (span : Span) (op : Unary) (ts : List Symbol) → Under (prefixed below least span op ts) (prefixed above least span op ts)
  unfolding prefixed
  prefixed_under least span op ts = if_under (nat_le least (unary_level op)) _ _ _ _ (and_under _ _ _ _ (up (unary_level op) (rest ts)) (λ x us. same _)) (same _)

  quantified_under : (span : Span) (q : Quantifier) (ts : List Symbol) → Under (quantified below span q ts) (quantified above span q ts)
  unfolding quantified
  quantified_under span q ts =
      and_under _ _ _ _ (decls_under ts) (λ ds us. and_under _ _ _ _ (part_under mark.Bar quantifier_level us)
      (λ p vs. and_under _ _ _ _ (same (expect mark.At vs)) (λ _ ws. and_under _ _ _ _ (up quantifier_level ws) (λ x zs. same _))))

  beginning_at : (least : ℕ) (span : Span) (after : Next) (ts : List Symbol) → Under (beginning_by below least span after ts) (beginning_by above least span after ts)
  beginning_at least span next.EmptySet ts = empty_set_under span _
  beginning_at least span next.OpenRound ts = round_under span _
  beginning_at least span next.OpenBrace ts = braced_under span _
  beginning_at least span (next.Prefix s) ts = prefixed_under least span (one.Sign (sign.Symbol s)) ts
  beginning_at least span (next.Infix Minus) ts = prefixed_under least span (one.Sign sign.Minus) ts
  beginning_at least span next.Not ts = prefixed_under least span one.Not ts
  beginning_at least span (next.Quantifier q) ts = if_under (nat_le least quantifier_level) _ _ _ _ (quantified_under span q _) (same _)
  beginning_at least span _ ts = same _

  beginning_under : (least : ℕ) (ts : List Symbol) → Under (beginning below least ts) (beginning above least ts)
  unfolding beginning
  beginning_under least ts = beginning_at least (here ts) (first ts) ts

  binary_under : (op : Operator) (x : Tall Term) (ts : List Symbol) → Under (binary below op x ts) (binary above op x ts)
  unfolding binary
  binary_under op x ts = and_under _ _ _ _ (up (right_place op) (beyond op ts)) (λ y us. same _)

  chained_under : (x : Tall Term) (ts : List Symbol) → Under (chained below x ts) (chained above x ts)
  unfolding chained chain_links
  chained_under x ts = and_under _ _ _ _ (links_under (length ts) (tall [] 0) ts) (λ y us. same _)

  longer_at : (x : Tall Term) (after : Role) (ts : List Symbol) → Under (longer_by below x after ts) (longer_by above x after ts)
  longer_at x role.Ends ts = same _
  longer_at x (role.Operator op) ts = binary_under op x ts
  longer_at x role.Relation ts = chained_under x ts
  longer_at x role.Cross ts = listed_under _ list.Product x ts
  longer_at x role.Inverse ts = same _

  tall_under : {A : Type 0} (h n : ℕ) (p r : Outcome A) → Under p r → Under (if nat_le h n then p else Err TooDeep) (if nat_le h (n + 1) then r else Err TooDeep)
  tall_under h n p r u = by (nat_le h n) refl
    where
      by : (b : Bool) → nat_le h n ≡ b → Under (if b then p else Err TooDeep) (if nat_le h (n + 1) then r else Err TooDeep)
      by true e = let le = leb-true h n e in rw (le-leb h (n + 1) (omega arith)) u
      by false e = inl refl

  climb_under : (n least i j : ℕ) (x : Tall Term) (ts : List Symbol) → i ≤ j → Under (climb below n least i x ts) (climb above (n + 1) least j x ts)
  unfolding climb
  climb_under n least zero j x ts le = inl refl
  climb_under n least (suc i) zero x ts le = absurd (omega arith)
  climb_under n least (suc i) (suc j) x ts le =
      if_under (nat_le (binds (first ts)) least) _ _ _ _ (same _)
      (if_under (nat_le (place_before (role_of (first ts))) (level (tree_of x.part))) _ _ _ _
      (and_under _ _ _ _ (longer_at x (role_of (first ts)) ts) (λ y us. tall_under y.height n _ _ (climb_under n least i j y us (omega arith)))) (same _))

  whole_under : (n least : ℕ) (ts : List Symbol) → Under (whole below n least ts) (whole above (n + 1) least ts)
  unfolding whole
  whole_under n least ts = and_under _ _ _ _ (beginning_under least ts) (λ x us. climb_under n least n (n + 1) x us (omega arith))

term_under : (n : ℕ) → IsUnder (read_term n) (read_term (suc n))
unfolding read_term
term_under zero least ts = inl refl
term_under (suc n) least ts =
    let is : n + 1 + 1 ≡ suc n + 1 = omega arith in
    subst (λ m. Under (whole (read_term n) (n + 1) least ts) (whole (read_term (suc n)) m least ts)) is (whole_under (read_term n) (read_term (suc n)) (term_under n) (n + 1) least ts)

-- a refusal stays with more height
refused_next : (n least : ℕ) (ts : List Symbol) → read_term n least ts ≡ Err Refused → read_term (suc n) least ts ≡ Err Refused
refused_next n least ts e = ⊎_elim (λ d. absurd (cc)) (λ s. sym s ∙ e) (term_under n least ts)

pub refused_again : (d n m least : ℕ) (ts : List Symbol) → n + d ≡ m → read_term n least ts ≡ Err Refused → read_term m least ts ≡ Err Refused
refused_again zero n m least ts is e = let same : n ≡ m = omega arith in ap (λ n. read_term n least ts) (sym same) ∙ e
refused_again (suc d) n m least ts is e = refused_again d (suc n) m least ts (omega arith) (refused_next n least ts e)

-- so does what is read
read_next : (n least : ℕ) (ts us : List Symbol) (x : Tall Term) → read_term n least ts ≡ Ok (x, us) → read_term (suc n) least ts ≡ Ok (x, us)
read_next n least ts us x e = ⊎_elim (λ d. absurd (cc)) (λ s. sym s ∙ e) (term_under n least ts)

pub read_again : (d n m least : ℕ) (ts us : List Symbol) (x : Tall Term) → n + d ≡ m → read_term n least ts ≡ Ok (x, us) → read_term m least ts ≡ Ok (x, us)
read_again zero n m least ts us x is e = let same : n ≡ m = omega arith in ap (λ n. read_term n least ts) (sym same) ∙ e
read_again (suc d) n m least ts us x is e = read_again d (suc n) m least ts us x (omega arith) (read_next n least ts us x e)
