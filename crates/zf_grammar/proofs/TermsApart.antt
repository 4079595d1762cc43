-- What a tree spells is a front of its own: it is the same before any rest, and no symbol of it ends a box.
use Rattle.zf_grammar.proofs.Prelude.{◌++◌, ◌∙◌, ◌∷◌, ◌≡◌, [], ap, false, List, refl, if◌then◌else◌, Listed, Operator, Sign, Unary, Name, ends_box, separator, Symbol, symbol, Kind, After, Before, Begins, Behind, Between, Closes, Ends, Next, Span, Opens, PartedBy, parting, sign_kind, Spells, SpellsDecls, SpellsFurther, SpellsItems, SpellsLinks, SpellsName, SpellsNames, SpellsPart, Starts, arith, length, ◌≤◌, length-append, Trees}
use Rattle.zf_scan.specs.declared.token.Kind.TheVariants as k
use Rattle.zf_tree.specs.declared.operator.Listed.TheVariants as list
use Rattle.zf_tree.specs.declared.operator.Operator.TheVariants as operator
use Rattle.zf_tree.specs.declared.operator.Sign.TheVariants as sign
use Rattle.zf_tree.specs.declared.operator.Unary.TheVariants as one
use Rattle.zf_tree.specs.{absent, binary, bracket, comprehension, chain, constant, empty_set, link, Links, listed, named, no_decls, no_links, no_trees, numeral, Perhaps, present, quantified, Tree, tree, unary, var_decl, VarDecls}

-- what stands after the first symbol that ends a box
abbrev pub behind : List Symbol → List Symbol
behind [] = []
behind (t ∷ ts) = if ends_box t.kind then ts else behind ts

abbrev pub Spelling : Type 1
Spelling = List Symbol → List Symbol → Type 0

-- what is spelled up to the rest is a front that stands before any other rest as well, and does not end a box
pub record Own (S : Spelling) (ts us : List Symbol) : Type 0 where
  pub own : List Symbol → List Symbol
  pub whole : ts ≡ own us
  pub always : (r : List Symbol) → S (own r) r
  pub passes : (r : List Symbol) → behind (own r) ≡ behind r
  pub appends : (r e : List Symbol) → own (r ++ e) ≡ own r ++ e

pub shorter : {S : Spelling} {ts us : List Symbol} → Own S ts us → length us ≤ length ts
shorter {us = us} o = omega (arith, ap length o.whole, ap length (o.appends [] us), length-append (o.own []) us)

-- ---- one symbol, nothing, and several parts

-- one symbol that does not end a box, on its span
pub starts_own : (kind : Kind) (l : Span) (ts us : List Symbol) → ends_box kind ≡ false → Starts kind l ts us → Own (Starts kind l) ts us
starts_own kind l ts us kept h =
    record { own = λ r. symbol kind l ∷ r; whole = h; always = λ r. refl; passes = λ r. ap (λ b. if b then r else behind r) kept; appends = λ r e. refl }

-- one symbol that does not end a box
pub next_own : (kind : Kind) (ts us : List Symbol) → ends_box kind ≡ false → Next kind ts us → Own (Next kind) ts us
next_own kind ts us kept h =
    record { own = λ r. symbol kind h.0 ∷ r; whole = h.1; always = λ r. (h.0, refl); passes = λ r. ap (λ b. if b then r else behind r) kept; appends = λ r e. refl }

-- the same front, as another spelling
pub as_own : {P S : Spelling} {ts us : List Symbol} → Own P ts us → ((x y : List Symbol) → P x y → S x y) → Own S ts us
as_own o pack = record { own = o.own; whole = o.whole; always = λ r. pack (o.own r) r (o.always r); passes = o.passes; appends = o.appends }

-- one with which a part begins, or ends
pub begins_own : (kind : Kind) (s : Span) (ts us : List Symbol) → ends_box kind ≡ false → Begins kind s ts us → Own (Begins kind s) ts us
begins_own kind s ts us kept h = as_own (starts_own kind h.0 ts us kept h.1) (λ x y p. (h.0, p, h.2))

pub ends_own : (kind : Kind) (s : Span) (ts us : List Symbol) → ends_box kind ≡ false → Ends kind s ts us → Own (Ends kind s) ts us
ends_own kind s ts us kept h = as_own (starts_own kind h.0 ts us kept h.1) (λ x y p. (h.0, p, h.2))

-- nothing
pub nothing_own : (S : Spelling) (ts us : List Symbol) → ((r : List Symbol) → S r r) → ts ≡ us → Own S ts us
nothing_own S ts us always h = record { own = λ r. r; whole = h; always = always; passes = λ r. refl; appends = λ r e. refl }

-- two parts, one after the other
pub two : {P Q S : Spelling} {ts a us : List Symbol} → Own P ts a → Own Q a us → ((x y z : List Symbol) → P x y → Q y z → S x z) → Own S ts us
two p q pack =
    record {
      own = λ r. p.own (q.own r);
      whole = p.whole ∙ ap p.own q.whole;
      always = λ r. pack (p.own (q.own r)) (q.own r) r (p.always (q.own r)) (q.always r);
      passes = λ r. p.passes (q.own r) ∙ q.passes r;
      appends = λ r e. ap p.own (q.appends r e) ∙ p.appends (q.own r) e;
    }

-- two spellings, one after the other
abbrev pub Then : Spelling → Spelling → Spelling
Then P Q x z = (y : List Symbol) × P x y × Q y z

pub then_own : {P Q : Spelling} {ts a us : List Symbol} → Own P ts a → Own Q a us → Own (Then P Q) ts us
then_own p q = two p q (λ x y z p q. (y, p, q))

pub three : {P Q R S : Spelling} {ts a b us : List Symbol} → Own P ts a → Own Q a b → Own R b us → ((x a b y : List Symbol) → P x a → Q a b → R b y → S x y) → Own S ts us
three p q r pack = two p (then_own q r) (λ x a y p m. pack x a m.0 y p m.1 m.2)

pub four : {P Q R T S : Spelling} {ts a b c us : List Symbol} → Own P ts a → Own Q a b → Own R b c → Own T c us → ((x a b c y : List Symbol) → P x a → Q a b → R b c → T c y → S x y) → Own S ts us
four p q r t pack = three p q (then_own r t) (λ x a b y p q m. pack x a b m.0 y p q m.1 m.2)

pub five : {P Q R T U S : Spelling} {ts a b c d us : List Symbol} → Own P ts a → Own Q a b → Own R b c → Own T c d → Own U d us
    → ((x a b c d y : List Symbol) → P x a → Q a b → R b c → T c d → U d y → S x y) → Own S ts us
five p q r t u pack = four p q r (then_own t u) (λ x a b c y p q r m. pack x a b c m.0 y p q r m.1 m.2)

-- one or more, parted by a symbol that does not end a box
pub parted_own : {A : Type 0} (kind : Kind) (spells : A → Spelling) → ends_box kind ≡ false → ((x : A) (ts us : List Symbol) → spells x ts us → Own (spells x) ts us)
    → (xs : List A) (ts us : List Symbol) → PartedBy kind spells xs ts us → Own (PartedBy kind spells xs) ts us
parted_own kind spells kept each [] ts us h = absurd h
parted_own kind spells kept each (x ∷ []) ts us h = as_own (each x ts us h) (λ x y p. p)
parted_own kind spells kept each (x ∷ (y ∷ ys)) ts us h =
    three (each x ts h.0 h.2) (next_own kind h.0 h.1 kept h.3) (parted_own kind spells kept each (y ∷ ys) h.1 us h.4) (λ x a b y p q r. (a, b, p, q, r))

pub name_own : (n : Name) (ts us : List Symbol) → SpellsName n ts us → Own (SpellsName n) ts us
name_own n ts us h = starts_own (k.Name n.base n.strokes) n.span ts us refl h

pub names_own : (ns : List Name) (ts us : List Symbol) → SpellsNames ns ts us → Own (SpellsNames ns) ts us
names_own ns ts us h = parted_own k.Comma SpellsName refl name_own ns ts us h

-- ---- terms

-- a sign does not end a box
sign_kept : (s : Sign) → ends_box (sign_kind s) ≡ false
sign_kept (sign.Symbol s) = refl
sign_kept sign.Minus = refl

parting_kept : (form : Listed) → ends_box (parting form) ≡ false
parting_kept list.Product = refl
parting_kept _ = refl

before_own : (op : Unary) (l : Span) (t : Tree) (ts us : List Symbol) → Before op l t ts us → Own (Before op l t) ts us
before_own (one.Sign s) l t ts us h = as_own (begins_own (sign_kind s) l ts us (sign_kept s) h) (λ x y p. p)
before_own one.Not l t ts us h = as_own (begins_own k.Not l ts us refl h) (λ x y p. p)
before_own one.Inverse l t ts us h = nothing_own (Before one.Inverse l t) ts us (λ r. (h.0, refl)) h.1

after_own : (op : Unary) (l : Span) (t : Tree) (ts us : List Symbol) → After op l t ts us → Own (After op l t) ts us
after_own one.Inverse l t ts us h = as_own (ends_own k.Inverse l ts us refl h) (λ x y p. p)
after_own _ l t ts us h = nothing_own _ ts us (λ r. (h.0, refl)) h.1

between_own : (op : Operator) (ts us : List Symbol) → Between op ts us → Own (Between op) ts us
between_own (operator.Function op) ts us h = as_own (next_own (k.Infix op) ts us refl h) (λ x y p. p)
between_own (operator.Generic a) ts us h = as_own (next_own (k.Arrow a) ts us refl h) (λ x y p. p)
between_own (operator.Connective c) ts us h = as_own (next_own (k.Connective c) ts us refl h) (λ x y p. p)
between_own operator.Application ts us h = nothing_own (Between operator.Application) ts us (λ r. refl) h
between_own operator.Image ts us h = as_own (next_own k.OpenImage ts us refl h) (λ x y p. p)

behind_own : (op : Operator) (l : Span) (t : Tree) (ts us : List Symbol) → Behind op l t ts us → Own (Behind op l t) ts us
behind_own operator.Image l t ts us h = as_own (ends_own k.CloseImage l ts us refl h) (λ x y p. p)
behind_own _ l t ts us h = nothing_own _ ts us (λ r. (h.0, refl)) h.1

opens_own : (form : Listed) (l : Span) (vs : Trees) (ts us : List Symbol) → Opens form l vs ts us → Own (Opens form l vs) ts us
opens_own list.Tuple l vs ts us h = as_own (begins_own k.OpenRound l ts us refl h) (λ x y p. p)
opens_own list.Display l vs ts us h = as_own (begins_own k.OpenBrace l ts us refl h) (λ x y p. p)
opens_own list.Product l vs ts us h = nothing_own (Opens list.Product l vs) ts us (λ r. (h.0, refl)) h.1

closes_own : (form : Listed) (l : Span) (ts us : List Symbol) → Closes form l ts us → Own (Closes form l) ts us
closes_own list.Tuple l ts us h = as_own (ends_own k.CloseRound l ts us refl h) (λ x y p. p)
closes_own list.Display l ts us h = as_own (ends_own k.CloseBrace l ts us refl h) (λ x y p. p)
closes_own list.Product l ts us h = nothing_own (Closes list.Product l) ts us (λ r. refl) h

mutual
  pub term_own : (t : Tree) (ts us : List Symbol) → Spells t ts us → Own (Spells t) ts us
  term_own (named n) ts us h = as_own (name_own n ts us h) (λ x y p. p)
  term_own (numeral l v) ts us h = as_own (starts_own (k.Number v) l ts us refl h) (λ x y p. p)
  term_own (constant l c) ts us h = as_own (starts_own (k.Constant c) l ts us refl h) (λ x y p. p)
  term_own (empty_set l t) ts us h =
      four (begins_own k.EmptySet l ts h.0 refl h.3) (next_own k.OpenSquare h.0 h.1 refl h.4) (term_own t h.1 h.2 h.5) (ends_own k.CloseSquare l h.2 us refl h.6)
      (λ x a b c y p q r s. (a, b, c, p, q, r, s))
  term_own (bracket l t) ts us h = three (begins_own k.OpenRound l ts h.0 refl h.2) (term_own t h.0 h.1 h.3) (ends_own k.CloseRound l h.1 us refl h.4) (λ x a b y p q r. (a, b, p, q, r))
  term_own (listed l form vs) ts us h = three (opens_own form l vs ts h.0 h.2) (items_own (parting form) (parting_kept form) vs h.0 h.1 h.3)
      (closes_own form l h.1 us h.4) (λ x a b y p q r. (a, b, p, q, r))
  term_own (comprehension l ds p t) ts us h =
      five (begins_own k.OpenBrace l ts h.0 refl h.4) (decls_own ds h.0 h.1 h.5) (part_own k.Bar refl p h.1 h.2 h.6) (part_own k.At refl t h.2 h.3 h.7) (ends_own k.CloseBrace l h.3 us refl h.8)
      (λ x a b c d y p q r s t. (a, b, c, d, p, q, r, s, t))
  term_own (unary l op t) ts us h = three (before_own op l t ts h.0 h.2) (term_own t h.0 h.1 h.3) (after_own op l t h.1 us h.4) (λ x a b y p q r. (a, b, p, q, r))
  term_own (binary l op x y) ts us h =
      four (term_own x ts h.0 h.4) (between_own op h.0 h.1 h.5) (term_own y h.1 h.2 h.6) (behind_own op l y h.2 us h.7) (λ x a b c y p q r s. (a, b, c, h.3, p, q, r, s))
  term_own (chain l t ks) ts us h = two (term_own t ts h.0 h.2) (links_own ks h.0 us h.3) (λ x a y p q. (a, h.1, p, q))
  term_own (quantified l q ds p t) ts us h =
      five (begins_own (k.Quantifier q) l ts h.0 refl h.4) (decls_own ds h.0 h.1 h.5) (part_own k.Bar refl p h.1 h.2 h.6) (next_own k.At h.2 h.3 refl h.7) (term_own t h.3 us h.8)
      (λ x a b c d y p q r s t. (a, b, c, d, p, q, r, s, t, h.9))

  items_own : (kind : Kind) → ends_box kind ≡ false → (vs : Trees) (ts us : List Symbol) → SpellsItems kind vs ts us → Own (SpellsItems kind vs) ts us
  items_own kind kept no_trees ts us h = absurd h
  items_own kind kept (tree t vs) ts us h = two (term_own t ts h.0 h.1) (further_own kind kept vs h.0 us h.2) (λ x a y p q. (a, p, q))

  further_own : (kind : Kind) → ends_box kind ≡ false → (vs : Trees) (ts us : List Symbol) → SpellsFurther kind vs ts us → Own (SpellsFurther kind vs) ts us
  further_own kind kept no_trees ts us h = nothing_own (SpellsFurther kind no_trees) ts us (λ r. refl) h
  further_own kind kept (tree t vs) ts us h = three (next_own kind ts h.0 kept h.2) (term_own t h.0 h.1 h.3) (further_own kind kept vs h.1 us h.4) (λ x a b y p q r. (a, b, p, q, r))

  links_own : (ks : Links) (ts us : List Symbol) → SpellsLinks ks ts us → Own (SpellsLinks ks) ts us
  links_own no_links ts us h = absurd h
  links_own (link r t no_links) ts us h = two (next_own (k.Relation r) ts h.0 refl h.1) (term_own t h.0 us h.2) (λ x a y p q. (a, p, q))
  links_own (link r t (link s u ks)) ts us h =
      three (next_own (k.Relation r) ts h.0 refl h.2) (term_own t h.0 h.1 h.3) (links_own (link s u ks) h.1 us h.4) (λ x a b y p q r. (a, b, p, q, r))

  decls_own : (ds : VarDecls) (ts us : List Symbol) → SpellsDecls ds ts us → Own (SpellsDecls ds) ts us
  decls_own no_decls ts us h = absurd h
  decls_own (var_decl ns t no_decls) ts us h = three (names_own ns ts h.0 h.2) (next_own k.Colon h.0 h.1 refl h.3) (term_own t h.1 us h.4) (λ x a b y p q r. (a, b, p, q, r))
  decls_own (var_decl ns t (var_decl ms u ds)) ts us h =
      five (names_own ns ts h.0 h.4) (next_own k.Colon h.0 h.1 refl h.5) (term_own t h.1 h.2 h.6) (next_own separator h.2 h.3 refl h.7) (decls_own (var_decl ms u ds) h.3 us h.8)
      (λ x a b c d y p q r s t. (a, b, c, d, p, q, r, s, t))

  part_own : (kind : Kind) → ends_box kind ≡ false → (p : Perhaps) (ts us : List Symbol) → SpellsPart kind p ts us → Own (SpellsPart kind p) ts us
  part_own kind kept absent ts us h = nothing_own (SpellsPart kind absent) ts us (λ r. refl) h
  part_own kind kept (present t) ts us h = two (next_own kind ts h.0 kept h.1) (term_own t h.0 us h.2) (λ x a y p q. (a, p, q))
