-- The first symbols of trees, and what follows them.
use Rattle.zf_grammar.proofs.Prelude.{◌∙◌, ◌∷◌, ◌≡◌, ◌≤◌, ap, arith, Bool, false, length, List, refl, subst, sym, true, Operator, is_mark, next_of, Symbol, symbol, Kind, IsLevelled, level, postfix_level, right_place, first, rest, Between, Next, Span, Spells, SpellsLinks, Starts, begins_decl, beyond, role_of}
use Rattle.zf_scan.specs.declared.next.Mark.TheVariants as mark
use Rattle.zf_scan.specs.declared.token.Kind.TheVariants as k
use Rattle.zf_grammar.specs.declared.role.Role.TheVariants as role
use Rattle.zf_tree.specs.declared.operator.Listed.TheVariants as list
use Rattle.zf_tree.specs.declared.operator.Operator.TheVariants as operator
use Rattle.zf_tree.specs.declared.operator.Sign.TheVariants as sign
use Rattle.zf_tree.specs.declared.operator.Unary.TheVariants as one
use Rattle.zf_tree.specs.{binary, bracket, comprehension, chain, constant, empty_set, link, Links, listed, named, no_links, no_trees, numeral, quantified, Tree, tree, unary}
use Rattle.zf_grammar.proofs.Marks.{begins_next, ends_next}
use Rattle.zf_grammar.proofs.TermTables.{sign_level_le, stands}
use Rattle.zf_grammar.proofs.TermsApart.{shorter, term_own}

-- ---- what a tree spells is not shorter than what follows it

pub term_shorter : (t : Tree) (ts us : List Symbol) → Spells t ts us → length us ≤ length ts
term_shorter t ts us h = shorter (term_own t ts us h)

-- ---- the first symbol of an argument

pub record BeginsAtom (ts : List Symbol) : Type 0 where
  pub role : role_of (first ts) ≡ role.Operator operator.Application
  pub other : begins_decl false ts ≡ false

begins : (kind : Kind) (span : Span) (ts us : List Symbol) → BeginsAtom (symbol kind span ∷ us) → Starts kind span ts us → BeginsAtom ts
begins kind span ts us h e = subst BeginsAtom (sym e) h

atom_begins : (t : Tree) (ts us : List Symbol) → postfix_level ≤ level t → IsLevelled t → Spells t ts us → BeginsAtom ts
atom_begins (named n) ts us a lev h = begins (k.Name n.base n.strokes) n.span ts us (record { role = refl; other = refl }) h
atom_begins (numeral l v) ts us a lev h = begins (k.Number v) l ts us (record { role = refl; other = refl }) h
atom_begins (constant l c) ts us a lev h = begins (k.Constant c) l ts us (record { role = refl; other = refl }) h
atom_begins (empty_set l t) ts us a lev h = begins k.EmptySet h.3.0 ts h.0 (record { role = refl; other = refl }) h.3.1
atom_begins (bracket l t) ts us a lev h = begins k.OpenRound h.2.0 ts h.0 (record { role = refl; other = refl }) h.2.1
atom_begins (listed l list.Tuple vs) ts us a lev h = begins k.OpenRound h.2.0 ts h.0 (record { role = refl; other = refl }) h.2.1
atom_begins (listed l list.Display vs) ts us a lev h = begins k.OpenBrace h.2.0 ts h.0 (record { role = refl; other = refl }) h.2.1
atom_begins (listed l list.Product vs) ts us a lev h = absurd (omega arith)
atom_begins (comprehension l ds p t) ts us a lev h = begins k.OpenBrace h.4.0 ts h.0 (record { role = refl; other = refl }) h.4.1
atom_begins (unary l one.Inverse t) ts us a lev h = subst BeginsAtom (sym h.2.1) (atom_begins t h.0 h.1 lev.0 lev.1 h.3)
atom_begins (unary l (one.Sign s) t) ts us a lev h = absurd (omega (arith, sign_level_le s))
atom_begins (unary l one.Not t) ts us a lev h = absurd (omega arith)
atom_begins (binary l op x y) ts us a lev h = atom_begins x ts h.0 (omega (arith, (stands op).left, lev.0)) lev.1 h.4
atom_begins (chain l t ks) ts us a lev h = absurd (omega arith)
atom_begins (quantified l q ds p t) ts us a lev h = absurd (omega arith)

-- ---- the first symbol after the left operand

pub record Joins (op : Operator) (ts us : List Symbol) : Type 0 where
  pub role : role_of (first ts) ≡ role.Operator op
  pub passed : beyond op ts ≡ us
  pub other : begins_decl false ts ≡ false

pub joined : (op : Operator) (y : Tree) (ts us vs : List Symbol) → right_place op ≤ level y → IsLevelled y → Between op ts us → Spells y us vs → Joins op ts us
joined operator.Application y ts us vs fits lev h s =
    let a = subst BeginsAtom (sym h) (atom_begins y us vs fits lev s) in
    record { role = a.role; passed = h; other = a.other }
joined _ y ts us vs fits lev h s = record { role = ap (λ ts. role_of (first ts)) h.1; passed = ap rest h.1; other = ap (begins_decl false) h.1 }

-- ---- a term does not begin like a declaration, unless it is a name

-- where names, commas and a colon seem to come, another symbol does
other : (due : Bool) (kind : Kind) (ts us : List Symbol) → ((span : Span) → begins_decl due (symbol kind span ∷ us) ≡ false) → Next kind ts us → begins_decl due ts ≡ true → ⊥
other due kind ts us none next is =
    let e : false ≡ true = sym (none next.0) ∙ sym (ap (begins_decl due) next.1) ∙ is in
    cc

links_other : (ks : Links) (ts us : List Symbol) → SpellsLinks ks ts us → begins_decl false ts ≡ true → ⊥
links_other no_links ts us h is = absurd h
links_other (link r t no_links) ts us h is = other false (k.Relation r) ts h.0 (λ span. refl) h.1 is
links_other (link r t (link s u ks)) ts us h is = other false (k.Relation r) ts h.0 (λ span. refl) h.2 is

pub only_name : (t : Tree) (ts us : List Symbol) → IsLevelled t → Spells t ts us → begins_decl true ts ≡ true → begins_decl false us ≡ true
only_name (named n) ts us lev h is = sym (ap (begins_decl true) h) ∙ is
only_name (numeral l v) ts us lev h is = absurd (other true (k.Number v) ts us (λ span. refl) (l, h) is)
only_name (constant l c) ts us lev h is = absurd (other true (k.Constant c) ts us (λ span. refl) (l, h) is)
only_name (empty_set l t) ts us lev h is = absurd (other true k.EmptySet ts h.0 (λ span. refl) (begins_next h.3) is)
only_name (bracket l t) ts us lev h is = absurd (other true k.OpenRound ts h.0 (λ span. refl) (begins_next h.2) is)
only_name (listed l list.Tuple vs) ts us lev h is = absurd (other true k.OpenRound ts h.0 (λ span. refl) (begins_next h.2) is)
only_name (listed l list.Display vs) ts us lev h is = absurd (other true k.OpenBrace ts h.0 (λ span. refl) (begins_next h.2) is)
only_name (listed l list.Product (tree t (tree u vs))) ts us lev h is =
    let more = only_name t h.0 h.3.0 lev.1.1 h.3.1 (sym (ap (begins_decl true) h.2.1) ∙ is) in
    absurd (other false k.Cross h.3.0 h.3.2.0 (λ span. refl) h.3.2.2 more)
only_name (listed l list.Product _) ts us lev h is = absurd lev.0
only_name (comprehension l ds p t) ts us lev h is = absurd (other true k.OpenBrace ts h.0 (λ span. refl) (begins_next h.4) is)
only_name (unary l (one.Sign sign.Minus) t) ts us lev h is = absurd (other true (k.Infix _) ts h.0 (λ span. refl) (begins_next h.2) is)
only_name (unary l (one.Sign (sign.Symbol s)) t) ts us lev h is = absurd (other true (k.Prefix s) ts h.0 (λ span. refl) (begins_next h.2) is)
only_name (unary l one.Not t) ts us lev h is = absurd (other true k.Not ts h.0 (λ span. refl) (begins_next h.2) is)
only_name (unary l one.Inverse t) ts us lev h is =
    absurd (other false k.Inverse h.1 us (λ span. refl) (ends_next h.4) (only_name t h.0 h.1 lev.1 h.3 (sym (ap (begins_decl true) h.2.1) ∙ is)))
only_name (binary l op x y) ts us lev h is =
    let j = joined op y h.0 h.1 h.2 lev.2 lev.3 h.5 h.6 in
    let no = j.other in
    let more = only_name x ts h.0 lev.1 h.4 is in
    absurd (cc)
only_name (chain l t ks) ts us lev h is = absurd (links_other ks h.0 us h.3 (only_name t ts h.0 lev.1 h.2 is))
only_name (quantified l q ds p t) ts us lev h is = absurd (other true (k.Quantifier q) ts h.0 (λ span. refl) (begins_next h.4) is)

-- ---- a term does not begin with a closing brace

open_by : {kind : Kind} (ts us : List Symbol) → Next kind ts us → is_mark mark.CloseBrace (next_of kind) ≡ false → is_mark mark.CloseBrace (first ts) ≡ false
open_by ts us h is = ap (λ ts. is_mark mark.CloseBrace (first ts)) h.1 ∙ is

pub not_closed : (t : Tree) (ts us : List Symbol) → Spells t ts us → is_mark mark.CloseBrace (first ts) ≡ false
not_closed (named n) ts us h = open_by ts us (n.span, h) refl
not_closed (numeral l v) ts us h = open_by ts us (l, h) refl
not_closed (constant l c) ts us h = open_by ts us (l, h) refl
not_closed (empty_set l t) ts us h = open_by ts h.0 (begins_next h.3) refl
not_closed (bracket l t) ts us h = open_by ts h.0 (begins_next h.2) refl
not_closed (listed l list.Tuple vs) ts us h = open_by ts h.0 (begins_next h.2) refl
not_closed (listed l list.Display vs) ts us h = open_by ts h.0 (begins_next h.2) refl
not_closed (listed l list.Product no_trees) ts us h = absurd h.3
not_closed (listed l list.Product (tree t vs)) ts us h = ap (λ ts. is_mark mark.CloseBrace (first ts)) h.2.1 ∙ not_closed t h.0 h.3.0 h.3.1
not_closed (comprehension l ds p t) ts us h = open_by ts h.0 (begins_next h.4) refl
not_closed (unary l (one.Sign sign.Minus) t) ts us h = open_by ts h.0 (begins_next h.2) refl
not_closed (unary l (one.Sign (sign.Symbol s)) t) ts us h = open_by ts h.0 (begins_next h.2) refl
not_closed (unary l one.Not t) ts us h = open_by ts h.0 (begins_next h.2) refl
not_closed (unary l one.Inverse t) ts us h = ap (λ ts. is_mark mark.CloseBrace (first ts)) h.2.1 ∙ not_closed t h.0 h.1 h.3
not_closed (binary l op x y) ts us h = not_closed x ts h.0 h.4
not_closed (chain l t ks) ts us h = not_closed t ts h.0 h.2
not_closed (quantified l q ds p t) ts us h = open_by ts h.0 (begins_next h.4) refl
