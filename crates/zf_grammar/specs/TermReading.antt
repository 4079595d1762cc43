-- Reading a term from left to right, as the parser does. No public clause of `zf_parse` rests on this file.
use Rattle.std.specs.Prelude.{◌≡◌, ℕ, zero, suc, ◌+◌, max, nat_le, Bool, true, false, not, if◌then◌else◌, List, [], ◌∷◌, ◌++◌, length, map, Option, Some, None, Result, Ok, Err}
use Rattle.zf_grammar.specs.Prelude.{TextFault, Mark, Next, Minus, ident_of, link_of, links, new_decl, new_link, nowhere, Span, span_of, tree_of, trees, Listed, Operator, Unary, Term, quantifier_level, chain_level, expression_level, product_level, postfix_level, unary_level, operator_level, left_place, right_place, member_place, level, ends_names, goes_on, is_mark, next_of, Symbol}
use Rattle.zf_scan.specs.declared.fault.TextFaultKind.{TextFaultKind}
use Rattle.zf_scan.specs.declared.fault.TextFaultKind.TheVariants as fault
use Rattle.zf_scan.specs.declared.next.Mark.TheVariants as mark
use Rattle.zf_scan.specs.declared.next.Next.TheVariants as next
use Rattle.zf_grammar.specs.declared.tall.Tall.{Tall}
use Rattle.zf_tree.specs.declared.symbol.Quantifier.{Quantifier}
use Rattle.zf_tree.specs.declared.tree.Link.{Link}
use Rattle.zf_grammar.specs.declared.role.Role.{Role}
use Rattle.zf_grammar.specs.declared.role.Role.TheVariants as role
use Rattle.zf_tree.specs.declared.operator.Listed.TheVariants as list
use Rattle.zf_tree.specs.declared.operator.Operator.TheVariants as operator
use Rattle.zf_tree.specs.declared.operator.Sign.TheVariants as sign
use Rattle.zf_tree.specs.declared.operator.Unary.TheVariants as one
use Rattle.zf_tree.specs.declared.tree.Term.TheVariants as term
use Rattle.zf_tree.specs.declared.tree.VarDecl.{VarDecl}
pub use Rattle.zf_grammar.specs.Reading.{and_then, expect, Outcome, Parser}
use Rattle.zf_grammar.specs.Spelling.{here, last_tree, over_links, through}
use Rattle.zf_grammar.specs.Reading.{◌>>=◌, ◌>>◌, first, past, pure, refuse, Refused, read_name, read_names, read_number, rest, too_deep, TooDeep}

-- ---- what a function that reads ensures: the outcome, unless memory ran out

abbrev pub Fails : {A : Type 0} → Outcome A → TextFaultKind → Span → Type 0
Fails outcome fault.OutOfMemory span = span ≡ nowhere
Fails outcome fault.Unexpected span = outcome ≡ Err Refused
Fails outcome fault.NotInProfile span = outcome ≡ Err Refused
Fails outcome fault.TooDeep span = outcome ≡ Err TooDeep
Fails outcome _ span = ⊥

abbrev pub Gives : {A : Type 0} → Outcome A → Result A TextFault → List Symbol → Type 0
Gives outcome (Ok a) after = outcome ≡ Ok (a, after)
Gives outcome (Err e) after = Fails outcome e.kind e.span

-- ---- what a symbol is after a term

abbrev pub role_of : Next → Role
role_of (next.Infix op) = role.Operator (operator.Function op)
role_of (next.Arrow a) = role.Operator (operator.Generic a)
role_of (next.Connective c) = role.Operator (operator.Connective c)
role_of next.OpenImage = role.Operator operator.Image
role_of next.Name = role.Operator operator.Application
role_of next.Number = role.Operator operator.Application
role_of (next.Constant c) = role.Operator operator.Application
role_of next.EmptySet = role.Operator operator.Application
role_of next.OpenRound = role.Operator operator.Application
role_of next.OpenBrace = role.Operator operator.Application
role_of (next.Relation r) = role.Relation
role_of next.Cross = role.Cross
role_of next.Inverse = role.Inverse
role_of _ = role.Ends

-- one more than the level at which such a symbol goes on with the term before it; 0 where it does not
abbrev pub bound_by : Role → ℕ
bound_by role.Ends = 0
bound_by (role.Operator op) = operator_level op + 1
bound_by role.Relation = chain_level + 1
bound_by role.Cross = product_level + 1
bound_by role.Inverse = postfix_level + 1

abbrev pub binds : Next → ℕ
binds x = bound_by (role_of x)

-- the level that the term before such a symbol has at least
abbrev pub place_before : Role → ℕ
place_before role.Ends = quantifier_level
place_before (role.Operator op) = left_place op
place_before role.Relation = expression_level
place_before role.Cross = product_level + 1
place_before role.Inverse = postfix_level

-- whether names parted by commas and a colon come next, the first of them a name that is due or what follows a name
abbrev pub begins_decl : Bool → List Symbol → Bool
begins_decl due [] = false
begins_decl due (t ∷ ts) = if goes_on due (next_of t.kind) then begins_decl (not due) ts else ends_names due (next_of t.kind)

-- ---- parts with their heights

abbrev pub tall : {A : Type 0} → A → ℕ → Tall A
tall part height = record { part = part; height = height }

-- one more at the end
abbrev pub with_item : {A : Type 0} → Tall (List A) → Tall A → Tall (List A)
with_item xs x = tall (xs.part ++ x.part ∷ []) (max xs.height x.height)

-- a term over its only part
abbrev pub over : (Term → Term) → Tall Term → Tall Term
over make x = tall (make x.part) (x.height + 1)

-- a term over two parts
abbrev pub over_both : (Term → Term → Term) → Tall Term → Tall Term → Tall Term
over_both make x y = tall (make x.part y.part) (max x.height y.height + 1)

-- a rule that stands at its level or a looser place
abbrev pub if_at : ℕ → ℕ → Parser (Tall Term) → Parser (Tall Term)
if_at least place p = λ ts. if nat_le least place then p ts else Err Refused

-- ---- one or more items with their heights, parted by a symbol; the number bounds the turns

module _ {A : Type 0} (part : Mark) (item : Parser (Tall A)) where
  unfoldable pub items_from : ℕ → Tall (List A) → Parser (Tall (List A))
  items_from zero xs = pure xs
  items_from (suc n) xs = λ ts. if is_mark part (first ts) then and_then (item (rest ts)) (λ x us. items_from n (with_item xs x) us) else Ok (xs, ts)

  unfoldable pub items : Parser (Tall (List A))
  items = λ ts. and_then (item ts) (λ x us. items_from (length us) (tall (x.part ∷ []) x.height) us)

-- ---- symbols between operands and terms, and after them

-- after the symbol between two operands
abbrev pub beyond : Operator → List Symbol → List Symbol
beyond operator.Application ts = ts
beyond _ ts = rest ts

-- what stands after two operands, or else the last of them
abbrev pub ended_by : Operator → Span → Parser Span
ended_by operator.Image last = expect mark.CloseImage
ended_by _ last = pure last

abbrev pub parted_by : Listed → Mark
parted_by list.Product = mark.Cross
parted_by _ = mark.Comma

-- what stands after the terms of a list, or else the last of them
abbrev pub closed_by : Listed → Span → Parser Span
closed_by list.Tuple last = expect mark.CloseRound
closed_by list.Display last = expect mark.CloseBrace
closed_by list.Product last = pure last

-- ---- the rules, of which `below` reads a term at a place, one level deeper

module _ (below : ℕ → Parser (Tall Term)) where
  -- terms at this place, parted by the symbol, of which the first is read
  unfoldable pub further : Mark → ℕ → Tall Term → Parser (Tall (List Term))
  further m place x = λ ts. items_from m (below place) (length ts) (tall (x.part ∷ []) x.height) ts

  -- the links of a chain
  abbrev pub links_by : (Tall (List Link) → Parser (Tall (List Link))) → Tall (List Link) → Next → Parser (Tall (List Link))
  links_by more xs (next.Relation r) = past (do
    x ← below expression_level
    more (with_item xs (tall (new_link r x.part) x.height)))
  links_by more xs _ = pure xs

  unfoldable pub links_from : ℕ → Tall (List Link) → Parser (Tall (List Link))
  links_from zero xs = pure xs
  links_from (suc n) xs = λ ts. links_by (links_from n) xs (first ts) ts

  unfoldable pub chain_links : Parser (Tall (List Link))
  chain_links = λ ts. links_from (length ts) (tall [] 0) ts

  -- declarations of bound variables
  unfoldable pub read_decl : Parser (Tall VarDecl)
  read_decl = do
    ns ← read_names
    expect mark.Colon
    x ← below expression_level
    pure (tall (new_decl ns x.part) x.height)

  abbrev pub decls : Parser (Tall (List VarDecl))
  decls = items mark.Separator read_decl

  -- a part that may be left out, after its symbol
  unfoldable pub part : Mark → ℕ → Parser (Tall (Option Term))
  part m place = λ ts.
      if is_mark m (first ts)
      then and_then (below place (rest ts)) (λ x us. Ok (tall (Some x.part) x.height, us))
      else Ok (tall None 0, ts)

  -- the terms of a list, of which the first is read, and what stands after them
  unfoldable pub listed : Span → Listed → Tall Term → Parser (Tall Term)
  listed begin form x = do
    all ← further (parted_by form) (member_place form) x
    end ← closed_by form (last_tree begin (trees (map tree_of all.part)))
    pure (tall (term.Listed (through begin end) form all.part) (all.height + 1))

  -- ---- what begins a term

  unfoldable pub empty_set : Span → Parser (Tall Term)
  empty_set begin = do
    expect mark.OpenSquare
    x ← below expression_level
    end ← expect mark.CloseSquare
    pure (over (term.EmptySet (through begin end)) x)

  abbrev pub round_by : Span → Tall Term → Next → Parser (Tall Term)
  round_by begin x next.CloseRound = λ ts. Ok (over (term.Bracket (through begin (here ts))) x, rest ts)
  round_by begin x next.Comma = if_at expression_level (level (tree_of x.part)) (listed begin list.Tuple x)
  round_by begin x _ = refuse

  -- after an opening bracket
  unfoldable pub round : Span → Parser (Tall Term)
  round begin = do
    x ← below quantifier_level
    λ ts. round_by begin x (first ts) ts

  unfoldable pub display : Span → Parser (Tall Term)
  display begin = λ ts.
      if is_mark mark.CloseBrace (first ts)
      then Err Refused
      else and_then (below expression_level ts) (listed begin list.Display)

  unfoldable pub comprehension : Span → Parser (Tall Term)
  comprehension begin = do
    ds ← decls
    p ← part mark.Bar quantifier_level
    t ← part mark.At expression_level
    end ← expect mark.CloseBrace
    pure (tall (term.Comprehension (through begin end) ds.part p.part t.part) (max (max ds.height p.height) t.height + 1))

  unfoldable pub braced : Span → Parser (Tall Term)
  braced begin = λ ts. if begins_decl true ts then comprehension begin ts else display begin ts

  -- a term over the operand after the next symbol
  unfoldable pub prefixed : ℕ → Span → Unary → Parser (Tall Term)
  prefixed least begin op = if_at least (unary_level op) (past (do
    x ← below (unary_level op)
    pure (over (term.Unary (through begin (span_of (tree_of x.part))) op) x)))

  unfoldable pub quantified : Span → Quantifier → Parser (Tall Term)
  quantified begin q = do
    ds ← decls
    p ← part mark.Bar quantifier_level
    expect mark.At
    x ← below quantifier_level
    pure (tall (term.Quantified q (through begin (span_of (tree_of x.part))) ds.part p.part x.part) (max (max ds.height p.height) x.height + 1))

  abbrev pub beginning_by : ℕ → Span → Next → Parser (Tall Term)
  beginning_by least begin next.Name = λ ts. and_then (read_name ts) (λ n us. Ok (tall (term.Name n.span (ident_of n)) 1, us))
  beginning_by least begin next.Number = λ ts. and_then (read_number ts) (λ v us. Ok (tall (term.Number begin v) 1, us))
  beginning_by least begin (next.Constant c) = past (pure (tall (term.Constant begin c) 1))
  beginning_by least begin next.EmptySet = past (empty_set begin)
  beginning_by least begin next.OpenRound = past (round begin)
  beginning_by least begin next.OpenBrace = past (braced begin)
  beginning_by least begin (next.Prefix s) = prefixed least begin (one.Sign (sign.Symbol s))
  beginning_by least begin (next.Infix Minus) = prefixed least begin (one.Sign sign.Minus)
  beginning_by least begin next.Not = prefixed least begin one.Not
  beginning_by least begin (next.Quantifier q) = if_at least quantifier_level (past (quantified begin q))
  beginning_by least begin _ = refuse

  unfoldable pub beginning : ℕ → Parser (Tall Term)
  beginning least = λ ts. beginning_by least (here ts) (first ts) ts

  -- ---- what goes on with a term

  -- a term over two operands, of which the first is read
  unfoldable pub binary : Operator → Tall Term → Parser (Tall Term)
  binary op x = λ ts. (do
    y ← below (right_place op)
    end ← ended_by op (span_of (tree_of y.part))
    pure (over_both (term.Binary (through (span_of (tree_of x.part)) end) op) x y)) (beyond op ts)

  unfoldable pub chained : Tall Term → Parser (Tall Term)
  chained x = do
    ks ← chain_links
    pure (tall (term.Chain (over_links (tree_of x.part) (links (map link_of ks.part))) x.part ks.part) (max x.height ks.height + 1))

  abbrev pub longer_by : Tall Term → Role → Parser (Tall Term)
  longer_by x role.Ends = pure x
  longer_by x (role.Operator op) = binary op x
  longer_by x role.Relation = chained x
  longer_by x role.Cross = listed (span_of (tree_of x.part)) list.Product x
  longer_by x role.Inverse = λ ts. Ok (over (term.Unary (through (span_of (tree_of x.part)) (here ts)) one.Inverse) x, rest ts)

  -- goes on while the symbols bind more tightly than this place, up to this height; the second number bounds the turns
  unfoldable pub climb : ℕ → ℕ → ℕ → Tall Term → Parser (Tall Term)
  climb highest least zero x = too_deep
  climb highest least (suc n) x = λ ts.
      if nat_le (binds (first ts)) least then Ok (x, ts)
      else if nat_le (place_before (role_of (first ts))) (level (tree_of x.part))
      then and_then (longer_by x (role_of (first ts)) ts) (λ y us. if nat_le y.height highest then climb highest least n y us else Err TooDeep)
      else Err Refused

  unfoldable pub whole : ℕ → ℕ → Parser (Tall Term)
  whole highest least = do
    x ← beginning least
    climb highest least highest x

-- a term at this place, of at most this height
unfoldable pub read_term : ℕ → ℕ → Parser (Tall Term)
read_term zero least = too_deep
read_term (suc n) least = whole (read_term n) (n + 1) least
