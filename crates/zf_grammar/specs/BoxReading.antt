-- Reading what holds terms, from left to right, as the parser does. No public clause of `zf_parse` rests on this file.
use Rattle.std.specs.Prelude.{◌≡◌, ℕ, zero, suc, ◌+◌, max, nat_le, Bool, true, false, ◌||◌, if◌then◌else◌, List, [], ◌∷◌, ◌++◌, length, Ok, Err}
use Rattle.zf_grammar.specs.Prelude.{Mark, Next, And, Or, Name, Term, Plain, Delta, Xi, RefMark, SchemaRef, SchemaExp, quantifier_level, expression_level, BoxTree, is_bare, is_mark, schema_span, schema_tree_of, Span, Symbol}
use Rattle.zf_scan.specs.declared.next.Mark.TheVariants as mark
use Rattle.zf_scan.specs.declared.next.Next.TheVariants as next
use Rattle.zf_grammar.specs.declared.tall.Tall.{Tall}
use Rattle.zf_tree.specs.declared.tree.Decl.{Decl}
use Rattle.zf_tree.specs.declared.tree.Decl.TheVariants as decl
use Rattle.zf_tree.specs.declared.tree.SchemaExp.TheVariants as schema
use Rattle.zf_tree.specs.declared.tree.Paragraph.{Paragraph}
use Rattle.zf_tree.specs.declared.tree.Paragraph.TheVariants as paragraph
use Rattle.zf_tree.specs.declared.tree.ZBox.{ZBox}
use Rattle.zf_tree.specs.declared.tree.ZBox.TheVariants as zbox
use Rattle.zf_grammar.specs.Spelling.{here, SpellsBox, through}
use Rattle.zf_grammar.specs.Reading.{◌>>=◌, ◌>>◌, and_then, expect, first, is_end, parted, Parser, past, pure, read_name, read_names, read_opening, refuse, Refused, rest, too_deep, TooDeep}
use Rattle.zf_grammar.specs.TermReading.{items, tall, read_term}

-- ---- what is spelled so far

-- boxes one after another, up to some symbols
abbrev pub SpellsUpTo : List BoxTree → List Symbol → List Symbol → Type 0
SpellsUpTo [] ts us = ts ≡ us
SpellsUpTo (b ∷ bs) ts us = (a : List Symbol) × SpellsBox b ts a × SpellsUpTo bs a us

-- ---- schema references and declarations

abbrev pub new_ref : RefMark → Name → SchemaRef
new_ref m n = record { mark = m; name = n }

unfoldable pub marked : RefMark → Parser SchemaRef
marked m = λ ts. and_then (read_name ts) (λ n us. Ok (new_ref m n, us))

abbrev pub ref_by : Next → Parser SchemaRef
ref_by next.Delta = past (marked Delta)
ref_by next.Xi = past (marked Xi)
ref_by _ = marked Plain

unfoldable pub read_ref : Parser SchemaRef
read_ref = λ ts. ref_by (first ts) ts

unfoldable pub variables : ℕ → Parser (Tall Decl)
variables n = do
  ns ← read_names
  expect mark.Colon
  x ← read_term n expression_level
  pure (tall (decl.Vars ns x.part) x.height)

-- an included schema has height 1
unfoldable pub inclusion : ℕ → Parser (Tall Decl)
inclusion n = λ ts. and_then (read_ref ts) (λ r us. if nat_le 1 n then Ok (tall (decl.Include r) 1, us) else Err TooDeep)

-- whether the first symbol is the first of some declared names, by the symbol after it
abbrev pub is_declared : List Symbol → Bool
is_declared ts = is_mark mark.Comma (first (rest ts)) || is_mark mark.Colon (first (rest ts))

unfoldable pub read_decl : ℕ → Parser (Tall Decl)
read_decl n = λ ts. if is_declared ts then variables n ts else inclusion n ts

abbrev pub read_decls : ℕ → Parser (Tall (List Decl))
read_decls n = items mark.Separator (read_decl n)

-- ---- predicates after a symbol, if it is there

unfoldable pub predicates : ℕ → Mark → Parser (Tall (List Term))
predicates n m = λ ts. if is_mark m (first ts) then items mark.Separator (read_term n quantifier_level) (rest ts) else Ok (tall [] 0, ts)

-- ---- schema expressions, of which `below` reads those one level deeper, up to this height

abbrev pub is_and : Next → Bool
is_and (next.Connective And) = true
is_and _ = false

abbrev pub is_or : Next → Bool
is_or (next.Connective Or) = true
is_or _ = false

-- a schema expression over two others
abbrev pub joining : (Span → SchemaExp → SchemaExp → SchemaExp) → SchemaExp → SchemaExp → SchemaExp
joining make x y = make (through (schema_span (schema_tree_of x)) (schema_span (schema_tree_of y))) x y

-- operands of an operator to the left, up to a height; the last number bounds the turns
module _ (joins : Next → Bool) (operand : Parser (Tall SchemaExp)) (make : SchemaExp → SchemaExp → SchemaExp) (highest : ℕ) where
  unfoldable pub joined : ℕ → Tall SchemaExp → Parser (Tall SchemaExp)
  joined zero x = pure x
  joined (suc j) x = λ ts.
      if joins (first ts)
      then and_then (operand (rest ts)) (λ y us.
      if nat_le (max x.height y.height + 1) highest then joined j (tall (make x.part y.part) (max x.height y.height + 1)) us else Err TooDeep)
      else Ok (x, ts)

-- after an opening square bracket
unfoldable pub schema_text : Span → ℕ → Parser (Tall SchemaExp)
schema_text begin n = do
  ds ← read_decls n
  ps ← predicates n mark.Bar
  end ← expect mark.CloseSquare
  pure (tall (schema.Text (through begin end) ds.part ps.part) (max ds.height ps.height + 1))

module _ (n : ℕ) (below : Parser (Tall SchemaExp)) where
  -- after an opening round bracket
  unfoldable pub schema_bracket : Span → Parser (Tall SchemaExp)
  schema_bracket begin = do
    x ← below
    end ← expect mark.CloseRound
    pure (tall (schema.Bracket (through begin end) x.part) (x.height + 1))

  abbrev pub schema_part_by : Span → Next → Parser (Tall SchemaExp)
  schema_part_by begin next.OpenSquare = past (schema_text begin n)
  schema_part_by begin next.OpenRound = past (schema_bracket begin)
  schema_part_by begin _ = read_ref >>= (λ r. pure (tall (schema.Ref (through begin r.name.span) r) 1))

  unfoldable pub schema_part : Parser (Tall SchemaExp)
  schema_part = λ ts. schema_part_by (here ts) (first ts) ts

  unfoldable pub conjunction : Parser (Tall SchemaExp)
  conjunction = λ ts. and_then (schema_part ts) (λ x us. joined is_and schema_part (joining schema.Both) (n + 1) (length us) x us)

  unfoldable pub disjunction : Parser (Tall SchemaExp)
  disjunction = λ ts. and_then (conjunction ts) (λ x us. joined is_or conjunction (joining schema.Or) (n + 1) (length us) x us)

-- a schema expression of at most this height
unfoldable pub read_schema : ℕ → Parser (Tall SchemaExp)
read_schema zero = too_deep
read_schema (suc n) = disjunction n (read_schema n)

-- ---- paragraphs

unfoldable pub given : Parser (Tall Paragraph)
given = do
  ns ← read_names
  expect mark.CloseSquare
  pure (tall (paragraph.Given ns) 0)

unfoldable pub free_type : Name → Parser (Tall Paragraph)
free_type n = λ ts. and_then (parted mark.Bar read_name ts) (λ ns us. Ok (tall (paragraph.Free n ns) 0, us))

unfoldable pub abbreviation : ℕ → Name → Parser (Tall Paragraph)
abbreviation height n = do
  x ← read_term height expression_level
  pure (tall (paragraph.Abbrev n x.part) x.height)

unfoldable pub definition : ℕ → Name → Parser (Tall Paragraph)
definition height n = λ ts. if is_bare n.strokes then and_then (read_schema height ts) (λ x us. Ok (tall (paragraph.Defs n x.part) x.height, us)) else Err Refused

abbrev pub named_by : ℕ → Name → Next → Parser (Tall Paragraph)
named_by height n next.FreeType = past (free_type n)
named_by height n next.Abbreviates = past (abbreviation height n)
named_by height n next.Defines = past (definition height n)
named_by height n _ = refuse

unfoldable pub named : ℕ → Parser (Tall Paragraph)
named height = λ ts. and_then (read_name ts) (λ n us. named_by height n (first us) us)

unfoldable pub read_paragraph : ℕ → Parser (Tall Paragraph)
read_paragraph height = λ ts. if is_mark mark.OpenSquare (first ts) then given (rest ts) else named height ts

-- ---- boxes

unfoldable pub read_zed : ℕ → Parser ZBox
read_zed height = do
  ps ← items mark.Separator (read_paragraph height)
  expect mark.EndBox
  pure (zbox.Zed ps.part)

unfoldable pub read_schema_box : ℕ → Parser ZBox
read_schema_box height = do
  n ← read_opening
  ds ← read_decls height
  ps ← predicates height mark.Where
  expect mark.EndBox
  pure (zbox.SchemaBox n ds.part ps.part)

abbrev pub box_by : ℕ → Next → Parser ZBox
box_by height next.BeginZed = past (read_zed height)
box_by height _ = read_schema_box height

unfoldable pub read_box : ℕ → Parser ZBox
read_box height = λ ts. box_by height (first ts) ts

unfoldable pub boxes_from : ℕ → ℕ → List ZBox → Parser (List ZBox)
boxes_from height zero bs = pure bs
boxes_from height (suc n) bs = λ ts. if is_end (first ts) then Ok (bs, ts) else and_then (read_box height ts) (λ b us. boxes_from height n (bs ++ b ∷ []) us)

unfoldable pub read_boxes : ℕ → Parser (List ZBox)
read_boxes height = λ ts. boxes_from height (length ts) [] ts

-- all boxes, and nothing after them
unfoldable pub read_all : ℕ → Parser (List ZBox)
read_all height = λ ts. and_then (read_boxes height ts) (λ bs us. if is_end (first us) then Ok (bs, us) else Err Refused)

-- one box, and nothing after it
unfoldable pub read_only : ℕ → Parser ZBox
read_only height = λ ts. and_then (read_box height ts) (λ b us. if is_end (first us) then Ok (b, us) else Err Refused)
