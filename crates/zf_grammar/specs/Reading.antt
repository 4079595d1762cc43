-- Reading symbols and names from left to right, as the parser does. No public clause of `zf_parse` rests on this file.
use Rattle.std.specs.Prelude.{ℕ, zero, suc, Bool, true, false, if◌then◌else◌, List, [], ◌∷◌, ◌++◌, length, Result, Ok, Err}
use Rattle.zf_grammar.specs.Prelude.{Next, Mark, Kind, Name, is_mark, next_of, Span, Symbol}
use Rattle.zf_grammar.specs.Spelling.{here}
use Rattle.zf_scan.specs.declared.next.Mark.TheVariants as mark
use Rattle.zf_scan.specs.declared.next.Next.TheVariants as next
use Rattle.zf_scan.specs.declared.token.Kind.TheVariants as k

-- ---- the next symbol

abbrev pub first : List Symbol → Next
first [] = next.End
first (t ∷ ts) = next_of t.kind

abbrev pub rest : List Symbol → List Symbol
rest [] = []
rest (t ∷ ts) = ts

abbrev pub is_end : Next → Bool
is_end next.End = true
is_end _ = false

-- ---- a value and the symbols after it, or why there is none

pub data Fault : Type 0 where
  -- nothing of the kind is spelled here, of any height
  Refused : Fault
  -- nothing of the height that is allowed
  TooDeep : Fault

abbrev pub Outcome : Type 0 → Type 0
Outcome A = Result (A × List Symbol) Fault

abbrev pub Parser : Type 0 → Type 0
Parser A = List Symbol → Outcome A

abbrev pub and_then : {A B : Type 0} → Outcome A → (A → Parser B) → Outcome B
and_then (Ok p) f = f p.0 p.1
and_then (Err e) f = Err e

infixl 10 ◌>>=◌
abbrev pub ◌>>=◌ : {A B : Type 0} → Parser A → (A → Parser B) → Parser B
p >>= f = λ ts. and_then (p ts) f

infixl 10 ◌>>◌
abbrev pub ◌>>◌ : {A B : Type 0} → Parser A → Parser B → Parser B
p >> f = p >>= (λ _. f)

abbrev pub pure : {A : Type 0} → A → Parser A
pure a = λ ts. Ok (a, ts)

abbrev pub refuse : {A : Type 0} → Parser A
refuse = λ ts. Err Refused

abbrev pub too_deep : {A : Type 0} → Parser A
too_deep = λ ts. Err TooDeep

-- goes past the next symbol
abbrev pub past : {A : Type 0} → Parser A → Parser A
past p = λ ts. p (rest ts)

-- past this symbol, which says where it stands
abbrev pub expect : Mark → Parser Span
expect m = λ ts. if is_mark m (first ts) then Ok (here ts, rest ts) else Err Refused

-- ---- names and numbers

abbrev pub name_by : Kind → Span → Parser Name
name_by (k.Name base strokes) span = λ ts. Ok (record { base = base; strokes = strokes; span = span }, rest ts)
name_by _ span = refuse

abbrev pub read_name : Parser Name
read_name [] = Err Refused
read_name (t ∷ ts) = name_by t.kind t.span (t ∷ ts)

abbrev pub number_by : Kind → Parser ℕ
number_by (k.Number v) = λ ts. Ok (v, rest ts)
number_by _ = refuse

abbrev pub read_number : Parser ℕ
read_number [] = Err Refused
read_number (t ∷ ts) = number_by t.kind (t ∷ ts)

abbrev pub opening_by : Kind → Span → Parser Name
opening_by (k.BeginSchema base) span = λ ts. Ok (record { base = base; strokes = []; span = span }, rest ts)
opening_by _ span = refuse

-- the name of a schema box, by its opening
abbrev pub read_opening : Parser Name
read_opening [] = Err Refused
read_opening (t ∷ ts) = opening_by t.kind t.span (t ∷ ts)

-- ---- one or more, parted by a symbol; the number bounds the turns

module _ {A : Type 0} (part : Mark) (item : Parser A) where
  unfoldable pub parted_from : ℕ → List A → Parser (List A)
  parted_from zero xs = pure xs
  parted_from (suc n) xs = λ ts. if is_mark part (first ts) then and_then (item (rest ts)) (λ x us. parted_from n (xs ++ x ∷ []) us) else Ok (xs, ts)

  unfoldable pub parted : Parser (List A)
  parted = λ ts. and_then (item ts) (λ x us. parted_from (length us) (x ∷ []) us)

abbrev pub read_names : Parser (List Name)
read_names = parted mark.Comma read_name
