-- Places of a source: the line on which one stands, and the text of a part on one line.
use Rattle.std.specs.Prelude.{ℕ, ◌+◌, ◌-◌, ◌≡◌, ◌==◌, ◌||◌, ◌&&◌, nat_le, Bool, true, false, codes, if◌then◌else◌, List, [], ◌∷◌, ◌++◌, take, drop}
use Rattle.std.specs.Char.{is_ascii_whitespace}
use Rattle.std.specs.List.{count_by}
use Rattle.zf_tree.specs.declared.span.Span.{Span}
use Rattle.zf_messages.specs.declared.places.Known.{Known}
use Rattle.zf_messages.specs.declared.places.Mode.{Mode}
use Rattle.zf_messages.specs.declared.places.Mode.TheVariants.{Symbols, Gap, Comment, Command, Tab}

abbrev pub newlines : List ℕ → ℕ
newlines bytes = count_by (λ b. b == 10) bytes

-- the number of the line, from 1, on which the byte at the place stands
abbrev pub line_at : (source : List ℕ) → (place : ℕ) → ℕ
line_at source place = 1 + newlines (take place source)

-- the line is that of the place
abbrev pub IsKnown : (source : List ℕ) → Known → Type 0
IsKnown source k = k.line ≡ line_at source k.place

abbrev pub slice : (source : List ℕ) → Span → List ℕ
slice source s = take (s.stop - s.start) (drop s.start source)

-- blanks, line ends and `~`
abbrev pub is_gap : ℕ → Bool
is_gap b = is_ascii_whitespace b || (b == 126)

-- what makes a space of a backslash: `\,`, `\:`, `\;`, `\!` or `\ `
abbrev pub is_spacing : ℕ → Bool
is_spacing b = (b == 44) || (b == 58) || (b == 59) || (b == 33) || (b == 32)

-- what makes a tabulator of `\t`
abbrev pub is_tab : ℕ → Bool
is_tab b = nat_le 49 b && nat_le b 57

-- what stands before a symbol, which comes after a gap or not
abbrev pub blank : (after_gap : Bool) → List ℕ
blank after_gap = if after_gap then codes " " else []

-- what a byte adds, and how the text goes on
pub record Step : Type 0 where
  pub adds : List ℕ
  pub next : Mode

abbrev pub adding : List ℕ → (next : Mode) → Step
adding bs m = record { adds = bs; next = m }

-- of a byte with which a symbol or a gap may begin
abbrev pub first : (after_gap : Bool) → ℕ → Step
first g b = if is_gap b then adding [] Gap else if b == 37 then adding [] Comment else if b == 92 then adding [] (Command g) else adding (blank g ++ b ∷ []) Symbols

abbrev pub behind_comment : ℕ → Mode
behind_comment b = if b == 10 then Gap else Comment

abbrev pub behind_backslash : (after_gap : Bool) → ℕ → Step
behind_backslash g b = if is_spacing b then adding [] Gap else if b == 116 then adding [] (Tab g) else adding (blank g ++ 92 ∷ b ∷ []) Symbols

abbrev pub behind_tab : (after_gap : Bool) → ℕ → Step
behind_tab g b = if is_tab b then adding [] Gap else adding (blank g ++ 92 ∷ 116 ∷ (first false b).adds) (first false b).next

-- after a symbol, in a gap, in a comment in a gap, after a backslash, or after `\t`
abbrev pub step : Mode → ℕ → Step
step Symbols b = first false b
step Gap b = first true b
step Comment b = adding [] (behind_comment b)
step (Command g) b = behind_backslash g b
step (Tab g) b = behind_tab g b

-- what is left of bytes
abbrev pub squeezed_in : Mode → List ℕ → List ℕ
squeezed_in m [] = []
squeezed_in m (b ∷ bs) = (step m b).adds ++ squeezed_in (step m b).next bs

-- on one line: each gap between symbols, with the comments in it, is one blank
abbrev pub squeezed : List ℕ → List ℕ
squeezed bytes = squeezed_in Symbols bytes

-- what the source has there, on one line
abbrev pub quoted : (source : List ℕ) → Span → List ℕ
quoted source s = squeezed (slice source s)
