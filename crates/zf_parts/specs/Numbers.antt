-- Parts as numbers: the places of a part's values in their ranges are its digits. No public clause rests on this file.
use Rattle.std.specs.Prelude.{◌≡◌, ◌⊎◌, ℕ, zero, suc, ◌+◌, ◌-◌, ◌*◌, ◌/◌, ◌%◌, ◌<◌, ◌≤◌, Bool, cond, eqb, true, false, List, [], ◌∷◌, length, map, All, Option, Some, None, slice_get, slice_index_or}
use Rattle.zf_parts.specs.Prelude.{Format, Status, Done, PastBounds, end_line, out_line, Comp, Schema, Spelling, Value, value_order, True, Out, Ahead, AreAscending, ComesAfter, ended, Event, IsAhead, IsEvent, IsLater, Stage, Takes, Environment, property, values_at}
use Rattle.std.specs.Int.{bit_at}
use Rattle.zf_walk.specs.declared.judge.Truth.{Truth}
use Rattle.zf_parts.specs.declared.marks.Marks.{Marks}
use Rattle.zf_parts.specs.declared.page.Sight.{Sight}
use Rattle.zf_parts.specs.declared.page.Sight.TheVariants.{Free, Marked}
use Rattle.zf_parts.specs.declared.page.Page.{Page}
use Rattle.zf_parts.specs.declared.meeting.Met.{Met}
use Rattle.zf_parts.specs.declared.weights.Weights.{Weights}
use Rattle.zf_parts.specs.declared.words.Words.{Words}

-- ---- numbers

-- the ranges at these places
abbrev pub ranges_at : List (List Value) → (places : List ℕ) → List (List Value)
ranges_at ranges places = map (λ p. slice_index_or ranges p []) places

-- how many rows they have
abbrev pub total : List (List Value) → ℕ
total [] = 1
total (range ∷ ranges) = length range * total ranges

-- what a digit counts: how many rows the ranges after have
abbrev pub weights : List (List Value) → List ℕ
weights [] = []
weights (range ∷ ranges) = total ranges ∷ weights ranges

-- the number of values that stand in ranges: their places are its digits
abbrev pub IsNumber : List (List Value) → List Value → ℕ → Type 0
IsNumber [] [] n = n ≡ 0
IsNumber [] (v ∷ values) n = ⊥
IsNumber (range ∷ ranges) [] n = ⊥
IsNumber (range ∷ ranges) (v ∷ values) n = (d : ℕ) × (rest : ℕ) × (slice_get range d ≡ Some v) × IsNumber ranges values rest × (n ≡ d * total ranges + rest)

-- what digits count
abbrev pub counted : List (List Value) → (digits : List ℕ) → ℕ
counted [] digits = 0
counted (range ∷ ranges) [] = 0
counted (range ∷ ranges) (d ∷ digits) = d * total ranges + counted ranges digits

-- each place is that of a range, and there are some rows, but no more than so many
pub record AreWeights (ranges : List (List Value)) (places : List ℕ) (w : Weights) : Type 0 where
  pub below : All (λ p. p < length ranges) places
  pub each : w.each.items ≡ weights (ranges_at ranges places)
  pub count : w.count ≡ total (ranges_at ranges places)
  pub some : 0 < w.count
  pub few : w.count ≤ 134217728

-- ---- what is met

-- a word of a page that has this number
abbrev pub page_word : Option Page → (number : ℕ) → (word : ℕ) → ℕ
page_word None number word = 0
page_word (Some page) number word = cond (eqb page.number number) (slice_index_or page.words word 0) 0

-- words of 64 bits, sixteen a page: 0 where the page at the place is another's, or none is
abbrev pub word_in : (places : List ℕ) → List Page → ℕ → ℕ
word_in places pages k = page_word (slice_get pages (slice_index_or places (k / 16) 0)) (k / 16) (k % 16)

abbrev pub word_at : Words → ℕ → ℕ
word_at words k = word_in words.places.items words.pages.items k

-- a page stands at its place
pub record IsKept (places : List ℕ) (pages : List Page) (number at : ℕ) : Type 0 where
  pub stands : slice_index_or places number 0 ≡ at
  pub page : Page
  pub there : slice_get pages at ≡ Some page
  pub is : page.number ≡ number

-- the bit of a number in its page
abbrev pub bit_of : Page → ℕ → Bool
bit_of page n = eqb (bit_at (slice_index_or page.words (n / 64 % 16) 0) (n % 64)) 1

-- pages, counted from 1
abbrev pub counted_page : List Page → ℕ → Option Page
counted_page pages zero = None
counted_page pages (suc place) = slice_get pages place

-- of a page its bits; where it is not there the number of the entry, counted from 1
abbrev pub page_has : Option Page → (entry : ℕ) → ℕ → Bool
page_has None entry n = eqb entry (n % 1024 + 1)
page_has (Some page) entry n = cond (eqb page.number (n / 1024)) (bit_of page n) (eqb entry (n % 1024 + 1))

-- after the numbers of a page an entry is a place
abbrev pub has_in : List Page → (entry : ℕ) → ℕ → Bool
has_in pages entry n = page_has (counted_page pages (entry - 1024)) entry n

abbrev pub is_marked : Marks → ℕ → Bool
is_marked marks n = has_in marks.pages.items (word_at marks.entries (n / 1024)) n

-- an entry is the place of a page
pub record IsPlaced (pages : List Page) (entry number at : ℕ) : Type 0 where
  pub entry_is : entry ≡ at + 1025
  pub page : Page
  pub there : slice_get pages at ≡ Some page
  pub is : page.number ≡ number

-- up to where it is reported
abbrev pub reached : Sight → ℕ
reached (Marked found) = found + 1
reached (Free next) = next

-- what is reported of the numbers from one on
abbrev pub IsSight : (has : ℕ → Bool) → ℕ → Sight → Type 0
IsSight has number (Marked found) = (number ≤ found) × (has found ≡ true) × ((n : ℕ) → number ≤ n → n < found → has n ≡ false)
IsSight has number (Free next) = (number < next) × ((n : ℕ) → number ≤ n → n < next → has n ≡ false)

-- no number from one on and below another is marked
abbrev pub AreFree : Marks → ℕ → ℕ → Type 0
AreFree marks from end = (n : ℕ) → from ≤ n → n < end → is_marked marks n ≡ false

-- it is the first event whose values at the places are those with this number; they are asked for
pub record IsFirstOf (e : Environment) (a : Schema) (ranges : List (List Value)) (named : Option (List Value)) (places : List ℕ) (after : Option (List Value)) (n : ℕ) (x : Event Value) : Type 0 where
  pub event : IsEvent value_order (property e a.conjuncts) ranges named x
  pub asked : IsLater value_order after (values_at places x.row)
  pub number : IsNumber (ranges_at ranges places) (values_at places x.row) n
  pub first : (y : Event Value) → IsEvent value_order (property e a.conjuncts) ranges named y → values_at places y.row ≡ values_at places x.row
      → (y ≡ x) ⊎ ComesAfter value_order x.row y.row

-- the rows with numbers below the end are looked at; that with the end's own is out, if there is one
abbrev pub IsEndOf : Environment → Schema → (ranges : List (List Value)) → (named : Option (List Value)) → (places : List ℕ) → (after : Option (List Value)) → (end : ℕ) → (out : Option (List Value)) → Type 0
IsEndOf e a ranges named places after end None = end ≡ total (ranges_at ranges places)
IsEndOf e a ranges named places after end (Some row) = (x : Event Value) × IsFirstOf e a ranges named places after end x × (x.truth ≡ Out) × (x.row ≡ row)

-- Of the events that are not ahead: below the end the numbers that are marked are exactly those of the parts that some of them have, and the first event of each is True.
pub record AreMarked (e : Environment) (a : Schema) (ranges : List (List Value)) (named : Option (List Value)) (places : List ℕ) (after : Option (List Value)) (left : Ahead Value) (m : Met) : Type 0 where
  pub ascending : AreAscending value_order ranges
  pub weights : AreWeights ranges places m.weights
  pub low : m.end ≤ m.weights.count
  pub ends : IsEndOf e a ranges named places after m.end m.out
  pub met : (x : Event Value) → IsEvent value_order (property e a.conjuncts) ranges named x → IsAhead value_order left x.row
      ⊎ (IsLater value_order after (values_at places x.row) → (n : ℕ) → IsNumber (ranges_at ranges places) (values_at places x.row) n → n < m.end → is_marked m.marks n ≡ true)
  pub holds : (n : ℕ) → n < m.end → is_marked m.marks n ≡ true → (x : Event Value) × IsFirstOf e a ranges named places after n x × (x.truth ≡ True)

-- of all events
abbrev pub AreAllMarked : Environment → Schema → Stage Value → (places : List ℕ) → (after : Option (List Value)) → Met → Type 0
AreAllMarked e a b places after m = AreMarked e a b.ranges b.after places after ended m

-- with the event that a step takes
abbrev pub Meets : (row : List Value) → (ranges : List (List Value)) → Truth → (places : List ℕ) → (after : Option (List Value)) → Met → Met → Type 0
Meets row ranges truth places after old new = (e : Environment) (a : Schema) (named : Option (List Value)) (c d : Ahead Value)
    → Takes value_order (property e a.conjuncts) ranges named c (record { row = row; truth = truth }) d
    → AreMarked e a ranges named places after c old → AreMarked e a ranges named places after d new

-- ---- how the text ends

abbrev pub end_text : Format → List Spelling → List Comp → (out : Option (List Value)) → List ℕ
end_text f ss cs None = end_line f
end_text f ss cs (Some row) = out_line f ss cs row

abbrev pub end_status : (out : Option (List Value)) → Status
end_status None = Done
end_status (Some row) = PastBounds
