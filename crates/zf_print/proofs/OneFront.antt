-- A text begins with the text of one value of a type alone.
use Rattle.zf_print.proofs.Prelude.{◌++◌, ◌<◌, ◌^◌, ◌∙◌, ◌∷◌, ◌≡◌, [], ap, arith, codes, false, List, map, negsuc, None, Option, pos, refl, Some, subst, suc, sym, true, zero, ℕ, ℤ, decimal_nonempty, signed_decimal_injective, append_assoc, signed_decimal, w64, FitsSigned, slice_get, Elem, Int, SetOf, Tuple, Value, basic, int, no_types, power, product, Ty, type, Tys, Environment, type_number, AreOfTypes, IsExistingElement, IsOfType, AreClear, Ends, is_in_word, spelled, Closes, comma_before, EndsAs, goes_on, is_opening, later_parts, parted, value_in, element_in, set_in, tuple_in, string_text, Format, Lines, Objects, Spelling, AllByRecursion}
use Rattle.zf_print.proofs.Printing.{front}
use Rattle.zf_print.proofs.TextsSeen.{of-Int, of-Elem, of-Tuple, of-SetOf}
use Rattle.zf_print.proofs.WordRuns.{one_run, never, signed_in_word}
use Rattle.std.specs.Int.Signed.{mag}
use Rattle.std.specs.Option.{option_map_or}
use Rattle.std.proofs.lemmas.Option.{same_Some}
use Rattle.zf_format.proofs.OneString.{one_string}
use Rattle.zf_print.proofs.Spelled.{cancel, IsWord, spelled_word, spelled_one}

pub ends_closing : (r : List ℕ) → Closes r → Ends r
ends_closing [] c = tt
ends_closing (b ∷ r) c = c.0

pub ends_later : (ts : List (List ℕ)) (r : List ℕ) → Closes r → Ends (later_parts ts ++ r)
ends_later [] r c = ends_closing r c
ends_later (t ∷ ts) r c = refl

pub ends_as : (t : Ty) (r : List ℕ) → Ends r → EndsAs t r
ends_as int r h = h
ends_as (basic name) r h = h
ends_as (power t) r h = tt
ends_as (product ts) r h = tt

-- ---- numbers

signed_word : (n : ℤ) → FitsSigned w64 n → IsWord (signed_decimal n)
signed_word (pos n) fits = (signed_in_word (pos n) fits, decimal_nonempty n (omega (arith, fits)))
signed_word (negsuc n) fits = (signed_in_word (negsuc n) fits, omega arith)

word_of_number : (f : Format) (ss : List Spelling) (e : Environment) (v : Value) → IsOfType e int v → IsWord (value_in f ss v)
word_of_number f ss e v (n, is, fits) = subst IsWord (sym (ap (value_in f ss) is ∙ of-Int f ss n)) (signed_word n fits)

pub magnitude : (n : ℤ) → FitsSigned w64 n → mag n < 2 ^ 63
magnitude (pos n) fits = omega (arith, fits)
magnitude (negsuc n) fits = omega (arith, fits)

one_number : (m n : ℤ) → FitsSigned w64 m → FitsSigned w64 n → signed_decimal m ≡ signed_decimal n → m ≡ n
one_number m n a b e = signed_decimal_injective m n (magnitude m a) (magnitude n b) e

number_told : (f : Format) (ss : List Spelling) (e : Environment) (v w : Value) → IsOfType e int v → IsOfType e int w → value_in f ss v ≡ value_in f ss w → v ≡ w
number_told f ss e v w (m, is, fits) (n, are, fit) h =
    let same = one_number m n fits fit (sym (ap (value_in f ss) is ∙ of-Int f ss m) ∙ h ∙ ap (value_in f ss) are ∙ of-Int f ss n) in
    is ∙ ap Int same ∙ sym are

-- ---- elements

pub element_spelled : (f : Format) (ss : List Spelling) (n i : ℕ) (v : Value) (s : Spelling) → v ≡ Elem n i → slice_get ss n ≡ Some s → value_in f ss v ≡ element_in f (spelled s i)
element_spelled f ss n i v s is found = ap (value_in f ss) is ∙ of-Elem f ss n i ∙ ap (λ o. element_in f (option_map_or (λ x. spelled x i) o [])) found

one_word : (f : Format) (a b r s : List ℕ) → IsWord a → IsWord b → Ends r → Ends s → element_in f a ++ r ≡ element_in f b ++ s → (a ≡ b) × (r ≡ s)
one_word Lines a b r s x y g h q = one_run a b r s x.0 y.0 g h q
one_word Objects a b r s x y g h q = one_string a b r s q

one_element : (f : Format) (ss : List Spelling) (e : Environment) (o : Option ℕ) (v w : Value) (r t : List ℕ) → AreClear ss e.sizes → IsExistingElement e o v
    → IsExistingElement e o w → Ends r → Ends t → value_in f ss v ++ r ≡ value_in f ss w ++ t → (v ≡ w) × (r ≡ t)
one_element f ss e None v w r t c g h a b q = absurd g
one_element f ss e (Some n) v w r t c (k, i, at, l, is) (m, j, there, less, are) a b q =
    let (s, found, clear) = c.spelled n k at in
    let sizes : k ≡ m = same_Some k m (sym at ∙ there) in
    let texts : element_in f (spelled s i) ++ r ≡ element_in f (spelled s j) ++ t = sym (ap (λ l. l ++ r) (element_spelled f ss n i v s is found)) ∙ q
    ∙ ap (λ l. l ++ t) (element_spelled f ss n j w s are found) in
    let words = one_word f (spelled s i) (spelled s j) r t (spelled_word s k i clear l) (spelled_word s k j clear (omega arith)) a b texts in
    let places = spelled_one s k i j clear l (omega arith) words.0 in
    (is ∙ ap (Elem n) places ∙ sym are, words.1)

-- ---- what a text begins with

begins_word : (t r s : List ℕ) → IsWord t → Closes r → t ++ s ≡ r → ⊥
begins_word [] r s w c e = let l : 0 < 0 = w.1 in omega arith
begins_word (b ∷ t) [] s w c e = (cc)
begins_word (b ∷ t) (x ∷ r) s w c e =
    let same : b ≡ x = (cc) in
    never b t w.0 (ap is_in_word same ∙ c.0)

begins_opening : (b : ℕ) (t r : List ℕ) → is_opening b ≡ true → Closes r → b ∷ t ≡ r → ⊥
begins_opening b t [] o c e = (cc)
begins_opening b t (x ∷ r) o c e =
    let same : b ≡ x = (cc) in
    let not_so : is_opening b ≡ false = ap is_opening same ∙ c.1 in
    (cc)

begins_string : (a r s : List ℕ) → Closes r → string_text a ++ s ≡ r → ⊥
unfolding string_text
begins_string a r s k q = begins_opening 34 _ r refl k q

begins_element : (f : Format) (a r s : List ℕ) → IsWord a → Closes r → element_in f a ++ s ≡ r → ⊥
begins_element Lines a r s w c q = begins_word a r s w c q
begins_element Objects a r s w c q = begins_string a r s c q

element_closes : (f : Format) (ss : List Spelling) (e : Environment) (o : Option ℕ) (v : Value) (r t : List ℕ) → AreClear ss e.sizes → IsExistingElement e o v → Closes r → value_in f ss v ++ t ≡ r → ⊥
element_closes f ss e None v r t c h k q = absurd h
element_closes f ss e (Some n) v r t c (m, i, at, l, is) k q =
    let (s, found, clear) = c.spelled n m at in
    begins_element f (spelled s i) r t (spelled_word s m i clear l) k (sym (ap (λ l. l ++ t) (element_spelled f ss n i v s is found)) ∙ q)

begins_set : (f : Format) (ts : List (List ℕ)) (r s : List ℕ) → Closes r → set_in f ts ++ s ≡ r → ⊥
begins_set Lines ts r s k q = begins_opening 123 _ r refl k q
begins_set Objects ts r s k q = begins_opening 91 _ r refl k q

begins_tuple : (f : Format) (ts : List (List ℕ)) (r s : List ℕ) → Closes r → tuple_in f ts ++ s ≡ r → ⊥
begins_tuple Lines ts r s k q = begins_opening 40 _ r refl k q
begins_tuple Objects ts r s k q = begins_opening 91 _ r refl k q

-- the text of a value doesn't begin with what closes
begins_no_closing : (f : Format) (ss : List Spelling) (e : Environment) (t : Ty) (v : Value) (r s : List ℕ) → AreClear ss e.sizes → IsOfType e t v → Closes r → value_in f ss v ++ s ≡ r → ⊥
begins_no_closing f ss e int v r s c h k q = begins_word (value_in f ss v) r s (word_of_number f ss e v h) k q
begins_no_closing f ss e (basic name) v r s c h k q = element_closes f ss e (type_number e name) v r s c h k q
begins_no_closing f ss e (power t) v r s c (xs, is, up, few, h) k q =
    begins_set f (map (value_in f ss) xs) r s k (sym (ap (λ b. b ++ s) (ap (value_in f ss) is ∙ of-SetOf f ss xs)) ∙ q)
begins_no_closing f ss e (product ts) v r s c (vs, is, h) k q =
    begins_tuple f (map (value_in f ss) vs) r s k (sym (ap (λ b. b ++ s) (ap (value_in f ss) is ∙ of-Tuple f ss vs)) ∙ q)

later_no_closing : (t : List ℕ) (ts : List (List ℕ)) (r s : List ℕ) → Closes r → later_parts (t ∷ ts) ++ s ≡ r → ⊥
later_no_closing t ts r s k q = begins_opening 44 _ r refl k q

-- ---- one value, one list

inside : (x : ℕ) (a b c d r s : List ℕ) → (x ∷ a ++ b) ++ r ≡ (x ∷ c ++ d) ++ s → a ++ (b ++ r) ≡ c ++ (d ++ s)
inside x a b c d r s q =
    let without : a ++ b ++ r ≡ c ++ d ++ s = (cc) in
    sym (append_assoc a b r) ∙ without ∙ append_assoc c d s

set_end : Format → List ℕ
set_end Lines = codes "}"
set_end Objects = codes "]"

tuple_end : Format → List ℕ
tuple_end Lines = codes ")"
tuple_end Objects = codes "]"

set_closes : (f : Format) (r : List ℕ) → Closes (set_end f ++ r)
unfolding set_end
set_closes Lines r = (refl, refl)
set_closes Objects r = (refl, refl)

tuple_closes : (f : Format) (r : List ℕ) → Closes (tuple_end f ++ r)
unfolding tuple_end
tuple_closes Lines r = (refl, refl)
tuple_closes Objects r = (refl, refl)

inside_set : (f : Format) (ts us : List (List ℕ)) (r s : List ℕ) → set_in f ts ++ r ≡ set_in f us ++ s → parted ts ++ (set_end f ++ r) ≡ parted us ++ (set_end f ++ s)
unfolding set_end
inside_set Lines ts us r s q = inside 123 (parted ts) (codes "}") (parted us) (codes "}") r s q
inside_set Objects ts us r s q = inside 91 (parted ts) (codes "]") (parted us) (codes "]") r s q

inside_tuple : (f : Format) (ts us : List (List ℕ)) (r s : List ℕ) → tuple_in f ts ++ r ≡ tuple_in f us ++ s → parted ts ++ (tuple_end f ++ r) ≡ parted us ++ (tuple_end f ++ s)
unfolding tuple_end
inside_tuple Lines ts us r s q = inside 40 (parted ts) (codes ")") (parted us) (codes ")") r s q
inside_tuple Objects ts us r s q = inside 91 (parted ts) (codes "]") (parted us) (codes "]") r s q

-- a text begins with the text of one value of this type alone
abbrev pub OneAt : Format → List Spelling → Environment → Ty → Type 0
OneAt f ss e t = (v w : Value) (r s : List ℕ) → IsOfType e t v → IsOfType e t w → EndsAs t r → EndsAs t s → value_in f ss v ++ r ≡ value_in f ss w ++ s → (v ≡ w) × (r ≡ s)

-- the first of several values, and what follows it
one_step : (f : Format) (ss : List Spelling) (e : Environment) (t : Ty) (one : OneAt f ss e t) (n : ℕ) (x y : Value) (xs ys : List Value) (r s : List ℕ)
    → IsOfType e t x → IsOfType e t y → Closes r → Closes s → goes_on n (map (value_in f ss) (x ∷ xs)) ++ r ≡ goes_on n (map (value_in f ss) (y ∷ ys)) ++ s
    → (x ≡ y) × (later_parts (map (value_in f ss) xs) ++ r ≡ later_parts (map (value_in f ss) ys) ++ s)
one_step f ss e t one n x y xs ys r s h g a b q =
    one x y _ _ h g (ends_as t _ (ends_later (map (value_in f ss) xs) r a)) (ends_as t _ (ends_later (map (value_in f ss) ys) s b))
    (cancel (comma_before n) _ _ (sym (front n (value_in f ss x) (map (value_in f ss) xs) r) ∙ q ∙ front n (value_in f ss y) (map (value_in f ss) ys) s))

some_no_closing : (f : Format) (ss : List Spelling) (e : Environment) (t : Ty) (n : ℕ) (x : Value) (xs : List Value) (r s : List ℕ) → AreClear ss e.sizes
    → IsOfType e t x → Closes r → goes_on n (map (value_in f ss) (x ∷ xs)) ++ s ≡ goes_on n [] ++ r → ⊥
some_no_closing f ss e t zero x xs r s c h k q = begins_no_closing f ss e t x r _ c h k (sym (append_assoc (value_in f ss x) _ s) ∙ q)
some_no_closing f ss e t (suc n) x xs r s c h k q = later_no_closing (value_in f ss x) (map (value_in f ss) xs) r s k q

one_members : (f : Format) (ss : List Spelling) (e : Environment) (t : Ty) (one : OneAt f ss e t) (c : AreClear ss e.sizes) (n : ℕ) (xs ys : List Value)
    (r s : List ℕ) → AllByRecursion (λ z. IsOfType e t z) xs → AllByRecursion (λ z. IsOfType e t z) ys → Closes r → Closes s
    → goes_on n (map (value_in f ss) xs) ++ r ≡ goes_on n (map (value_in f ss) ys) ++ s → (xs ≡ ys) × (r ≡ s)
one_members f ss e t one c n [] [] r s h g a b q = (refl, cancel (goes_on n []) r s q)
one_members f ss e t one c n [] (y ∷ ys) r s h g a b q = absurd (some_no_closing f ss e t n y ys r s c g.0 a (sym q))
one_members f ss e t one c n (x ∷ xs) [] r s h g a b q = absurd (some_no_closing f ss e t n x xs s r c h.0 b q)
one_members f ss e t one c n (x ∷ xs) (y ∷ ys) r s h g a b q =
    let first = one_step f ss e t one n x y xs ys r s h.0 g.0 a b q in
    let others = one_members f ss e t one c 1 xs ys r s h.1 g.1 a b first.1 in
    ((cc), others.1)

mutual
  pub one_front : (f : Format) (ss : List Spelling) (e : Environment) (c : AreClear ss e.sizes) (t : Ty) (v w : Value) (r s : List ℕ) → IsOfType e t v
      → IsOfType e t w → EndsAs t r → EndsAs t s → value_in f ss v ++ r ≡ value_in f ss w ++ s → (v ≡ w) × (r ≡ s)
  one_front f ss e c int v w r s h g a b q =
      let words = one_run (value_in f ss v) (value_in f ss w) r s (word_of_number f ss e v h).0 (word_of_number f ss e w g).0 a b q in
      (number_told f ss e v w h g words.0, words.1)
  one_front f ss e c (basic name) v w r s h g a b q = one_element f ss e (type_number e name) v w r s c h g a b q
  one_front f ss e c (power t) v w r s (xs, is, up, few, h) (ys, are, go, all, g) a b q =
      let texts = sym (ap (λ b. b ++ r) (ap (value_in f ss) is ∙ of-SetOf f ss xs)) ∙ q ∙ ap (λ b. b ++ s) (ap (value_in f ss) are ∙ of-SetOf f ss ys) in
      let shorn = inside_set f (map (value_in f ss) xs) (map (value_in f ss) ys) r s texts in
      let lists = one_members f ss e t (one_front f ss e c t) c zero xs ys (set_end f ++ r) (set_end f ++ s) h g (set_closes f r) (set_closes f s) shorn in
      (is ∙ ap SetOf lists.0 ∙ sym are, cancel (set_end f) r s lists.1)
  one_front f ss e c (product ts) v w r s (vs, is, h) (ws, are, g) a b q =
      let texts = sym (ap (λ b. b ++ r) (ap (value_in f ss) is ∙ of-Tuple f ss vs)) ∙ q ∙ ap (λ b. b ++ s) (ap (value_in f ss) are ∙ of-Tuple f ss ws) in
      let shorn = inside_tuple f (map (value_in f ss) vs) (map (value_in f ss) ws) r s texts in
      let lists = one_tuple f ss e c ts zero vs ws (tuple_end f ++ r) (tuple_end f ++ s) h g (tuple_closes f r) (tuple_closes f s) shorn in
      (is ∙ ap Tuple lists.0 ∙ sym are, cancel (tuple_end f) r s lists.1)

  one_tuple : (f : Format) (ss : List Spelling) (e : Environment) (c : AreClear ss e.sizes) (ts : Tys) (n : ℕ) (vs ws : List Value) (r s : List ℕ)
      → AreOfTypes e ts vs → AreOfTypes e ts ws → Closes r → Closes s → goes_on n (map (value_in f ss) vs) ++ r ≡ goes_on n (map (value_in f ss) ws) ++ s
      → (vs ≡ ws) × (r ≡ s)
  one_tuple f ss e c no_types n vs ws r s h g a b q =
      (h ∙ sym g, cancel (goes_on n []) r s (sym (ap (λ l. goes_on n (map (value_in f ss) l) ++ r) h) ∙ q ∙ ap (λ l. goes_on n (map (value_in f ss) l) ++ s) g))
  one_tuple f ss e c (type t ts) n vs ws r s (x, xs, is, h, hs) (y, ys, are, g, gs) a b q =
      let texts = sym (ap (λ l. goes_on n (map (value_in f ss) l) ++ r) is) ∙ q ∙ ap (λ l. goes_on n (map (value_in f ss) l) ++ s) are in
      let first = one_step f ss e t (one_front f ss e c t) n x y xs ys r s h g a b texts in
      let others = one_tuple f ss e c ts 1 xs ys r s hs gs a b first.1 in
      ((cc), others.1)
