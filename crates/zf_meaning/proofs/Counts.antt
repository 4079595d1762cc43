-- The given sets among globals, and how many elements each type has, one global after another.
use Rattle.zf_meaning.proofs.Prelude.{◌++◌, ◌+◌, ◌∙◌, ◌∷◌, ◌≡◌, [], add-one, ap, append-nil, append_assoc, arith, drop, length, List, None, Option, refl, Some, subst, suc, sym, zero, ℕ, All-contains, Contains-append_left, Contains-append_right, Contains, MatchOption, option_to_list, slice_get, abbreviation, constructor, Defined, Definition, free_type, given_set, schema, AreComplete, AreSizes, given_sets, IsStated, names, with_given, Size, CountsAt, CountsBy, CountsFor, given_at, given_by}

with-before : (name : List ℕ) (d : Definition) (rest : List (List ℕ)) → with_given name d rest ≡ with_given name d [] ++ rest
with-before name (given_set n) rest = refl
with-before name (free_type n xs) rest = refl
with-before name (constructor n t place) rest = refl
with-before name (abbreviation t r x) rest = refl
with-before name (schema a) rest = refl

given-suc : (g : List Defined) (place : ℕ) → given_sets (drop place g) ≡ given_at place g ++ given_sets (drop (suc place) g)
given-suc [] zero = refl
given-suc [] (suc place) = refl
given-suc (d ∷ g) zero = with-before d.name d.definition (given_sets g)
given-suc (d ∷ g) (suc place) = given-suc g place

pub given-step : (g : List Defined) (place : ℕ) → given_sets (drop place g) ≡ given_at place g ++ given_sets (drop (place + 1) g)
given-step g place = given-suc g place ∙ ap (λ k. given_at place g ++ given_sets (drop k g)) (sym (add-one place))

pub given-more : (g : List Defined) (place : ℕ) (old new : List (List ℕ)) → old ++ given_sets (drop place g) ≡ given_sets g → new ≡ old ++ given_at place g
    → new ++ given_sets (drop (place + 1) g) ≡ given_sets g
given-more g place old new h e = ap (λ xs. xs ++ given_sets (drop (place + 1) g)) e ∙ append_assoc old (given_at place g) (given_sets (drop (place + 1) g))
    ∙ ap (λ xs. old ++ xs) (sym (given-step g place)) ∙ h

drop_past : {A : Type 0} (n : ℕ) (xs : List A) → length xs ≡ n → drop n xs ≡ []
drop_past zero [] h = refl
drop_past (suc n) [] h = refl
drop_past zero (x ∷ xs) h = absurd (omega arith)
drop_past (suc n) (x ∷ xs) h = drop_past n xs (omega arith)

-- ---- sizes

counted : (stated : List Size) (name : List ℕ) (d : Definition) (o : Option ℕ) (later : List ℕ) (g : List Defined) → CountsFor stated name d o
    → AreSizes stated g later → AreSizes stated (record { name = name; definition = d } ∷ g) (option_to_list o ++ later)
counted stated name (given_set n) o later g h k = (later, k, (h.0, h.1, ap (λ p. option_to_list p ++ later) h.2))
counted stated name (free_type n xs) o later g h k = (later, k, ap (λ p. option_to_list p ++ later) h)
counted stated name (constructor n t place) o later g h k = (later, k, ap (λ p. option_to_list p ++ later) h)
counted stated name (abbreviation t r x) o later g h k = (later, k, ap (λ p. option_to_list p ++ later) h)
counted stated name (schema a) o later g h k = (later, k, ap (λ p. option_to_list p ++ later) h)

count-suc : (stated : List Size) (g : List Defined) (place : ℕ) (o : Option ℕ) (later : List ℕ) → CountsAt stated place g o
    → AreSizes stated (drop (suc place) g) later → AreSizes stated (drop place g) (option_to_list o ++ later)
count-suc stated [] zero o later h k = subst (λ p. option_to_list p ++ later ≡ []) (sym h) k
count-suc stated [] (suc place) o later h k = subst (λ p. option_to_list p ++ later ≡ []) (sym h) k
count-suc stated (d ∷ g) zero o later h k = counted stated d.name d.definition o later g h k
count-suc stated (d ∷ g) (suc place) o later h k = count-suc stated g place o later h k

abbrev pub CountsTo : List Size → List Defined → ℕ → List ℕ → Type 0
CountsTo stated g place counts = (later : List ℕ) → AreSizes stated (drop place g) later → AreSizes stated g (counts ++ later)

pub count-more : (stated : List Size) (g : List Defined) (place : ℕ) (o : Option ℕ) (old new : List ℕ) → CountsAt stated place g o
    → CountsTo stated g place old → new ≡ old ++ option_to_list o → CountsTo stated g (place + 1) new
count-more stated g place o old new c h e later k =
    subst (AreSizes stated g) (sym (append_assoc old (option_to_list o) later) ∙ ap (λ xs. xs ++ later) (sym e))
    (h (option_to_list o ++ later) (count-suc stated g place o later c (subst (λ n. AreSizes stated (drop n g) later) (add-one place) k)))

pub count-all : (stated : List Size) (g : List Defined) (n : ℕ) (counts : List ℕ) → length g ≡ n → CountsTo stated g n counts → AreSizes stated g counts
count-all stated g n counts l h = subst (AreSizes stated g) (append-nil counts) (h [] (subst (λ xs. AreSizes stated xs []) (sym (drop_past n g l)) refl))

-- a given set stands among them
pub given_here : (g : List Defined) (place : ℕ) (name : List ℕ) → given_at place g ≡ name ∷ [] → Contains (given_sets g) name
given_here [] place name h = absurd (cc)
given_here (d ∷ g) zero name h =
    subst (λ xs. Contains xs name) (sym (with-before d.name d.definition (given_sets g)))
    (Contains-append_left (with_given d.name d.definition []) (given_sets g) name (subst (λ xs. Contains xs name) (sym h) ((zero, omega arith, refl))))
given_here (d ∷ g) (suc place) name h =
    subst (λ xs. Contains xs name) (sym (with-before d.name d.definition (given_sets g))) (Contains-append_right (with_given d.name d.definition []) (given_sets g) name (given_here g place name h))

-- the size of a given set that is at this place
pub count_given : (stated : List Size) (g : List Defined) (place n : ℕ) (name : List ℕ) (r : Option ℕ)
    → slice_get g place ≡ Some (record { name = name; definition = given_set n }) → AreComplete (given_sets g) stated
    → MatchOption r (¬ (Contains (names stated) name)) (λ count. IsStated stated name count) → CountsAt stated place g r
count_given stated g place n name (Some count) e h s = subst (λ d. CountsBy stated d (Some count)) (sym e) (count, s, refl)
count_given stated g place n name None e h s = absurd (s (All-contains (λ set. Contains (names stated) set) (given_sets g) name h.sized (given_here g place name (ap given_by e))))
