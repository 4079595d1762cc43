-- Elements by their spellings.
use Rattle.zf_read.proofs.Prelude.{◌++◌, ◌+◌, ◌<◌, ◌^◌, ◌∙◌, ◌∷◌, ◌≡◌, ◌≤◌, ◌⊎◌, [], ap, arith, codes, get_or, inl, inr, length, List, None, Option, refl, Some, subst, suc, sym, zero, ℕ, ⊎_elim, decimal_injective, append_assoc, decimal, MatchOption, slice_get, Value, Environment, type_number, IsExistingElement, IsClear, spelled, IsSpelledType, HasNoElements, IsNoItem, IsNoSpelledType, SpellsNone, Spelling, Named, Numbered, cancel}
use denote.Bor.{Bor}

-- ---- types without elements

within : {A : Type 0} (xs : List A) (n : ℕ) (x : A) → slice_get xs n ≡ Some x → n < length xs
within [] n x h = (cc)
within (y ∷ xs) zero x h = omega arith
within (y ∷ xs) (suc n) x h = let l = within xs n x h in omega arith

pub too_large : (ss : List Spelling) (e : Environment) (n : ℕ) → 2 ^ 32 ≤ n → HasNoElements ss e n
unfolding HasNoElements
too_large ss e n l clear k at = let few = clear.numbers in let in_list = within e.sizes n k at in omega arith

pub unsized : (ss : List Spelling) (e : Environment) (n : ℕ) → slice_get e.sizes n ≡ None → HasNoElements ss e n
unfolding HasNoElements
unsized ss e n none clear k at = (cc)

pub unspelled : (ss : List Spelling) (e : Environment) (n : ℕ) → length ss ≤ n → HasNoElements ss e n
unfolding HasNoElements
unspelled ss e n none clear k at =
    let (s, found, rest) = clear.spelled n k at in
    let l = within ss n s found in
    omega arith

none_of : (ss : List Spelling) (e : Environment) (o : Option ℕ) (v : Value) → o ≡ None → IsExistingElement e o v → ⊥
none_of ss e None v is h = h
none_of ss e (Some n) v is h = (cc)

pub unnamed : (ss : List Spelling) (e : Environment) (name : List ℕ) → None ≡ type_number e name → IsNoSpelledType ss e name
unfolding IsNoSpelledType
unnamed ss e name is clear v h = none_of ss e (type_number e name) v (sym is) h

sized_of : (ss : List Spelling) (e : Environment) (o : Option ℕ) (n : ℕ) (v : Value) → o ≡ Some n → ((k : ℕ) → slice_get e.sizes n ≡ Some k → ⊥) → IsExistingElement e o v → ⊥
sized_of ss e None n v is none h = (cc)
sized_of ss e (Some m) n v is none (k, i, at, l, are) =
    let same : m ≡ n = (cc) in
    none k (ap (slice_get e.sizes) (sym same) ∙ at)

pub without_elements : (ss : List Spelling) (e : Environment) (name : List ℕ) (n : ℕ) → Some n ≡ type_number e name → HasNoElements ss e n → IsNoSpelledType ss e name
unfolding HasNoElements IsNoSpelledType
without_elements ss e name n is none clear v h = sized_of ss e (type_number e name) n v (sym is) (none clear) h

-- ---- numbers after a name

pub not_numbered : (word name : List ℕ) (i : ℕ) → IsNoItem name word → word ≡ name ++ codes "." ++ decimal (i + 1) → ⊥
unfolding IsNoItem
not_numbered word name i never q = never _ (q ∙ append_assoc name (codes ".") (decimal (i + 1)))

pub numbered_rest : (word name rest : List ℕ) (i : ℕ) → word ≡ name ++ rest → word ≡ name ++ codes "." ++ decimal (i + 1) → rest ≡ codes "." ++ decimal (i + 1)
numbered_rest word name rest i w q = cancel name _ _ (sym w ∙ q ∙ append_assoc name (codes ".") (decimal (i + 1)))

pub not_dotted : (word name rest : List ℕ) (i : ℕ) → IsNoItem (codes ".") rest → word ≡ name ++ rest → word ≡ name ++ codes "." ++ decimal (i + 1) → ⊥
unfolding IsNoItem
not_dotted word name rest i never w q = never _ (numbered_rest word name rest i w q)

pub dotted_digits : (word name rest digits : List ℕ) (i : ℕ) → word ≡ name ++ rest → rest ≡ codes "." ++ digits → word ≡ name ++ codes "." ++ decimal (i + 1) → digits ≡ decimal (i + 1)
dotted_digits word name rest digits i w r q = cancel (codes ".") _ _ (sym r ∙ numbered_rest word name rest i w q)

pub dotted : (word name rest digits : List ℕ) (i : ℕ) → word ≡ name ++ rest → rest ≡ codes "." ++ digits → digits ≡ decimal (i + 1) → word ≡ name ++ codes "." ++ decimal (i + 1)
dotted word name rest digits i w r d = w ∙ ap (λ l. name ++ l) (r ∙ ap (λ l. codes "." ++ l) d) ∙ sym (append_assoc name (codes ".") (decimal (i + 1)))

pub same_numbers : (digits : List ℕ) (m n : ℕ) → m < 2 ^ 64 → n < 2 ^ 64 → digits ≡ decimal m → digits ≡ decimal n → m ≡ n
same_numbers digits m n l k a b = decimal_injective m n l k (sym a ∙ b)

pub counted_by : (r : Option ℕ) (digits : List ℕ) (number count : ℕ) → number < 2 ^ 64 → count < 2 ^ 64 → digits ≡ decimal number
    → MatchOption r ((i : ℕ) → i < count → number ≡ i + 1 → ⊥) (λ i. (i < count) × (number ≡ i + 1))
    → MatchOption r ((i : ℕ) → i < count → digits ≡ decimal (i + 1) → ⊥) (λ i. (i < count) × (digits ≡ decimal (i + 1)))
counted_by None digits number count a b d h = λ i l q. h i l (same_numbers digits number (i + 1) a (omega arith) d q)
counted_by (Some i) digits number count a b d h = (h.0, d ∙ ap decimal h.1)

pub numbered_by : (r : Option ℕ) (word name rest digits : List ℕ) (count : ℕ) → word ≡ name ++ rest → rest ≡ codes "." ++ digits
    → MatchOption r ((i : ℕ) → i < count → digits ≡ decimal (i + 1) → ⊥) (λ i. (i < count) × (digits ≡ decimal (i + 1)))
    → MatchOption r ((i : ℕ) → i < count → word ≡ name ++ codes "." ++ decimal (i + 1) → ⊥) (λ i. (i < count) × (word ≡ name ++ codes "." ++ decimal (i + 1)))
numbered_by None word name rest digits count w x h = λ i l q. h i l (dotted_digits word name rest digits i w x q)
numbered_by (Some i) word name rest digits count w x h = (h.0, dotted word name rest digits i w x h.1)

-- ---- constructors

pub name_got : (names : List (List ℕ)) (n : ℕ) (name : List ℕ) → name ≡ get_or names n name → n < length names → spelled (Named names) n ≡ name
name_got [] n name at l = absurd (omega arith)
name_got (x ∷ names) zero name at l = sym at
name_got (x ∷ names) (suc n) name at l = name_got names n name at (omega arith)

pub none_so_far : (word : List ℕ) (names : List (List ℕ)) (n : ℕ) (name : List ℕ) → name ≡ get_or names n name → n < length names → (name ≡ word → ⊥)
    → ((i : ℕ) → i < n → word ≡ spelled (Named names) i → ⊥) → (i : ℕ) → i < n + 1 → word ≡ spelled (Named names) i → ⊥
none_so_far word names n name at l differs none i k q = ⊎_elim (λ less. none i less q)
    (λ same. differs (sym (name_got names n name at l) ∙ ap (λ j. spelled (Named names) j) (sym same) ∙ sym q)) (split i n k)
  where
    split : (i n : ℕ) → i < n + 1 → (i < n) ⊎ (i ≡ n)
    split zero zero k = inr refl
    split zero (suc n) k = inl (omega arith)
    split (suc i) zero k = absurd (omega arith)
    split (suc i) (suc n) k = ⊎_elim (λ a. inl (omega arith)) (λ b. inr (ap suc b)) (split i n (omega arith))

-- ---- what is found of a type

pub typed_by : (ss : List Spelling) (e : Environment) (name : List ℕ) (n : ℕ) (r : Option (ℕ × ℕ × Bor Spelling)) → Some n ≡ type_number e name
    → MatchOption r (HasNoElements ss e n) (λ p. (n ≡ p.0) × (slice_get e.sizes p.0 ≡ Some p.1) × (slice_get ss p.0 ≡ Some p.2.now))
    → MatchOption r (IsNoSpelledType ss e name) (λ p. IsSpelledType ss e name p.0 p.1 p.2.now)
typed_by ss e name n None is h = without_elements ss e name n is h
typed_by ss e name n (Some p) is (same, size, spelling) = record { number = sym is ∙ ap Some same; size = size; spelling = spelling }

-- ---- a word among the spellings

pub among_numbered : (r : Option ℕ) (s : Spelling) (word name : List ℕ) (count : ℕ) → s ≡ Numbered name
    → MatchOption r ((i : ℕ) → i < count → word ≡ name ++ codes "." ++ decimal (i + 1) → ⊥) (λ i. (i < count) × (word ≡ name ++ codes "." ++ decimal (i + 1)))
    → MatchOption r (SpellsNone s count word) (λ i. (i < count) × (word ≡ spelled s i))
unfolding SpellsNone
among_numbered None s word name count is h = λ clear i l q. h i l (q ∙ ap (λ x. spelled x i) is)
among_numbered (Some i) s word name count is h = (h.0, h.1 ∙ ap (λ x. spelled x i) (sym is))

pub among_named : (r : Option ℕ) (s : Spelling) (word : List ℕ) (names : List (List ℕ)) (count : ℕ) → s ≡ Named names
    → MatchOption r ((i : ℕ) → i < count → i < length names → word ≡ spelled (Named names) i → ⊥) (λ i. (i < count)
    × (word ≡ spelled (Named names) i))
    → MatchOption r (SpellsNone s count word) (λ i. (i < count) × (word ≡ spelled s i))
unfolding SpellsNone
among_named None s word names count is h = λ clear i l q.
    let few = (subst (λ x. IsClear x count) is clear).2 in
    h i l (omega arith) (q ∙ ap (λ x. spelled x i) is)
among_named (Some i) s word names count is h = (h.0, h.1 ∙ ap (λ x. spelled x i) (sym is))
