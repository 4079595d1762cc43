-- Members of lists, and lists in order.
use Rattle.zf_value.proofs.Prelude.{◌++◌, ◌+◌, ◌-◌, ◌<◌, ◌↔◌, ◌∙◌, ◌∷◌, ◌≡◌, ◌≤◌, ◌⊎◌, [], add-one, ap, arith, drop, false, get_or, inl, inr, IsTrue, length, Less, List, refl, subst, suc, sym, take, true, zero, ℕ, ⊎_elim, tied_itself, get_or_default, all_adjacent_more, AllAdjacentBelow, AllByRecursion, Contains, IsStrictlySortedBy, is_lt, IsAscending, IsMember, value_order, AreAmong, Value, Contains-get_or, total-law}
use Rattle.std.specs.declared.cmp.Ordering.{Ordering}
use Rattle.std.specs.declared.cmp.Ordering.TheVariants.{Equal, Greater}
use Rattle.std.proofs.lemmas.Map.Keys.{sorted_from_all_adjacent}

-- ---- each of a list

pub every_from : (P : Value → Type 0) (xs : List Value) → ((z : Value) → IsMember z xs → P z) → AllByRecursion P xs
every_from P [] f = tt
every_from P (x ∷ xs) f = (f x (inl refl), every_from P xs (λ z m. f z (inr m)))

pub every_at : (P : Value → Type 0) (xs : List Value) (z : Value) → AllByRecursion P xs → IsMember z xs → P z
every_at P [] z h m = absurd m
every_at P (x ∷ xs) z h m = ⊎_elim (λ s. subst P s h.0) (λ n. every_at P xs z h.1 n) m

pub every_also : (P Q : Value → Type 0) (xs : List Value) → ((z : Value) → P z → Q z) → AllByRecursion P xs → AllByRecursion Q xs
every_also P Q [] f h = tt
every_also P Q (x ∷ xs) f h = (f x h.0, every_also P Q xs f h.1)

pub every-take : (P : Value → Type 0) (n : ℕ) (xs : List Value) → AllByRecursion P xs → AllByRecursion P (take n xs)
every-take P zero xs h = tt
every-take P (suc n) [] h = tt
every-take P (suc n) (x ∷ xs) h = (h.0, every-take P n xs h.1)

-- ---- members by their places

pub member_at : (xs : List Value) (i : ℕ) (x : Value) → x ≡ get_or xs i x → i < length xs → IsMember x xs
member_at [] i x e l = absurd (omega arith)
member_at (y ∷ ys) zero x e l = inl (sym e)
member_at (y ∷ ys) (suc i) x e l = inr (member_at ys i x e (omega arith))

pub members-take_more : (xs : List Value) (i : ℕ) (x : Value) → x ≡ get_or xs i x → i < length xs → (z : Value) → IsMember z (take (suc i) xs) ↔ (IsMember z (take i xs) ⊎ (x ≡ z))
members-take_more [] i x e l z = absurd (omega arith)
members-take_more (y ∷ ys) zero x e l z = (λ m. ⊎_elim (λ s. inr (e ∙ s)) (λ n. absurd n) m, λ m. ⊎_elim (λ n. absurd n) (λ s. inl (sym e ∙ s)) m)
members-take_more (y ∷ ys) (suc i) x e l z =
    let rest = members-take_more ys i x e (omega arith) z in (
      λ m. ⊎_elim (λ s. inl (inl s)) (λ n. ⊎_elim (λ a. inl (inr a)) (λ b. inr b) (rest.0 n)) m,
      λ m. ⊎_elim (λ n. ⊎_elim (λ s. inl s) (λ a. inr (rest.1 (inl a))) n) (λ b. inr (rest.1 (inr b))) m,
    )

pub take_all : (n : ℕ) (xs : List Value) → length xs ≤ n → take n xs ≡ xs
take_all zero [] l = refl
take_all (suc n) [] l = refl
take_all zero (x ∷ xs) l = absurd (omega arith)
take_all (suc n) (x ∷ xs) l = ap (λ ys. x ∷ ys) (take_all n xs (omega arith))

pub members-append : (xs ys : List Value) (z : Value) → IsMember z (xs ++ ys) ↔ (IsMember z xs ⊎ IsMember z ys)
members-append [] ys z = (λ m. inr m, λ m. ⊎_elim (λ n. absurd n) (λ n. n) m)
members-append (x ∷ xs) ys z =
    let rest = members-append xs ys z in (
      λ m. ⊎_elim (λ s. inl (inl s)) (λ n. ⊎_elim (λ a. inl (inr a)) (λ b. inr b) (rest.0 n)) m,
      λ m. ⊎_elim (λ n. ⊎_elim (λ s. inl s) (λ a. inr (rest.1 (inl a))) n) (λ b. inr (rest.1 (inr b))) m,
    )

pub members-push : (xs : List Value) (y z : Value) → IsMember z (xs ++ y ∷ []) ↔ (IsMember z xs ⊎ (y ≡ z))
members-push xs y z =
    let both = members-append xs (y ∷ []) z in
    (λ m. ⊎_elim (λ a. inl a) (λ b. inr (⊎_elim (λ s. s) (λ n. absurd n) b)) (both.0 m), λ m. both.1 (⊎_elim (λ a. inl a) (λ s. inr (inl s)) m))

pub before_in : (xs : List Value) (i : ℕ) (z : Value) → IsMember z (take i xs) → IsMember z xs
before_in xs zero z m = absurd m
before_in [] (suc i) z m = absurd m
before_in (x ∷ xs) (suc i) z m = ⊎_elim (λ s. inl s) (λ n. inr (before_in xs i z n)) m

-- between the two words for a member
pub contained : (xs : List Value) (z : Value) → IsMember z xs → Contains xs z
contained [] z m = absurd m
contained (x ∷ xs) z m = ⊎_elim (λ s. (0, omega arith, s)) (λ n. let c = contained xs z n in (suc c.0, omega (arith, c.1), c.2)) m

pub contained_at : (xs : List Value) (k : ℕ) (z : Value) → k < length xs → get_or xs k z ≡ z → IsMember z xs
contained_at xs k z l e = member_at xs k z (sym e) l

pub member : (xs : List Value) (z : Value) → Contains xs z → IsMember z xs
member xs z c = contained_at xs c.0 z c.1 c.2

-- ---- ascending lists

pub not_below_itself : (x : Value) → value_order x x ≡ Less → ⊥
not_below_itself x e = let t = tied_itself total-law x in (cc)

above_all : (x : Value) (xs : List Value) → AllByRecursion (λ y. value_order x y ≡ Less) xs → AllByRecursion (λ y. value_order x y ≡ Less) xs
above_all x [] h = tt
above_all x (y ∷ ys) h = (h.0, above_all x ys h.1)

pub ascending : (xs : List Value) → IsStrictlySortedBy value_order xs → IsAscending xs
unfolding IsStrictlySortedBy
ascending [] h = tt
ascending (x ∷ xs) h = (above_all x xs h.0, ascending xs h.1)

pub ascending-take : (n : ℕ) (xs : List Value) → IsAscending xs → IsAscending (take n xs)
ascending-take zero xs h = tt
ascending-take (suc n) [] h = tt
ascending-take (suc n) (x ∷ xs) h = (every-take (λ y. value_order x y ≡ Less) n xs h.0, ascending-take n xs h.1)

pub ascending-drop : (n : ℕ) (xs : List Value) → IsAscending xs → IsAscending (drop n xs)
ascending-drop zero xs h = h
ascending-drop (suc n) [] h = tt
ascending-drop (suc n) (x ∷ xs) h = ascending-drop n xs h.1

-- what stands before in an ascending list is less
pub below_at : (xs : List Value) (i j : ℕ) (d : Value) → IsAscending xs → i < j → j < length xs → value_order (get_or xs i d) (get_or xs j d) ≡ Less
below_at [] i j d h l m = absurd (omega arith)
below_at (x ∷ xs) i zero d h l m = absurd (omega arith)
below_at (x ∷ xs) zero (suc j) d h l m = every_at (λ y. value_order x y ≡ Less) xs _ h.0 (member xs _ (Contains-get_or xs j d (omega arith)))
below_at (x ∷ xs) (suc i) (suc j) d h l m = below_at xs i j d h.1 (omega arith) (omega arith)

-- ---- a list of which each value was compared with the next

abbrev pub IsBefore : Value → Value → Type 0
IsBefore x y = value_order x y ≡ Less

is_less : (o : Ordering) → is_lt o ≡ true → o ≡ Less
is_less Less e = refl
is_less Equal e = (cc)
is_less Greater e = (cc)

pub adjacent_more : (xs : List Value) (i : ℕ) (x y : Value) (o : Ordering) → 1 ≤ i → i < length xs → x ≡ get_or xs (i - 1) x → y ≡ get_or xs i y
    → o ≡ value_order x y → is_lt o ≡ true → AllAdjacentBelow IsBefore xs i → AllAdjacentBelow IsBefore xs (i + 1)
adjacent_more xs i x y o p l e f s t h =
    all_adjacent_more xs IsBefore i (omega (arith, p)) h (λ d.
    let at_x : get_or xs (i - 1) d ≡ x = get_or_default xs (i - 1) d x (omega (arith, p, l)) ∙ sym e in
    let at_y : get_or xs i d ≡ y = get_or_default xs i d y l ∙ sym f in
    let both : value_order x y ≡ Less = sym s ∙ is_less o t in
    rw (at_x, at_y) both)

pub ascending_by_adjacent : (xs : List Value) (n : ℕ) → length xs ≤ n → AllAdjacentBelow IsBefore xs n → IsAscending xs
ascending_by_adjacent [] n l h = tt
ascending_by_adjacent (x ∷ xs) n l h = ascending (x ∷ xs) (sorted_from_all_adjacent total-law (x ∷ xs) x (λ k m. h k x (omega (arith, l, m))))

-- an ascending list with one more at its end
pub ascending-push : (xs : List Value) (y : Value) → IsAscending xs → AllByRecursion (λ x. value_order x y ≡ Less) xs → IsAscending (xs ++ y ∷ [])
ascending-push [] y h b = (tt, tt)
ascending-push (x ∷ xs) y h b = (every_push (λ z. value_order x z ≡ Less) xs y h.0 b.0, ascending-push xs y h.1 b.1)
  where
    every_push : (P : Value → Type 0) (ys : List Value) (z : Value) → AllByRecursion P ys → P z → AllByRecursion P (ys ++ z ∷ [])
    every_push P [] z g p = (p, tt)
    every_push P (u ∷ us) z g p = (g.0, every_push P us z g.1 p)

-- ---- lists whose members are among others

pub among_none : (set : List Value) → AreAmong [] set
unfolding AreAmong
among_none set = λ z m. absurd m

pub among_more : (xs set : List Value) (i : ℕ) (x : Value) → x ≡ get_or xs i x → i < length xs → AreAmong (take i xs) set → IsMember x set → AreAmong (take (i + 1) xs) set
unfolding AreAmong
among_more xs set i x e l h m = rw add-one (λ z n. ⊎_elim (λ a. h z a) (λ s. subst (λ u. IsMember u set) s m) ((members-take_more xs i x e l z).0 n))

pub among_all : (xs set : List Value) (i : ℕ) → length xs ≤ i → AreAmong (take i xs) set → AreAmong xs set
among_all xs set i l h = subst (λ ys. AreAmong ys set) (take_all i xs l) h

pub not_among : (xs set : List Value) (i : ℕ) (x : Value) → x ≡ get_or xs i x → i < length xs → (IsMember x set → ⊥) → IsTrue false ↔ AreAmong xs set
unfolding AreAmong
not_among xs set i x e l n = (λ f. (cc), λ h. absurd (n (h x (member_at xs i x e l))))
