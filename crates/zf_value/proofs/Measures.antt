-- The members of a form, and that they are less deep than it.
use Rattle.zf_value.proofs.Prelude.{◌*◌, ◌+◌, ◌<◌, ◌∙◌, ◌∷◌, ◌≡◌, ◌≤◌, [], ap, arith, Bool, false, length, Less, List, map, None, refl, Some, subst, sym, true, ℕ, ℤ, level_of, value_of, number_at, number_of, pair, members, members_at, parts, place_of_first, Elem, out-Value, SetOf, Tuple, Value, Value-F, outs-Elem, outs-Int, outs-SetOf, outs-Tuple, Form, greatest, height, height-SetOf, height-Tuple}
use Rattle.zf_value.specs.declared.value.Form.TheVariants as form
use Rattle.zf_value.proofs.Seen.{number_of-Int, parts-Tuple}
use Rattle.zf_value.specs.declared.value.Value.TheDeep.{size-Value}
use denote.Param.Weighed.{most}

pub members_of_set : (f : Form) (xs : List Value) → f ≡ form.SetOf xs → members (value_of f) ≡ xs
members_of_set f xs e = ap (λ g. members (value_of g)) e ∙ ap members_at (outs-SetOf xs)

pub no_members : (f : Form) → ((xs : List Value) → f ≡ form.SetOf xs → ⊥) → members (value_of f) ≡ []
no_members (form.Int n) h = ap members_at (outs-Int n)
no_members (form.Elem t i) h = ap members_at (outs-Elem t i)
no_members (form.Tuple xs) h = ap members_at (outs-Tuple xs)
no_members (form.SetOf xs) h = absurd (h xs refl)

none_at : (xs : List Value) (i : ℕ) → xs ≡ [] → i < length xs → ⊥
none_at xs i e l = let k = subst (λ ys. i < length ys) e l in omega (arith, k)

most_at_most : (xs : List Value) → most size-Value xs ≤ 2 * (greatest (map height xs) + 1)
most_at_most [] = omega arith
most_at_most (x ∷ xs) = let h = most_at_most xs in omega (arith, h)

-- so are the items of a form
pub tuple_falls : (v : Value) (f : Form) (xs ys : List Value) → value_of f ≡ v → f ≡ form.Tuple xs → ys ≡ xs → most size-Value ys < size-Value v
tuple_falls v f xs ys e i s =
    let h = ap height (sym e ∙ ap value_of i) ∙ height-Tuple xs in
    let m = subst (λ us. most size-Value us ≤ 2 * (greatest (map height xs) + 1)) (sym s) (most_at_most xs) in
    omega (arith, h, m)

pub set_falls : (v : Value) (f : Form) (xs ys : List Value) → value_of f ≡ v → f ≡ form.SetOf xs → ys ≡ xs → most size-Value ys < size-Value v
set_falls v f xs ys e i s =
    let h = ap height (sym e ∙ ap value_of i) ∙ height-SetOf xs in
    let m = subst (λ us. most size-Value us ≤ 2 * (greatest (map height xs) + 1)) (sym s) (most_at_most xs) in
    omega (arith, h, m)

-- ---- what a form is seen as

pub number_seen : (v : Value) (f : Form) (n : ℤ) → value_of f ≡ v → f ≡ form.Int n → number_of v ≡ Some n
number_seen v f n e i = ap number_of (sym e ∙ ap value_of i) ∙ number_of-Int n

no_number : (f : Form) → ((n : ℤ) → f ≡ form.Int n → ⊥) → number_of (value_of f) ≡ None
no_number (form.Int n) h = absurd (h n refl)
no_number (form.Elem t i) h = ap number_at (outs-Elem t i)
no_number (form.Tuple xs) h = ap number_at (outs-Tuple xs)
no_number (form.SetOf xs) h = ap number_at (outs-SetOf xs)

abbrev is_element_at : Value-F Value → Bool
is_element_at (Value-F.Elem t i) = true
is_element_at (Value-F.Int n) = false
is_element_at (Value-F.Tuple xs) = false
is_element_at (Value-F.SetOf xs) = false

-- what is no element as a form is none
pub no_element_seen : (v : Value) (f : Form) → value_of f ≡ v → ((t i : ℕ) → f ≡ form.Elem t i → ⊥) → (t i : ℕ) → v ≡ Elem t i → ⊥
no_element_seen v (form.Int n) e h t i k = let s = sym (ap is_element_at (outs-Int n)) ∙ ap (λ u. is_element_at (out-Value u)) (e ∙ k) ∙ ap is_element_at (outs-Elem t i) in (cc)
no_element_seen v (form.Elem u j) e h t i k = h u j refl
no_element_seen v (form.Tuple xs) e h t i k = let s = sym (ap is_element_at (outs-Tuple xs)) ∙ ap (λ u. is_element_at (out-Value u)) (e ∙ k) ∙ ap is_element_at (outs-Elem t i) in (cc)
no_element_seen v (form.SetOf xs) e h t i k = let s = sym (ap is_element_at (outs-SetOf xs)) ∙ ap (λ u. is_element_at (out-Value u)) (e ∙ k) ∙ ap is_element_at (outs-Elem t i) in (cc)

first_none : (x : Value) (ys : List Value) → length ys ≡ 0 → Less ≡ place_of_first x ys
first_none x [] l = refl
first_none x (y ∷ ys) l = absurd (omega (arith, l))

-- a pair has two items
pub two_items : (v : Value) (f : Form) (xs ys : List Value) → value_of f ≡ v → f ≡ form.Tuple xs → ys ≡ xs → (x y : Value) → v ≡ pair x y → length ys ≡ 2
two_items v f xs ys e i s x y p = ap length (s ∙ sym (parts-Tuple xs) ∙ ap parts (sym (ap value_of i) ∙ e ∙ p) ∙ parts-Tuple (x ∷ y ∷ []))

level_is : (f : Form) → out-Value (value_of f) ≡ level_of f
level_is (form.Int n) = outs-Int n
level_is (form.Elem t i) = outs-Elem t i
level_is (form.Tuple xs) = outs-Tuple xs
level_is (form.SetOf xs) = outs-SetOf xs

pub out_is : (v : Value) (f : Form) → value_of f ≡ v → out-Value v ≡ level_of f
out_is v f e = ap out-Value (sym e) ∙ level_is f

abbrev is_set_at : Value-F Value → Bool
is_set_at (Value-F.SetOf xs) = true
is_set_at (Value-F.Int n) = false
is_set_at (Value-F.Elem t i) = false
is_set_at (Value-F.Tuple xs) = false

-- what is no set as a form is none
pub no_set_seen : (v : Value) (f : Form) → value_of f ≡ v → ((xs : List Value) → f ≡ form.SetOf xs → ⊥) → (xs : List Value) → v ≡ SetOf xs → ⊥
no_set_seen v (form.Int n) e h xs k = let s = sym (ap is_set_at (outs-Int n)) ∙ ap (λ u. is_set_at (out-Value u)) (e ∙ k) ∙ ap is_set_at (outs-SetOf xs) in (cc)
no_set_seen v (form.Elem t i) e h xs k = let s = sym (ap is_set_at (outs-Elem t i)) ∙ ap (λ u. is_set_at (out-Value u)) (e ∙ k) ∙ ap is_set_at (outs-SetOf xs) in (cc)
no_set_seen v (form.Tuple ys) e h xs k = let s = sym (ap is_set_at (outs-Tuple ys)) ∙ ap (λ u. is_set_at (out-Value u)) (e ∙ k) ∙ ap is_set_at (outs-SetOf xs) in (cc)
no_set_seen v (form.SetOf ys) e h xs k = h ys refl

abbrev is_tuple_at : Value-F Value → Bool
is_tuple_at (Value-F.Tuple xs) = true
is_tuple_at (Value-F.Int n) = false
is_tuple_at (Value-F.Elem t i) = false
is_tuple_at (Value-F.SetOf xs) = false

-- what is no tuple as a form is none
pub no_tuple_seen : (v : Value) (f : Form) → value_of f ≡ v → ((xs : List Value) → f ≡ form.Tuple xs → ⊥) → (xs : List Value) → v ≡ Tuple xs → ⊥
no_tuple_seen v (form.Int n) e h xs k = let s = sym (ap is_tuple_at (outs-Int n)) ∙ ap (λ u. is_tuple_at (out-Value u)) (e ∙ k) ∙ ap is_tuple_at (outs-Tuple xs) in (cc)
no_tuple_seen v (form.Elem t i) e h xs k = let s = sym (ap is_tuple_at (outs-Elem t i)) ∙ ap (λ u. is_tuple_at (out-Value u)) (e ∙ k) ∙ ap is_tuple_at (outs-Tuple xs) in (cc)
no_tuple_seen v (form.SetOf ys) e h xs k = let s = sym (ap is_tuple_at (outs-SetOf ys)) ∙ ap (λ u. is_tuple_at (out-Value u)) (e ∙ k) ∙ ap is_tuple_at (outs-Tuple xs) in (cc)
no_tuple_seen v (form.Tuple ys) e h xs k = h ys refl
