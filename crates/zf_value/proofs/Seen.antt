-- What the views of a value are at each of its forms. They do not compute in other crates.
use Rattle.zf_value.proofs.Prelude.{◌∙◌, ◌≡◌, [], ap, List, None, Option, refl, Some, sym, ℕ, ℤ, number_at, number_of, members, members_at, parts, parts_at, Elem, Int, out-Value, roll-out-Value, roll-Value, SetOf, Tuple, Value, Value-F, outs-Elem, outs-Int, outs-SetOf, outs-Tuple, rolls-Int, rolls-SetOf}

pub number_of-Int : (n : ℤ) → number_of (Int n) ≡ Some n
number_of-Int n = ap number_at (outs-Int n)

pub members-SetOf : (xs : List Value) → members (SetOf xs) ≡ xs
members-SetOf xs = ap members_at (outs-SetOf xs)

pub parts-Tuple : (xs : List Value) → parts (Tuple xs) ≡ xs
parts-Tuple xs = ap parts_at (outs-Tuple xs)

members_none : (v : Value) (x : Value-F Value) → out-Value v ≡ x → ((xs : List Value) → v ≡ SetOf xs → ⊥) → members v ≡ []
members_none v (Value-F.SetOf xs) e h = absurd (h xs (sym (roll-out-Value v) ∙ ap roll-Value e ∙ rolls-SetOf xs))
members_none v (Value-F.Int n) e h = ap members_at e
members_none v (Value-F.Elem t i) e h = ap members_at e
members_none v (Value-F.Tuple xs) e h = ap members_at e

-- what is no set has no members
pub no_members : (v : Value) → ((xs : List Value) → v ≡ SetOf xs → ⊥) → members v ≡ []
no_members v h = members_none v (out-Value v) refl h

pub same_some : {A : Type 0} (x y : A) → Some x ≡ Some y → x ≡ y
same_some x y e = (cc)

number_seen : (v : Value) (x : Value-F Value) (n : ℤ) → out-Value v ≡ x → Some n ≡ number_at x → v ≡ Int n
number_seen v (Value-F.Int m) n e h = sym (roll-out-Value v) ∙ ap roll-Value e ∙ rolls-Int m ∙ ap Int (same_some m n (sym h))
number_seen v (Value-F.Elem t i) n e h = (cc)
number_seen v (Value-F.Tuple xs) n e h = (cc)
number_seen v (Value-F.SetOf xs) n e h = (cc)

-- what has a number is that number
pub is_Int : (v : Value) (n : ℤ) → Some n ≡ number_of v → v ≡ Int n
is_Int v n h = number_seen v (out-Value v) n refl h

pub no_Int : (v : Value) (n : ℤ) → None ≡ number_of v → v ≡ Int n → ⊥
no_Int v n h e = none_some n (h ∙ ap number_of e ∙ number_of-Int n)
  where
    none_some : (m : ℤ) → None ≡ Some m → ⊥
    none_some m k = (cc)

-- ---- what tells one form from another

pub same_number : (m n : ℤ) → Int m ≡ Int n → m ≡ n
same_number m n e = same_some m n (sym (number_of-Int m) ∙ ap number_of e ∙ number_of-Int n)

-- the number of the type of an element, and its place
abbrev element_at : Value-F Value → Option (ℕ × ℕ)
element_at (Value-F.Elem t i) = Some (t, i)
element_at (Value-F.Int n) = None
element_at (Value-F.Tuple xs) = None
element_at (Value-F.SetOf xs) = None

pub same_element : (t i u j : ℕ) → Elem t i ≡ Elem u j → (t ≡ u) × (i ≡ j)
same_element t i u j e =
    let s = same_some (t, i) (u, j) (sym (ap element_at (outs-Elem t i)) ∙ ap (λ v. element_at (out-Value v)) e ∙ ap element_at (outs-Elem u j)) in
    (ap (λ p. p.0) s, ap (λ p. p.1) s)
