-- The constructors of a free type are names of which no two are the same.
use Rattle.law_names.proofs.Prelude.{◌++◌, ◌+◌, ◌∷◌, ◌≡◌, ◌⊎◌, [], Bool, false, inl, inr, List, map, None, Option, refl, Some, subst, sym, true, ℕ, none-some, if◌then◌else◌, bytes_eq, spelling, Name, constructor, Defined, Constructs, with_global, AreApart, IsNoneOf, first_named, is_itself, later}

-- a global has the name
abbrev Has : List Defined → List ℕ → Type 0
Has [] x = ⊥
Has (d ∷ g) x = (d.name ≡ x) ⊎ Has g x

has_more : (x : List ℕ) (g : List Defined) (d : Defined) → Has g x → Has (g ++ d ∷ []) x
has_more x [] d h = absurd h
has_more x (e ∷ g) d (inl p) = inl p
has_more x (e ∷ g) d (inr p) = inr (has_more x g d p)

has_last : (g : List Defined) (d : Defined) → Has (g ++ d ∷ []) d.name
has_last [] d = inl refl
has_last (e ∷ g) d = inr (has_last g d)

pub none_later : {A : Type 0} (o : Option (ℕ × A)) → later o ≡ None → o ≡ None
none_later None h = refl
none_later (Some p) h = absurd (none-some (p.0 + 1, p.1) (sym h))

-- a name that is new is that of no global
not_new : (x : List ℕ) (g : List Defined) → first_named (λ d. d.name) x g ≡ None → Has g x → ⊥
not_new x [] none h = h
not_new x (e ∷ g) none h = by (bytes_eq e.name x) refl none h (not_new x g)
  where
    by :
        (t : Bool) → bytes_eq e.name x ≡ t → (if t then Some (0, e) else later (first_named (λ d. d.name) x g)) ≡ None → (e.name ≡ x) ⊎ Has g x
        → (first_named (λ d. d.name) x g ≡ None → Has g x → ⊥) → ⊥
    by true f none h rest = none-some (0, e) (sym none)
    by false f none (inl p) rest = let same : bytes_eq e.name x ≡ true = subst (λ y. bytes_eq e.name y ≡ true) p (is_itself e.name) in absurd (cc)
    by false f none (inr p) rest = rest (none_later (first_named (λ d. d.name) x g) none) p

-- constructors after a global of this name
constructors_differ :
    (g : List Defined) (number : ℕ) (of_type : List ℕ) (place : ℕ) (ns : List Name) (h : List Defined) (x : List ℕ)
    → Has g x → Constructs g number of_type place ns h → IsNoneOf (map spelling ns) x
constructors_differ g number of_type place [] h x has p = tt
constructors_differ g number of_type place (n ∷ ns) h x has p =
    let new : Defined = record { name = spelling n; definition = constructor number of_type place } in (
      λ same. not_new x g (subst (λ y. first_named (λ d. d.name) y g ≡ None) same p.0) has,
      constructors_differ (with_global g n (constructor number of_type place)) number of_type (place + 1) ns h x (has_more x g new has) p.1,
    )

pub constructors_apart :
    (g : List Defined) (number : ℕ) (of_type : List ℕ) (place : ℕ) (ns : List Name) (h : List Defined) → Constructs g number of_type place ns h → AreApart (map spelling ns)
constructors_apart g number of_type place [] h p = tt
constructors_apart g number of_type place (n ∷ ns) h p =
    let new : Defined = record { name = spelling n; definition = constructor number of_type place } in
    let after = with_global g n (constructor number of_type place) in
    (constructors_differ after number of_type (place + 1) ns h (spelling n) (has_last g new) p.1, constructors_apart after number of_type (place + 1) ns h p.1)
