-- What is found by its name in a list, from the back, and what a name means.
use Rattle.zf_typing.proofs.Prelude.{if◌then◌else◌, ◌++◌, ◌+◌, ◌<◌, ◌∙◌, ◌∷◌, ◌≡◌, [], add-one, ap, arith, Bool, false, get_or, length, List, map, None, refl, Some, suc, sym, take, true, ℕ, length-take, take_more, bytes_eq, Component, Global, Local, Comp, Defined, first_named, typed, global_sort, last_named, meaning, Scope, Var}

module _ {X A : Type 0} (f : X → A) (name : A → List ℕ) (n : List ℕ) where
  -- the last of a list is looked at first
  pub last_then : (xs : List X) (x : X) → last_named name n (map f (xs ++ x ∷ [])) ≡ (if bytes_eq (name (f x)) n then Some (length xs, f x) else last_named name n (map f xs))
  last_then [] x = refl
  last_then (y ∷ ys) x = by (bytes_eq (name (f x)) n) (last_then ys x)
    where
      by : (b : Bool) → last_named name n (map f (ys ++ x ∷ [])) ≡ (if b then Some (length ys, f x) else last_named name n (map f ys))
          → last_named name n (map f (y ∷ ys ++ x ∷ [])) ≡ (if b then Some (suc (length ys), f x) else last_named name n (map f (y ∷ ys)))
      by true e = rw e (ap (λ m. Some (m, f x)) (add-one _))
      by false e = rw e refl

  pub last_at : (xs : List X) (p i : ℕ) (x : X) → p ≡ i + 1 → i < length xs → x ≡ get_or xs i x
      → last_named name n (map f (take p xs)) ≡ (if bytes_eq (name (f x)) n then Some (i, f x) else last_named name n (map f (take i xs)))
  last_at xs p i x q l e = rw (q, take_more xs i x l, sym e) (last_then (take i xs) x
      ∙ ap (λ m. if bytes_eq (name (f x)) n then Some (m, f x) else last_named name n (map f (take i xs))) (length-take i xs ∙ omega arith))

-- what a name means, by where it is found
pub means_local : (s : Scope) (x : List ℕ) (p : ℕ) (v : Var) → Some (p, v) ≡ last_named (λ u. u.name) x s.locals → meaning s x ≡ Some (Local p, typed v.type)
means_local s x p v h = rw (sym h) refl

pub means_component : (s : Scope) (x : List ℕ) (p : ℕ) (c : Comp) → None ≡ last_named (λ u. u.name) x s.locals
    → Some (p, c) ≡ first_named (λ d. d.name) x s.comps → meaning s x ≡ Some (Component p, typed c.type)
means_component s x p c g h = rw (sym g, sym h) refl

pub means_global : (s : Scope) (x : List ℕ) (p : ℕ) (d : Defined) → None ≡ last_named (λ u. u.name) x s.locals → None ≡ first_named (λ c. c.name) x s.comps
    → Some (p, d) ≡ first_named (λ e. e.name) x s.globals → meaning s x ≡ Some (Global p, global_sort d)
means_global s x p d f g h = rw (sym f, sym g, sym h) refl

pub means_nothing : (s : Scope) (x : List ℕ) → None ≡ last_named (λ u. u.name) x s.locals → None ≡ first_named (λ c. c.name) x s.comps
    → None ≡ first_named (λ e. e.name) x s.globals → meaning s x ≡ None
means_nothing s x f g h = rw (sym f, sym g, sym h) refl
