-- Tests of the type of a value, form by form.
use Rattle.zf_ranges.proofs.Prelude.{◌+◌, ◌<◌, ◌↔◌, ◌∙◌, ◌∷◌, ◌≡◌, ◌≤◌, [], add-one, ap, arith, Bool, drop, false, get_or, length, List, map, refl, subst, suc, sym, zero, ℕ, false≢true, IsTrue, members-SetOf, parts-Tuple, members, parts, SetOf, Tuple, Value, power, product, Ty, type_of, types, Tys, Environment, AreOfTypes, IsOfType, IsAscending, AllByRecursion, AreAllOf, IsNumberHere, ℤ, Option, Some, None, true, w64, FitsSigned, number_of, Elem, is_Int, no_Int, IsExistingElement}
use Rattle.zf_term.specs.declared.ztype.ZType.{ZType}

pub never : (P : Type 0) → (P → ⊥) → IsTrue false ↔ P
never P h = (λ e. absurd (false≢true e), λ p. absurd (h p))

same_members : (xs ys : List Value) → SetOf xs ≡ SetOf ys → xs ≡ ys
same_members xs ys e = sym (members-SetOf xs) ∙ ap members e ∙ members-SetOf ys

same_parts : (xs ys : List Value) → Tuple xs ≡ Tuple ys → xs ≡ ys
same_parts xs ys e = sym (parts-Tuple xs) ∙ ap parts e ∙ parts-Tuple ys

pub set_at : (e : Environment) (t : Ty) (xs : List Value) (v : Value) (b : Bool) → v ≡ SetOf xs → IsAscending xs → IsTrue b ↔ AreAllOf e t xs → IsTrue b ↔ IsOfType e (power t) v
set_at e t xs v b is up h = (
  λ k. let all = h.0 k in (xs, is, up, all.0, all.1),
  λ p. h.1 (subst (AreAllOf e t) (same_members p.0 xs (sym p.1 ∙ is)) (p.3, p.4)),
)

pub tuple_at : (e : Environment) (ts : Tys) (xs : List Value) (v : Value) (b : Bool) → v ≡ Tuple xs → IsTrue b ↔ AreOfTypes e ts xs → IsTrue b ↔ IsOfType e (product ts) v
tuple_at e ts xs v b is h = (
  λ k. (xs, is, h.0 k),
  λ p. h.1 (subst (AreOfTypes e ts) (same_parts p.0 xs (sym p.1 ∙ is)) p.2),
)

pub no_tuple : (e : Environment) (ts : Tys) (v : Value) → ((xs : List Value) → v ≡ Tuple xs → ⊥) → IsTrue false ↔ IsOfType e (product ts) v
no_tuple e ts v h = never (IsOfType e (product ts) v) (λ p. h p.0 p.1)

-- ---- numbers and elements

pub number_here : (v : Value) (n : ℤ) → Some n ≡ number_of v → FitsSigned w64 n → IsTrue true ↔ IsNumberHere v
number_here v n e f = (λ g. (n, is_Int v n e, f), λ p. refl)

pub no_number_here : (v : Value) → None ≡ number_of v → IsTrue false ↔ IsNumberHere v
no_number_here v e = never (IsNumberHere v) (λ p. no_Int v p.0 e p.1)

pub no_element : (e : Environment) (o : Option ℕ) (v : Value) → ((t i : ℕ) → v ≡ Elem t i → ⊥) → IsTrue false ↔ IsExistingElement e o v
no_element e None v h = never (IsExistingElement e None v) (λ p. p)
no_element e (Some n) v h = never (IsExistingElement e (Some n) v) (λ p. h n p.1 p.4)

-- ---- lists

nothing : {A : Type 0} (xs : List A) (i : ℕ) → length xs ≤ i → drop i xs ≡ []
nothing [] zero l = refl
nothing [] (suc i) l = refl
nothing (x ∷ xs) zero l = absurd (omega arith)
nothing (x ∷ xs) (suc i) l = nothing xs i (omega arith)

pub as_many : (e : Environment) (ts : List ZType) (xs : List Value) → AreOfTypes e (types (map type_of ts)) xs → length xs ≡ length ts
as_many e [] xs h = ap length h
as_many e (t ∷ ts) xs h = ap length h.2 ∙ ap suc (as_many e ts h.1 h.4)

module _ (P : Value → Type 0) where
  next : (xs : List Value) (i : ℕ) (x : Value) → x ≡ get_or xs i x → i < length xs → AllByRecursion P (drop i xs) ↔ (P x × AllByRecursion P (drop (suc i) xs))
  next [] i x at l = absurd (omega arith)
  next (y ∷ ys) zero x at l = (λ h. (subst P (sym at) h.0, h.1), λ h. (subst P at h.0, h.1))
  next (y ∷ ys) (suc i) x at l = next ys i x at (omega arith)

  pub every_next : (xs : List Value) (i : ℕ) (x : Value) → x ≡ get_or xs i x → i < length xs → P x → AllByRecursion P xs ↔ AllByRecursion P (drop i xs) → AllByRecursion P xs ↔ AllByRecursion P (drop (i + 1) xs)
  every_next xs i x at l p h = rw add-one (let n = next xs i x at l in (λ k. (n.0 (h.0 k)).1, λ k. h.1 (n.1 (p, k))))

  pub every_not : (xs : List Value) (i : ℕ) (x : Value) → x ≡ get_or xs i x → i < length xs → (P x → ⊥) → AllByRecursion P xs ↔ AllByRecursion P (drop i xs) → AllByRecursion P xs → ⊥
  every_not xs i x at l p h k = p ((next xs i x at l).0 (h.0 k)).0

  past : (xs : List Value) (i : ℕ) → length xs ≤ i → AllByRecursion P (drop i xs)
  past [] zero l = tt
  past [] (suc i) l = tt
  past (y ∷ ys) zero l = absurd (omega arith)
  past (y ∷ ys) (suc i) l = past ys i (omega arith)

module _ (e : Environment) where
  abbrev Fit : List ZType → List Value → Type 0
  Fit ts xs = AreOfTypes e (types (map type_of ts)) xs

  step : (ts : List ZType) (xs : List Value) (i : ℕ) (t : ZType) (x : Value) → t ≡ get_or ts i t → x ≡ get_or xs i x → i < length ts → i < length xs
      → Fit (drop i ts) (drop i xs) ↔ (IsOfType e (type_of t) x × Fit (drop (suc i) ts) (drop (suc i) xs))
  step [] xs i t x a b l m = absurd (omega arith)
  step (u ∷ ts) [] i t x a b l m = absurd (omega arith)
  step (u ∷ ts) (y ∷ ys) zero t x a b l m = (
    λ h. let same = heads y ys h.0 h.1 h.2 in (
      subst (λ z. IsOfType e (type_of t) z) (sym b)
          (subst (λ s. IsOfType e (type_of s) y) (sym a) (subst (IsOfType e (type_of u)) (sym same.0) h.3)),
      subst (Fit ts) (sym same.1) h.4,
    ),
    λ h. (y, ys, refl, subst (λ s. IsOfType e (type_of s) y) a (subst (IsOfType e (type_of t)) b h.0), h.1),
  )
    where
      heads : (v : Value) (vs : List Value) (w : Value) (ws : List Value) → v ∷ vs ≡ w ∷ ws → (v ≡ w) × (vs ≡ ws)
      heads v vs w ws h = (cc, cc)
  step (u ∷ ts) (y ∷ ys) (suc i) t x a b l m = step ts ys i t x a b (omega arith) (omega arith)

  pub fit_next : (ts : List ZType) (xs : List Value) (i : ℕ) (t : ZType) (x : Value) → t ≡ get_or ts i t → x ≡ get_or xs i x → i < length ts → i < length xs
      → IsOfType e (type_of t) x → Fit ts xs ↔ Fit (drop i ts) (drop i xs) → Fit ts xs ↔ Fit (drop (i + 1) ts) (drop (i + 1) xs)
  fit_next ts xs i t x a b l m p h = rw add-one (let n = step ts xs i t x a b l m in (λ k. (n.0 (h.0 k)).1, λ k. h.1 (n.1 (p, k))))

  pub fit_not : (ts : List ZType) (xs : List Value) (i : ℕ) (t : ZType) (x : Value) → t ≡ get_or ts i t → x ≡ get_or xs i x → i < length ts → i < length xs
      → (IsOfType e (type_of t) x → ⊥) → Fit ts xs ↔ Fit (drop i ts) (drop i xs) → Fit ts xs → ⊥
  fit_not ts xs i t x a b l m p h k = p ((step ts xs i t x a b l m).0 (h.0 k)).0

  gone : (ts : List ZType) (xs : List Value) (i : ℕ) → length ts ≤ i → length xs ≤ i → Fit (drop i ts) (drop i xs)
  gone ts xs i l m = subst (λ us. Fit us (drop i xs)) (sym (nothing ts i l)) (nothing xs i m)
