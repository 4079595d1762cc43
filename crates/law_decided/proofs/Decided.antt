-- What can be decided: whether names, types and sorts are the same, whether types are small, and what a place takes.
use Rattle.law_decided.proofs.Prelude.{◌∷◌, ◌≡◌, ◌≤◌, ◌⊎◌, [], arith, Bool, false, inl, inr, List, refl, true, ℕ, spelling, Need, Name, basic, int, IsSmall, no_types, type_nodes, power, product, Ty, type, Tys, local_twice, IsRepeated, Repeats, IsSmallSort, Meets, number_sort, predicate, relation_sort, set_sort, Sort, typed, AreApart, IsApart, SomeOffence, AllByRecursion}
use Rattle.std.specs.Bool.{Decides}
use Rattle.std.specs.Str.{bytes_eq}
use Rattle.std.proofs.lemmas.Bool.{cases_lt}
use Rattle.std.proofs.lemmas.Bool.Decides.{not_from_Decides}
use Rattle.std.proofs.lemmas.Slice.Eq.{bytes_eq-Decides}
use Rattle.zf_tree.specs.declared.operator.Need.TheVariants as need

abbrev pub Decided : Type 0 → Type 0
Decided P = P ⊎ (P → ⊥)

-- ---- of parts, the whole

pub both : {P Q : Type 0} → Decided P → Decided Q → Decided (P × Q)
both (inl p) (inl q) = inl (p, q)
both (inl p) (inr q) = inr (λ h. q h.1)
both (inr p) q = inr (λ h. p h.0)

pub decided_as : {P Q : Type 0} → (P → Q) → (Q → P) → Decided P → Decided Q
decided_as f g (inl p) = inl (f p)
decided_as f g (inr p) = inr (λ q. p (g q))

pub decided_all : {A : Type 0} (P : A → Type 0) → ((x : A) → Decided (P x)) → (xs : List A) → Decided (AllByRecursion P xs)
decided_all P d [] = inl tt
decided_all P d (x ∷ xs) = both (d x) (decided_all P d xs)

-- ---- numbers and names

pub at_most : (n k : ℕ) → Decided (n ≤ k)
at_most n k = elim (cases_lt k n) [
  | inl l ↦ inr (λ h. omega (arith, l, h))
  | inr h ↦ inl h
]

pub same_bytes : (x y : List ℕ) → Decided (x ≡ y)
same_bytes x y = by (bytes_eq x y) (bytes_eq-Decides x y)
  where
    by : (b : Bool) → Decides b (x ≡ y) → Decided (x ≡ y)
    by true d = inl (d.0 refl)
    by false d = inr (not_from_Decides false d refl)

-- ---- types

mutual
  pub same_type : (t u : Ty) → Decided (t ≡ u)
  same_type int int = inl refl
  same_type (basic m) (basic n) = decided_as (λ e. (cc)) (λ e. (cc)) (same_bytes m n)
  same_type (power t) (power u) = decided_as (λ e. (cc)) (λ e. (cc)) (same_type t u)
  same_type (product ts) (product us) = decided_as (λ e. (cc)) (λ e. (cc)) (same_types ts us)
  same_type _ _ = inr (λ e. (cc))

  pub same_types : (ts us : Tys) → Decided (ts ≡ us)
  same_types no_types no_types = inl refl
  same_types (type t ts) (type u us) = decided_as (λ e. let first = e.0 in let rest = e.1 in (cc)) (λ e. ((cc), (cc))) (both (same_type t u) (same_types ts us))
  same_types _ _ = inr (λ e. (cc))

pub is_small : (t : Ty) → Decided (IsSmall t)
is_small t = at_most (type_nodes t) 256

pub is_small_sort : (x : Sort) → Decided (IsSmallSort x)
is_small_sort (typed t) = is_small t
is_small_sort _ = inl tt

-- ---- what a place takes

is_number : (x : Sort) → Decided (x ≡ number_sort)
is_number (typed t) = decided_as (λ e. (cc)) (λ e. (cc)) (same_type t int)
is_number _ = inr (λ e. (cc))

is_expression : (x : Sort) → Decided ((t : Ty) × (x ≡ typed t))
is_expression (typed t) = inl (t, refl)
is_expression _ = inr (λ e. (cc))

is_predicate : (x : Sort) → Decided (x ≡ predicate)
is_predicate predicate = inl refl
is_predicate _ = inr (λ e. (cc))

is_set : (x : Sort) → Decided ((t : Ty) × (x ≡ set_sort t))
is_set (typed (power t)) = inl (t, refl)
is_set _ = inr (λ e. (cc))

is_relation : (x : Sort) → Decided ((t u : Ty) × (x ≡ relation_sort t u))
is_relation (typed (power (product (type t (type u no_types))))) = inl (t, u, refl)
is_relation _ = inr (λ e. (cc))

pub meets : (n : Need) (x : Sort) → Decided (Meets n x)
meets need.Expression x = is_expression x
meets need.Number x = is_number x
meets need.Set x = is_set x
meets need.Relation x = is_relation x
meets need.Predicate x = is_predicate x

-- ---- names that are declared

is_apart : (n : Name) (ms : List Name) → IsApart n ms ⊎ SomeOffence (IsRepeated n ms)
is_apart n [] = inl tt
is_apart n (m ∷ ms) = by (same_bytes (spelling n) (spelling m)) (is_apart n ms)
  where
    by : Decided (spelling n ≡ spelling m) → IsApart n ms ⊎ SomeOffence (IsRepeated n ms) → IsApart n (m ∷ ms) ⊎ SomeOffence (IsRepeated n (m ∷ ms))
    by (inl e) rest = inr (local_twice (spelling m), m.span, inl (e, refl, refl))
    by (inr e) (inl apart) = inl (e, apart)
    by (inr e) (inr o) = inr (o.0, o.1, inr o.2)

pub are_apart : (ns : List Name) → AreApart ns ⊎ SomeOffence (Repeats ns)
are_apart [] = inl tt
are_apart (n ∷ ns) = by (is_apart n ns) (are_apart ns)
  where
    by : IsApart n ns ⊎ SomeOffence (IsRepeated n ns) → AreApart ns ⊎ SomeOffence (Repeats ns) → AreApart (n ∷ ns) ⊎ SomeOffence (Repeats (n ∷ ns))
    by (inr o) rest = inr (o.0, o.1, inl o.2)
    by (inl apart) (inl rest) = inl (apart, rest)
    by (inl apart) (inr o) = inr (o.0, o.1, inr o.2)
