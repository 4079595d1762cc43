-- What is decided, and predicates whose members a list has.
use Rattle.law_total.proofs.Prelude.{◌++◌, ◌↔◌, ◌∷◌, ◌≡◌, ◌⊎◌, [], inl, inr, List, refl, subst, sym, ⊎_elim, Contains, Contains-cases, Contains-either, Contains-head, Contains-later, Contains-left, Contains-nil, Contains-right}

-- something of which P holds
abbrev pub HasSome : {A : Type 0} → (A → Type 0) → Type 0
HasSome {A} P = (a : A) × P a

-- it holds, or not
abbrev pub Decided : Type 0 → Type 0
Decided P = P ⊎ (P → ⊥)

pub decided_both : {P Q : Type 0} → Decided P → Decided Q → Decided (P × Q)
decided_both (inl p) (inl q) = inl (p, q)
decided_both (inl p) (inr n) = inr (λ h. n h.1)
decided_both (inr n) q = inr (λ h. n h.0)

pub decided_either : {P Q : Type 0} → Decided P → Decided Q → Decided (P ⊎ Q)
decided_either (inl p) q = inl (inl p)
decided_either (inr n) (inl q) = inl (inr q)
decided_either (inr n) (inr m) = inr (λ h. ⊎_elim n m h)

pub decided_not : {P : Type 0} → Decided P → Decided (P → ⊥)
decided_not (inl p) = inr (λ n. n p)
decided_not (inr n) = inl n

pub decided_then : {P Q : Type 0} → Decided P → Decided Q → Decided (P → Q)
decided_then p (inl q) = inl (λ h. q)
decided_then (inl p) (inr m) = inr (λ h. m (h p))
decided_then (inr n) (inr m) = inl (λ p. absurd (n p))

pub decided_same : {P Q : Type 0} → (P → Q) → (Q → P) → Decided P → Decided Q
decided_same f g (inl p) = inl (f p)
decided_same f g (inr n) = inr (λ q. n (g q))

-- ---- what a list has

-- the list has exactly the things of which P holds
pub record Listed {A : Type 0} (P : A → Type 0) : Type 0 where
  pub list : List A
  pub members : (x : A) → Contains list x ↔ P x

pub listed_same : {A : Type 0} {P Q : A → Type 0} → Listed P → ((x : A) → P x ↔ Q x) → Listed Q
listed_same h f = record { list = h.list; members = λ x. (λ m. (f x).0 ((h.members x).0 m), λ q. (h.members x).1 ((f x).1 q)) }

pub listed_none : {A : Type 0} (P : A → Type 0) → ((x : A) → P x → ⊥) → Listed P
listed_none P f = record { list = []; members = λ x. (λ m. absurd (Contains-nil x m), λ p. absurd (f x p)) }

pub listed_one : {A : Type 0} (y : A) → Listed (λ x. y ≡ x)
listed_one y = record {
  list = y ∷ [];
  members = λ x. (
    λ m. ⊎_elim (λ e. e) (λ n. absurd (Contains-nil x n)) (Contains-cases y [] x m),
    λ e. subst (λ z. Contains (z ∷ []) x) (sym e) (Contains-head x []),
  );
}

pub listed_either : {A : Type 0} {P Q : A → Type 0} → Listed P → Listed Q → Listed (λ x. P x ⊎ Q x)
listed_either h k = record {
  list = h.list ++ k.list;
  members = λ x. (
    λ m. ⊎_elim (λ a. inl ((h.members x).0 a)) (λ b. inr ((k.members x).0 b)) (Contains-either h.list k.list x m),
    λ p. ⊎_elim (λ a. Contains-left h.list k.list x ((h.members x).1 a)) (λ b. Contains-right h.list k.list x ((k.members x).1 b)) p,
  );
}

-- what each of a list gives
gathered : {A B : Type 0} (Q : A → B → Type 0) → ((a : A) → Listed (Q a)) → (xs : List A) → Listed (λ b. (a : A) × Contains xs a × Q a b)
gathered Q f [] = listed_none (λ b. (a : _) × Contains [] a × Q a b) (λ b h. Contains-nil h.0 h.1)
gathered {A} Q f (x ∷ xs) =
    listed_same (listed_either (f x) (gathered Q f xs)) (λ b. (
      λ h. ⊎_elim (λ q. (x, Contains-head x xs, q)) (λ r. (r.0, Contains-later x xs r.0 r.1, r.2)) h,
      λ h. ⊎_elim (λ e. inl (subst (λ (a : A). Q a b) (sym e) h.2)) (λ m. inr (h.0, m, h.2)) (Contains-cases x xs h.0 h.1),
    ))

-- what things of which P holds give
pub listed_some : {A B : Type 0} {P : A → Type 0} (Q : A → B → Type 0) → Listed P → ((a : A) → Listed (Q a)) → Listed (λ b. (a : A) × P a × Q a b)
listed_some Q h f = listed_same (gathered Q f h.list) (λ b. (λ m. (m.0, (h.members m.0).0 m.1, m.2), λ m. (m.0, (h.members m.0).1 m.1, m.2)))

pub listed_image : {A B : Type 0} {P : A → Type 0} (f : A → B) → Listed P → Listed (λ b. (a : A) × P a × (f a ≡ b))
listed_image f h = listed_some (λ a b. f a ≡ b) h (λ a. listed_one (f a))

-- those of which Q holds too
kept : {A : Type 0} (Q : A → Type 0) (a : A) → Decided (Q a) → Listed (λ b. (a ≡ b) × Q a)
kept Q a (inl q) = listed_same (listed_one a) (λ b. (λ e. (e, q), λ h. h.0))
kept Q a (inr n) = listed_none (λ b. (a ≡ b) × Q a) (λ b h. n h.1)

pub listed_kept : {A : Type 0} {P : A → Type 0} (Q : A → Type 0) → Listed P → ((a : A) → Decided (Q a)) → Listed (λ a. P a × Q a)
listed_kept {P = P} Q h d = listed_same (listed_some (λ a b. (a ≡ b) × Q a) h (λ a. kept Q a (d a))) (λ b. (λ m. (subst P m.2.0 m.1, subst Q m.2.0 m.2.1), λ m. (b, m.0, (refl, m.1))))

pub listed_pairs : {A B : Type 0} {P : A → Type 0} (Q : A → B → Type 0) → Listed P → ((a : A) → Listed (Q a)) → Listed (λ (p : A × B). P p.0 × Q p.0 p.1)
listed_pairs {A} {B} {P} Q h f =
    let side : (a : A) → Listed (λ (p : A × B). (b : B) × Q a b × ((a, b) ≡ p)) = λ a. listed_image (λ b. (a, b)) (f a) in
    listed_same (listed_some (λ a (p : A × B). (b : B) × Q a b × ((a, b) ≡ p)) h side) (λ p. (
      λ m. (subst (λ (q : A × B). P q.0) m.2.2 m.1, subst (λ (q : A × B). Q q.0 q.1) m.2.2 m.2.1),
      λ m. (p.0, m.0, (p.1, m.1, refl)),
    ))

-- ---- what is decided of them

search_list : {A : Type 0} (X Y : A → Type 0) (xs : List A) → ((a : A) → Contains xs a → X a ⊎ Y a) → ((a : A) × Contains xs a × X a) ⊎ ((a : A) → Contains xs a → Y a)
search_list X Y [] f = inr (λ a m. absurd (Contains-nil a m))
search_list {A} X Y (x ∷ xs) f = elim (f x (Contains-head x xs)) [
  | inl h ↦ inl (x, Contains-head x xs, h)
  | inr h ↦ ⊎_elim (λ r. inl (r.0, Contains-later x xs r.0 r.1, r.2)) (λ g. inr (λ a m. ⊎_elim (λ e. subst Y e h) (λ n. g a n) (Contains-cases x xs a m)))
      (search_list X Y xs (λ a m. f a (Contains-later x xs a m)))
]

-- one of them is so, or all are otherwise
pub one_or_all : {A : Type 0} {P : A → Type 0} (X Y : A → Type 0) → Listed P → ((a : A) → P a → X a ⊎ Y a) → ((a : A) × P a × X a) ⊎ ((a : A) → P a → Y a)
one_or_all X Y h f = ⊎_elim (λ r. inl (r.0, (h.members r.0).0 r.1, r.2)) (λ g. inr (λ a p. g a ((h.members a).1 p))) (search_list X Y h.list (λ a m. f a ((h.members a).0 m)))

pub decided_some : {A : Type 0} {P : A → Type 0} (Q : A → Type 0) → Listed P → ((a : A) → Decided (Q a)) → Decided ((a : A) × P a × Q a)
decided_some Q h d = ⊎_elim (λ r. inl r) (λ g. inr (λ r. g r.0 r.1 r.2)) (one_or_all Q (λ a. Q a → ⊥) h (λ a p. d a))

pub swapped : {P Q : Type 0} → P ⊎ Q → Q ⊎ P
swapped (inl p) = inr p
swapped (inr q) = inl q

pub decided_all : {A : Type 0} {P : A → Type 0} (Q : A → Type 0) → Listed P → ((a : A) → Decided (Q a)) → Decided ((a : A) → P a → Q a)
decided_all Q h d = ⊎_elim (λ r. inr (λ g. r.2 (g r.0 r.1))) (λ g. inl g) (one_or_all (λ a. Q a → ⊥) Q h (λ a p. swapped (d a)))

-- P itself, where equality is
pub decided_in : {A : Type 0} {P : A → Type 0} → ((x y : A) → Decided (x ≡ y)) → Listed P → (a : A) → Decided (P a)
decided_in {P = P} same h a = decided_same (λ m. subst P m.2 m.1) (λ p. (a, p, refl)) (decided_some (λ b. b ≡ a) h (λ b. same b a))

-- equality of lists
pub decided_lists : {A : Type 0} → ((x y : A) → Decided (x ≡ y)) → (xs ys : List A) → Decided (xs ≡ ys)
decided_lists same [] [] = inl refl
decided_lists same [] (y ∷ ys) = inr (λ e. (cc))
decided_lists same (x ∷ xs) [] = inr (λ e. (cc))
decided_lists same (x ∷ xs) (y ∷ ys) = elim (same x y) [
  | inl e ↦ ⊎_elim (λ s. inl (cc)) (λ n. inr (λ s. n (cc))) (decided_lists same xs ys)
  | inr n ↦ inr (λ s. n (cc))
]
