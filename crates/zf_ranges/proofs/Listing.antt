-- Ascending lists of exactly the values that pass.
use Rattle.zf_ranges.proofs.Prelude.{◌++◌, ◌+◌, ◌<◌, ◌↔◌, ◌∷◌, ◌≡◌, ◌≤◌, ◌⊎◌, [], add-one, arith, get_or, inl, inr, length, List, subst, suc, sym, take, zero, ℕ, ⊎_elim, Less, ascending-push, every_at, every_from, member_at, members-append, members-push, members-take_more, take_all, IsAscending, IsMember, value_order, HaveSameMembers, Outcome, Undefined, Value}
use Rattle.zf_ranges.specs.{Grows, IsIn, IsListed, Lists}

-- the same values pass
pub lists_same : (P Q : Value → Type 0) (xs : List Value) → ((v : Value) → P v ↔ Q v) → Lists P xs → Lists Q xs
lists_same P Q xs f h = record {
  ascending = h.ascending;
  members = λ v. (λ m. (f v).0 ((h.members v).0 m), λ q. (h.members v).1 ((f v).1 q));
}

pub lists_none : (P : Value → Type 0) (out : List Value) → out ≡ [] → ((v : Value) → P v → ⊥) → Lists P out
lists_none P out e f = subst (λ ys. Lists P ys) (sym e) (record { ascending = tt; members = λ v. (λ m. absurd m, λ p. f v p) })

-- ---- a list gone through

before_here : (xs : List Value) (i : ℕ) (x z : Value) → IsAscending xs → x ≡ get_or xs i x → i < length xs → IsMember z (take i xs) → value_order z x ≡ Less
before_here [] i x z h at l m = absurd (omega arith)
before_here (y ∷ ys) zero x z h at l m = absurd m
before_here (y ∷ ys) (suc i) x z h at l m =
    let rest : i < length ys = omega arith in
    ⊎_elim
    (λ e. subst (λ w. value_order w x ≡ Less) e (every_at (λ w. value_order y w ≡ Less) ys x h.0 (member_at ys i x at rest)))
    (λ n. before_here ys i x z h.1 at rest n)
    m

pub lists_begin : (P : Value → Type 0) (out : List Value) → out ≡ [] → Lists (λ v. IsMember v [] × P v) out
lists_begin P out e = lists_none (λ v. IsMember v [] × P v) out e (λ v p. absurd p.0)

pushed : (P : Value → Type 0) (xs : List Value) (i : ℕ) (x : Value) (out : List Value) → IsAscending xs → x ≡ get_or xs i x → i < length xs
    → Lists (λ v. IsMember v (take i xs) × P v) out → P x → Lists (λ v. IsMember v (take (suc i) xs) × P v) (out ++ x ∷ [])
pushed P xs i x out r at l h p = record {
  ascending = ascending-push out x h.ascending (every_from (λ z. value_order z x ≡ Less) out (λ z m. before_here xs i x z r at l ((h.members z).0 m).0));
  members = λ z. (
    λ m. ⊎_elim (λ n. let k = (h.members z).0 n in ((members-take_more xs i x at l z).1 (inl k.0), k.1)) (λ e. ((members-take_more xs i x at l z).1 (inr e), subst P e p)) ((members-push out x z).0 m),
    λ k. (members-push out x z).1 (⊎_elim (λ n. inl ((h.members z).1 (n, k.1))) (λ e. inr e) ((members-take_more xs i x at l z).0 k.0)),
  );
}

passed : (P : Value → Type 0) (xs : List Value) (i : ℕ) (x : Value) (out : List Value) → x ≡ get_or xs i x → i < length xs
    → Lists (λ v. IsMember v (take i xs) × P v) out → (P x → ⊥) → Lists (λ v. IsMember v (take (suc i) xs) × P v) out
passed P xs i x out at l h p = record {
  ascending = h.ascending;
  members = λ z. (
    λ m. let k = (h.members z).0 m in ((members-take_more xs i x at l z).1 (inl k.0), k.1),
    λ k. ⊎_elim (λ n. (h.members z).1 (n, k.1)) (λ e. absurd (p (subst P (sym e) k.1))) ((members-take_more xs i x at l z).0 k.0),
  );
}

pub lists_step : (P : Value → Type 0) (xs : List Value) (i : ℕ) (x : Value) (out new : List Value) → IsAscending xs → x ≡ get_or xs i x → i < length xs
    → Lists (λ v. IsMember v (take i xs) × P v) out → Grows P x out new → Lists (λ v. IsMember v (take (i + 1) xs) × P v) new
unfolding Grows
lists_step P xs i x out new r at l h g = rw add-one (⊎_elim
    (λ k. subst (λ ys. Lists (λ v. IsMember v (take (suc i) xs) × P v) ys) (sym k.1) (pushed P xs i x out r at l h k.0))
    (λ k. subst (λ ys. Lists (λ v. IsMember v (take (suc i) xs) × P v) ys) (sym k.1) (passed P xs i x out at l h k.0))
    g)

pub lists_end : (P : Value → Type 0) (xs : List Value) (i : ℕ) (out : List Value) → length xs ≤ i → Lists (λ v. IsMember v (take i xs) × P v) out → Lists (λ v. IsMember v xs × P v) out
lists_end P xs i out l h = subst (λ ys. Lists (λ v. IsMember v ys × P v) out) (take_all i xs l) h

-- ---- lists of both

pub lists_set : (P : Value → Type 0) (xs : List Value) → Lists P xs → IsAscending xs
lists_set P xs h = h.ascending

pub lists_merged : (ls rs both ys : List Value) → both ≡ ls ++ rs → IsAscending ys → HaveSameMembers both ys → Lists (λ v. IsMember v ls ⊎ IsMember v rs) ys
unfolding HaveSameMembers
lists_merged ls rs both ys e asc same =
    let of_both : (z : Value) → IsMember z both ↔ (IsMember z ls ⊎ IsMember z rs) = λ z. subst (λ xs. IsMember z xs ↔ (IsMember z ls ⊎ IsMember z rs)) (sym e) (members-append ls rs z) in
    record {
      ascending = asc;
      members = λ z. (λ m. (of_both z).0 ((same z).1 m), λ m. (same z).0 ((of_both z).1 m));
    }

-- ---- outcomes

pub listed_none : (o : Outcome) (out : List Value) → o ≡ Undefined → out ≡ [] → IsListed o (IsIn o) out
listed_none o out e n = subst (λ p. IsListed p (IsIn p) out) (sym e) (record { within = λ k. (cc); lists = lists_none (IsIn Undefined) out n (λ v k. k) })
