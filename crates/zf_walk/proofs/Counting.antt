-- Numbers of pairs.
use Rattle.zf_walk.proofs.Prelude.{◌+◌, ◌∷◌, ◌≡◌, ◌≤◌, ◌⊎◌, [], arith, inl, inr, List, refl, subst, sym, ℕ, ◌≢◌, Contains, cut, IsCount}
use Rattle.zf_walk.proofs.Lists.{Contains-head, Contains-later, Contains-cases, Contains-nil, AllPairs-nil, AllPairs-cons, no_longer}

pub cut-le : (number : ℕ) → cut number ≤ number
cut-le number = omega arith

module _ {V : Type 0} (P Q : List V × ℕ → Type 0) where
  pub number-same : (number : ℕ) → ((x : List V × ℕ) → P x → Q x) → ((x : List V × ℕ) → Q x → P x) → IsCount P number → IsCount Q number
  number-same number f g k = record { pairs = k.pairs; distinct = k.distinct; members = λ x. ((λ m. f x ((k.members x).0 m)), (λ q. (k.members x).1 (g x q))); is = k.is }

  -- one pair more
  pub number-more : (number : ℕ) (y : List V × ℕ) → (P y → ⊥) → Q y → ((x : List V × ℕ) → P x → Q x) → ((x : List V × ℕ) → Q x → P x ⊎ (y ≡ x)) → IsCount P number → IsCount Q (number + 1)
  number-more number y apart new f g k = record {
    pairs = y ∷ k.pairs;
    distinct = AllPairs-cons (λ p q. p ≢ q) y k.pairs (λ b m h. apart ((k.members y).0 (subst (Contains k.pairs) (sym h) m))) k.distinct;
    members = λ x. (
      (λ m. elim (Contains-cases y k.pairs x m) [ inl h ↦ subst Q h new | inr n ↦ f x ((k.members x).0 n) ]),
      (λ q. elim (g x q) [ inl p ↦ Contains-later y k.pairs x ((k.members x).1 p) | inr h ↦ subst (Contains (y ∷ k.pairs)) h (Contains-head y k.pairs) ]),
    );
    is = let i = k.is in omega arith;
  }

  -- more pairs are at least as many
  pub number-le : (t u : ℕ) → IsCount P t → IsCount Q u → ((x : List V × ℕ) → P x → Q x) → t ≤ u
  number-le t u k l f =
      let s = no_longer k.pairs l.pairs k.distinct (λ x m. (l.members x).1 (f x ((k.members x).0 m))) in
      let i = k.is in let j = l.is in omega arith

pub number-none : {V : Type 0} (P : List V × ℕ → Type 0) → ((x : List V × ℕ) → P x → ⊥) → IsCount P 0
number-none P h = record { pairs = []; distinct = AllPairs-nil (λ p q. p ≢ q); members = λ x. ((λ m. absurd (Contains-nil x m)), (λ p. absurd (h x p))); is = refl }
