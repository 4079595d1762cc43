-- Predicates in which closed parts are names: they say what they said, and so do trees over them.
use Rattle.zf_instances.proofs.Prelude.{◌++◌, ◌+◌, ◌<◌, ◌↔◌, ◌∙◌, ◌∷◌, ◌≡◌, ◌≤◌, ◌⊎◌, [], ap, arith, inl, inr, length, List, map, refl, subst, suc, sym, take, zero, ℕ, ⊎_elim, slice_get, Truth, SayTheSame, both, either, HasLeavesWithin, HaveLeavesWithin, IsOfBoth, IsOfEither, IsTreeTruth, leaf, negated, opposite, planted, Tree, tree_at, Reference, Component, Global, Local, Outcome, Value, Resolved, resolved_of, ResolvedTree, references, Environment, longer, AreEach, AreLifted, IsLifted, IsLonger, due, due_of, greatest_place, HasTruth, NeedWithin, place_named, property, told, uses_first, with_first, AreBelow, IsBelow, UsesFirst}
use Rattle.zf_value.specs.declared.value.Truth as meaning
use Rattle.zf_walk.specs.declared.judge.Truth.TheVariants.{True, False, Out}
use Rattle.zf_walk.specs.Conjuncts.{Conjuncts}

-- ---- what was not changed

itself : (e : Environment) (t : ResolvedTree) → IsLifted e e t t
itself e t = record { same = λ row a. (λ h. h, λ h. h); uses = λ k h. h }

each_itself : (e : Environment) (ts : List ResolvedTree) → AreEach (IsLifted e e) ts ts
each_itself e [] = tt
each_itself e (t ∷ ts) = (itself e t, each_itself e ts)

no_more : (xs : List Outcome) → xs ++ [] ≡ xs
no_more [] = refl
no_more (x ∷ xs) = ap (λ ys. x ∷ ys) (no_more xs)

with_outcomes : Environment → List Outcome → Environment
with_outcomes e os = record { globals = e.globals; sizes = e.sizes; outcomes = os; numbers = e.numbers }

pub unchanged : (e : Environment) (ts : List ResolvedTree) → AreLifted e e ts ts
unfolding with_outcomes
unchanged e ts = record { longer = ([], sym (ap (with_outcomes e) (no_more e.outcomes))); each = each_itself e ts }

-- so do the same terms in the same environment
pub as_made : (f d e : Environment) (xs ys us : List Resolved) → f ≡ d → xs ≡ ys → AreLifted d e (map resolved_of ys) (map resolved_of us)
    → AreLifted f e (map resolved_of xs) (map resolved_of us)
as_made f d e xs ys us here same h =
    subst (λ (g : Environment). AreLifted g e (map resolved_of xs) (map resolved_of us)) (sym here)
    (subst (λ (ts : List Resolved). AreLifted d e (map resolved_of ts) (map resolved_of us)) (sym same) h)

-- ---- the first names

front : (xs ys : List Outcome) → take (length xs) (xs ++ ys) ≡ xs
front [] ys = refl
front (x ∷ xs) ys = ap (λ zs. x ∷ zs) (front xs ys)

pub first_names : (e f : Environment) (n : ℕ) → n ≡ length e.outcomes → IsLonger e f → with_first n f ≡ e
unfolding with_outcomes
first_names e f n is h = ap (λ x. with_first n x) h.1 ∙ ap (λ k. with_first k (longer e h.0)) is ∙ ap (with_outcomes e) (front e.outcomes h.0)

-- ---- what is due

place_within : (r : Reference) (k : ℕ) → IsBelow k r → place_named r ≤ k
place_within (Component i) k h = omega arith
place_within (Local i) k h = omega arith
place_within (Global i) k h = omega arith

all_within : (rs : List Reference) (k : ℕ) → AreBelow k rs → greatest_place rs ≤ k
all_within [] k h = omega arith
all_within (r ∷ rs) k h = omega (arith, place_within r k h.0, all_within rs k h.1)

due_within : (t : ResolvedTree) (k : ℕ) → UsesFirst k t → due t ≤ k
due_within t k h = all_within (references t) k h

due_no_more : (f e : Environment) (t u : ResolvedTree) → IsLifted f e t u → due t ≤ due u
due_no_more f e t u h = due_within t (due u) (h.uses (due u) (uses_first u (due u) (omega arith)))

module _ (f e : Environment) where
  pub dues_at : (ts us : List ResolvedTree) → AreEach (IsLifted f e) ts us → (c : ℕ) → due_of (slice_get ts c) ≤ due_of (slice_get us c)
  dues_at [] [] h c = omega arith
  dues_at [] (u ∷ us) h c = absurd h
  dues_at (t ∷ ts) [] h c = absurd h
  dues_at (t ∷ ts) (u ∷ us) h zero = due_no_more f e t u h.0
  dues_at (t ∷ ts) (u ∷ us) h (suc c) = dues_at ts us h.1 c

  pub as_many : (ts us : List ResolvedTree) → AreEach (IsLifted f e) ts us → length ts ≡ length us
  as_many [] [] h = refl
  as_many [] (u ∷ us) h = absurd h
  as_many (t ∷ ts) [] h = absurd h
  as_many (t ∷ ts) (u ∷ us) h = ap suc (as_many ts us h.1)

  truths_at : (ts us : List ResolvedTree) → AreEach (IsLifted f e) ts us → (c : ℕ) (row : List Value) (a : meaning.Truth) → HasTruth f row (slice_get ts c) a ↔ HasTruth e row (slice_get us c) a
  truths_at [] [] h c row a = (λ x. absurd x, λ x. absurd x)
  truths_at [] (u ∷ us) h c row a = absurd h
  truths_at (t ∷ ts) [] h c row a = absurd h
  truths_at (t ∷ ts) (u ∷ us) h zero row a = h.0.same row a
  truths_at (t ∷ ts) (u ∷ us) h (suc c) row a = truths_at ts us h.1 c row a

-- ---- trees over leaves that say as much

of_both : (P Q R S : Truth → Type 0) → ((u : Truth) → P u → R u) → ((u : Truth) → Q u → S u) → (u : Truth) → IsOfBoth P Q u → IsOfBoth R S u
of_both P Q R S f g False h = ⊎_elim (λ a. inl (f False a)) (λ b. inr (g False b)) h
of_both P Q R S f g True h = (f True h.0, g True h.1)
of_both P Q R S f g Out h = (⊎_elim (λ a. inl (f True a)) (λ a. inr (f Out a)) h.0, ⊎_elim (λ b. inl (g True b)) (λ b. inr (g Out b)) h.1, ⊎_elim (λ a. inl (f Out a)) (λ b. inr (g Out b)) h.2)

of_either : (P Q R S : Truth → Type 0) → ((u : Truth) → P u → R u) → ((u : Truth) → Q u → S u) → (u : Truth) → IsOfEither P Q u → IsOfEither R S u
of_either P Q R S f g True h = ⊎_elim (λ a. inl (f True a)) (λ b. inr (g True b)) h
of_either P Q R S f g False h = (f False h.0, g False h.1)
of_either P Q R S f g Out h = (⊎_elim (λ a. inl (f False a)) (λ a. inr (f Out a)) h.0, ⊎_elim (λ b. inl (g False b)) (λ b. inr (g Out b)) h.1, ⊎_elim (λ a. inl (f Out a)) (λ b. inr (g Out b)) h.2)

-- the leaves of the tree are among the first n
module _ (n : ℕ) (l m : Conjuncts Value) (row : List Value) (says : (c : ℕ) (t : Truth) → c < n → l.says c row t → m.says c row t) where
  pub tree_truth : (tree : Tree) → HasLeavesWithin n tree → (t : Truth) → IsTreeTruth l tree row t → IsTreeTruth m tree row t
  tree_truth (leaf c) w t h = says c t w h
  tree_truth (negated a) w t h = tree_truth a w (opposite t) h
  tree_truth (both a b) w t h =
      of_both (IsTreeTruth l a row) (IsTreeTruth l b row) (IsTreeTruth m a row) (IsTreeTruth m b row) (tree_truth a w.0) (tree_truth b w.1) t h
  tree_truth (either a b) w t h =
      of_either (IsTreeTruth l a row) (IsTreeTruth l b row) (IsTreeTruth m a row) (IsTreeTruth m b row) (tree_truth a w.0) (tree_truth b w.1) t h

pub named_alike : (f e : Environment) (ts leaves ps : List ResolvedTree) (trees : List Tree) → HaveLeavesWithin (length leaves) trees → AreLifted f e ts leaves
    → SayTheSame (planted (property e leaves) trees) (property e ps) → SayTheSame (planted (property f ts) trees) (property e ps)
named_alike f e ts leaves ps trees within h same = record {
  number = same.number;
  says = λ c l row t.
      let n = length leaves in
      let tree = tree_at trees c in
      let w = within c (leaf 0) l in
      let there = tree_truth n (property f ts) (property e leaves) row (λ k u i. (truths_at f e ts leaves h.each k row (told u)).0) tree w t in
      let back = tree_truth n (property e leaves) (property f ts) row (λ k u i. (truths_at f e ts leaves h.each k row (told u)).1) tree w t in
      (λ x. (same.says c l row t).0 (there x), λ x. back ((same.says c l row t).1 x));
}

-- ---- predicates in place of others

pub needs_no_more : (f e : Environment) (ts us : List ResolvedTree) → AreEach (IsLifted f e) ts us → (n : ℕ) → NeedWithin n us → NeedWithin n ts
needs_no_more f e ts us h n k c = omega (arith, dues_at f e ts us h c, k c)

pub lifted_alike : (f e : Environment) (ts us : List ResolvedTree) (x : Conjuncts Value) → AreLifted f e ts us → SayTheSame x (property f ts) → SayTheSame x (property e us)
lifted_alike f e ts us x h same = record {
  number = same.number ∙ as_many f e ts us h.each;
  says = λ c l row t.
      let truth = truths_at f e ts us h.each c row (told t) in
      (λ q. truth.0 ((same.says c l row t).0 q), λ q. (same.says c l row t).1 (truth.1 q));
}
