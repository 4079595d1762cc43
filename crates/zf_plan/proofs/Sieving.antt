-- What conjuncts leave of a range is a choice wherever the values that they use are the same.
use Rattle.zf_plan.proofs.Prelude.{◌++◌, ◌+◌, ◌<◌, ◌∙◌, ◌∷◌, ◌≡◌, ◌≤◌, ◌⊎◌, [], ap, append_assoc, arith, Bool, cond, false, false≢true, get_or, inl, inr, length, length-append, List, None, refl, Some, subst, suc, sym, true, zero, ℕ, Contains, slice_get, slice_get-get_or, slice_get_within, get_or_default, Option, AreWithin-push, picked-push, nth-at, slice_get-nth, AreBelow, AreDueWithin, AreWithin, Conjuncts, HaveLeavesWithin, leaf, picked, Remembers, Tree, tree_at, False, IsTreeTruth, not, take-append-le, Contains-cases, Contains-head, Contains-later, Contains-nil, AreTrue, FollowUsed, AreDues, AreLasts, AreSifted, Forgets, IsGreatest, IsOneFalse, KeepsChosen, Memory, passing, StaysChoice}
use Rattle.zf_plan.proofs.Forgetting.{are-forgotten}
use Rattle.zf_plan.proofs.Marking.{stays-false, uses-more}
use Rattle.zf_plan.proofs.Moving.{tells-landed}

-- ---- places that are marked as passing

passing-has : (n : ℕ) (passes : List Bool) (i : ℕ) → slice_get passes i ≡ Some true → Contains (passing n passes) (n + i)
passing-has n [] i e = absurd (let w = slice_get_within [] i true e in omega arith)
passing-has n (true ∷ passes) zero e = subst (Contains (n ∷ passing (suc n) passes)) (omega arith) (Contains-head n (passing (suc n) passes))
passing-has n (false ∷ passes) zero e = absurd (let z : Some false ≡ Some true = e in cc)
passing-has n (true ∷ passes) (suc i) e = Contains-later n (passing (suc n) passes) (n + suc i) (subst (Contains (passing (suc n) passes)) (omega arith) (passing-has (suc n) passes i e))
passing-has n (false ∷ passes) (suc i) e = subst (Contains (passing (suc n) passes)) (omega arith) (passing-has (suc n) passes i e)

passing-at : (n : ℕ) (passes : List Bool) (j : ℕ) → Contains (passing n passes) j → (i : ℕ) × (j ≡ n + i) × (slice_get passes i ≡ Some true)
passing-at n [] j m = absurd (Contains-nil j m)
passing-at n (true ∷ passes) j m = elim (Contains-cases n (passing (suc n) passes) j m) [
  | inl e ↦ (zero, omega arith, refl)
  | inr later ↦ let h = passing-at (suc n) passes j later in (suc h.0, (let e = h.1 in omega arith), h.2)
]
passing-at n (false ∷ passes) j m = let h = passing-at (suc n) passes j m in (suc h.0, (let e = h.1 in omega arith), h.2)

pub has-passing : (passes : List Bool) (i : ℕ) → slice_get passes i ≡ Some true → Contains (passing 0 passes) i
has-passing passes i e = subst (Contains (passing 0 passes)) (omega arith) (passing-has 0 passes i e)

-- the places of a list are marked
pub all-marked : (places : List ℕ) (passes : List Bool) (n count : ℕ) → length passes ≡ n
    → ((j : ℕ) → j < count → get_or places j 0 < n → get_or passes (get_or places j 0) false ≡ true) → count ≡ length places
    → (i : ℕ) → i < n → Contains places i → Contains (passing 0 passes) i
all-marked places passes n count long marked all i near (k, l, e) =
    let here : get_or places k 0 ≡ i = get_or_default places k 0 i l ∙ e in
    let is : get_or passes i false ≡ true = subst (λ p. get_or passes p false ≡ true) here (marked k (omega (arith, all, l)) (omega (arith, here, near))) in
    has-passing passes i (slice_get-get_or passes i false (omega (arith, near, long)) ∙ ap Some is)

-- a choice stays one where it is marked
pub stays-kept : {V : Type 0} (l : Conjuncts V) (trees : List Tree) (ranges : List (List V)) (k n : ℕ) (places : List ℕ) (old new : Option (List ℕ))
    → KeepsChosen (length (get_or ranges k [])) old new → StaysChoice l trees ranges k n places old → StaysChoice l trees ranges k n places new
stays-kept l trees ranges k n places old new keeps stays others w long same i v more at out row =
    stays others w long same i v more at (λ m. out (keeps i (slice_get_within (get_or ranges k []) i v at) m)) row

pub is-passing : (passes : List Bool) (i : ℕ) → Contains (passing 0 passes) i → slice_get passes i ≡ Some true
is-passing passes i m = let h = passing-at 0 passes i m in subst (λ j. slice_get passes j ≡ Some true) (let e = h.1 in omega arith) h.2

pub held : (b : Bool) → not b ≡ false → b ≡ true
held true e = refl
held false e = absurd (false≢true (sym e))

-- where all places are chosen it is no matter which ones are listed
pub all-still : (b : Bool) (xs ys : List ℕ) → cond b None (Some xs) ≡ None → cond b None (Some ys) ≡ None
all-still true xs ys e = refl
all-still false xs ys e = absurd (let z : Some xs ≡ None = e in cc)

-- each place is marked
marked : (passes : List Bool) (i : ℕ) → i < length passes → (slice_get passes i ≡ Some true) ⊎ (slice_get passes i ≡ Some false)
marked [] i h = absurd (omega arith)
marked (true ∷ passes) zero h = inl refl
marked (false ∷ passes) zero h = inr refl
marked (b ∷ passes) (suc i) h = marked passes i (omega arith)

dropped-push : (passes : List Bool) (b : Bool) (i : ℕ) → slice_get (passes ++ b ∷ []) i ≡ Some false → (slice_get passes i ≡ Some false) ⊎ ((i ≡ length passes) × (b ≡ false))
dropped-push [] b zero e = inr (refl, let z : Some b ≡ Some false = e in cc)
dropped-push [] b (suc i) e = absurd (let w = slice_get_within [] i false e in omega arith)
dropped-push (x ∷ passes) b zero e = inl e
dropped-push (x ∷ passes) b (suc i) e = elim (dropped-push passes b i e) [ inl old ↦ inl old | inr new ↦ inr (ap suc new.0, new.1) ]

module _ {V : Type 0} (l : Conjuncts V) (trees : List Tree) (ranges : List (List V)) (conjuncts places : List ℕ) where
  pub sifted-none : AreSifted l trees ranges conjuncts places 0 []
  sifted-none = record { all = refl; dropped = λ i e. absurd (let w = slice_get_within [] i false e in omega arith) }

  -- one value more
  pub sifted-more : (n : ℕ) (passes : List Bool) (b : Bool) → AreSifted l trees ranges conjuncts places n passes → (b ≡ false → IsOneFalse l trees conjuncts (picked ranges (places ++ n ∷ [])))
      → AreSifted l trees ranges conjuncts places (n + 1) (passes ++ b ∷ [])
  sifted-more n passes b h here = record {
    all = omega (arith, length-append passes (b ∷ []), h.all);
    dropped = λ i e. elim (dropped-push passes b i e) [
      | inl old ↦ h.dropped i old
      | inr new ↦ subst (λ j. IsOneFalse l trees conjuncts (picked ranges (places ++ j ∷ []))) (let a = new.0 in let c = h.all in omega arith) (here new.1)
    ];
  }

-- ---- what is left is a choice

module _ {V : Type 0} (l : Conjuncts V) (trees : List Tree) (ranges : List (List V)) (k d : ℕ) (places : List ℕ) (uses : ℕ → ℕ
    → Bool) (follow : FollowUsed l uses) (due : AreDueWithin l (length ranges))
    (w : AreWithin ranges places) (long : length places ≡ k) (deep : k < length ranges) (conjuncts lasts : List ℕ) (below : AreBelow (length trees) conjuncts)
    (are : AreLasts uses trees k conjuncts lasts)
    (leaves : HaveLeavesWithin l.number trees) (most : IsGreatest lasts d) (passes : List Bool) (is : AreSifted l trees ranges conjuncts places (length (get_or ranges k [])) passes) where
  -- a value that does not pass
  false-at : (i : ℕ) (x : V) (more : List V) → slice_get (get_or ranges k []) i ≡ Some x → (c : ℕ) → IsTreeTruth l (tree_at trees c) (picked ranges (places ++ i ∷ []) ++ more) False
      → IsTreeTruth l (tree_at trees c) (picked ranges places ++ x ∷ more) False
  false-at i x more at c h =
      let near : i < length (get_or ranges (length places) []) = subst (λ n. i < length (get_or ranges n [])) (sym long) (slice_get_within (get_or ranges k []) i x at) in
      let n = nth-at (get_or ranges (length places) []) i near in
      let there : slice_get (get_or ranges k []) i ≡ Some n.0 = subst (λ m. slice_get (get_or ranges m []) i ≡ Some n.0) long (slice_get-nth (get_or ranges (length places) []) i n.0 n.1) in
      let same : n.0 ≡ x = cc in
      let row : picked ranges (places ++ i ∷ []) ++ more ≡ picked ranges places ++ x ∷ more =
      ap (λ r. r ++ more) (picked-push ranges places i n.0 w (omega (arith, long, deep)) n.1) ∙ append_assoc (picked ranges places) (n.0 ∷ []) more ∙ ap (λ v. picked ranges places ++ v ∷ more) same in
      subst (λ r. IsTreeTruth l (tree_at trees c) r False) row h

  pub sifted-stays : StaysChoice l trees ranges k d places (Some (passing 0 passes))
  sifted-stays others v e first i x more at out row =
      let near : i < length passes = let a = is.all in omega (arith, slice_get_within (get_or ranges k []) i x at) in
      elim (marked passes i near) [
        | inl yes' ↦ absurd (out (has-passing passes i yes'))
        | inr no' ↦
            let f = is.dropped i no' in
            let c = get_or conjuncts f.0 0 in
            let inside : c < length trees = below f.0 f.1 in
            let last = are.each f.0 (let a = are.all in let b = f.1 in omega arith) in
            let low : get_or lasts f.0 0 ≤ d = most f.0 (let a = are.all in let b = f.1 in omega arith) in (
              c,
              inside,
              stays-false l trees ranges k d places uses follow due w long (tree_at trees c) (leaves c (leaf 0) inside) (uses-more uses (get_or lasts f.0 0) d k low (tree_at trees c) last.1)
                  others v e first x more row (λ m. false-at i x more at c (f.2 more)),
            )
      ]

-- ---- one value more, and one less

pub within-push : {V : Type 0} (ranges : List (List V)) (places : List ℕ) (i : ℕ) → AreWithin ranges places → length places < length ranges
    → i < length (get_or ranges (length places) []) → AreWithin ranges (places ++ i ∷ [])
within-push ranges places i within near there = let n = nth-at (get_or ranges (length places) []) i there in AreWithin-push ranges places i n.0 within near n.1

module _ {V : Type 0} (l : Conjuncts V) (uses : ℕ → ℕ → Bool) (ranges : List (List V)) (places : List ℕ) (i : ℕ) where
  pub remembers-longer : (old new : Memory) → Remembers l uses ranges places old → Forgets (length places + 1) old new → Remembers l uses ranges (places ++ i ∷ []) new
  remembers-longer old new r g = record {
    dues = subst (AreDues l) (sym g.dues) r.dues;
    tells = tells-landed l ranges (length places) places (places ++ i ∷ []) old.truths new.truths r.tells (are-forgotten l (length places + 1) old new r.dues g)
        (omega arith) (omega (arith, length-append places (i ∷ []))) (λ j low. take-append-le j places (i ∷ []) low);
    tables = subst (AreTrue l uses ranges) (sym g.tables) r.tables;
  }

  pub remembers-shorter : (m : Memory) (js : List ℕ) → js ≡ places ++ i ∷ [] → Remembers l uses ranges js m → Remembers l uses ranges places m
  remembers-shorter m js longer h = let r = subst (λ ks. Remembers l uses ranges ks m) longer h in let told = r.tells in record {
    dues = r.dues;
    tells = record {
      all = told.all;
      right = λ c t m d e. subst (λ js. l.says c (picked ranges js) t) (take-append-le (l.due c) places (i ∷ []) d) (told.right c t m (omega (arith, d, length-append places (i ∷ []))) e);
    };
    tables = r.tables;
  }
