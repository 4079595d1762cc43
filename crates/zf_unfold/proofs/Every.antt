-- What holds of every value of a list, in three truths; so of every row of sets, by its first value.
use Rattle.zf_unfold.proofs.Prelude.{◌++◌, ◌↔◌, ◌∷◌, ◌≡◌, ◌⊎◌, [], inl, inr, List, refl, replicate, subst, suc, sym, ℕ, ⊎_elim, Truth, Value, IsConjunction, IsForAll, IsQuantified, one_out, one_undefined, Several, values, ForAll, Is, True, False, Out, AreFrom, IsMember, members, repeated, all_rows, IsAmong, map}
use Rattle.zf_meaning.proofs.AllRows.{row-among, among-row}

-- as a universal quantifier has it
abbrev pub IsEvery : List Value → (Value → Truth → Type 0) → Truth → Type 0
IsEvery xs P True = (v : Value) → IsMember v xs → P v True
IsEvery xs P False = (v : Value) × IsMember v xs × P v False
IsEvery xs P Out = ((v : Value) × IsMember v xs × P v Out) × ((v : Value) → IsMember v xs → P v True ⊎ P v Out)

-- ---- all of them, or one of them

-- of each it is one or the other
abbrev AreEither : List Value → (P Q : Value → Type 0) → Type 0
AreEither xs P Q = (v : Value) → IsMember v xs → P v ⊎ Q v

all_or_one : (xs : List Value) (P Q : Value → Type 0) → AreEither xs P Q → ((v : Value) → IsMember v xs → P v) ⊎ ((v : Value) × IsMember v xs × Q v)
all_or_one [] P Q h = inl (λ v m. absurd m)
all_or_one (x ∷ xs) P Q h =
    ⊎_elim
    (λ p. ⊎_elim
    (λ all. inl (λ v m. ⊎_elim (λ e. subst P e p) (λ n. all v n) m))
    (λ one. inr (one.0, inr one.1, one.2))
    (all_or_one xs P Q (λ v m. h v (inr m))))
    (λ q. inr (x, inl refl, q))
    (h x (inl refl))

rows_or_one : (rows : List (List Value)) (P Q : List Value → Type 0) → ((vs : List Value) → IsAmong vs rows → P vs ⊎ Q vs)
    → ((vs : List Value) → IsAmong vs rows → P vs) ⊎ ((vs : List Value) × IsAmong vs rows × Q vs)
rows_or_one [] P Q h = inl (λ vs m. absurd m)
rows_or_one (row ∷ rows) P Q h =
    ⊎_elim
    (λ p. ⊎_elim
    (λ all. inl (λ vs m. ⊎_elim (λ e. subst P e p) (λ n. all vs n) m))
    (λ one. inr (one.0, inr one.1, one.2))
    (rows_or_one rows P Q (λ vs m. h vs (inr m))))
    (λ q. inr (row, inl refl, q))
    (h row (inl refl))

from_or_one : (ss : List Value) (P Q : List Value → Type 0) → ((vs : List Value) → AreFrom vs ss → P vs ⊎ Q vs)
    → ((vs : List Value) → AreFrom vs ss → P vs) ⊎ ((vs : List Value) × AreFrom vs ss × Q vs)
from_or_one ss P Q h =
    ⊎_elim
    (λ all. inl (λ vs r. all vs (row-among ss vs r)))
    (λ one. inr (one.0, among-row ss one.0 one.1, one.2))
    (rows_or_one (all_rows (map members ss)) P Q (λ vs m. h vs (among-row ss vs m)))

-- ---- lists

either_member : (xs ys : List Value) (v : Value) → IsMember v (xs ++ ys) → IsMember v xs ⊎ IsMember v ys
either_member [] ys v m = inr m
either_member (x ∷ xs) ys v m = ⊎_elim (λ e. inl (inl e)) (λ n. ⊎_elim (λ a. inl (inr a)) (λ b. inr b) (either_member xs ys v n)) m

left_member : (xs ys : List Value) (v : Value) → IsMember v xs → IsMember v (xs ++ ys)
left_member [] ys v m = absurd m
left_member (x ∷ xs) ys v m = ⊎_elim (λ e. inl e) (λ n. inr (left_member xs ys v n)) m

right_member : (xs ys : List Value) (v : Value) → IsMember v ys → IsMember v (xs ++ ys)
right_member [] ys v m = m
right_member (x ∷ xs) ys v m = inr (right_member xs ys v m)

module _ (P : Value → Truth → Type 0) where
  both_there : (xs ys : List Value) (u : Truth) → IsConjunction (IsEvery xs P) (IsEvery ys P) u → IsEvery (xs ++ ys) P u
  both_there xs ys True h = λ v m. ⊎_elim (λ a. h.0 v a) (λ b. h.1 v b) (either_member xs ys v m)
  both_there xs ys False h = ⊎_elim (λ a. (a.0, left_member xs ys a.0 a.1, a.2)) (λ b. (b.0, right_member xs ys b.0 b.1, b.2)) h
  both_there xs ys Out h =
      ⊎_elim
      (λ a. (
        (a.0.0.0, left_member xs ys a.0.0.0 a.0.0.1, a.0.0.2),
        λ v m. ⊎_elim (λ x. a.0.1 v x) (λ y. ⊎_elim (λ all. inl (all v y)) (λ out. out.1 v y) a.1) (either_member xs ys v m),
      ))
      (λ a. (
        (a.1.0.0, right_member xs ys a.1.0.0 a.1.0.1, a.1.0.2),
        λ v m. ⊎_elim (λ x. inl (a.0 v x)) (λ y. a.1.1 v y) (either_member xs ys v m),
      ))
      h

  -- all of them True, or one of them Out
  settled : (xs : List Value) → ((v : Value) → IsMember v xs → P v True ⊎ P v Out) → IsEvery xs P True ⊎ IsEvery xs P Out
  settled xs h = ⊎_elim (λ all. inl all) (λ one. inr (one, h)) (all_or_one xs (λ v. P v True) (λ v. P v Out) h)

  both_back : (xs ys : List Value) (u : Truth) → IsEvery (xs ++ ys) P u → IsConjunction (IsEvery xs P) (IsEvery ys P) u
  both_back xs ys True h = (λ v m. h v (left_member xs ys v m), λ v m. h v (right_member xs ys v m))
  both_back xs ys False h = ⊎_elim (λ a. inl (h.0, a, h.2)) (λ b. inr (h.0, b, h.2)) (either_member xs ys h.0 h.1)
  both_back xs ys Out h =
      let left = settled xs (λ v m. h.1 v (left_member xs ys v m)) in
      let rights = λ (v : Value) (m : IsMember v ys). h.1 v (right_member xs ys v m) in
      ⊎_elim
      (λ a. inl (((h.0.0, a, h.0.2), λ v m. h.1 v (left_member xs ys v m)), settled ys rights))
      (λ b. ⊎_elim (λ all. inr (all, ((h.0.0, b, h.0.2), rights))) (λ out. inl (out, inr ((h.0.0, b, h.0.2), rights))) left)
      (either_member xs ys h.0.0 h.0.1)

  pub every_both : (xs ys : List Value) (u : Truth) → IsConjunction (IsEvery xs P) (IsEvery ys P) u ↔ IsEvery (xs ++ ys) P u
  every_both xs ys u = (both_there xs ys u, both_back xs ys u)

  one_there : (x : Value) (u : Truth) → P x u → IsEvery (x ∷ []) P u
  one_there x True h = λ v m. ⊎_elim (λ e. subst (λ w. P w True) e h) (λ n. absurd n) m
  one_there x False h = (x, inl refl, h)
  one_there x Out h = ((x, inl refl, h), λ v m. ⊎_elim (λ e. inr (subst (λ w. P w Out) e h)) (λ n. absurd n) m)

  one_back : (x : Value) (u : Truth) → IsEvery (x ∷ []) P u → P x u
  one_back x True h = h x (inl refl)
  one_back x False h = ⊎_elim (λ e. subst (λ w. P w False) (sym e) h.2) (λ n. absurd n) h.1
  one_back x Out h = ⊎_elim (λ e. subst (λ w. P w Out) (sym e) h.0.2) (λ n. absurd n) h.0.1

  pub every_one : (x : Value) (u : Truth) → P x u ↔ IsEvery (x ∷ []) P u
  every_one x u = (one_there x u, one_back x u)

-- ---- rows

-- where a quantifier says this of rows, it says that of those after a first value
abbrev pub behind : (List Value → Truth → Type 0) → Value → List Value → Truth → Type 0
behind P v vs = P (v ∷ vs)

module _ (P : List Value → Truth → Type 0) (s : Value) (ss : List Value) where
  abbrev first : Value → Truth → Type 0
  first v = IsForAll (λ vs. AreFrom vs ss) (behind P v)

  each_there : ((v : Value) → IsMember v (members s) → first v True ⊎ first v Out) → (vs : List Value) → AreFrom vs (s ∷ ss) → P vs True ⊎ P vs Out
  each_there h [] r = absurd r
  each_there h (v ∷ vs) r = ⊎_elim (λ a. inl (a vs r.1)) (λ b. b.1 vs r.1) (h v r.0)

  true_there : ((v : Value) → IsMember v (members s) → first v True) → (vs : List Value) → AreFrom vs (s ∷ ss) → P vs True
  true_there h [] r = absurd r
  true_there h (v ∷ vs) r = h v r.0 vs r.1

  rows_there : (u : Truth) → IsEvery (members s) first u → IsForAll (λ vs. AreFrom vs (s ∷ ss)) P u
  rows_there True h = true_there h
  rows_there False h = (h.0 ∷ h.2.0, (h.1, h.2.1), h.2.2)
  rows_there Out h = ((h.0.0 ∷ h.0.2.0.0, (h.0.1, h.0.2.0.1), h.0.2.0.2), each_there h.1)

  false_back : (vs : List Value) → AreFrom vs (s ∷ ss) → P vs False → IsEvery (members s) first False
  false_back [] r h = absurd r
  false_back (v ∷ vs) r h = (v, r.0, (vs, r.1, h))

  -- after a first value all rows are True, or one is Out
  settled_behind : ((vs : List Value) → AreFrom vs (s ∷ ss) → P vs True ⊎ P vs Out) → (v : Value) → IsMember v (members s) → first v True ⊎ first v Out
  settled_behind all v m =
      let each = λ (vs : List Value) (r : AreFrom vs ss). all (v ∷ vs) (m, r) in
      ⊎_elim (λ a. inl a) (λ b. inr (b, each)) (from_or_one ss (λ vs. P (v ∷ vs) True) (λ vs. P (v ∷ vs) Out) each)

  out_back : (vs : List Value) → AreFrom vs (s ∷ ss) → P vs Out → ((ws : List Value) → AreFrom ws (s ∷ ss) → P ws True ⊎ P ws Out) → IsEvery (members s) first Out
  out_back [] r h all = absurd r
  out_back (v ∷ vs) r h all = ((v, r.0, ((vs, r.1, h), λ ws k. all (v ∷ ws) (r.0, k))), settled_behind all)

  rows_back : (u : Truth) → IsForAll (λ vs. AreFrom vs (s ∷ ss)) P u → IsEvery (members s) first u
  rows_back True h = λ v m vs r. h (v ∷ vs) (m, r)
  rows_back False h = false_back h.0 h.1 h.2
  rows_back Out h = out_back h.0.0 h.0.1 h.0.2 h.1

  pub rows_first : (u : Truth) → IsEvery (members s) first u ↔ IsForAll (λ vs. AreFrom vs (s ∷ ss)) P u
  rows_first u = (rows_there u, rows_back u)

-- ---- quantifiers

-- what a quantifier says after a first value of this set, where so many variables more and these others follow
abbrev pub says_behind : (P : List Value → Truth → Type 0) (n : ℕ) (s : Value) (r : Several) → Value → Truth → Type 0
says_behind P n s r v = IsQuantified ForAll (repeated n (Is s) r) (behind P v)

-- there is one
abbrev pub HasMember : Value → Type 0
HasMember s = (v : Value) × IsMember v (members s)

out_there : (s : Value) (u : Truth) → HasMember s → IsEvery (members s) (λ v w. w ≡ Out) u → u ≡ Out
out_there s True w h = h w.0 w.1
out_there s False w h = h.2
out_there s Out w h = refl

out_again : (s : Value) (u : Truth) → HasMember s → u ≡ Out → IsEvery (members s) (λ v w. w ≡ Out) u
out_again s True w h = λ v m. h
out_again s False w h = (w.0, w.1, h)
out_again s Out w h = ((w.0, w.1, refl), λ v m. inr refl)

module _ (P : List Value → Truth → Type 0) (s : Value) where
  none_there : (u : Truth) → IsEvery (members s) (λ v. IsForAll (λ vs. ⊥) (behind P v)) u → IsForAll (λ vs. ⊥) P u
  none_there True h = λ vs r. absurd r
  none_there False h = absurd h.2.1
  none_there Out h = absurd h.0.2.0.1

  none_again : (u : Truth) → IsForAll (λ vs. ⊥) P u → IsEvery (members s) (λ v. IsForAll (λ vs. ⊥) (behind P v)) u
  none_again True h = λ v m vs r. absurd r
  none_again False h = absurd h.1
  none_again Out h = absurd h.0.1

  -- a quantifier says what it says after every value of its first variable
  pub quantified_first : (n : ℕ) (r : Several) → HasMember s → (u : Truth)
      → IsEvery (members s) (says_behind P n s r) u ↔ IsQuantified ForAll (repeated (suc n) (Is s) r) P u
  quantified_first n (values ws) w u = rows_first P s (replicate n s ++ ws) u
  quantified_first n one_undefined w u = (none_there u, none_again u)
  quantified_first n one_out w u = (out_there s u w, out_again s u w)
