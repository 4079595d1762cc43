-- What is reported of chosen conjuncts, one after another.
use Rattle.zf_why.proofs.Prelude.{◌++◌, ◌+◌, ◌≤◌, ◌∙◌, ◌∷◌, ◌≡◌, [], add-one, ap, append-nil, append_assoc, Bool, drop, false, inl, inr, length, List, map, Option, refl, Some, subst, suc, sym, true, zero, ℕ, AllByRecursion, slice_get, slice_set, Comp, conjunct_of, ResolvedTree, Value, Environment, CanAsk, CanBegin, IsAllowed, RuleOut, chosen_of, IsChosen, AreAlone, drop_all, Conjunct, seen_chosen, Told}
use Rattle.zf_why.specs.{AreTellings, IsTelling, Split, split_at, split_in, split_of}
use Rattle.zf_why.proofs.Beginning.{each_begins}
use Rattle.zf_why.proofs.Lists.{all_append, all_at}

-- ---- one after another

ahead : {A : Type 0} (xs : List A) (i : ℕ) (x : A) → slice_get xs i ≡ Some x → drop i xs ≡ x ∷ drop (suc i) xs
ahead [] i x at = absurd (cc)
ahead (y ∷ ys) zero x at = let e : y ≡ x = cc in ap (λ z. z ∷ ys) e
ahead (y ∷ ys) (suc i) x at = ahead ys i x at

module _ (R : ℕ → ResolvedTree → Told → Type 0) (ps : List ResolvedTree) (m : List Bool) where
  -- what is reported so far, up to this place
  pub record AreToldUpTo (i : ℕ) (told : List Told) : Type 0 where
    pub further : (rest : List Told) → AreTellings R i (drop i ps) (drop i m) rest → AreTellings R 0 ps m (told ++ rest)

  pub none_told : AreToldUpTo 0 []
  none_told = record { further = λ rest h. h }

  pub one_told : (i : ℕ) (p : ResolvedTree) (t : Told) (told : List Told) → slice_get ps i ≡ Some p → IsChosen m i → R i p t → AreToldUpTo i told → AreToldUpTo (i + 1) (told ++ t ∷ [])
  one_told i p t told at chosen is before = record {
    further = λ rest h.
        subst (AreTellings R 0 ps m) (sym (append_assoc told (t ∷ []) rest))
        (before.further (t ∷ rest)
        (subst (λ (qs : List ResolvedTree). AreTellings R i qs (drop i m) (t ∷ rest)) (sym (ahead ps i p at))
        (subst (λ (n : List Bool). AreTellings R i (p ∷ drop (suc i) ps) n (t ∷ rest)) (sym (ahead m i true chosen))
        (is, subst (λ (j : ℕ). AreTellings R j (drop j ps) (drop j m) rest) (add-one i) h))));
  }

  pub one_left : (i : ℕ) (p : ResolvedTree) (told : List Told) → slice_get ps i ≡ Some p → slice_get m i ≡ Some false → AreToldUpTo i told → AreToldUpTo (i + 1) told
  one_left i p told at left before = record {
    further = λ rest h.
        before.further rest
        (subst (λ (qs : List ResolvedTree). AreTellings R i qs (drop i m) rest) (sym (ahead ps i p at))
        (subst (λ (n : List Bool). AreTellings R i (p ∷ drop (suc i) ps) n rest) (sym (ahead m i false left))
        (subst (λ (j : ℕ). AreTellings R j (drop j ps) (drop j m) rest) (add-one i) h)));
  }

  pub all_told : (i : ℕ) (told : List Told) → length ps ≤ i → AreToldUpTo i told → AreTellings R 0 ps m told
  all_told i told past before =
      subst (AreTellings R 0 ps m) (append-nil told)
      (before.further [] (subst (λ (qs : List ResolvedTree). AreTellings R i qs (drop i m) []) (sym (drop_all i ps past)) refl))

-- ---- a conjunct beside the others

module _ {A : Type 0} (P : A → Type 0) where
  put_back : (ps : List A) (m : List Bool) (i : ℕ) (p : A) → slice_get ps i ≡ Some p → IsChosen m i
      → AllByRecursion P (chosen_of ps (slice_set m i false) ++ p ∷ []) → AllByRecursion P (chosen_of ps m)
  put_back [] m i p at chosen h = absurd (cc)
  put_back (q ∷ ps) [] i p at chosen h = tt
  put_back (q ∷ ps) (b ∷ m) zero p at chosen h =
      let here : b ≡ true = cc in
      let same : q ≡ p = cc in
      rw here (let both = apart (chosen_of ps m) h in (subst P (sym same) both.1, both.0)) where
        apart : (xs : List A) → AllByRecursion P (xs ++ p ∷ []) → AllByRecursion P xs × P p
        apart [] h = (tt, h.0)
        apart (x ∷ xs) h = let rest = apart xs h.1 in ((h.0, rest.0), rest.1)
  put_back (q ∷ ps) (true ∷ m) (suc i) p at chosen h = (h.0, put_back ps m i p at chosen h.1)
  put_back (q ∷ ps) (false ∷ m) (suc i) p at chosen h = put_back ps m i p at chosen h

module _ (e : Environment) (cs : List Comp) (held : List (Option Value)) (ps : List ResolvedTree) where
  -- what rules out everything together does so with one of them last
  pub ruled_out_beside : (m : List Bool) (i : ℕ) (p : ResolvedTree) → slice_get ps i ≡ Some p → IsChosen m i → RuleOut e cs held (chosen_of ps m)
      → RuleOut e cs held (chosen_of ps (slice_set m i false) ++ p ∷ [])
  ruled_out_beside m i p at chosen none h = none (record { row = h.row; within = h.within; allowed = put_back (IsAllowed e h.row) ps m i p at chosen h.allowed })

  pub begins_beside : (m : List Bool) (i : ℕ) (p : ResolvedTree) → slice_get ps i ≡ Some p → CanBegin e cs ps → CanBegin e cs (chosen_of ps m ++ p ∷ [])
  begins_beside m i p at h = record {
    ranges = h.ranges;
    predicates = all_append (CanAsk e (length cs)) (chosen_of ps m) (p ∷ []) (each_begins e cs [] ps m h).predicates (all_at (CanAsk e (length cs)) ps i p at h.predicates, tt);
  }

-- the others that are chosen, as predicates
pub others_seen : (cs others : List Conjunct) (m : List Bool) → others ≡ chosen_of cs m → map conjunct_of others ≡ chosen_of (map conjunct_of cs) m
others_seen cs others m is = ap (map conjunct_of) is ∙ seen_chosen conjunct_of cs m

-- ---- what is reported of each

module _ (e : Environment) (cs : List Comp) (held : List (Option Value)) where
  -- of one that rules out everything alone, that it does
  pub alone_ruled_out : (ps : List ResolvedTree) (m : List Bool) (i : ℕ) (p : ResolvedTree) → slice_get ps i ≡ Some p → IsChosen m i → AreAlone e cs held ps m → RuleOut e cs held (p ∷ [])
  alone_ruled_out ps m i p at chosen alone = elim (alone.picked i p at) [
    | inl (there, none) ↦ none
    | inr (left, some) ↦ absurd (let z : Some true ≡ Some false = sym chosen ∙ left in cc)
  ]

  -- the conjunct at a place is split as it is
  pub told_at :
      (details : Bool) (xs : List Conjunct) (i : ℕ) (x : Conjunct) (given others : List ResolvedTree) (told : Told) → slice_get xs i ≡ Some x → others ≡ given
      → IsTelling e cs held details others (split_of x) (conjunct_of x) told → IsTelling e cs held details given (split_at xs i) (conjunct_of x) told
  told_at details xs i x given others told at same is =
      subst (λ (z : Split). IsTelling e cs held details given z (conjunct_of x) told) (sym (ap split_in at))
      (subst (λ (qs : List ResolvedTree). IsTelling e cs held details qs (split_of x) (conjunct_of x) told) same is)
