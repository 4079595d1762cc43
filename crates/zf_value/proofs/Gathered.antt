-- What a loop collects of the members of a list.
use Rattle.zf_value.proofs.Prelude.{◌++◌, ◌+◌, ◌<◌, ◌↔◌, ◌∙◌, ◌∷◌, ◌≡◌, ◌≤◌, ◌⊎◌, [], add-one, ap, Bool, false, get_or, inl, inr, IsTrue, length, List, None, not, Option, refl, Some, subst, sym, take, true, ℕ, ⊎_elim, Bor, pair, IsMember, parts, HaveSameMembers, IsKept, IsPartOf, IsSelected, GivesJust, IsGathered, Keep, Members, Others, First, Second, Whole, Value}
use Rattle.zf_value.specs.declared.part.Part.{Part}
use Rattle.zf_value.proofs.Among.{members-take_more, members-push, take_all}
use Rattle.zf_value.proofs.Seen.{parts-Tuple}

pub gathered_none : (G : Value → Value → Type 0) (out : List Value) → out ≡ [] → IsGathered G [] out
unfolding IsGathered
gathered_none G out e w = (λ m. absurd (subst (IsMember w) e m), λ g. absurd g.1)

-- what one more member gives is added
pub gathered_more : (G : Value → Value → Type 0) (xs : List Value) (i : ℕ) (x : Value) (out new : List Value) → x ≡ get_or xs i x → i < length xs
    → IsGathered G (take i xs) out → ((w : Value) → IsMember w new ↔ (IsMember w out ⊎ G x w)) → IsGathered G (take (i + 1) xs) new
unfolding IsGathered
gathered_more G xs i x out new e l h f w =
    rw add-one (
      λ m. ⊎_elim (λ a. let g = (h w).0 a in (g.0, (members-take_more xs i x e l g.0).1 (inl g.1), g.2)) (λ b. (x, (members-take_more xs i x e l x).1 (inr refl), b)) ((f w).0 m),
      λ g. (f w).1 (⊎_elim (λ a. inl ((h w).1 (g.0, a, g.2))) (λ s. inr (subst (λ z. G z w) (sym s) g.2)) ((members-take_more xs i x e l g.0).0 g.1)),
    )

-- it gives one value, or none
pub gathered_push : (G : Value → Value → Type 0) (xs : List Value) (i : ℕ) (x : Value) (out new : List Value) (v : Value) → x ≡ get_or xs i x → i < length xs
    → IsGathered G (take i xs) out → ((w : Value) → G x w ↔ (v ≡ w)) → new ≡ out ++ v ∷ [] → IsGathered G (take (i + 1) xs) new
gathered_push G xs i x out new v e l h f s =
    gathered_more G xs i x out new e l h (λ w.
    let both = members-push out v w in (
      λ m. ⊎_elim (λ a. inl a) (λ b. inr ((f w).1 b)) (both.0 (subst (IsMember w) s m)),
      λ m. subst (IsMember w) (sym s) (both.1 (⊎_elim (λ a. inl a) (λ b. inr ((f w).0 b)) m)),
    ))

pub gathered_pass : (G : Value → Value → Type 0) (xs : List Value) (i : ℕ) (x : Value) (out : List Value) → x ≡ get_or xs i x → i < length xs
    → IsGathered G (take i xs) out → ((w : Value) → G x w → ⊥) → IsGathered G (take (i + 1) xs) out
gathered_pass G xs i x out e l h f = gathered_more G xs i x out out e l h (λ w. (λ m. inl m, λ m. ⊎_elim (λ a. a) (λ g. absurd (f w g)) m))

pub gathered_all : (G : Value → Value → Type 0) (xs : List Value) (i : ℕ) (out : List Value) → length xs ≤ i → IsGathered G (take i xs) out → IsGathered G xs out
gathered_all G xs i out l h = subst (λ ys. IsGathered G ys out) (take_all i xs l) h

pub gathered_same : (G : Value → Value → Type 0) (xs out new : List Value) → HaveSameMembers out new → IsGathered G xs out → IsGathered G xs new
unfolding IsGathered HaveSameMembers
gathered_same G xs out new s h w = (λ m. (h w).0 ((s w).1 m), λ g. (s w).0 ((h w).1 g))

-- ---- pairs

abbrev first_of : Value → List Value → Value
first_of d [] = d
first_of d (x ∷ xs) = x

abbrev second_of : Value → List Value → Value
second_of d [] = d
second_of d (x ∷ xs) = first_of d xs

pub same_pair : (x y u v : Value) → pair x y ≡ pair u v → (x ≡ u) × (y ≡ v)
same_pair x y u v e =
    let lists : x ∷ y ∷ [] ≡ u ∷ v ∷ [] = sym (parts-Tuple (x ∷ y ∷ [])) ∙ ap parts e ∙ parts-Tuple (u ∷ v ∷ []) in
    (ap (first_of x) lists, ap (second_of x) lists)

-- ---- what just one value passes

pub given : (P : Value → Type 0) (r : Option (Bor Value)) (w : Bor Value) → r ≡ Some w → GivesJust P r → (v : Value) → P v ↔ (w.now ≡ v)
unfolding GivesJust
given P r w e h = subst (GivesJust P) e h

pub not_given : (P : Value → Type 0) (r : Option (Bor Value)) → r ≡ None → GivesJust P r → (v : Value) → P v → ⊥
unfolding GivesJust
not_given P r e h = subst (GivesJust P) e h

-- ---- parts

whole : (z v : Value) → IsPartOf Whole z v ↔ (z ≡ v)
whole z v = (λ e. e, λ e. e)

pub first : (z x y v : Value) → z ≡ pair x y → IsPartOf First z v ↔ (x ≡ v)
first z x y v e = (λ p. (same_pair x y v p.0 (sym e ∙ p.1)).0, λ s. (y, e ∙ ap (λ u. pair u y) s))

pub second : (z x y v : Value) → z ≡ pair x y → IsPartOf Second z v ↔ (y ≡ v)
second z x y v e = (λ p. (same_pair x y p.0 v (sym e ∙ p.1)).1, λ s. (x, e ∙ ap (λ u. pair x u) s))

pub part_whole : (part : Part) (z : Bor Value) → part ≡ Whole → GivesJust (IsPartOf part z.now) (Some z)
unfolding GivesJust
part_whole part z e = subst (λ p. GivesJust (IsPartOf p z.now) (Some z)) (sym e) (whole z.now)

pub part_first : (part : Part) (z y : Value) (x : Bor Value) → part ≡ First → z ≡ pair x.now y → GivesJust (IsPartOf part z) (Some x)
unfolding GivesJust
part_first part z y x e k = subst (λ p. GivesJust (IsPartOf p z) (Some x)) (sym e) (λ v. first z x.now y v k)

pub part_second : (part : Part) (z x : Value) (y : Bor Value) → part ≡ Second → z ≡ pair x y.now → GivesJust (IsPartOf part z) (Some y)
unfolding GivesJust
part_second part z x y e k = subst (λ p. GivesJust (IsPartOf p z) (Some y)) (sym e) (λ v. second z x y.now v k)

pub no_first : (part : Part) (z : Value) → part ≡ First → ((x y : Value) → z ≡ pair x y → ⊥) → GivesJust (IsPartOf part z) None
unfolding GivesJust
no_first part z e f = subst (λ p. GivesJust (IsPartOf p z) None) (sym e) (λ v p. f v p.0 p.1)

pub no_second : (part : Part) (z : Value) → part ≡ Second → ((x y : Value) → z ≡ pair x y → ⊥) → GivesJust (IsPartOf part z) None
unfolding GivesJust
no_second part z e f = subst (λ p. GivesJust (IsPartOf p z) None) (sym e) (λ v p. f p.0 v p.1)

-- ---- what is selected

pub kept_members : (keep : Keep) (set : List Value) (p : Value) (b : Bool) → keep ≡ Members → (IsTrue b ↔ IsMember p set) → IsTrue b ↔ IsKept keep set p
kept_members keep set p b e h = subst (λ k. IsTrue b ↔ IsKept k set p) (sym e) h

pub kept_others : (keep : Keep) (set : List Value) (p : Value) (b : Bool) → keep ≡ Others → (IsTrue b ↔ IsMember p set) → IsTrue (not b) ↔ IsKept keep set p
kept_others keep set p true e h = subst (λ k. IsTrue false ↔ IsKept k set p) (sym e) (λ f. (cc), λ f. absurd (f (h.0 refl)))
kept_others keep set p false e h = subst (λ k. IsTrue true ↔ IsKept k set p) (sym e) (λ t m. let k = h.1 m in (cc), λ f. refl)

-- the tested part is kept
pub selected : (test : Part) (keep : Keep) (set : List Value) (given : Part) (z : Value) (p : Bor Value) (r : Option (Bor Value))
    → GivesJust (IsPartOf test z) (Some p) → IsKept keep set p.now → GivesJust (IsPartOf given z) r → GivesJust (IsSelected test keep set given z) r
unfolding GivesJust
selected test keep set given z p None h k f = λ v s. f v s.3
selected test keep set given z p (Some w) h k f = λ v. (λ s. (f v).0 s.3, λ e. (p.now, (h p.now).1 refl, k, (f v).1 e))

pub not_kept : (test : Part) (keep : Keep) (set : List Value) (given : Part) (z : Value) (p : Bor Value) → GivesJust (IsPartOf test z) (Some p)
    → (IsKept keep set p.now → ⊥) → GivesJust (IsSelected test keep set given z) None
unfolding GivesJust
not_kept test keep set given z p h n = λ v s. n (subst (IsKept keep set) (sym ((h s.0).0 s.1)) s.2)

pub not_tested : (test : Part) (keep : Keep) (set : List Value) (given : Part) (z : Value) → GivesJust (IsPartOf test z) None → GivesJust (IsSelected test keep set given z) None
unfolding GivesJust
not_tested test keep set given z h = λ v s. h s.0 s.1

-- ---- a step of a loop that collects

pub step_push : (G : Value → Value → Type 0) (xs : List Value) (i : ℕ) (x : Value) (out new : List Value) (r : Option (Bor Value)) (p : Bor Value) (v : Value)
    → x ≡ get_or xs i x → i < length xs → IsGathered G (take i xs) out → GivesJust (G x) r → r ≡ Some p → v ≡ p.now → new ≡ out ++ v ∷ []
    → IsGathered G (take (i + 1) xs) new
step_push G xs i x out new r p v e l h f s k n = gathered_push G xs i x out new v e l h (λ w. subst (λ u. G x w ↔ (u ≡ w)) (sym k) (given (G x) r p s f w)) n

pub step_pass : (G : Value → Value → Type 0) (xs : List Value) (i : ℕ) (x : Value) (out : List Value) (r : Option (Bor Value)) → x ≡ get_or xs i x
    → i < length xs → IsGathered G (take i xs) out → GivesJust (G x) r → r ≡ None → IsGathered G (take (i + 1) xs) out
step_pass G xs i x out r e l h f s = gathered_pass G xs i x out e l h (not_given (G x) r s f)
