-- Sizes one after another: which are accepted so far, and where a fault stands.
use Rattle.zf_meaning.proofs.Prelude.{◌++◌, ◌+◌, ◌<◌, ◌∙◌, ◌∷◌, ◌≡◌, ◌⊎◌, [], ap, drop, get_or, inl, inr, length, List, refl, subst, sym, take, take-append-drop, ℕ, drop_more, map-append, take_more, All-more, Contains-push_cases, All, Contains, AreAccepted, IsAccepted, IsRefusal, LacksSize, names, IsSizeFault, RefusesSize, Size}
use Rattle.zf_meaning.specs.declared.sizes.SizeFault.{SizeFault}
use Rattle.zf_meaning.specs.declared.sizes.SizeFault.TheVariants.{NoSize, NotGiven, SizeTwice, SizeTooLarge, OutOfMemory}

-- a list is what stands before a place, the element there, and what follows
pub split_at : {X : Type 0} (xs : List X) (i : ℕ) (x : X) → i < length xs → x ≡ get_or xs i x → xs ≡ take i xs ++ x ∷ drop (i + 1) xs
split_at xs i x h e = sym (take-append-drop i xs) ∙ ap (λ ys. take i xs ++ ys) (drop_more xs i x h ∙ ap (λ y. y ∷ drop (i + 1) xs) (sym e))

pub lacks-more : {X : Type 0} (xs : List X) (i : ℕ) (x y : X) → i < length xs → x ≡ get_or xs i x → ¬ (Contains (take i xs) y) → ¬ (x ≡ y) → ¬ (Contains (take (i + 1) xs) y)
lacks-more xs i x y h e before here m =
    elim (Contains-push_cases (take i xs) x y (subst (λ zs. Contains zs y) (take_more xs i x h ∙ ap (λ z. take i xs ++ z ∷ []) (sym e)) m)) [
      | inl earlier ↦ before earlier
      | inr same ↦ here same
    ]

pub names-lack-more : (sizes : List Size) (i : ℕ) (size : Size) (name : List ℕ) → i < length sizes → size ≡ get_or sizes i size → ¬ (Contains (names (take i sizes)) name) → ¬ (size.name ≡ name)
    → ¬ (Contains (names (take (i + 1) sizes)) name)
names-lack-more sizes i size name h e before here m =
    let one : take (i + 1) sizes ≡ take i sizes ++ size ∷ [] = take_more sizes i size h ∙ ap (λ z. take i sizes ++ z ∷ []) (sym e) in
    let all : names (take (i + 1) sizes) ≡ names (take i sizes) ++ size.name ∷ [] = ap names one ∙ map-append (λ size. size.name) (take i sizes) (size ∷ []) in
    elim (Contains-push_cases (names (take i sizes)) size.name name (subst (λ zs. Contains zs name) all m)) [
      | inl earlier ↦ before earlier
      | inr same ↦ here same
    ]

-- an element of a list with one more at its end
split-push : {X : Type 0} (xs : List X) (x : X) (front : List X) (y : X) (rest : List X) → xs ++ x ∷ [] ≡ front ++ y ∷ rest → ((xs ≡ front) × (x ≡ y)) ⊎ ((later : List X) × (xs ≡ front ++ y ∷ later))
split-push [] x [] y rest e = inl (refl, cc)
split-push [] x (z ∷ []) y rest e = absurd (cc)
split-push [] x (z ∷ w ∷ front) y rest e = absurd (cc)
split-push (v ∷ xs) x [] y rest e = inr (xs, cc)
split-push {X} (v ∷ xs) x (z ∷ front) y rest e =
    let head : v ≡ z = cc in
    let tail : xs ++ x ∷ [] ≡ front ++ y ∷ rest = cc in
    elim (split-push xs x front y rest tail) [
      | inl p ↦ inl (cc, p.1)
      | inr p ↦ inr (p.0, cc)
    ]

pub AreAccepted-none : (sets : List (List ℕ)) → AreAccepted sets []
AreAccepted-none sets [] size later e = absurd (cc)
AreAccepted-none sets (first ∷ earlier) size later e = absurd (cc)

pub AreAccepted-more : (sets : List (List ℕ)) (sizes : List Size) (i : ℕ) (size : Size) → i < length sizes → size ≡ get_or sizes i size
    → AreAccepted sets (take i sizes) → IsAccepted sets (take i sizes) size
    → AreAccepted sets (take (i + 1) sizes)
AreAccepted-more sets sizes i size h e before here earlier other later split =
    let one : take (i + 1) sizes ≡ take i sizes ++ size ∷ [] = take_more sizes i size h ∙ ap (λ z. take i sizes ++ z ∷ []) (sym e) in
    elim (split-push (take i sizes) size earlier other later (sym one ∙ split)) [
      | inl p ↦ subst (λ z. IsAccepted sets earlier z) p.1 (subst (λ zs. IsAccepted sets zs size) p.0 here)
      | inr p ↦ before earlier other p.0 p.1
    ]

first : (sets : List (List ℕ)) (sizes : List Size) (i : ℕ) (size : Size) (fault : SizeFault) → i < length sizes → size ≡ get_or sizes i size → AreAccepted sets (take i sizes)
    → IsSizeFault sets (take i sizes) size fault → RefusesSize sets sizes fault
first sets sizes i size fault h e before r = record {
  earlier = take i sizes;
  size = size;
  later = drop (i + 1) sizes;
  split = split_at sizes i size h e;
  accepted = before;
  refused = r;
}

pub refusal-at : (sets : List (List ℕ)) (sizes : List Size) (i : ℕ) (size : Size) (fault : SizeFault) → i < length sizes → size ≡ get_or sizes i size → AreAccepted sets (take i sizes)
    → IsSizeFault sets (take i sizes) size fault → IsRefusal sets sizes fault
refusal-at sets sizes i size (NoSize name) h e before r = absurd r
refusal-at sets sizes i size (NotGiven name) h e before r = first sets sizes i size (NotGiven name) h e before r
refusal-at sets sizes i size (SizeTwice name) h e before r = first sets sizes i size (SizeTwice name) h e before r
refusal-at sets sizes i size (SizeTooLarge name) h e before r = first sets sizes i size (SizeTooLarge name) h e before r
refusal-at sets sizes i size OutOfMemory h e before r = tt

pub lack-at : (sets : List (List ℕ)) (sizes : List Size) (i : ℕ) (set : List ℕ) → i < length sets → set ≡ get_or sets i set → AreAccepted sets sizes
    → All (λ set. Contains (names sizes) set) (take i sets) → ¬ (Contains (names sizes) set) → LacksSize sets sizes set
lack-at sets sizes i set h e accepted sized lacking = record {
  accepted = accepted;
  earlier = take i sets;
  later = drop (i + 1) sets;
  split = split_at sets i set h e;
  sized = sized;
  lacking = lacking;
}

pub sized-more : (sets : List (List ℕ)) (sizes : List Size) (i : ℕ) (set : List ℕ) → i < length sets → set ≡ get_or sets i set
    → All (λ set. Contains (names sizes) set) (take i sets) → Contains (names sizes) set → All (λ set. Contains (names sizes) set) (take (i + 1) sets)
sized-more sets sizes i set h e before here = All-more (λ set. Contains (names sizes) set) sets i set h before (subst (λ set. Contains (names sizes) set) e here)
