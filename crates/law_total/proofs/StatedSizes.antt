-- Stated sizes are complete, or one fault of theirs is the first.
use Rattle.law_total.proofs.Prelude.{◌+◌, ◌<◌, ◌∷◌, ◌≡◌, ◌⊎◌, [], arith, get_or, inl, inr, length, List, refl, subst, suc, take, zero, ℕ, ⊎_elim, cases_eq, cases_lt, ◌≢◌, All, Contains, Contains-cases, Contains-head, Contains-later, Contains-nil, SET_MAX, Defined, Definition, free_type, given_set, AddsSize, AreAccepted, AreComplete, AreSizes, given_sets, IsAccepted, IsRefusal, IsStated, names, IsSizeFault, with_given, Size}
use Rattle.std.proofs.lemmas.List.{take_all}
use Rattle.std.proofs.lemmas.List.Elements.{All-nil}
use Rattle.zf_meaning.specs.declared.sizes.SizeFault.{SizeFault}
use Rattle.zf_meaning.specs.declared.sizes.SizeFault.TheVariants.{NoSize, NotGiven, SizeTwice, SizeTooLarge, OutOfMemory}
use Rattle.zf_meaning.proofs.Accepting.{AreAccepted-none, AreAccepted-more, refusal-at, lack-at, sized-more}
use Rattle.law_total.proofs.Listed.{HasSome, Decided, decided_in, decided_lists}

-- ---- names

decided_contains : {A : Type 0} → ((x y : A) → Decided (x ≡ y)) → (xs : List A) (x : A) → Decided (Contains xs x)
decided_contains {A} same xs x = decided_in {P = λ (y : A). Contains xs y} same (record { list = xs; members = λ y. (λ m. m, λ m. m) }) x

has_name : (sets : List (List ℕ)) (name : List ℕ) → Decided (Contains sets name)
has_name sets name = decided_contains (decided_lists cases_eq) sets name

-- what stands at a place
nth : {X : Type 0} (xs : List X) (i : ℕ) → i < length xs → (x : X) × (x ≡ get_or xs i x)
nth [] i l = absurd (omega arith)
nth (x ∷ xs) zero l = (x, refl)
nth (x ∷ xs) (suc i) l = nth xs i (omega arith)

-- ---- what is accepted

-- a size is accepted after the earlier ones, or has a fault
accepted_or_not : (sets : List (List ℕ)) (earlier : List Size) (size : Size) → IsAccepted sets earlier size ⊎ ((fault : SizeFault) × IsSizeFault sets earlier size fault × (fault ≢ OutOfMemory))
accepted_or_not sets earlier size = elim (has_name sets size.name) [
  | inr n ↦ inr (NotGiven size.name, (refl, n), λ e. (cc))
  | inl g ↦ elim (has_name (names earlier) size.name) [
    | inl t ↦ inr (SizeTwice size.name, (refl, g, t), λ e. (cc))
    | inr f ↦ elim (cases_lt SET_MAX size.count) [
      | inl l ↦ inr (SizeTooLarge size.name, (refl, g, f, l), λ e. (cc))
      | inr l ↦ inl (record { given = g; first = f; small = l })
    ]
  ]
]

abbrev IsRefused : List (List ℕ) → List Size → Type 0
IsRefused sets sizes = (fault : SizeFault) × IsRefusal sets sizes fault × (fault ≢ OutOfMemory)

all_accepted_or_not : (sets : List (List ℕ)) (sizes : List Size) (n i : ℕ) → i + n ≡ length sizes → AreAccepted sets (take i sizes) → AreAccepted sets sizes ⊎ IsRefused sets sizes
all_accepted_or_not sets sizes zero i e h = inl (subst (AreAccepted sets) (take_all i sizes (omega arith)) h)
all_accepted_or_not sets sizes (suc n) i e h =
    let l : i < length sizes = omega arith in
    let s = nth sizes i l in
    ⊎_elim (λ a. all_accepted_or_not sets sizes n (i + 1) (omega arith) (AreAccepted-more sets sizes i s.0 l s.1 h a)) (λ f. inr (f.0, refusal-at sets sizes i s.0 f.0 l s.1 h f.1, f.2))
    (accepted_or_not sets (take i sizes) s.0)

all_sized_or_not : (sets : List (List ℕ)) (sizes : List Size) (n i : ℕ) → i + n ≡ length sets → AreAccepted sets sizes → All (λ set. Contains (names sizes) set) (take i sets)
    → All (λ set. Contains (names sizes) set) sets ⊎ IsRefused sets sizes
all_sized_or_not sets sizes zero i e a h = inl (subst (λ xs. All (λ set. Contains (names sizes) set) xs) (take_all i sets (omega arith)) h)
all_sized_or_not sets sizes (suc n) i e a h =
    let l : i < length sets = omega arith in
    let s = nth sets i l in
    ⊎_elim (λ m. all_sized_or_not sets sizes n (i + 1) (omega arith) a (sized-more sets sizes i s.0 l s.1 h m)) (λ f. inr (NoSize s.0, lack-at sets sizes i s.0 l s.1 a h f, λ e. (cc)))
    (has_name (names sizes) s.0)

pub complete_or_refused : (sets : List (List ℕ)) (sizes : List Size) → AreComplete sets sizes ⊎ IsRefused sets sizes
complete_or_refused sets sizes =
    ⊎_elim (λ a. ⊎_elim (λ s. inl (record { accepted = a; sized = s })) (λ f. inr f)
    (all_sized_or_not sets sizes (length sets) 0 (omega arith) a (All-nil (λ set. Contains (names sizes) set)))) (λ f. inr f)
    (all_accepted_or_not sets sizes (length sizes) 0 (omega arith) (AreAccepted-none sets))

-- ---- the sizes

stated_for : (stated : List Size) (name : List ℕ) → Contains (names stated) name → (count : ℕ) × IsStated stated name count
stated_for [] name m = absurd (Contains-nil name m)
stated_for (s ∷ stated) name m =
    ⊎_elim (λ e. (s.count, subst (λ (n : List ℕ). Contains (s ∷ stated) (record { name = n; count = s.count })) e (Contains-head s stated)))
    (λ n. let r = stated_for stated name n in (r.0, Contains-later s stated _ r.1)) (Contains-cases s.name (names stated) name m)

abbrev AreAllStated : List Size → List (List ℕ) → Type 0
AreAllStated stated sets = (set : List ℕ) → Contains sets set → Contains (names stated) set

others_stated : (stated : List Size) (name : List ℕ) (d : Definition) (sets : List (List ℕ)) → AreAllStated stated (with_given name d sets) → AreAllStated stated sets
others_stated stated name (given_set n) sets h = λ set m. h set (Contains-later name sets set m)
others_stated stated name d sets h = h

added : (stated : List Size) (name : List ℕ) (d : Definition) (sets : List (List ℕ)) (later : List ℕ) → AreAllStated stated (with_given name d sets) → HasSome (AddsSize stated name d later)
added stated name (given_set n) sets later h = let here = stated_for stated name (h name (Contains-head name sets)) in (here.0 ∷ later, (here.0, here.1, refl))
added stated name (free_type n constructors) sets later h = (length constructors ∷ later, refl)
added stated name d sets later h = (later, refl)

some_sizes_if : (stated : List Size) (g : List Defined) → AreAllStated stated (given_sets g) → HasSome (AreSizes stated g)
some_sizes_if stated [] h = ([], refl)
some_sizes_if stated (d ∷ g) h =
    let later = some_sizes_if stated g (others_stated stated d.name d.definition (given_sets g) h) in
    let whole = added stated d.name d.definition (given_sets g) later.0 h in
    (whole.0, (later.0, later.1, whole.1))

-- what all of a list have a member of it has
at_member : {A : Type 0} (P : A → Type 0) (xs : List A) (x : A) → All P xs → Contains xs x → P x
at_member P xs x h m = subst P m.2 (h m.0 x m.1)

pub some_sizes : (stated : List Size) (g : List Defined) → AreComplete (given_sets g) stated → HasSome (AreSizes stated g)
some_sizes stated g h = some_sizes_if stated g (λ set m. at_member (λ set. Contains (names stated) set) (given_sets g) set h.sized m)
