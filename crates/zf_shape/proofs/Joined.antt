-- The nodes and the height of terms that are joined to the left.
use Rattle.zf_shape.proofs.Prelude.{◌++◌, ◌+◌, ◌-◌, ◌<◌, ◌↔◌, ◌∙◌, ◌∷◌, ◌≡◌, ◌≤◌, [], ap, arith, length, length-append, List, map, min, refl, suc, sym, zero, ℕ, all_joined, all_of, batch_of, Batch, both_hold, conjunct_of, Conjunct, height, joined, moved, nodes, numbering, ResolvedTree, terms, all_nodes, take, get_or, add-one, append-nil, append_assoc, batch-seen, length-map, subst, same_height, same_nodes, AreLow, Span}
use Rattle.zf_shape.proofs.FirstOf.{before, IsCounted, IsMore, more}
use Rattle.zf_shape.proofs.Heights.{some_height}

-- ---- nodes

nodes_behind : (t : ResolvedTree) (ts : List ResolvedTree) → nodes (all_joined t ts) ≡ nodes t + all_nodes (terms ts) + length ts
nodes_behind t [] = omega arith
nodes_behind t (u ∷ us) = omega (arith, nodes_behind (both_hold t u) us)

-- there is one more between two terms
pub joined_nodes : (l : Span) (ts : List ResolvedTree) → 0 < length ts → nodes (joined l ts) + 1 ≡ all_nodes (terms ts) + length ts
joined_nodes l [] some = absurd (omega (arith, some))
joined_nodes l (t ∷ ts) some = omega (arith, nodes_behind t ts)

-- ---- heights

-- a term, or several that are joined, and others after it
joined_low : (n d a : ℕ) (t : ResolvedTree) (ts : List ResolvedTree) → a ≡ length ts → a ≤ d → (height (all_joined t ts) ≤ n) ↔ ((height t + a ≤ n) × AreLow n d a ts)
joined_low n d a t [] e l = (λ h. (omega (arith, h, e), tt), λ h. omega (arith, h.0, e))
joined_low n d a t (u ∷ us) e l =
    let rest = joined_low n d (a - 1) (both_hold t u) us (omega (arith, e)) (omega (arith, l)) in (
      λ h. let both = rest.0 h in (omega (arith, both.0, e), (omega (arith, both.0, e, l), both.1)),
      λ h. rest.1 (omega (arith, h.0, h.1.0, e, l), h.1.1),
    )

pub low_joined : (l : Span) (n m : ℕ) (ts : List ResolvedTree) → m ≡ length ts → 0 < m → (height (joined l ts) ≤ n) ↔ AreLow n (m - 1) m ts
low_joined l n m [] e some = absurd (omega (arith, e, some))
low_joined l n m (t ∷ ts) e some =
    let rest = joined_low n (m - 1) (m - 1) t ts (omega (arith, e)) (omega arith) in (
      λ h. let both = rest.0 h in (omega (arith, both.0), both.1),
      λ h. rest.1 (omega (arith, h.0, some), h.1),
    )

-- no term is less high than there are terms
below_joined : (t : ResolvedTree) (ts : List ResolvedTree) → height t + length ts ≤ height (all_joined t ts)
below_joined t [] = omega arith
below_joined t (u ∷ us) = omega (arith, below_joined (both_hold t u) us)

pub as_high : (l : Span) (ts : List ResolvedTree) → length ts ≤ height (joined l ts)
as_high l [] = omega arith
as_high l (t ∷ ts) = omega (arith, below_joined t ts, some_height t)

-- ---- terms that are numbered anew

pub low_moved : (f : ℕ → ℕ) (n d a : ℕ) (ts : List ResolvedTree) → AreLow n d a (map (moved f) ts) ↔ AreLow n d a ts
low_moved f n d a [] = (λ h. h, λ h. h)
low_moved f n d a (t ∷ ts) =
    let rest = low_moved f n d (a - 1) ts in
    (λ h. (omega (arith, h.0, same_height f t), rest.0 h.1), λ h. (omega (arith, h.0, same_height f t), rest.1 h.1))

pub nodes_moved : (f : ℕ → ℕ) (ts : List ResolvedTree) → all_nodes (terms (map (moved f) ts)) ≡ all_nodes (terms ts)
nodes_moved f [] = refl
nodes_moved f (t ∷ ts) = omega (arith, same_nodes f t, nodes_moved f ts)

-- ---- lists of terms

low_append : (n d a b : ℕ) (ts us : List ResolvedTree) → b ≡ a - length ts → AreLow n d a (ts ++ us) ↔ (AreLow n d a ts × AreLow n d b us)
low_append n d a b [] us e =
    let same : b ≡ a = omega (arith, e) in
    (λ h. (tt, subst (λ (m : ℕ). AreLow n d m us) (sym same) h), λ h. subst (λ (m : ℕ). AreLow n d m us) same h.1)
low_append n d a b (t ∷ ts) us e =
    let rest = low_append n d (a - 1) b ts us (omega (arith, e)) in
    (λ h. let both = rest.0 h.1 in ((h.0, both.0), both.1), λ h. (h.0.0, rest.1 (h.0.1, h.1)))

pub nodes_append : (ts us : List ResolvedTree) → all_nodes (terms (ts ++ us)) ≡ all_nodes (terms ts) + all_nodes (terms us)
nodes_append [] us = omega arith
nodes_append (t ∷ ts) us = omega (arith, nodes_append ts us)

-- ---- the first of several conjuncts

conjuncts_counted : IsCounted (λ (x : Conjunct). nodes (conjunct_of x)) (λ xs. all_nodes (terms (map conjunct_of xs)))
conjuncts_counted = (omega arith, λ x xs. omega arith)

pub conjuncts_before : (xs : List Conjunct) (i : ℕ) (x : Conjunct) → x ≡ get_or xs i x → i < length xs
    → all_nodes (terms (map conjunct_of (take i xs))) + nodes (conjunct_of x) ≤ all_nodes (terms (map conjunct_of xs))
conjuncts_before = before _ _ conjuncts_counted

pub conjuncts_more : IsMore (λ (x : Conjunct). nodes (conjunct_of x)) (λ xs. all_nodes (terms (map conjunct_of xs)))
conjuncts_more = more _ _ conjuncts_counted

pub low_at : (n d a : ℕ) (xs : List Conjunct) (i : ℕ) (x : Conjunct) → x ≡ get_or xs i x → i < length xs → AreLow n d a (map conjunct_of xs) → height (conjunct_of x) + min (a - i) d ≤ n
low_at n d a [] i x at l h = absurd (omega arith)
low_at n d a (y ∷ xs) zero x at l h = omega (arith, ap (λ z. height (conjunct_of z)) at, h.0)
low_at n d a (y ∷ xs) (suc i) x at l h = omega (arith, low_at n d (a - 1) xs i x at (omega arith) h.1)

low_next : (n d a : ℕ) (xs : List Conjunct) (i : ℕ) (x : Conjunct) → x ≡ get_or xs i x → i < length xs → AreLow n d a (map conjunct_of (take i xs))
    → height (conjunct_of x) + min (a - i) d ≤ n → AreLow n d a (map conjunct_of (take (suc i) xs))
low_next n d a [] i x at l h e = absurd (omega arith)
low_next n d a (y ∷ xs) zero x at l h e = (omega (arith, ap (λ z. height (conjunct_of z)) at, e), tt)
low_next n d a (y ∷ xs) (suc i) x at l h e = (h.0, low_next n d (a - 1) xs i x at (omega arith) h.1 (omega (arith, e)))

pub low_more : (n d a : ℕ) (xs : List Conjunct) (i : ℕ) (x : Conjunct) → x ≡ get_or xs i x → i < length xs → AreLow n d a (map conjunct_of (take i xs))
    → height (conjunct_of x) + min (a - i) d ≤ n → AreLow n d a (map conjunct_of (take (i + 1) xs))
low_more n d a xs i x at l h e = rw add-one (low_next n d a xs i x at l h e)

-- ---- the first of several batches

abbrev pub all_in : List Batch → List ResolvedTree
all_in bs = all_of (map batch_of bs)

abbrev pub trees : Batch → List ResolvedTree
trees b = map conjunct_of b.conjuncts

pub batch_length : (b : Batch) → length (batch_of b) ≡ length b.conjuncts
batch_length b = ap length (batch-seen b) ∙ length-map (trees b) (moved (numbering b.places)) ∙ length-map b.conjuncts conjunct_of

pub batch_nodes : (b : Batch) → all_nodes (terms (batch_of b)) ≡ all_nodes (terms (trees b))
batch_nodes b = ap (λ ts. all_nodes (terms ts)) (batch-seen b) ∙ nodes_moved (numbering b.places) (trees b)

pub batch_low : (n d a : ℕ) (b : Batch) → AreLow n d a (batch_of b) ↔ AreLow n d a (trees b)
batch_low n d a b =
    let same = low_moved (numbering b.places) n d a (trees b) in
    (λ h. same.0 (subst (AreLow n d a) (batch-seen b) h), λ h. subst (AreLow n d a) (sym (batch-seen b)) (same.1 h))

-- the batches before one, that one, and those after it
first_of_all : (xs : List Batch) (i : ℕ) (x : Batch) → x ≡ get_or xs i x → i < length xs → all_in (take (suc i) xs) ≡ all_in (take i xs) ++ batch_of x
first_of_all [] i x at l = absurd (omega arith)
first_of_all (y ∷ xs) zero x at l = append-nil (batch_of y) ∙ ap batch_of (sym at)
first_of_all (y ∷ xs) (suc i) x at l = ap (λ ts. batch_of y ++ ts) (first_of_all xs i x at (omega arith)) ∙ sym (append_assoc (batch_of y) (all_in (take i xs)) (batch_of x))

pub one_more_of_all : (xs : List Batch) (i : ℕ) (x : Batch) → x ≡ get_or xs i x → i < length xs → all_in (take (i + 1) xs) ≡ all_in (take i xs) ++ batch_of x
one_more_of_all xs i x at l = rw add-one (first_of_all xs i x at l)

abbrev Parts : List Batch → ℕ → Batch → Type 0
Parts xs i x = (rest : List ResolvedTree) × (all_in xs ≡ (all_in (take i xs) ++ batch_of x) ++ rest)

parts : (xs : List Batch) (i : ℕ) (x : Batch) → x ≡ get_or xs i x → i < length xs → Parts xs i x
parts [] i x at l = absurd (omega arith)
parts (y ∷ xs) zero x at l = (all_in xs, ap (λ b. batch_of b ++ all_in xs) (sym at))
parts (y ∷ xs) (suc i) x at l =
    let later = parts xs i x at (omega arith) in (
      later.0,
      ap (λ ts. batch_of y ++ ts) later.1
          ∙ sym (append_assoc (batch_of y) (all_in (take i xs) ++ batch_of x) later.0)
          ∙ ap (λ ts. ts ++ later.0) (sym (append_assoc (batch_of y) (all_in (take i xs)) (batch_of x))),
    )

pub count_before : (xs : List Batch) (i : ℕ) (x : Batch) → x ≡ get_or xs i x → i < length xs → length (all_in (take i xs)) + length x.conjuncts ≤ length (all_in xs)
count_before xs i x at l =
    let p = parts xs i x at l in
    omega (arith, ap length p.1, length-append (all_in (take i xs) ++ batch_of x) p.0, length-append (all_in (take i xs)) (batch_of x), batch_length x)

pub count_more : (xs : List Batch) (i : ℕ) (x : Batch) → x ≡ get_or xs i x → i < length xs → length (all_in (take (i + 1) xs)) ≡ length (all_in (take i xs)) + length x.conjuncts
count_more xs i x at l = omega (arith, ap length (one_more_of_all xs i x at l), length-append (all_in (take i xs)) (batch_of x), batch_length x)

pub batches_before : (xs : List Batch) (i : ℕ) (x : Batch) → x ≡ get_or xs i x → i < length xs → all_nodes (terms (all_in (take i xs))) + all_nodes (terms (trees x)) ≤ all_nodes (terms (all_in xs))
batches_before xs i x at l =
    let p = parts xs i x at l in
    omega (arith, ap (λ ts. all_nodes (terms ts)) p.1, nodes_append (all_in (take i xs) ++ batch_of x) p.0, nodes_append (all_in (take i xs)) (batch_of x), batch_nodes x)

pub batches_more : (xs : List Batch) (i : ℕ) (x : Batch) → x ≡ get_or xs i x → i < length xs
    → all_nodes (terms (all_in (take (i + 1) xs))) ≡ all_nodes (terms (all_in (take i xs))) + all_nodes (terms (trees x))
batches_more xs i x at l = omega (arith, ap (λ ts. all_nodes (terms ts)) (one_more_of_all xs i x at l), nodes_append (all_in (take i xs)) (batch_of x), batch_nodes x)

pub batch_low_at : (n d a b : ℕ) (xs : List Batch) (i : ℕ) (x : Batch) → x ≡ get_or xs i x → i < length xs → b ≡ a - length (all_in (take i xs)) → AreLow n d a (all_in xs) → AreLow n d b (trees x)
batch_low_at n d a b xs i x at l e h =
    let p = parts xs i x at l in
    let first = all_in (take i xs) ++ batch_of x in
    let front = (low_append n d a (a - length first) first p.0 refl).0 (subst (AreLow n d a) p.1 h) in
    (batch_low n d b x).0 ((low_append n d a b (all_in (take i xs)) (batch_of x) e).0 front.0).1

pub batch_low_more : (n d a b : ℕ) (xs : List Batch) (i : ℕ) (x : Batch) → x ≡ get_or xs i x → i < length xs → b ≡ a - length (all_in (take i xs))
    → AreLow n d a (all_in (take i xs)) → AreLow n d b (trees x) → AreLow n d a (all_in (take (i + 1) xs))
batch_low_more n d a b xs i x at l e before h =
    subst (AreLow n d a) (sym (one_more_of_all xs i x at l)) ((low_append n d a b (all_in (take i xs)) (batch_of x) e).1 (before, (batch_low n d b x).1 h))
