-- The rows that are listed are ascending, and are those that take their items of the layers.
use Rattle.zf_families.proofs.Prelude.{◌∙◌, ◌∷◌, ◌≡◌, [], ap, Bool, Less, List, refl, tied_itself, filter, ordering_then, every_also, IsAscending, row_order, value_order, Value, extended, extensions, some, whole, AllByRecursion, total-law}
use Rattle.zf_families.proofs.Lists.{Each, IsOrdered, each_append, each_map, each_weaker, ordered_append, ordered_filter, ordered_map}

abbrev pub Below : List Value → List Value → Type 0
Below r s = row_order r s ≡ Less

pub below_first : (p q : Value) (r s : List Value) → value_order p q ≡ Less → Below (p ∷ r) (q ∷ s)
below_first p q r s h = ap (λ o. ordering_then o (row_order r s)) h

pub below_same : (p : Value) (r s : List Value) → Below r s → Below (p ∷ r) (p ∷ s)
below_same p r s h = ap (λ o. ordering_then o (row_order r s)) (tied_itself total-law p) ∙ h

-- what holds of each row that begins with one of these items
pub each_extended : (P : List Value → Type 0) (f : Value → List Value → Bool) (rows : List (List Value)) (p : Value) → ((r : List Value) → P (p ∷ r)) → Each P (extended f rows p)
each_extended P f rows p h = each_map P (λ r. p ∷ r) (filter (f p) rows) (all (filter (f p) rows))
  where
    all : (rs : List (List Value)) → Each (λ r. P (p ∷ r)) rs
    all [] = tt
    all (r ∷ rs) = (h r, all rs)

pub each_extension : (P : List Value → Type 0) (f : Value → List Value → Bool) (rows : List (List Value)) (layer : List Value)
    → AllByRecursion (λ p. (r : List Value) → P (p ∷ r)) layer → Each P (extensions f layer rows)
each_extension P f rows [] h = tt
each_extension P f rows (p ∷ layer) h = each_append P (extended f rows p) (extensions f layer rows) (each_extended P f rows p h.0) (each_extension P f rows layer h.1)

pub each_some : (P : List Value → Type 0) (f : Value → List Value → Bool) (layers : List (List Value)) → Each (AllByRecursion (λ p. (r : List Value) → P (p ∷ r))) layers → Each P (some f layers)
each_some P f [] h = tt
each_some P f (l ∷ ls) h = each_append P (extensions f l ([] ∷ some f ls)) (some f ls) (each_extension P f ([] ∷ some f ls) l h.0) (each_some P f ls h.1)

-- ---- order

ordered_extended : (f : Value → List Value → Bool) (rows : List (List Value)) (p : Value) → IsOrdered Below rows → IsOrdered Below (extended f rows p)
ordered_extended f rows p h = ordered_map Below Below (λ r. p ∷ r) (filter (f p) rows) (below_same p) (ordered_filter Below (f p) rows h)

pub ordered_extensions : (f : Value → List Value → Bool) (rows : List (List Value)) (layer : List Value) → IsAscending layer → IsOrdered Below rows → IsOrdered Below (extensions f layer rows)
ordered_extensions f rows [] a h = tt
ordered_extensions f rows (p ∷ layer) a h =
    ordered_append Below (extended f rows p) (extensions f layer rows) (ordered_extended f rows p h) (ordered_extensions f rows layer a.1 h)
    (each_extended (λ x. Each (Below x) (extensions f layer rows)) f rows p
    (λ r. each_extension (Below (p ∷ r)) f rows layer (every_also (λ q. value_order p q ≡ Less) (λ q. (s : List Value) → Below (p ∷ r) (q ∷ s)) layer (λ q l s. below_first p q r s l) a.0)))

pub ordered_whole : (f : Value → List Value → Bool) (layers : List (List Value)) → Each IsAscending layers → IsOrdered Below (whole f layers)
ordered_whole f [] h = (tt, tt)
ordered_whole f (l ∷ ls) h = ordered_extensions f (whole f ls) l h.0 (ordered_whole f ls h.1)

-- each layer is ascending, and is below those after it
abbrev pub IsLadder : List (List Value) → Type 0
IsLadder [] = Unit {0}
IsLadder (l ∷ ls) = IsAscending l × AllByRecursion (λ p. Each (AllByRecursion (λ q. value_order p q ≡ Less)) ls) l × IsLadder ls

pub ordered_some : (f : Value → List Value → Bool) (layers : List (List Value)) → IsLadder layers → IsOrdered Below ([] ∷ some f layers)
ordered_some f layers h = (first layers, rest layers h)
  where
    nothing : (xs : List Value) → AllByRecursion (λ p. (r : List Value) → Below [] (p ∷ r)) xs
    nothing [] = tt
    nothing (x ∷ xs) = (λ r. refl, nothing xs)

    nothings : (ls : List (List Value)) → Each (AllByRecursion (λ p. (r : List Value) → Below [] (p ∷ r))) ls
    nothings [] = tt
    nothings (l ∷ ls) = (nothing l, nothings ls)

    first : (ls : List (List Value)) → Each (Below []) (some f ls)
    first ls = each_some (Below []) f ls (nothings ls)

    rest : (ls : List (List Value)) → IsLadder ls → IsOrdered Below (some f ls)
    rest [] g = tt
    rest (l ∷ ls) g =
        ordered_append Below (extensions f l ([] ∷ some f ls)) (some f ls)
        (ordered_extensions f ([] ∷ some f ls) l g.0 (first ls, rest ls g.2)) (rest ls g.2)
        (each_extension (λ x. Each (Below x) (some f ls)) f ([] ∷ some f ls) l
        (every_also (λ p. Each (AllByRecursion (λ q. value_order p q ≡ Less)) ls) (λ p. (r : List Value) → Each (Below (p ∷ r)) (some f ls)) l
        (λ p b r. each_some (Below (p ∷ r)) f ls (each_weaker (AllByRecursion (λ q. value_order p q ≡ Less)) (AllByRecursion (λ q. (s : List Value) → Below (p ∷ r) (q ∷ s))) ls
        (λ ys. every_also (λ q. value_order p q ≡ Less) (λ q. (s : List Value) → Below (p ∷ r) (q ∷ s)) ys (λ q e s. below_first p q r s e)) b))
        g.1))
