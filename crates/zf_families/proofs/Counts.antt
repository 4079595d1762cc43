-- How many rows there are, and counts that go no further than one more than a limit.
use Rattle.zf_families.proofs.Prelude.{◌*◌, ◌++◌, ◌+◌, ◌<◌, ◌^◌, ◌∙◌, ◌∷◌, ◌≡◌, ◌≤◌, [], ap, arith, get_or, length, List, map, min, refl, suc, sym, take, true, zero, ℕ, ⊎_elim, mul_assoc, pow-succ', pow-zero, cases_lt, length-append, length-map, map_more, filter, members, Value, sizes, extended, extensions, fits_any, some, whole}

-- counting on from a count that was cut gives what counting on and cutting gives
pub min_product : (m n c : ℕ) → min (min m c * n) c ≡ min (m * n) c
min_product m zero c = grind arith
min_product m (suc n) c = ⊎_elim
    (λ h. let e : min m c ≡ m = omega arith in ap (λ k. min (k * suc n) c) e)
    (λ h. let e : min m c ≡ c = omega arith in
    let a : m ≤ m * suc n = grind arith in
    let b : c ≤ c * suc n = grind arith in
    ap (λ k. min (k * suc n) c) e ∙ omega (arith, a, b))
    (cases_lt m c)

length_kept : (rows : List (List Value)) → length (filter (λ r. true) rows) ≡ length rows
length_kept [] = refl
length_kept (r ∷ rows) = ap suc (length_kept rows)

length_extensions : (l : List Value) (rows : List (List Value)) → length (extensions fits_any l rows) ≡ length l * length rows
length_extensions [] rows = grind arith
length_extensions (p ∷ l) rows =
    let here : length (extended fits_any rows p) ≡ length rows = length-map (filter (λ r. true) rows) (λ r. p ∷ r) ∙ length_kept rows in
    length-append (extended fits_any rows p) (extensions fits_any l rows) ∙ ap (λ n. n + length (extensions fits_any l rows)) here ∙ ap (λ n. length rows + n) (length_extensions l rows) ∙ grind arith

pub length_whole : (ls : List (List Value)) → length (whole fits_any ls) ≡ sizes (λ n. n) ls
length_whole [] = refl
length_whole (l ∷ ls) = length_extensions l (whole fits_any ls) ∙ ap (λ n. length l * n) (length_whole ls)

pub length_some : (ls : List (List Value)) → length ([] ∷ some fits_any ls) ≡ sizes suc ls
length_some [] = refl
length_some (l ∷ ls) =
    let rows = [] ∷ some fits_any ls in
    let ext : length (extensions fits_any l rows) ≡ length l * length rows = length_extensions l rows in
    let all : length (extensions fits_any l rows ++ some fits_any ls) ≡ length (extensions fits_any l rows) + length (some fits_any ls) = length-append
    (extensions fits_any l rows) (some fits_any ls) in
    let one : suc (length (extensions fits_any l rows ++ some fits_any ls)) ≡ suc (length l) * length rows = grind (arith, ext, all) in
    one ∙ ap (λ n. suc (length l) * n) (length_some ls)

-- layers of one size
pub sizes_same : (more : ℕ → ℕ) (n : ℕ) (layer : Value → List Value) (a : List Value) → ((x : Value) → length (layer x) ≡ n) → sizes more (map layer a) ≡ more n ^ length a
sizes_same more n layer [] h = sym (pow-zero (more n))
sizes_same more n layer (x ∷ a) h = ap (λ k. more k * sizes more (map layer a)) (h x) ∙ ap (λ k. more n * k) (sizes_same more n layer a h) ∙ sym (pow-succ' (more n) (length a))

pub sizes_push : (more : ℕ → ℕ) (ls : List (List Value)) (l : List Value) → sizes more (ls ++ l ∷ []) ≡ sizes more ls * more (length l)
sizes_push more [] l = grind arith
sizes_push more (k ∷ ls) l = ap (λ n. more (length k) * n) (sizes_push more ls l) ∙ sym (mul_assoc (more (length k)) (sizes more ls) (more (length l)))

-- one more set of a product is counted
pub count_more : (sets : List Value) (i : ℕ) (x : Value) (count next c : ℕ) → i < length sets → x ≡ get_or sets i x
    → count ≡ min (sizes (λ n. n) (map members (take i sets))) c → next ≡ min (count * length (members x)) c
    → next ≡ min (sizes (λ n. n) (map members (take (i + 1) sets))) c
count_more sets i x count next c h e k n =
    let taken : map members (take (i + 1) sets) ≡ map members (take i sets) ++ members x ∷ [] =
    map_more members sets i x h ∙ ap (λ y. map members (take i sets) ++ members y ∷ []) (sym e) in
    n ∙ ap (λ m. min (m * length (members x)) c) k ∙ min_product (sizes (λ m. m) (map members (take i sets))) (length (members x)) c
    ∙ sym (ap (λ m. min m c) (ap (sizes (λ m. m)) taken ∙ sizes_push (λ m. m) (map members (take i sets)) (members x)))
