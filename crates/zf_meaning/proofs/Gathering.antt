-- Several values are gathered one after another.
use Rattle.zf_meaning.proofs.Prelude.{◌++◌, ◌+◌, ◌<◌, ◌∙◌, ◌∷◌, ◌≡◌, ◌≤◌, [], add-one, ap, append-nil, append_assoc, arith, drop, get_or, length, List, map, refl, replicate, subst, suc, sym, take, zero, ℕ, drop_more, map-append, Bor, members, Outcome, Value, range-seen, range_of, ranges, resolved_of, terms, Range, Resolved, Context, lack_with, several_by, values_with, HasOutcome, HaveOutcomes, HaveRanges, one_more, one_out, one_undefined, repeated, Several, values, seen, sets_with, spread, Spread, Lack, IsAscending, AllByRecursion}
use Rattle.zf_value.specs.declared.value.Outcome.TheVariants as outcome
use Rattle.zf_outcome.specs.declared.gathered.Lack.TheVariants.{Nothing, Undefined, Out}
use Rattle.zf_meaning.proofs.NextRow.{seen-append}

-- what was gathered, before what is still to come
abbrev pub joined : Lack → List Value → Several → Several
joined Nothing vs (values ws) = values (vs ++ ws)
joined Nothing vs one_undefined = one_undefined
joined Nothing vs one_out = one_out
joined Undefined vs (values ws) = one_undefined
joined Undefined vs one_undefined = one_undefined
joined Undefined vs one_out = one_out
joined Out vs s = one_out

pub joined-begun : (s : Several) → joined Nothing [] s ≡ s
joined-begun (values ws) = refl
joined-begun one_undefined = refl
joined-begun one_out = refl

pub joined-all : (l : Lack) (vs : List Value) → joined l vs (values []) ≡ several_by l vs
joined-all Nothing vs = ap values (append-nil vs)
joined-all Undefined vs = refl
joined-all Out vs = refl

pub joined-more : (l : Lack) (vs : List Value) (x : Outcome) (s : Several) → joined l vs (one_more x s) ≡ joined (lack_with l x) (values_with vs x) s
joined-more Nothing vs outcome.Out (values ws) = refl
joined-more Nothing vs outcome.Out one_undefined = refl
joined-more Nothing vs outcome.Out one_out = refl
joined-more Nothing vs outcome.Undefined (values ws) = refl
joined-more Nothing vs outcome.Undefined one_undefined = refl
joined-more Nothing vs outcome.Undefined one_out = refl
joined-more Nothing vs (outcome.Is v) (values ws) = ap values (sym (append_assoc vs (v ∷ []) ws))
joined-more Nothing vs (outcome.Is v) one_undefined = refl
joined-more Nothing vs (outcome.Is v) one_out = refl
joined-more Undefined vs outcome.Out (values ws) = refl
joined-more Undefined vs outcome.Out one_undefined = refl
joined-more Undefined vs outcome.Out one_out = refl
joined-more Undefined vs outcome.Undefined (values ws) = refl
joined-more Undefined vs outcome.Undefined one_undefined = refl
joined-more Undefined vs outcome.Undefined one_out = refl
joined-more Undefined vs (outcome.Is v) (values ws) = refl
joined-more Undefined vs (outcome.Is v) one_undefined = refl
joined-more Undefined vs (outcome.Is v) one_out = refl
joined-more Out vs outcome.Out s = refl
joined-more Out vs outcome.Undefined s = refl
joined-more Out vs (outcome.Is v) s = refl

pub joined-repeated : (l : Lack) (vs : List Value) (n : ℕ) (x : Outcome) (s : Several) → joined l vs (repeated n x s) ≡ joined (lack_with l x) (sets_with vs n x) s
joined-repeated Nothing vs n outcome.Out (values ws) = refl
joined-repeated Nothing vs n outcome.Out one_undefined = refl
joined-repeated Nothing vs n outcome.Out one_out = refl
joined-repeated Nothing vs n outcome.Undefined (values ws) = refl
joined-repeated Nothing vs n outcome.Undefined one_undefined = refl
joined-repeated Nothing vs n outcome.Undefined one_out = refl
joined-repeated Nothing vs n (outcome.Is v) (values ws) = ap values (sym (append_assoc vs (replicate n v) ws))
joined-repeated Nothing vs n (outcome.Is v) one_undefined = refl
joined-repeated Nothing vs n (outcome.Is v) one_out = refl
joined-repeated Undefined vs n outcome.Out (values ws) = refl
joined-repeated Undefined vs n outcome.Out one_undefined = refl
joined-repeated Undefined vs n outcome.Out one_out = refl
joined-repeated Undefined vs n outcome.Undefined (values ws) = refl
joined-repeated Undefined vs n outcome.Undefined one_undefined = refl
joined-repeated Undefined vs n outcome.Undefined one_out = refl
joined-repeated Undefined vs n (outcome.Is v) (values ws) = refl
joined-repeated Undefined vs n (outcome.Is v) one_undefined = refl
joined-repeated Undefined vs n (outcome.Is v) one_out = refl
joined-repeated Out vs n outcome.Out s = refl
joined-repeated Out vs n outcome.Undefined s = refl
joined-repeated Out vs n (outcome.Is v) s = refl

-- ---- the terms of a list

abbrev pub GathersTo : Context → List Resolved → List Resolved → Lack → List Value → Type 0
GathersTo c all rest l vs = (s : Several) → HaveOutcomes c (terms (map resolved_of rest)) s → HaveOutcomes c (terms (map resolved_of all)) (joined l vs s)

pub gather-begun : (c : Context) (all rest : List Resolved) (l : Lack) (vs : List Value) → rest ≡ all → l ≡ Nothing → vs ≡ [] → GathersTo c all rest l vs
gather-begun c all rest l vs e f g s h =
    rw (f, g) (subst (HaveOutcomes c (terms (map resolved_of all))) (sym (joined-begun s)) (subst (λ ts. HaveOutcomes c (terms (map resolved_of ts)) s) e h))

pub gather-more : (c : Context) (all : List Resolved) (i : ℕ) (t : Resolved) (l k : Lack) (vs ws : List Value) (x : Outcome) → i < length all
    → t ≡ get_or all i t → GathersTo c all (drop i all) l vs → HasOutcome c (resolved_of t) x → k ≡ lack_with l x → ws ≡ values_with vs x
    → GathersTo c all (drop (i + 1) all) k ws
gather-more c all i t l k vs ws x h e g o f w s r =
    let split : drop i all ≡ t ∷ drop (i + 1) all = drop_more all i t h ∙ ap (λ y. y ∷ drop (i + 1) all) (sym e) in
    let one = g (one_more x s) (subst (λ ts. HaveOutcomes c (terms (map resolved_of ts)) (one_more x s)) (sym split) (x, s, o, r, refl)) in
    rw (f, w) (subst (HaveOutcomes c (terms (map resolved_of all))) (joined-more l vs x s) one)

pub gather-all : (c : Context) (all rest : List Resolved) (l : Lack) (vs : List Value) → rest ≡ [] → GathersTo c all rest l vs → HaveOutcomes c (terms (map resolved_of all)) (several_by l vs)
gather-all c all rest l vs e g =
    subst (HaveOutcomes c (terms (map resolved_of all))) (joined-all l vs) (g (values []) (subst (λ ts. HaveOutcomes c (terms (map resolved_of ts)) (values [])) (sym e) refl))

-- ---- the declared sets of ranges

abbrev pub RangesTo : Context → List Range → List Range → Lack → List Value → Type 0
RangesTo c all rest l vs = (s : Several) → HaveRanges c (ranges (map range_of rest)) s → HaveRanges c (ranges (map range_of all)) (joined l vs s)

pub ranges-begun : (c : Context) (all rest : List Range) (l : Lack) (vs : List Value) → rest ≡ all → l ≡ Nothing → vs ≡ [] → RangesTo c all rest l vs
ranges-begun c all rest l vs e f g s h =
    rw (f, g) (subst (HaveRanges c (ranges (map range_of all))) (sym (joined-begun s)) (subst (λ ts. HaveRanges c (ranges (map range_of ts)) s) e h))

pub ranges-more : (c : Context) (all : List Range) (i : ℕ) (t : Range) (l k : Lack) (vs ws : List Value) (x : Outcome) → i < length all → t ≡ get_or all i t
    → RangesTo c all (drop i all) l vs → HasOutcome c (resolved_of t.set) x → k ≡ lack_with l x → ws ≡ sets_with vs t.variables x
    → RangesTo c all (drop (i + 1) all) k ws
ranges-more c all i t l k vs ws x h e g o f w s r =
    let split : drop i all ≡ t ∷ drop (i + 1) all = drop_more all i t h ∙ ap (λ y. y ∷ drop (i + 1) all) (sym e) in
    let seen : HaveRanges c (ranges (range_of t ∷ map range_of (drop (i + 1) all))) (repeated t.variables x s) =
    subst (λ p. HaveRanges c (ranges (p ∷ map range_of (drop (i + 1) all))) (repeated t.variables x s)) (sym (range-seen t)) (x, s, o, r, refl) in
    let one = g (repeated t.variables x s) (subst (λ ts. HaveRanges c (ranges (map range_of ts)) (repeated t.variables x s)) (sym split) seen) in
    rw (f, w) (subst (HaveRanges c (ranges (map range_of all))) (joined-repeated l vs t.variables x s) one)

pub ranges-all : (c : Context) (all rest : List Range) (l : Lack) (vs : List Value) → rest ≡ [] → RangesTo c all rest l vs → HaveRanges c (ranges (map range_of all)) (several_by l vs)
ranges-all c all rest l vs e g =
    subst (HaveRanges c (ranges (map range_of all))) (joined-all l vs) (g (values []) (subst (λ ts. HaveRanges c (ranges (map range_of ts)) (values [])) (sym e) refl))

-- ---- sets of variables

replicate-suc : {A : Type 0} (n : ℕ) (x : A) → replicate (suc n) x ≡ replicate n x ++ x ∷ []
replicate-suc zero x = refl
replicate-suc (suc n) x = ap (λ xs. x ∷ xs) (replicate-suc n x)

pub replicate-more : {A : Type 0} (n : ℕ) (x : A) → replicate (n + 1) x ≡ replicate n x ++ x ∷ []
replicate-more n x = ap (λ k. replicate k x) (add-one n) ∙ replicate-suc n x

pub drop-past : {A : Type 0} (n : ℕ) (xs : List A) → length xs ≤ n → drop n xs ≡ []
drop-past zero [] h = refl
drop-past (suc n) [] h = refl
drop-past zero (x ∷ xs) h = absurd (omega arith)
drop-past (suc n) (x ∷ xs) h = drop-past n xs (omega arith)

pub spread-push : (xs : List Spread) (s : Spread) → spread (xs ++ s ∷ []) ≡ spread xs ++ replicate s.variables s.set
spread-push [] s = append-nil (replicate s.variables s.set)
spread-push (x ∷ xs) s = ap (λ ys. replicate x.variables x.set ++ ys) (spread-push xs s) ∙ sym (append_assoc (replicate x.variables x.set) (spread xs) (replicate s.variables s.set))

pub repeat-more : (before now new : List (Bor (List Value))) (list : Bor (List Value)) (n : ℕ) → seen now ≡ seen before ++ replicate n list.now
    → new ≡ now ++ list ∷ [] → seen new ≡ seen before ++ replicate (n + 1) list.now
repeat-more before now new list n h e =
    ap seen e ∙ seen-append now list ∙ ap (λ xs. xs ++ list.now ∷ []) h ∙ append_assoc (seen before) (replicate n list.now) (list.now ∷ [])
    ∙ ap (λ xs. seen before ++ xs) (sym (replicate-more n list.now))

spread-suc : (sets : List Spread) (i : ℕ) (s : Spread) → i < length sets → s ≡ get_or sets i s → spread (take (suc i) sets) ≡ spread (take i sets) ++ replicate s.variables s.set
spread-suc [] i s h e = absurd (omega arith)
spread-suc (x ∷ sets) zero s h e = append-nil (replicate x.variables x.set) ∙ ap (λ y. replicate y.variables y.set) (sym e)
spread-suc (x ∷ sets) (suc i) s h e =
    ap (λ ys. replicate x.variables x.set ++ ys) (spread-suc sets i s (omega arith) e) ∙ sym (append_assoc (replicate x.variables x.set) (spread (take i sets)) (replicate s.variables s.set))

map-replicate : {A B : Type 0} (f : A → B) (n : ℕ) (x : A) → map f (replicate n x) ≡ replicate n (f x)
map-replicate f zero x = refl
map-replicate f (suc n) x = ap (λ ys. f x ∷ ys) (map-replicate f n x)

-- the lists of the sets so far, and that of one more
pub lists-more : (sets : List Spread) (i : ℕ) (s : Spread) (list : List Value) (now new : List (Bor (List Value))) → i < length sets → s ≡ get_or sets i s
    → list ≡ members s.set → seen now ≡ map members (spread (take i sets)) → seen new ≡ seen now ++ replicate s.variables list
    → seen new ≡ map members (spread (take (i + 1) sets))
lists-more sets i s list now new h e l b n =
    let m : i + 1 ≡ suc i = omega arith in
    n ∙ ap (λ xs. xs ++ replicate s.variables list) b ∙ ap (λ ys. map members (spread (take i sets)) ++ replicate s.variables ys) l
    ∙ ap (λ ys. map members (spread (take i sets)) ++ ys) (sym (map-replicate members s.variables s.set)) ∙ sym (map-append members (spread (take i sets)) (replicate s.variables s.set))
    ∙ ap (map members) (sym (spread-suc sets i s h e)) ∙ ap (λ k. map members (spread (take k sets))) (sym m)

-- ---- sets that ascend

every-append : (P : Value → Type 0) (xs ys : List Value) → AllByRecursion P xs → AllByRecursion P ys → AllByRecursion P (xs ++ ys)
every-append P [] ys h k = k
every-append P (x ∷ xs) ys h k = (h.0, every-append P xs ys h.1 k)

every-replicate : (P : Value → Type 0) (n : ℕ) (x : Value) → P x → AllByRecursion P (replicate n x)
every-replicate P zero x h = tt
every-replicate P (suc n) x h = (h, every-replicate P n x h)

-- of the sets so far, and of one more
pub ascend-more : (sets : List Spread) (i : ℕ) (s : Spread) → i < length sets → s ≡ get_or sets i s → IsAscending (members s.set)
    → AllByRecursion (λ v. IsAscending (members v)) (spread (take i sets)) → AllByRecursion (λ v. IsAscending (members v)) (spread (take (i + 1) sets))
ascend-more sets i s h e up k =
    let m : i + 1 ≡ suc i = omega arith in
    subst (AllByRecursion (λ v. IsAscending (members v))) (sym (spread-suc sets i s h e) ∙ ap (λ n. spread (take n sets)) (sym m))
    (every-append (λ v. IsAscending (members v)) (spread (take i sets)) (replicate s.variables s.set) k (every-replicate (λ v. IsAscending (members v)) s.variables s.set up))

pub ascend-all : (sets : List Spread) (i : ℕ) → length sets ≤ i → AllByRecursion (λ v. IsAscending (members v)) (spread (take i sets)) → AllByRecursion (λ v. IsAscending (members v)) (spread sets)
ascend-all sets i l h = subst (λ ss. AllByRecursion (λ v. IsAscending (members v)) (spread ss)) (taken sets i l) h
  where
    taken : (xs : List Spread) (n : ℕ) → length xs ≤ n → take n xs ≡ xs
    taken [] zero l = refl
    taken [] (suc n) l = refl
    taken (x ∷ xs) zero l = absurd (omega arith)
    taken (x ∷ xs) (suc n) l = ap (λ ys. x ∷ ys) (taken xs n (omega arith))
