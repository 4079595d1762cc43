-- Words in pages, and numbers that are marked by entries, or by bits in pages.
use Rattle.zf_parts.proofs.Prelude.{◌++◌, ◌+◌, ◌<◌, ◌∙◌, ◌∷◌, ◌≡◌, ◌⊎◌, [], ap, arith, Bool, false, inl, inr, length, List, None, Option, refl, Some, suc, sym, true, zero, ℕ, ◌-◌, ◌*◌, ◌/◌, ◌%◌, ◌^◌, ◌≤◌, eqb, get_or, replicate, slice_get, w64, set, div-le_self, mod-lt, cases_eq, cases_lt, cond-false, cond-true, eq-eqb, ne_eqb, get_or-set_other, get_or-set_same, slice_get_past, slice_get_read, slice_get_within, bit_or, bit_of, counted_page, has_in, IsKept, IsPlaced, IsSight, page_has, page_word, reached, word_in}
use Rattle.std.proofs.lemmas.Nat.{div-add-mod', shr-shr}
use Rattle.std.proofs.lemmas.Nat.Bits.{bit_at-trailing_zeros, bit_at-zero, bit_at_above, bit_at_set_other, bit_at_set_same}
use Rattle.std.specs.Int.{bit_at, trailing_zeros}
use Rattle.zf_parts.specs.declared.page.Page.{Page}
use Rattle.zf_parts.specs.declared.page.Sight.{Sight}
use Rattle.zf_parts.specs.declared.page.Sight.TheVariants.{Free, Marked}

one_split : (n m w : ℕ) → n / w ≡ m / w → n % w ≡ m % w → n ≡ m
one_split n m w a b = sym (div-add-mod' n w) ∙ ap (λ d. d * w + n % w) a ∙ ap (λ r. m / w * w + r) b ∙ div-add-mod' m w

-- ---- lists of pages

set_here : (pages : List Page) (at : ℕ) (x : Page) → at < length pages → slice_get (set pages at x) at ≡ Some x
set_here [] at x within = absurd (omega (arith, within))
set_here (p ∷ pages) zero x within = refl
set_here (p ∷ pages) (suc at) x within = set_here pages at x (omega (arith, within))

set_elsewhere : (pages : List Page) (at k : ℕ) (x : Page) → (k ≡ at → ⊥) → slice_get (set pages at x) k ≡ slice_get pages k
set_elsewhere [] at k x other = refl
set_elsewhere (p ∷ pages) zero zero x other = absurd (other refl)
set_elsewhere (p ∷ pages) zero (suc k) x other = refl
set_elsewhere (p ∷ pages) (suc at) zero x other = refl
set_elsewhere (p ∷ pages) (suc at) (suc k) x other = set_elsewhere pages at k x (λ e. other (ap suc e))

added_last : (pages : List Page) (x : Page) → slice_get (pages ++ x ∷ []) (length pages) ≡ Some x
added_last [] x = refl
added_last (p ∷ pages) x = added_last pages x

added_before : (pages : List Page) (x : Page) (k : ℕ) → (k ≡ length pages) ⊎ (slice_get (pages ++ x ∷ []) k ≡ slice_get pages k)
added_before [] x zero = inl refl
added_before [] x (suc k) = inr refl
added_before (p ∷ pages) x zero = inr refl
added_before (p ∷ pages) x (suc k) = elim (added_before pages x k) [ inl last ↦ inl (ap suc last) | inr before ↦ inr before ]

-- ---- words of pages

abbrev number_of : Option Page → ℕ
number_of None = 0
number_of (Some p) = p.number

pub zeros_behind : (words : List ℕ) (m k : ℕ) → get_or (words ++ replicate m 0) k 0 ≡ get_or words k 0
zeros_behind [] zero k = refl
zeros_behind [] (suc m) zero = refl
zeros_behind [] (suc m) (suc k) = zeros_behind [] m k
zeros_behind (w ∷ words) m zero = refl
zeros_behind (w ∷ words) m (suc k) = zeros_behind words m k

own_word : (p : Page) (q j : ℕ) → p.number ≡ q → page_word (Some p) q j ≡ get_or p.words j 0
own_word p q j is = cond-true (eqb p.number q) (get_or p.words j 0) 0 (eq-eqb p.number q is)

not_own : (p : Page) (q j : ℕ) → (p.number ≡ q → ⊥) → page_word (Some p) q j ≡ 0
not_own p q j other = cond-false (eqb p.number q) (get_or p.words j 0) 0 (ne_eqb p.number q other)

-- what is found at the place of a word's page
found_word : (places : List ℕ) (pages : List Page) (k at : ℕ) (found : Option Page) → get_or places (k / 16) 0 ≡ at → slice_get pages at ≡ found
    → word_in places pages k ≡ page_word found (k / 16) (k % 16)
found_word places pages k at found place there = ap (λ a. page_word (slice_get pages a) (k / 16) (k % 16)) place ∙ ap (λ f. page_word f (k / 16) (k % 16)) there

-- the word of a page that is kept
kept_word : (places : List ℕ) (pages : List Page) (q at k : ℕ) (p : Page) → get_or places q 0 ≡ at → slice_get pages at ≡ Some p → p.number ≡ q → k / 16 ≡ q
    → word_in places pages k ≡ get_or p.words (k % 16) 0
kept_word places pages q at k p place there is here =
    found_word places pages k at (Some p) (ap (λ r. get_or places r 0) here ∙ place) there ∙ own_word p (k / 16) (k % 16) (is ∙ sym here)

-- none of them up to one
pub none_in_kept : (places : List ℕ) (pages : List Page) (word at : ℕ) → IsKept places pages (word / 16) at → (p : Page) → p ≡ get_or pages at p → (next : ℕ) → next ≤ (word / 16 + 1) * 16
    → ((k : ℕ) → word < k → k < next → get_or p.words (k % 16) 0 ≡ 0) → (k : ℕ) → word < k → k < next → word_in places pages k ≡ 0
none_in_kept places pages word at h p read next near none k later before =
    let there : slice_get pages at ≡ Some p = slice_get_read pages (length pages) at p refl (slice_get_within pages at h.page h.there) read in
    let here : k / 16 ≡ word / 16 = omega (arith, later, before, near, div-add-mod' k 16, div-add-mod' word 16, mod-lt k {m = 16} (omega arith), mod-lt word {m = 16} (omega arith)) in
    kept_word places pages (word / 16) at k p h.stands there (ap number_of (sym there ∙ h.there) ∙ h.is) here ∙ none k later before

-- one page more
module _ (places grown : List ℕ) (pages : List Page) (q : ℕ) (x : Page) (same : (k : ℕ) → get_or grown k 0 ≡ get_or places k 0) (long : q < length grown) (none : (k : ℕ) → k / 16 ≡ q → word_in places pages k ≡ 0) (is : x.number ≡ q) (empty : (j : ℕ) → get_or x.words j 0 ≡ 0) where
  opened_at : (k : ℕ) → word_in (set grown q (length pages)) (pages ++ x ∷ []) k ≡ word_in places pages k
  opened_at k = elim (cases_eq (k / 16) q) [
    | inl here ↦ kept_word (set grown q (length pages)) (pages ++ x ∷ []) q (length pages) k x (get_or-set_same grown q (length pages) 0 long) (added_last pages x) is here
        ∙ empty (k % 16) ∙ sym (none k here)
    | inr other ↦
        let place : get_or (set grown q (length pages)) (k / 16) 0 ≡ get_or places (k / 16) 0 = get_or-set_other grown q (k / 16) (length pages) 0 other ∙ same (k / 16) in
        elim (added_before pages x (get_or places (k / 16) 0)) [
          | inl last ↦ found_word (set grown q (length pages)) (pages ++ x ∷ []) k (length pages) (Some x) (place ∙ last) (added_last pages x)
              ∙ not_own x (k / 16) (k % 16) (λ e. other (sym e ∙ is))
              ∙ sym (found_word places pages k (length pages) None last (slice_get_past pages (length pages) (omega arith)))
          | inr before ↦ found_word (set grown q (length pages)) (pages ++ x ∷ []) k (get_or places (k / 16) 0) (slice_get pages (get_or places (k / 16) 0)) place before
        ]
  ]

  pub opened : (more : List Page) (last : ℕ) → more ≡ pages ++ x ∷ [] → last ≡ length pages → (k : ℕ) → word_in (set grown q last) more k ≡ word_in places pages k
  opened more last added at k = ap (λ l. word_in (set grown q l) more k) at ∙ ap (λ m. word_in (set grown q (length pages)) m k) added ∙ opened_at k

-- one word changes
module _ (places : List ℕ) (pages : List Page) (w at : ℕ) (h : IsKept places pages (w / 16) at) (p : Page) (read : p ≡ get_or pages at p) (v : ℕ) where
  within : at < length pages
  within = slice_get_within pages at h.page h.there

  there : slice_get pages at ≡ Some p
  there = slice_get_read pages (length pages) at p refl within read

  is : p.number ≡ w / 16
  is = ap number_of (sym there ∙ h.there) ∙ h.is

  abbrev changed : Page
  changed = record { number = p.number; words = set p.words (w % 16) v }

  pub put_here : w % 16 < length p.words → word_in places (set pages at (record { number = p.number; words = set p.words (w % 16) v })) w ≡ v
  put_here long = kept_word places (set pages at changed) (w / 16) at w changed h.stands (set_here pages at changed within) is refl ∙ get_or-set_same p.words (w % 16) v 0 long

  put_elsewhere : (k : ℕ) → (k ≡ w → ⊥) → word_in places (set pages at (record { number = p.number; words = set p.words (w % 16) v })) k ≡ word_in places pages k
  put_elsewhere k other = elim (cases_eq (get_or places (k / 16) 0) at) [
    | inr apart ↦ ap (λ f. page_word f (k / 16) (k % 16)) (set_elsewhere pages at (get_or places (k / 16) 0) changed apart)
    | inl equal ↦ elim (cases_eq (k / 16) (w / 16)) [
      | inl here ↦ kept_word places (set pages at changed) (w / 16) at k changed h.stands (set_here pages at changed within) is here
          ∙ get_or-set_other p.words (w % 16) (k % 16) v 0 (λ e. other (one_split k w 16 here e))
          ∙ sym (kept_word places pages (w / 16) at k p h.stands there is here)
      | inr away ↦ found_word places (set pages at changed) k at (Some changed) equal (set_here pages at changed within) ∙ not_own changed (k / 16) (k % 16) (λ e. away (sym e ∙ is))
          ∙ sym (found_word places pages k at (Some p) equal there ∙ not_own p (k / 16) (k % 16) (λ e. away (sym e ∙ is)))
    ]
  ]

  pub put_others : (before : ℕ → ℕ) → ((k : ℕ) → word_in places pages k ≡ before k) → (k : ℕ) → (k ≡ w) ⊎ (word_in places (set pages at (record { number = p.number; words = set p.words (w % 16) v })) k ≡ before k)
  put_others before same k = elim (cases_eq k w) [ inl here ↦ inl here | inr other ↦ inr (put_elsewhere k other ∙ same k) ]

-- ---- bits of a page

-- a number's word and bit are given by its place in the page
place_in_page : (n : ℕ) → n % 1024 ≡ n / 64 % 16 * 64 + n % 64
place_in_page n = omega (arith, div-add-mod' n 1024, div-add-mod' n 64, div-add-mod' (n / 64) 16, mod-lt n {m = 1024} (omega arith), mod-lt n {m = 64} (omega arith), mod-lt (n / 64) {m = 16} (omega arith))

same_places : (i n : ℕ) → i % 1024 ≡ n % 1024 → (i / 64 % 16 ≡ n / 64 % 16) × (i % 64 ≡ n % 64)
same_places i n e = (
  omega (arith, e, place_in_page i, place_in_page n, mod-lt i {m = 64} (omega arith), mod-lt n {m = 64} (omega arith)),
  omega (arith, e, place_in_page i, place_in_page n, mod-lt i {m = 64} (omega arith), mod-lt n {m = 64} (omega arith)),
)

same_bit : (p : Page) (i n : ℕ) → i % 1024 ≡ n % 1024 → bit_of p i ≡ bit_of p n
same_bit p i n e =
    let (word, bit) = same_places i n e in
    ap (λ j. eqb (bit_at (get_or p.words j 0) (i % 64)) 1) word ∙ ap (λ b. eqb (bit_at (get_or p.words (n / 64 % 16) 0) b) 1) bit

-- one bit more
module _ (words : List ℕ) (n : ℕ) (long : n / 64 % 16 < length words) where
  abbrev value : ℕ
  value = bit_or (get_or words (n / 64 % 16) 0) (1 * 2 ^ (n % 64) % 2 ^ 64)

  low : n % 64 < 64
  low = mod-lt n {m = 64} (omega arith)

  pub bit_there : eqb (bit_at (get_or (set words (n / 64 % 16) (bit_or (get_or words (n / 64 % 16) 0) (1 * 2 ^ (n % 64) % 2 ^ 64))) (n / 64 % 16) 0) (n % 64)) 1 ≡ true
  bit_there = ap (λ v. eqb (bit_at v (n % 64)) 1) (get_or-set_same words (n / 64 % 16) value 0 long)
      ∙ ap (λ b. eqb b 1) (bit_at_set_same w64 (get_or words (n / 64 % 16) 0) (n % 64) low)

  pub bit_others : (i : ℕ) → (i % 1024 ≡ n % 1024)
      ⊎ (eqb (bit_at (get_or (set words (n / 64 % 16) (bit_or (get_or words (n / 64 % 16) 0) (1 * 2 ^ (n % 64) % 2 ^ 64))) (i / 64 % 16) 0) (i % 64)) 1 ≡ eqb (bit_at (get_or words (i / 64 % 16) 0) (i % 64)) 1)
  bit_others i = elim (cases_eq (i / 64 % 16) (n / 64 % 16)) [
    | inr other ↦ inr (ap (λ v. eqb (bit_at v (i % 64)) 1) (get_or-set_other words (n / 64 % 16) (i / 64 % 16) value 0 other))
    | inl word ↦ elim (cases_eq (i % 64) (n % 64)) [
      | inl bit ↦ inl (place_in_page i ∙ ap (λ k. k * 64 + i % 64) word ∙ ap (λ k. n / 64 % 16 * 64 + k) bit ∙ sym (place_in_page n))
      | inr other ↦ inr (
          ap (λ k. eqb (bit_at (get_or (set words (n / 64 % 16) value) k 0) (i % 64)) 1) word
          ∙ ap (λ v. eqb (bit_at v (i % 64)) 1) (get_or-set_same words (n / 64 % 16) value 0 long)
          ∙ ap (λ b. eqb b 1) (bit_at_set_other w64 (get_or words (n / 64 % 16) 0) (n % 64) low (i % 64) other)
          ∙ ap (λ k. eqb (bit_at (get_or words k 0) (i % 64)) 1) (sym word))
    ]
  ]

-- a page of an entry
no_one : (entry n : ℕ) → (entry ≡ 0) ⊎ (1024 < entry) → eqb entry (n % 1024 + 1) ≡ false
no_one entry n far = ne_eqb entry (n % 1024 + 1) (λ e. elim far [ inl none ↦ absurd (omega (arith, e, none)) | inr high ↦ absurd (omega (arith, e, high, mod-lt n {m = 1024} (omega arith))) ])

pub empty_page : (p : Page) (entry n : ℕ) → ((j : ℕ) → get_or p.words j 0 ≡ 0) → (entry ≡ 0) ⊎ (1024 < entry) → bit_of p n ≡ eqb entry (n % 1024 + 1)
empty_page p entry n empty far = ap (λ w. eqb (bit_at w (n % 64)) 1) (empty (n / 64 % 16)) ∙ ap (λ b. eqb b 1) (bit_at-zero (n % 64)) ∙ sym (no_one entry n far)

pub one_in_page : (old new : Page) (entry n : ℕ) → ((j : ℕ) → get_or old.words j 0 ≡ 0) → 0 < entry → entry ≤ 1024 → bit_of new (entry - 1) ≡ true
    → (n % 1024 ≡ (entry - 1) % 1024) ⊎ (bit_of new n ≡ bit_of old n) → bit_of new n ≡ eqb entry (n % 1024 + 1)
one_in_page old new entry n empty some few there others =
    let place : (entry - 1) % 1024 + 1 ≡ entry = omega (arith, some, few, div-add-mod' (entry - 1) 1024, mod-lt (entry - 1) {m = 1024} (omega arith)) in
    elim others [
      | inl same ↦ same_bit new n (entry - 1) same ∙ there ∙ sym (eq-eqb entry (n % 1024 + 1) (omega (arith, same, place)))
      | inr rest ↦ elim (cases_eq (n % 1024) ((entry - 1) % 1024)) [
        | inl same ↦ same_bit new n (entry - 1) same ∙ there ∙ sym (eq-eqb entry (n % 1024 + 1) (omega (arith, same, place)))
        | inr other ↦ rest ∙ empty_page old 0 n empty (inl refl) ∙ no_one 0 n (inl refl) ∙ sym (ne_eqb entry (n % 1024 + 1) (λ e. other (omega (arith, e, place))))
      ]
    ]

-- ---- entries

pub not_here : (y : Page) (e n : ℕ) → (y.number ≡ n / 1024 → ⊥) → page_has (Some y) e n ≡ eqb e (n % 1024 + 1)
not_here y e n other = cond-false (eqb y.number (n / 1024)) (bit_of y n) (eqb e (n % 1024 + 1)) (ne_eqb y.number (n / 1024) other)

-- a number in a page that is kept
pub placed_has : (pages : List Page) (e q at : ℕ) (y : Page) (n : ℕ) → e ≡ at + 1025 → slice_get pages at ≡ Some y → y.number ≡ q → n / 1024 ≡ q → has_in pages e n ≡ bit_of y n
placed_has pages e q at y n is there own here =
    let place : e - 1024 ≡ suc at = omega (arith, is) in
    ap (λ k. page_has (counted_page pages k) e n) place ∙ ap (λ f. page_has f e n) there
    ∙ cond-true (eqb y.number (n / 1024)) (bit_of y n) (eqb e (n % 1024 + 1)) (eq-eqb y.number (n / 1024) (own ∙ sym here))

-- a page more
module _ (pages : List Page) (q : ℕ) (x : Page) (own : x.number ≡ q) where
  pushed_at : (j e n : ℕ) → (n / 1024 ≡ q → ⊥) → page_has (counted_page (pages ++ x ∷ []) j) e n ≡ page_has (counted_page pages j) e n
  pushed_at zero e n other = refl
  pushed_at (suc k) e n other = elim (added_before pages x k) [
    | inr before ↦ ap (λ f. page_has f e n) before
    | inl last ↦ ap (λ f. page_has f e n) (ap (slice_get (pages ++ x ∷ [])) last ∙ added_last pages x) ∙ not_here x e n (λ s. other (sym s ∙ own))
        ∙ sym (ap (λ f. page_has f e n) (slice_get_past pages k (omega (arith, last))))
  ]

  pub page_more : (old new : ℕ → ℕ) → new q ≡ length pages + 1025 → ((k : ℕ) → (k ≡ q) ⊎ (new k ≡ old k))
      → ((n : ℕ) → n / 1024 ≡ q → has_in pages (old q) n ≡ eqb (old q) (n % 1024 + 1)) → ((n : ℕ) → bit_of x n ≡ eqb (old q) (n % 1024 + 1))
      → (more : List Page) → more ≡ pages ++ x ∷ [] → (n : ℕ) → has_in more (new (n / 1024)) n ≡ has_in pages (old (n / 1024)) n
  page_more old new is others none bits more added n = ap (λ ps. has_in ps (new (n / 1024)) n) added ∙ elim (cases_eq (n / 1024) q) [
    | inl here ↦ placed_has (pages ++ x ∷ []) (new (n / 1024)) q (length pages) x n (ap new here ∙ is) (added_last pages x) own here
        ∙ bits n ∙ sym (none n here) ∙ ap (λ k. has_in pages (old k) n) (sym here)
    | inr other ↦ elim (others (n / 1024)) [
      | inl here ↦ absurd (other here)
      | inr same ↦ ap (λ e. has_in (pages ++ x ∷ []) e n) same ∙ pushed_at (old (n / 1024) - 1024) (old (n / 1024)) n other
    ]
  ]

-- a page changes
module _ (pages : List Page) (q e at : ℕ) (h : IsPlaced pages e q at) (p : Page) (read : p ≡ get_or pages at p) (x : Page) (keeps : x.number ≡ p.number) where
  inside : at < length pages
  inside = slice_get_within pages at h.page h.there

  stands : slice_get pages at ≡ Some p
  stands = slice_get_read pages (length pages) at p refl inside read

  own_number : p.number ≡ q
  own_number = ap number_of (sym stands ∙ h.there) ∙ h.is

  set_at : (j e n : ℕ) → (n / 1024 ≡ q → ⊥) → page_has (counted_page (set pages at x) j) e n ≡ page_has (counted_page pages j) e n
  set_at zero e n other = refl
  set_at (suc k) e n other = elim (cases_eq k at) [
    | inr apart ↦ ap (λ f. page_has f e n) (set_elsewhere pages at k x apart)
    | inl equal ↦ ap (λ f. page_has f e n) (ap (slice_get (set pages at x)) equal ∙ set_here pages at x inside) ∙ not_here x e n (λ s. other (sym s ∙ keeps ∙ own_number))
        ∙ sym (ap (λ f. page_has f e n) (ap (slice_get pages) equal ∙ stands) ∙ not_here p e n (λ s. other (sym s ∙ own_number)))
  ]

  -- whatever number the entry is read as
  pub read_has : (f n : ℕ) → f ≡ e → n / 1024 ≡ q → has_in pages f n ≡ bit_of p n
  read_has f n same here = placed_has pages f q at p n (same ∙ h.entry_is) stands own_number here

  pub page_there : (n : ℕ) → n / 1024 ≡ q → bit_of x n ≡ true → has_in (set pages at x) e n ≡ true
  page_there n here marked = placed_has (set pages at x) e q at x n h.entry_is (set_here pages at x inside) (keeps ∙ own_number) here ∙ marked

  pub page_others : (n : ℕ) → n / 1024 ≡ q → ((i : ℕ) → (i % 1024 ≡ n % 1024) ⊎ (bit_of x i ≡ bit_of p i)) → (entries : ℕ → ℕ) → entries q ≡ e
      → (i : ℕ) → (i ≡ n) ⊎ (has_in (set pages at x) (entries (i / 1024)) i ≡ has_in pages (entries (i / 1024)) i)
  page_others n here bits entries is i = elim (cases_eq (i / 1024) q) [
    | inr other ↦ inr (set_at (entries (i / 1024) - 1024) (entries (i / 1024)) i other)
    | inl same ↦ elim (bits i) [
      | inl place ↦ inl (one_split i n 1024 (same ∙ sym here) place)
      | inr bit ↦
          let entry : entries (i / 1024) ≡ at + 1025 = ap entries same ∙ is ∙ h.entry_is in
          inr (placed_has (set pages at x) (entries (i / 1024)) q at x i entry (set_here pages at x inside) (keeps ∙ own_number) same ∙ bit
          ∙ sym (placed_has pages (entries (i / 1024)) q at p i entry stands own_number same))
    ]
  ]

-- ---- bits from a number on

-- those of a word from a place on
from_place : (w a i : ℕ) → a ≤ i → bit_at (w / 2 ^ a) (i - a) ≡ bit_at w i
from_place w a i later = let sum : a + (i - a) ≡ i = omega (arith, later) in ap (λ x. x % 2) (shr-shr w a (i - a)) ∙ ap (bit_at w) sum

pub none_in_rest : (words : ℕ → ℕ) (m i : ℕ) → words (m / 64) / 2 ^ (m % 64) ≡ 0 → m ≤ i → i < (m / 64 + 1) * 64 → eqb (bit_at (words (i / 64)) (i % 64)) 1 ≡ false
none_in_rest words m i none later before =
    let same : i / 64 ≡ m / 64 = omega (arith, later, before, div-add-mod' m 64, div-add-mod' i 64, mod-lt m {m = 64} (omega arith), mod-lt i {m = 64} (omega arith)) in
    let behind : m % 64 ≤ i % 64 = omega (arith, later, same, div-add-mod' m 64, div-add-mod' i 64) in
    ap (λ k. eqb (bit_at (words k) (i % 64)) 1) same
    ∙ ap (λ b. eqb b 1) (sym (from_place (words (m / 64)) (m % 64) (i % 64) behind) ∙ ap (λ w. bit_at w (i % 64 - m % 64)) none ∙ bit_at-zero (i % 64 - m % 64))

-- the lowest of them
module _ (words : ℕ → ℕ) (m w : ℕ) (is : w ≡ words (m / 64)) (fits : w < 2 ^ 64) (some : 0 < w / 2 ^ (m % 64)) where
  abbrev lowest : ℕ
  lowest = trailing_zeros w64 (w / 2 ^ (m % 64))

  facts : (lowest < 64) × (bit_at (w / 2 ^ (m % 64)) lowest ≡ 1) × ((i : ℕ) → i < lowest → bit_at (w / 2 ^ (m % 64)) i ≡ 0)
  facts = bit_at-trailing_zeros w64 (w / 2 ^ (m % 64)) some (omega (arith, div-le_self w (2 ^ (m % 64)), fits))

  shifted : bit_at w (m % 64 + lowest) ≡ 1
  shifted = sym (ap (λ x. x % 2) (shr-shr w (m % 64) lowest)) ∙ facts.1

  near : m % 64 + lowest < 64
  near = elim (cases_lt (m % 64 + lowest) 64) [
    | inl low ↦ low
    | inr high ↦ absurd (let e : ◌≡◌ {A = ℕ} 0 1 = sym (bit_at_above w 64 (m % 64 + lowest) fits high) ∙ shifted in omega (arith, e))
  ]

  pub found_near : m + trailing_zeros w64 (w / 2 ^ (m % 64)) < (m / 64 + 1) * 64
  found_near = omega (arith, near, div-add-mod' m 64)

  pub next_marked : eqb (bit_at (words ((m + trailing_zeros w64 (w / 2 ^ (m % 64))) / 64)) ((m + trailing_zeros w64 (w / 2 ^ (m % 64))) % 64)) 1 ≡ true
  next_marked =
      let same : (m + lowest) / 64 ≡ m / 64 = omega (arith, near, div-add-mod' m 64, div-add-mod' (m + lowest) 64, mod-lt (m + lowest) {m = 64} (omega arith)) in
      let place : (m + lowest) % 64 ≡ m % 64 + lowest = omega (arith, same, div-add-mod' m 64, div-add-mod' (m + lowest) 64) in
      ap (λ k. eqb (bit_at (words k) ((m + lowest) % 64)) 1) same ∙ ap (λ v. eqb (bit_at v ((m + lowest) % 64)) 1) (sym is)
      ∙ ap (λ p. eqb (bit_at w p) 1) place ∙ ap (λ b. eqb b 1) shifted

  pub none_before : (i : ℕ) → m ≤ i → i < m + trailing_zeros w64 (w / 2 ^ (m % 64)) → eqb (bit_at (words (i / 64)) (i % 64)) 1 ≡ false
  none_before i later before =
      let same : i / 64 ≡ m / 64 = omega (arith, later, before, near, div-add-mod' m 64, div-add-mod' i 64, mod-lt m {m = 64} (omega arith), mod-lt i {m = 64} (omega arith)) in
      let behind : m % 64 ≤ i % 64 = omega (arith, later, same, div-add-mod' m 64, div-add-mod' i 64) in
      let low : i % 64 - m % 64 < lowest = omega (arith, before, behind, same, div-add-mod' m 64, div-add-mod' i 64) in
      ap (λ k. eqb (bit_at (words k) (i % 64)) 1) same ∙ ap (λ v. eqb (bit_at v (i % 64)) 1) (sym is)
      ∙ ap (λ b. eqb b 1) (sym (from_place w (m % 64) (i % 64) behind) ∙ facts.2 (i % 64 - m % 64) low)

-- ---- what is in sight

word_in_page : (n : ℕ) → (n / 64 + 1) * 64 ≤ (n / 1024 + 1) * 1024
word_in_page n = omega (arith, div-add-mod' n 64, div-add-mod' n 1024, mod-lt n {m = 64} (omega arith), mod-lt n {m = 1024} (omega arith))

module _ (p : Page) (m : ℕ) where
  abbrev words_of : ℕ → ℕ
  words_of k = get_or p.words (k % 16) 0

  pub no_bit : words_of (m / 64) / 2 ^ (m % 64) ≡ 0 → IsSight (bit_of p) m (Free ((m / 64 + 1) * 64)) × (reached (Free ((m / 64 + 1) * 64)) ≤ (m / 1024 + 1) * 1024)
  no_bit none = ((omega (arith, div-add-mod' m 64, mod-lt m {m = 64} (omega arith)), λ i later before. none_in_rest words_of m i none later before), word_in_page m)

  pub some_bit : (w : ℕ) → w ≡ words_of (m / 64) → w < 2 ^ 64 → 0 < w / 2 ^ (m % 64)
      → IsSight (bit_of p) m (Marked (m + trailing_zeros w64 (w / 2 ^ (m % 64)))) × (reached (Marked (m + trailing_zeros w64 (w / 2 ^ (m % 64)))) ≤ (m / 1024 + 1) * 1024)
  some_bit w is fits some = (
    (omega arith, next_marked words_of m w is fits some, none_before words_of m w is fits some),
    omega (arith, found_near words_of m w is fits some, word_in_page m),
  )

in_page : (m n : ℕ) → m ≤ n → n < (m / 1024 + 1) * 1024 → n / 1024 ≡ m / 1024
in_page m n later before = omega (arith, later, before, div-add-mod' m 1024, div-add-mod' n 1024, mod-lt m {m = 1024} (omega arith), mod-lt n {m = 1024} (omega arith))

-- of the numbers of a page, whatever its marks are found by
pub as_sight : (has marked : ℕ → Bool) (m : ℕ) → ((n : ℕ) → n / 1024 ≡ m / 1024 → marked n ≡ has n) → (r : Sight) → IsSight has m r → reached r ≤ (m / 1024 + 1) * 1024 → IsSight marked m r
as_sight has marked m same (Marked found) (later, is, none) near = (
  later,
  same found (in_page m found later (omega (arith, near))) ∙ is,
  λ n from before. same n (in_page m n from (omega (arith, near, before))) ∙ none n from before,
)
as_sight has marked m same (Free next) (later, none) near = (later, λ n from before. same n (in_page m n from (omega (arith, near, before))) ∙ none n from before)
