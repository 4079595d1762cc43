-- What `split_once` makes of a size word, and what a loop over size words has read.
use Rattle.zf_command.proofs.Prelude.{◌++◌, ◌+◌, ◌<◌, ◌∙◌, ◌∷◌, ◌≡◌, ◌≢◌, [], ap, append_assoc, Bor, get_or, length, List, lit<, map, MatchOption, None, Option, Some, subst, sym, take, ℕ, AllZip, IsNumeral, HasBadSize, IsBadSize, ReadsNumber, ReadsSize, Size, append-nil, Bool, cond, false, true, get_or-map, get_or_default, length-map, map_more, filter}
use Rattle.std.proofs.lemmas.List.Elements.{filter_more}
use Rattle.std.proofs.lemmas.Slice.Zip.{all_zipped_more}
use Rattle.std.proofs.lemmas.Str.Pattern.{IsSplitOnceResult, split_after, split_parts}

-- where a word is read as a size, it is parted into the name and the digits
pub parts_are : (word : List ℕ) (r : Option (Bor (List ℕ) × Bor (List ℕ))) (size : Size) → IsSplitOnceResult 61 word r → (read : ReadsSize word size)
    → MatchOption r ⊥ (λ x. (x.0.now ≡ size.name) × (x.1.now ≡ read.digits))
parts_are word r size split read =
    split_after 61 word size.name read.digits r split (lit< tt) (read.parted ∙ append_assoc size.name (61 ∷ []) read.digits) (λ i. read.first i 0)

pub bad_unparted : (word : List ℕ) → IsSplitOnceResult 61 word None → IsBadSize word
bad_unparted word split size read = parts_are word None size split read

module _ (word : List ℕ) (parts : Bor (List ℕ) × Bor (List ℕ)) (split : IsSplitOnceResult 61 word (Some parts)) where
  pub bad_number : (IsNumeral 10 parts.1.now → ⊥) → IsBadSize word
  bad_number h size read = h (subst (IsNumeral 10) (sym (parts_are word (Some parts) size split read).1) read.counted.0)

  pub reads_parts : (n : ℕ) → (length parts.0.now ≡ 0 → ⊥) → ReadsNumber parts.1.now n → ReadsSize word (record { name = parts.0.now; count = n })
  reads_parts n named counted =
      let cut = split_parts 61 word (Some parts) split (lit< tt) in
      record {
        digits = parts.1.now;
        parted = cut.0 ∙ sym (append_assoc parts.0.now (61 ∷ []) parts.1.now);
        first = λ i d below. subst (λ b. b ≢ 61) (get_or_default parts.0.now i 0 d below) (cut.1 i below);
        named = λ e. named (ap length e);
        counted = counted;
      }

abbrev texts : List (Bor (List ℕ)) → List (List ℕ)
texts words = map (λ w. w.now) words

-- one more word is read
pub reads_more : (words : List (Bor (List ℕ))) (sizes : List Size) (i : ℕ) (d : Bor (List ℕ)) (size : Size) → i < length words
    → AllZip ReadsSize (texts (take i words)) sizes → ReadsSize (get_or words i d).now size → AllZip ReadsSize (texts (take (i + 1) words)) (sizes ++ size ∷ [])
reads_more words sizes i d size below all read =
    rw (map_more (λ (w : Bor (List ℕ)). w.now) words i d below) (all_zipped_more ReadsSize (texts (take i words)) sizes _ size all read)

-- one of the words is bad
pub bad_among : (words : List (Bor (List ℕ))) (i : ℕ) (d : Bor (List ℕ)) → i < length words → IsBadSize (get_or words i d).now → HasBadSize (texts words)
bad_among words i d below bad =
    let within : i < length (texts words) = rw (length-map words (λ (w : Bor (List ℕ)). w.now)) below in
    ((get_or words i d).now, (i, within, get_or-map (λ (w : Bor (List ℕ)). w.now) words i d _ below), bad)

-- ---- those of the words that pass a test

module _ (p : List ℕ → Bool) (words : List (Bor (List ℕ))) (i : ℕ) (d : Bor (List ℕ)) (below : i < length words) where
  one_more : filter p (take (i + 1) (texts words)) ≡ filter p (take i (texts words)) ++ cond (p (get_or words i d).now) ((get_or words i d).now ∷ []) []
  one_more =
      subst (λ x. filter p (take (i + 1) (texts words)) ≡ filter p (take i (texts words)) ++ cond (p x) (x ∷ []) []) (get_or-map (λ (w : Bor (List ℕ)). w.now) words i d d.now below)
      (filter_more p (texts words) i d.now (rw (length-map words (λ (w : Bor (List ℕ)). w.now)) below))

  pub picked : (found : List (List ℕ)) → p (get_or words i d).now ≡ true → found ≡ filter p (take i (texts words)) → found ++ (get_or words i d).now ∷ [] ≡ filter p (take (i + 1) (texts words))
  picked found passes so_far =
      ap (λ xs. xs ++ (get_or words i d).now ∷ []) so_far ∙ sym (one_more ∙ ap (λ b. filter p (take i (texts words)) ++ cond b ((get_or words i d).now ∷ []) []) passes)

  pub left_out : (found : List (List ℕ)) → p (get_or words i d).now ≡ false → found ≡ filter p (take i (texts words)) → found ≡ filter p (take (i + 1) (texts words))
  left_out found fails so_far =
      so_far ∙ sym (one_more ∙ ap (λ b. filter p (take i (texts words)) ++ cond b ((get_or words i d).now ∷ []) []) fails ∙ append-nil (filter p (take i (texts words))))
