-- The longest word at a place.
use Rattle.zf_read.proofs.Prelude.{◌&&◌, ◌++◌, ◌+◌, ◌-◌, ◌<◌, ◌∙◌, ◌∷◌, ◌≡◌, ◌≤◌, [], ap, arith, drop, false, get_or, length, List, refl, subst, suc, sym, take, true, zero, ℕ, drop_more, length-drop, take-append-drop, list_all, Ends, is_in_word, IsWordAt, AreInWord, first_and_rest}

both : (b : ℕ) (w : List ℕ) → is_in_word b ≡ true → AreInWord w → AreInWord (b ∷ w)
both b w k h = ap (λ x. x && list_all is_in_word w) k ∙ h

pub taken_more : (bs : List ℕ) (n : ℕ) → n < length bs → AreInWord (take n bs) → is_in_word (get_or bs n 0) ≡ true → AreInWord (take (suc n) bs)
taken_more [] n l h k = absurd (omega arith)
taken_more (b ∷ bs) zero l h k = both b [] k refl
taken_more (b ∷ bs) (suc n) l h k =
    let each = first_and_rest b (take n bs) h in
    both b (take (suc n) bs) each.0 (taken_more bs n (omega arith) each.1 k)

pub length_taken : (n : ℕ) (bs : List ℕ) → n ≤ length bs → length (take n bs) ≡ n
length_taken zero bs l = refl
length_taken (suc n) [] l = absurd (omega arith)
length_taken (suc n) (b ∷ bs) l = ap suc (length_taken n bs (omega arith))

shifted : (place n : ℕ) → suc (place + n) ≡ suc place + n
shifted place n = omega arith

got_dropped : (place n : ℕ) (bs : List ℕ) (d : ℕ) → get_or (drop place bs) n d ≡ get_or bs (place + n) d
got_dropped zero n bs d = ap (λ m. get_or bs m d) (omega arith)
got_dropped (suc place) n [] d = refl
got_dropped (suc place) n (b ∷ bs) d = got_dropped place n bs d ∙ ap (λ m. get_or (b ∷ bs) m d) (shifted place n)

dropped_none : (n : ℕ) → drop {A = ℕ} n [] ≡ []
dropped_none zero = refl
dropped_none (suc n) = refl

dropped_more : (place n : ℕ) (bs : List ℕ) → drop n (drop place bs) ≡ drop (place + n) bs
dropped_more zero n bs = ap (λ m. drop m bs) (omega arith)
dropped_more (suc place) n [] = dropped_none n ∙ sym (dropped_none (suc place + n))
dropped_more (suc place) n (b ∷ bs) = dropped_more place n bs ∙ ap (λ m. drop m (b ∷ bs)) (shifted place n)

-- a word goes on by one byte
pub word_more : (bs : List ℕ) (place end : ℕ) → place ≤ end → end < length bs → AreInWord (take (end - place) (drop place bs))
    → is_in_word (get_or bs end 0) ≡ true → AreInWord (take (end + 1 - place) (drop place bs))
word_more bs place end l k h t =
    let long = length-drop place bs in
    let at : place + (end - place) ≡ end = omega arith in
    let next : suc (end - place) ≡ end + 1 - place = omega arith in
    let inside : end - place < length (drop place bs) = omega (arith, long) in
    subst (λ n. AreInWord (take n (drop place bs))) next (taken_more (drop place bs) (end - place) inside h (ap is_in_word (got_dropped place (end - place) bs 0 ∙ ap (λ n. get_or bs n 0) at) ∙ t))

-- a word ends before a byte that goes on with none
pub word_ended : (bs : List ℕ) (place end : ℕ) → place ≤ end → end < length bs → AreInWord (take (end - place) (drop place bs))
    → is_in_word (get_or bs end 0) ≡ false → IsWordAt bs place (take (end - place) (drop place bs))
word_ended bs place end l k h f =
    let dropped = length-drop place bs in
    let long = length_taken (end - place) (drop place bs) (omega (arith, dropped)) in
    let at : place + length (take (end - place) (drop place bs)) ≡ end = omega (arith, long) in
    let behind : drop (end - place) (drop place bs) ≡ drop (place + length (take (end - place) (drop place bs))) bs = dropped_more place (end - place) bs ∙ ap (λ n. drop (place + n) bs) (sym long) in
    let first : drop (place + length (take (end - place) (drop place bs))) bs ≡ get_or bs end 0 ∷ drop (end + 1) bs = ap (λ n. drop n bs) at ∙ drop_more bs end 0 k in
    record {
      stands = sym (take-append-drop (end - place) (drop place bs)) ∙ ap (λ r. take (end - place) (drop place bs) ++ r) behind;
      within = omega (arith, at);
      in_word = h;
      ends = subst Ends (sym first) f;
    }
