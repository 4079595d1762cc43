-- Where a text is cut: at the last blank up to a place.
use Rattle.zf_messages.proofs.Prelude.{◌-◌, ◌<◌, ◌≡◌, ◌==◌, arith, get_or, if◌then◌else◌, List, refl, suc, take, zero, ℕ}
use Rattle.zf_messages.specs.Details.{front_of_words, width}

pub no_word : (text : List ℕ) → front_of_words 0 text ≡ take width text
unfolding front_of_words
no_word text = refl

pub last_word : (text : List ℕ) (len : ℕ) → 0 < len
    → front_of_words len text ≡ (if get_or text len 0 == 32 then take len text else front_of_words (len - 1) text)
unfolding front_of_words
last_word text zero h = absurd (omega arith)
last_word text (suc len) h =
    let e : suc len - 1 ≡ len = omega arith in
    rw e
