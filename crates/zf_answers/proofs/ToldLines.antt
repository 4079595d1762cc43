-- What is reported piece after piece, where the last may be refused.
use Rattle.zf_answers.proofs.Prelude.{◌++◌, ◌∙◌, ◌≡◌, ap, append_assoc, Err, List, Ok, OnOk, Result, ℕ, if◌then◌else◌}
use Rattle.std.specs.Result.{is_ok}

-- what is so where nothing is refused
pub if_appended : {T E : Type 0} (r : Result T E) (w x y : List ℕ) → w ≡ (if is_ok r then x else y) → OnOk r (w ≡ x)
if_appended (Ok v) w x y h = h
if_appended (Err e) w x y h = tt

next_piece : (line a b u v : List ℕ) → u ≡ line ++ a → v ≡ u ++ b → v ≡ line ++ (a ++ b)
next_piece line a b u v p q = q ∙ ap (λ x. x ++ b) p ∙ append_assoc line a b

two_told : {R E : Type 0} (r : Result R E) (old a b mid new : List ℕ) → mid ≡ old ++ a → OnOk r (new ≡ mid ++ b) → OnOk r (new ≡ old ++ (a ++ b))
two_told (Ok x) old a b mid new one last = next_piece old a b mid new one last
two_told (Err x) old a b mid new one last = tt

module _ {R E : Type 0} (r : Result R E) (old a b c : List ℕ) where
  pub three_told : (u v new : List ℕ) → u ≡ old ++ a → v ≡ u ++ b → OnOk r (new ≡ v ++ c) → OnOk r (new ≡ old ++ (a ++ b ++ c))
  three_told u v new one two last = two_told r old (a ++ b) c v new (next_piece old a b u v one two) last

  pub four_told : (d u v w new : List ℕ) → u ≡ old ++ a → v ≡ u ++ b → w ≡ v ++ c → OnOk r (new ≡ w ++ d) → OnOk r (new ≡ old ++ (a ++ b ++ c ++ d))
  four_told d u v w new one two three last =
      two_told r old (a ++ b ++ c) d w new (next_piece old (a ++ b) c v w (next_piece old a b u v one two) three) last

  pub five_told : (d e u v w x new : List ℕ) → u ≡ old ++ a → v ≡ u ++ b → w ≡ v ++ c → x ≡ w ++ d → OnOk r (new ≡ x ++ e)
      → OnOk r (new ≡ old ++ (a ++ b ++ c ++ d ++ e))
  five_told d e u v w x new one two three four last =
      two_told r old (a ++ b ++ c ++ d) e x new
      (next_piece old (a ++ b ++ c) d w x (next_piece old (a ++ b) c v w (next_piece old a b u v one two) three) four) last
