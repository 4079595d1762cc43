-- Pieces that are appended one after another.
use Rattle.zf_steps.proofs.Prelude.{◌++◌, ◌∙◌, ◌≡◌, ap, Err, List, Ok, OnOk, Result, ℕ, append_assoc, if◌then◌else◌}
use Rattle.std.specs.Result.{is_ok}

pub three_pieces : (line a b d u v w : List ℕ) → u ≡ line ++ a → v ≡ u ++ b → w ≡ v ++ d → w ≡ line ++ (a ++ (b ++ d))
three_pieces line a b d u v w p q r =
    r ∙ ap (λ x. x ++ d) (q ∙ ap (λ x. x ++ b) p) ∙ append_assoc (line ++ a) b d ∙ append_assoc line a (b ++ d)

pub next_piece : (line a b u v : List ℕ) → u ≡ line ++ a → v ≡ u ++ b → v ≡ line ++ (a ++ b)
next_piece line a b u v p q = q ∙ ap (λ x. x ++ b) p ∙ append_assoc line a b

pub five_pieces : (line a b d e f u v w x y : List ℕ) → u ≡ line ++ a → v ≡ u ++ b → w ≡ v ++ d → x ≡ w ++ e → y ≡ x ++ f → y ≡ line ++ (a ++ b ++ d ++ e ++ f)
five_pieces line a b d e f u v w x y p q r s t =
    next_piece line (a ++ b ++ d ++ e) f x y (next_piece line (a ++ b ++ d) e w x (next_piece line (a ++ b) d v w (next_piece line a b u v p q) r) s) t

-- what is so where nothing is refused
pub if_appended : {T E : Type 0} (r : Result T E) (w x y : List ℕ) → w ≡ (if is_ok r then x else y) → OnOk r (w ≡ x)
if_appended (Ok v) w x y h = h
if_appended (Err e) w x y h = tt
