-- Lists of which the first values are the same, one more at a time.
use Rattle.zf_ranges.proofs.Prelude.{◌<◌, ◌∙◌, ◌∷◌, ◌≡◌, ◌≤◌, [], ap, arith, get_or, length, List, suc, sym, take, zero, ℕ, take_all, Value}

pub one_more : (vs ws : List Value) (i : ℕ) (v w : Value) → v ≡ get_or vs i v → w ≡ get_or ws i w → i < length vs → i < length ws → take i vs ≡ take i ws → v ≡ w → take (suc i) vs ≡ take (suc i) ws
one_more [] ws i v w p q l m s e = absurd (omega (arith, l))
one_more (x ∷ vs) [] i v w p q l m s e = absurd (omega (arith, m))
one_more (x ∷ vs) (y ∷ ws) zero v w p q l m s e = ap (λ z. z ∷ []) (sym p ∙ e ∙ q)
one_more (x ∷ vs) (y ∷ ws) (suc i) v w p q l m s e =
    let head : x ≡ y = (cc s) in
    let tail : take i vs ≡ take i ws = (cc s) in
    let more = one_more vs ws i v w p q (omega (arith, l)) (omega (arith, m)) tail e in
    (cc (head, more))

pub all_same : (vs ws : List Value) (i : ℕ) → length vs ≤ i → length vs ≡ length ws → take i vs ≡ take i ws → vs ≡ ws
all_same vs ws i l n s = sym (take_all i vs l) ∙ s ∙ take_all i ws (omega (arith, l, n))
