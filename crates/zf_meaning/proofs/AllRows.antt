-- All rows: they are those that take a value from each range, and none stands twice among them.
pub use Rattle.zf_meaning.specs.{IsAmong}
use Rattle.zf_meaning.proofs.Prelude.{◌++◌, ◌∷◌, ◌≡◌, ◌⊎◌, [], ap, inl, inr, List, map, refl, subst, sym, ⊎_elim, AreFrom, IsMember, members, Value, headed, all_rows}

-- no row stands twice
abbrev pub AreApart : List (List Value) → Type 0
AreApart [] = Unit {0}
AreApart (ws ∷ rows) = (IsAmong ws rows → ⊥) × AreApart rows

-- ---- lists of rows

pub among-append : (vs : List Value) (xs ys : List (List Value)) → IsAmong vs (xs ++ ys) → IsAmong vs xs ⊎ IsAmong vs ys
among-append vs [] ys h = inr h
among-append vs (x ∷ xs) ys h = ⊎_elim (λ e. inl (inl e)) (λ m. ⊎_elim (λ a. inl (inr a)) (λ b. inr b) (among-append vs xs ys m)) h

pub among-left : (vs : List Value) (xs ys : List (List Value)) → IsAmong vs xs → IsAmong vs (xs ++ ys)
among-left vs [] ys h = absurd h
among-left vs (x ∷ xs) ys h = ⊎_elim (λ e. inl e) (λ m. inr (among-left vs xs ys m)) h

pub among-right : (vs : List Value) (xs ys : List (List Value)) → IsAmong vs ys → IsAmong vs (xs ++ ys)
among-right vs [] ys h = h
among-right vs (x ∷ xs) ys h = inr (among-right vs xs ys h)

among-map : (x : Value) (vs : List Value) (rows : List (List Value)) → IsAmong vs rows → IsAmong (x ∷ vs) (map (λ row. x ∷ row) rows)
among-map x vs [] h = absurd h
among-map x vs (ws ∷ rows) h = ⊎_elim (λ e. inl (ap (λ row. x ∷ row) e)) (λ m. inr (among-map x vs rows m)) h

-- a row of those that begin with x
of-map : (x : Value) (vs : List Value) (rows : List (List Value)) → IsAmong vs (map (λ row. x ∷ row) rows) → (ws : List Value) × (x ∷ ws ≡ vs) × IsAmong ws rows
of-map x vs [] h = absurd h
of-map x vs (ws ∷ rows) h = ⊎_elim (λ e. (ws, e, inl refl)) (λ m. let r = of-map x vs rows m in (r.0, r.1, inr r.2)) h

apart-append : (xs ys : List (List Value)) → AreApart xs → AreApart ys → ((vs : List Value) → IsAmong vs xs → IsAmong vs ys → ⊥) → AreApart (xs ++ ys)
apart-append [] ys h k f = k
apart-append (x ∷ xs) ys h k f =
    (λ m. ⊎_elim (λ a. h.0 a) (λ b. f x (inl refl) b) (among-append x xs ys m), apart-append xs ys h.1 k (λ vs a b. f vs (inr a) b))

apart-map : (x : Value) (rows : List (List Value)) → AreApart rows → AreApart (map (λ row. x ∷ row) rows)
apart-map x [] h = tt
apart-map x (ws ∷ rows) h = (λ m. let r = of-map x (x ∷ ws) rows m in let e : r.0 ≡ ws = (cc) in h.0 (subst (λ us. IsAmong us rows) e r.2), apart-map x rows h.1)

-- ---- the rows of ranges

in-headed : (xs : List Value) (x : Value) (vs : List Value) (rows : List (List Value)) → IsMember x xs → IsAmong vs rows → IsAmong (x ∷ vs) (headed xs rows)
in-headed [] x vs rows h m = absurd h
in-headed (y ∷ xs) x vs rows h m =
    ⊎_elim (λ e. among-left (x ∷ vs) (map (λ row. y ∷ row) rows) (headed xs rows) (subst (λ z. IsAmong (z ∷ vs) (map (λ row. y ∷ row) rows)) e (among-map y vs rows m)))
    (λ n. among-right (x ∷ vs) (map (λ row. y ∷ row) rows) (headed xs rows) (in-headed xs x vs rows n m)) h

of-headed : (xs : List Value) (vs : List Value) (rows : List (List Value)) → IsAmong vs (headed xs rows) → (x : Value) × (ws : List Value) × (vs ≡ x ∷ ws) × IsMember x xs × IsAmong ws rows
of-headed [] vs rows h = absurd h
of-headed (y ∷ xs) vs rows h =
    ⊎_elim (λ m. let r = of-map y vs rows m in (y, r.0, sym r.1, inl refl, r.2))
    (λ m. let r = of-headed xs vs rows m in (r.0, r.1, r.2, inr r.3, r.4)) (among-append vs (map (λ row. y ∷ row) rows) (headed xs rows) h)

-- no value stands twice
abbrev pub AreDistinct : List Value → Type 0
AreDistinct [] = Unit {0}
AreDistinct (x ∷ xs) = (IsMember x xs → ⊥) × AreDistinct xs

apart-headed : (xs : List Value) (rows : List (List Value)) → AreDistinct xs → AreApart rows → AreApart (headed xs rows)
apart-headed [] rows h k = tt
apart-headed (x ∷ xs) rows h k =
    apart-append (map (λ row. x ∷ row) rows) (headed xs rows) (apart-map x rows k) (apart-headed xs rows h.1 k)
    (λ vs a b. let r = of-map x vs rows a in let s = of-headed xs vs rows b in let e : s.0 ≡ x = (cc) in h.0 (subst (λ z. IsMember z xs) e s.3))

-- ---- rows of sets

pub row-among : (ss : List Value) (vs : List Value) → AreFrom vs ss → IsAmong vs (all_rows (map members ss))
unfolding all_rows
row-among [] [] h = inl refl
row-among [] (v ∷ vs) h = absurd h
row-among (s ∷ ss) [] h = absurd h
row-among (s ∷ ss) (v ∷ vs) h = in-headed (members s) v vs (all_rows (map members ss)) h.0 (row-among ss vs h.1)

pub among-row : (ss : List Value) (vs : List Value) → IsAmong vs (all_rows (map members ss)) → AreFrom vs ss
unfolding all_rows
among-row [] vs h = ⊎_elim (λ e. subst (λ us. AreFrom us []) e tt) (λ m. absurd m) h
among-row (s ∷ ss) vs h =
    let r = of-headed (members s) vs (all_rows (map members ss)) h in
    subst (λ us. AreFrom us (s ∷ ss)) (sym r.2) (r.3, among-row ss r.1 r.4)

abbrev pub HaveDistinct : List Value → Type 0
HaveDistinct [] = Unit {0}
HaveDistinct (s ∷ ss) = AreDistinct (members s) × HaveDistinct ss

pub rows-apart : (ss : List Value) → HaveDistinct ss → AreApart (all_rows (map members ss))
unfolding all_rows
rows-apart [] h = (λ m. m, tt)
rows-apart (s ∷ ss) h = apart-headed (members s) (all_rows (map members ss)) h.0 (rows-apart ss h.1)
