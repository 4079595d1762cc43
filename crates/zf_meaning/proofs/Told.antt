-- What is known of the rows that a quantifier has met, and what follows for all rows.
use Rattle.zf_meaning.proofs.Prelude.{◌∙◌, ◌∷◌, ◌≡◌, ◌⊎◌, [], Bool, false, inl, inr, List, refl, subst, sym, true, ⊎_elim, Truth, Value, Quantifier, Exists, ExistsOne, ForAll, neutral, is_settled, none, truth_by, when_over, when_settled, with, HasTwo, IsExistsOne, IsOver, Tally}
use Rattle.zf_value.specs.declared.value.Truth.TheVariants.{True, False, Out}
use Rattle.zf_meaning.proofs.AllRows.{IsAmong}

abbrev pub EachOne : (List Value → Truth → Type 0) → Type 0
EachOne P = (vs : List Value) (t u : Truth) → P vs t → P vs u → t ≡ u

-- some row among these has this truth
abbrev pub IsMet : (List Value → Truth → Type 0) → List (List Value) → Truth → Type 0
IsMet P done t = (vs : List Value) × IsAmong vs done × P vs t

-- two rows that are true among these are one
abbrev pub HasOneTrue : (List Value → Truth → Type 0) → List (List Value) → Type 0
HasOneTrue P done = (vs ws : List Value) → IsAmong vs done → IsAmong ws done → P vs True → P ws True → vs ≡ ws

-- P says the truth of a row; the tally is that of these rows
pub record IsTallied (P : List Value → Truth → Type 0) (done : List (List Value)) (t : Tally) : Type 0 where
  pub is_true : t.has_true ≡ true → IsMet P done True
  pub is_false : t.has_false ≡ true → IsMet P done False
  pub is_out : t.has_out ≡ true → IsMet P done Out
  pub each : (vs : List Value) → IsAmong vs done → (P vs True × (t.has_true ≡ true)) ⊎ ((P vs False × (t.has_false ≡ true)) ⊎ (P vs Out × (t.has_out ≡ true)))
  pub two : t.has_two ≡ true → HasTwo (λ vs. IsAmong vs done) P
  pub one : t.has_two ≡ false → HasOneTrue P done

pub none-tallied : (P : List Value → Truth → Type 0) → IsTallied P [] none
none-tallied P = record {
  is_true = λ e. absurd (cc);
  is_false = λ e. absurd (cc);
  is_out = λ e. absurd (cc);
  each = λ vs m. absurd m;
  two = λ e. absurd (cc);
  one = λ e vs ws m n p q. absurd m;
}

-- ---- one row more

wider : (P : List Value → Truth → Type 0) (done : List (List Value)) (v : List Value) (u : Truth) → IsMet P done u → IsMet P (v ∷ done) u
wider P done v u h = (h.0, inr h.1, h.2)

wider_two : (P : List Value → Truth → Type 0) (done : List (List Value)) (v : List Value) → HasTwo (λ vs. IsAmong vs done) P → HasTwo (λ vs. IsAmong vs (v ∷ done)) P
wider_two P done v h = (h.0, h.1, inr h.2, inr h.3, h.4, h.5, h.6)

-- a row that is not true adds no true one
still_one : (P : List Value → Truth → Type 0) (done : List (List Value)) (v : List Value) → (P v True → ⊥) → HasOneTrue P done → HasOneTrue P (v ∷ done)
still_one P done v f h vs ws m n p q =
    ⊎_elim (λ e. absurd (f (subst (λ us. P us True) (sym e) p)))
    (λ a. ⊎_elim (λ e. absurd (f (subst (λ us. P us True) (sym e) q))) (λ b. h vs ws a b p q) n) m

-- where none was true, one is the first
first_one : (P : List Value → Truth → Type 0) (done : List (List Value)) (v : List Value) → ((vs : List Value) → IsAmong vs done → P vs True → ⊥) → HasOneTrue P (v ∷ done)
first_one P done v f vs ws m n p q =
    ⊎_elim (λ e. ⊎_elim (λ d. sym e ∙ d) (λ b. absurd (f ws b q)) n) (λ a. absurd (f vs a p)) m

none_true : (P : List Value → Truth → Type 0) (done : List (List Value)) (t : Tally) → EachOne P → IsTallied P done t → t.has_true ≡ false → (vs : List Value) → IsAmong vs done → P vs True → ⊥
none_true P done t f h e vs m p =
    ⊎_elim (λ a. let d = a.1 in (cc)) (λ a. ⊎_elim (λ b. let d = f vs _ _ p b.0 in (cc)) (λ b. let d = f vs _ _ p b.0 in (cc)) a) (h.each vs m)

two_now : (P : List Value → Truth → Type 0) (done : List (List Value)) (v : List Value) → (IsAmong v done → ⊥) → P v True → IsMet P done True → HasTwo (λ vs. IsAmong vs (v ∷ done)) P
two_now P done v new p h = (v, h.0, inl refl, inr h.1, p, h.2, λ e. new (subst (λ us. IsAmong us done) (sym e) h.1))

pub one-more : (P : List Value → Truth → Type 0) (done : List (List Value)) (t : Tally) (v : List Value) (u : Truth) → EachOne P → (IsAmong v done → ⊥) → P v u
    → IsTallied P done t → IsTallied P (v ∷ done) (with t u)
one-more P done t v True f new p h = record {
  is_true = λ e. (v, inl refl, p);
  is_false = λ e. wider P done v False (h.is_false e);
  is_out = λ e. wider P done v Out (h.is_out e);
  each = λ vs m. ⊎_elim (λ e. inl (subst (λ us. P us True) e p, refl)) (λ a. ⊎_elim (λ b. inl (b.0, refl)) (λ b. inr b) (h.each vs a)) m;
  two = λ e. two_now P done v new p (h.is_true e);
  one = λ e. first_one P done v (none_true P done t f h e);
}
one-more P done t v False f new p h = record {
  is_true = λ e. wider P done v True (h.is_true e);
  is_false = λ e. (v, inl refl, p);
  is_out = λ e. wider P done v Out (h.is_out e);
  each = λ vs m. ⊎_elim (λ e. inr (inl (subst (λ us. P us False) e p, refl))) (λ a. ⊎_elim (λ b. inl b) (λ b. ⊎_elim (λ x. inr (inl (x.0, refl))) (λ x. inr (inr x)) b) (h.each vs a)) m;
  two = λ e. wider_two P done v (h.two e);
  one = λ e. still_one P done v (λ q. let d = f v _ _ p q in (cc)) (h.one e);
}
one-more P done t v Out f new p h = record {
  is_true = λ e. wider P done v True (h.is_true e);
  is_false = λ e. wider P done v False (h.is_false e);
  is_out = λ e. (v, inl refl, p);
  each = λ vs m. ⊎_elim (λ e. inr (inr (subst (λ us. P us Out) e p, refl))) (λ a. ⊎_elim (λ b. inl b) (λ b. ⊎_elim (λ x. inr (inl x)) (λ x. inr (inr (x.0, refl))) b) (h.each vs a)) m;
  two = λ e. wider_two P done v (h.two e);
  one = λ e. still_one P done v (λ q. let d = f v _ _ p q in (cc)) (h.one e);
}

-- ---- what is reported

-- once it is settled by rows that R admits
pub settled-told : (q : Quantifier) (R : List Value → Type 0) (P : List Value → Truth → Type 0) (done : List (List Value)) (t : Tally)
    → ((vs : List Value) → IsAmong vs done → R vs) → IsTallied P done t → is_settled q t ≡ true → IsOver q R P (when_settled q)
settled-told ForAll R P done t r h e = let m = h.is_false e in (m.0, r m.0 m.1, m.2)
settled-told Exists R P done t r h e = let m = h.is_true e in (m.0, r m.0 m.1, m.2)
settled-told ExistsOne R P done t r h e = let m = h.two e in inl (m.0, m.1, r m.0 m.2, r m.1 m.3, m.4, m.5, m.6)

-- no row is false
no_false : (P : List Value → Truth → Type 0) (done : List (List Value)) (t : Tally) → IsTallied P done t → t.has_false ≡ false → (vs : List Value) → IsAmong vs done → P vs True ⊎ P vs Out
no_false P done t h e vs m = ⊎_elim (λ a. inl a.0) (λ a. ⊎_elim (λ b. let d = b.1 in absurd (cc)) (λ b. inr b.0) a) (h.each vs m)

-- no row is true
no_true : (P : List Value → Truth → Type 0) (done : List (List Value)) (t : Tally) → IsTallied P done t → t.has_true ≡ false → (vs : List Value) → IsAmong vs done → P vs False ⊎ P vs Out
no_true P done t h e vs m = ⊎_elim (λ a. let d = a.1 in absurd (cc)) (λ a. ⊎_elim (λ b. inl b.0) (λ b. inr b.0) a) (h.each vs m)

not_out : (P : List Value → Truth → Type 0) (done : List (List Value)) (t : Tally) → IsTallied P done t → t.has_out ≡ false → (vs : List Value) → IsAmong vs done → P vs True ⊎ P vs False
not_out P done t h e vs m = ⊎_elim (λ a. inl a.0) (λ a. ⊎_elim (λ b. inr b.0) (λ b. let d = b.1 in absurd (cc)) a) (h.each vs m)

-- one row is true, and each other is false
the_one : (R : List Value → Type 0) (P : List Value → Truth → Type 0) (done : List (List Value)) (t : Tally) → ((vs : List Value) → R vs → IsAmong vs done)
    → ((vs : List Value) → IsAmong vs done → R vs) → IsTallied P done t → t.has_two ≡ false → t.has_out ≡ false → t.has_true ≡ true
    → IsExistsOne R P True
the_one R P done t r s h two out e =
    let m = h.is_true e in
    (m.0, s m.0 m.1, m.2, λ ws k. ⊎_elim (λ a. inl (h.one two m.0 ws m.1 (r ws k) m.2 a)) (λ a. inr a) (not_out P done t h out ws (r ws k)))

over_out : (q : Quantifier) (R : List Value → Type 0) (P : List Value → Truth → Type 0) (done : List (List Value)) (t : Tally)
    → ((vs : List Value) → R vs → IsAmong vs done) → ((vs : List Value) → IsAmong vs done → R vs) → IsTallied P done t → is_settled q t ≡ false
    → t.has_out ≡ true
    → IsOver q R P Out
over_out ForAll R P done t r s h e o = let m = h.is_out o in ((m.0, s m.0 m.1, m.2), λ vs k. no_false P done t h e vs (r vs k))
over_out Exists R P done t r s h e o = let m = h.is_out o in ((m.0, s m.0 m.1, m.2), λ vs k. no_true P done t h e vs (r vs k))
over_out ExistsOne R P done t r s h e o = let m = h.is_out o in ((m.0, s m.0 m.1, m.2), λ k. k.6 (h.one e k.0 k.1 (r k.0 k.2) (r k.1 k.3) k.4 k.5))

over_told : (q : Quantifier) (R : List Value → Type 0) (P : List Value → Truth → Type 0) (done : List (List Value)) (t : Tally) (b : Bool) → t.has_true ≡ b
    → ((vs : List Value) → R vs → IsAmong vs done) → ((vs : List Value) → IsAmong vs done → R vs) → IsTallied P done t → is_settled q t ≡ false
    → t.has_out ≡ false
    → IsOver q R P (when_over q b)
over_told ForAll R P done t b w r s h e o = λ vs k. ⊎_elim (λ a. a) (λ a. ⊎_elim (λ b. let d = b.1 in absurd (cc)) (λ b. let d = b.1 in absurd (cc)) a)
    (⊎_elim (λ a. inl a.0) (λ a. inr a) (h.each vs (r vs k)))
over_told Exists R P done t b w r s h e o = λ vs k. ⊎_elim (λ a. let d = a.1 in absurd (cc)) (λ a. ⊎_elim (λ b. b.0) (λ b. let d = b.1 in absurd (cc)) a) (h.each vs (r vs k))
over_told ExistsOne R P done t true w r s h e o = the_one R P done t r s h e o w
over_told ExistsOne R P done t false w r s h e o = inr (λ vs k. ⊎_elim (λ a. let d = a.1 in absurd (cc)) (λ a. ⊎_elim (λ b. b.0) (λ b. let d = b.1 in absurd (cc)) a) (h.each vs (r vs k)))

over_by : (q : Quantifier) (R : List Value → Type 0) (P : List Value → Truth → Type 0) (done : List (List Value)) (t : Tally) (b o : Bool) → t.has_true ≡ b
    → t.has_out ≡ o → ((vs : List Value) → R vs → IsAmong vs done) → ((vs : List Value) → IsAmong vs done → R vs) → IsTallied P done t → is_settled q t ≡ false
    → IsOver q R P (truth_by q t)
over_by q R P done t b true w o r s h e = rw (e, o) (over_out q R P done t r s h e o)
over_by q R P done t b false w o r s h e = rw (e, o, w) (over_told q R P done t b w r s h e o)

-- of all rows
pub all-told : (q : Quantifier) (R : List Value → Type 0) (P : List Value → Truth → Type 0) (done : List (List Value)) (t : Tally) (settled : Bool)
    → is_settled q t ≡ settled → ((vs : List Value) → R vs → IsAmong vs done) → ((vs : List Value) → IsAmong vs done → R vs) → IsTallied P done t
    → IsOver q R P (truth_by q t)
all-told q R P done t true e r s h = rw e (settled-told q R P done t s h e)
all-told q R P done t false e r s h = over_by q R P done t t.has_true t.has_out refl refl r s h e

-- settled, by the tally
pub settled-truth : (q : Quantifier) (R : List Value → Type 0) (P : List Value → Truth → Type 0) (done : List (List Value)) (t : Tally)
    → ((vs : List Value) → IsAmong vs done → R vs) → IsTallied P done t → is_settled q t ≡ true → IsOver q R P (truth_by q t)
settled-truth q R P done t r h e = rw e (settled-told q R P done t r h e)

not_neutral : (P : List Value → Truth → Type 0) (vs : List Value) → EachOne P → P vs True → P vs False → ⊥
not_neutral P vs f p n = let d = f vs True False p n in (cc)

-- further rows that do not count change nothing
further : (q : Quantifier) (R S : List Value → Type 0) (P : List Value → Truth → Type 0) (u : Truth) → EachOne P → ((vs : List Value) → S vs → R vs)
    → ((vs : List Value) → R vs → S vs ⊎ P vs (neutral q)) → IsOver q S P u → IsOver q R P u
further ForAll R S P True f s r h = λ vs k. ⊎_elim (λ a. h vs a) (λ n. n) (r vs k)
further ForAll R S P False f s r h = (h.0, s h.0 h.1, h.2)
further ForAll R S P Out f s r h = ((h.0.0, s h.0.0 h.0.1, h.0.2), λ vs k. ⊎_elim (λ a. h.1 vs a) (λ n. inl n) (r vs k))
further Exists R S P True f s r h = (h.0, s h.0 h.1, h.2)
further Exists R S P False f s r h = λ vs k. ⊎_elim (λ a. h vs a) (λ n. n) (r vs k)
further Exists R S P Out f s r h = ((h.0.0, s h.0.0 h.0.1, h.0.2), λ vs k. ⊎_elim (λ a. h.1 vs a) (λ n. inl n) (r vs k))
further ExistsOne R S P True f s r h = (h.0, s h.0 h.1, h.2, λ ws k. ⊎_elim (λ a. h.3 ws a) (λ n. inr n) (r ws k))
further ExistsOne R S P False f s r h =
    ⊎_elim (λ t. inl (t.0, t.1, s t.0 t.2, s t.1 t.3, t.4, t.5, t.6)) (λ no. inr (λ vs k. ⊎_elim (λ a. no vs a) (λ n. n) (r vs k))) h
further ExistsOne R S P Out f s r h =
    let counts : (vs : List Value) → R vs → P vs True → S vs = λ vs k p. ⊎_elim (λ a. a) (λ n. absurd (not_neutral P vs f p n)) (r vs k) in
    ((h.0.0, s h.0.0 h.0.1, h.0.2), λ t. h.1 (t.0, t.1, counts t.0 t.2 t.4, counts t.1 t.3 t.5, t.4, t.5, t.6))

-- of rows that are done or do not count
pub told-of-all : (q : Quantifier) (R : List Value → Type 0) (P : List Value → Truth → Type 0) (done : List (List Value)) (t : Tally) → EachOne P
    → ((vs : List Value) → R vs → IsAmong vs done ⊎ P vs (neutral q)) → ((vs : List Value) → IsAmong vs done → R vs) → IsTallied P done t
    → IsOver q R P (truth_by q t)
told-of-all q R P done t f r s h =
    further q R (λ vs. IsAmong vs done) P (truth_by q t) f s r (all-told q (λ vs. IsAmong vs done) P done t (is_settled q t) refl (λ vs m. m) (λ vs m. m) h)
