-- A walk over all rows, of which some are done, some are passed and the others are ahead.
use Rattle.zf_meaning.proofs.Prelude.{◌∷◌, ◌≡◌, ◌⊎◌, [], inl, inr, List, refl, subst, sym, ⊎_elim, Value}
use Rattle.zf_meaning.proofs.AllRows.{IsAmong, AreApart}

-- N says which rows may be passed
pub record IsMidway (N : List Value → Type 0) (all done rest : List (List Value)) : Type 0 where
  pub each : (vs : List Value) → IsAmong vs all → IsAmong vs done ⊎ (N vs ⊎ IsAmong vs rest)
  pub were : (vs : List Value) → IsAmong vs done → IsAmong vs all
  pub come : (vs : List Value) → IsAmong vs rest → IsAmong vs all
  pub new : (vs : List Value) → IsAmong vs done → IsAmong vs rest → ⊥
  pub apart : AreApart rest

pub begin : (N : List Value → Type 0) (all rest : List (List Value)) → all ≡ rest → AreApart all → IsMidway N all [] rest
begin N all rest e h = record {
  each = λ vs m. inr (inr (subst (IsAmong vs) e m));
  were = λ vs m. absurd m;
  come = λ vs m. subst (IsAmong vs) (sym e) m;
  new = λ vs m n. absurd m;
  apart = subst AreApart e h;
}

pub step : (N : List Value → Type 0) (all done rest : List (List Value)) (v : List Value) → IsMidway N all done (v ∷ rest) → IsMidway N all (v ∷ done) rest
step N all done rest v h = record {
  each = λ vs m. ⊎_elim (λ a. inl (inr a)) (λ a. ⊎_elim (λ n. inr (inl n)) (λ b. ⊎_elim (λ e. inl (inl e)) (λ d. inr (inr d)) b) a) (h.each vs m);
  were = λ vs m. ⊎_elim (λ e. h.come vs (inl e)) (λ a. h.were vs a) m;
  come = λ vs m. h.come vs (inr m);
  new = λ vs m n. ⊎_elim (λ e. h.apart.0 (subst (λ ws. IsAmong ws rest) (sym e) n)) (λ a. h.new vs a (inr n)) m;
  apart = h.apart.1;
}

-- some of those ahead are passed
pub skip : (N : List Value → Type 0) (all done rest now : List (List Value)) → ((vs : List Value) → IsAmong vs rest → N vs ⊎ IsAmong vs now)
    → ((vs : List Value) → IsAmong vs now → IsAmong vs rest) → AreApart now → IsMidway N all done rest → IsMidway N all done now
skip N all done rest now f g a h = record {
  each = λ vs m. ⊎_elim (λ b. inl b) (λ b. ⊎_elim (λ n. inr (inl n)) (λ d. inr (f vs d)) b) (h.each vs m);
  were = h.were;
  come = λ vs m. h.come vs (g vs m);
  new = λ vs m n. h.new vs m (g vs n);
  apart = a;
}

-- the row that is next
pub is_next : (N : List Value → Type 0) (all done rest : List (List Value)) (v : List Value) → IsMidway N all done (v ∷ rest) → IsAmong v all
is_next N all done rest v h = h.come v (inl refl)

pub is_new : (N : List Value → Type 0) (all done rest : List (List Value)) (v : List Value) → IsMidway N all done (v ∷ rest) → IsAmong v done → ⊥
is_new N all done rest v h m = h.new v m (inl refl)

-- in the end all are done or passed
pub ended : (N : List Value → Type 0) (all done : List (List Value)) → IsMidway N all done [] → (vs : List Value) → IsAmong vs all → IsAmong vs done ⊎ N vs
ended N all done h vs m = ⊎_elim (λ a. inl a) (λ a. ⊎_elim (λ n. inr n) (λ d. absurd d) a) (h.each vs m)
