-- The truth of all conjuncts on a row.
use Rattle.zf_walk.proofs.Prelude.{◌<◌, ◌≡◌, ◌≤◌, inl, inr, length, List, refl, sym, ℕ, Conjuncts, HaveOneTruth, IsTruthOf, AreDueWithin, Truth, False, Out, True}

module _ {V : Type 0} (s : Conjuncts V) where
  -- a row on which a conjunct is False has no other truth
  pub IsTruthOf-false : HaveOneTruth s → (row : List V) (c : ℕ) (t : Truth) → c < s.number → s.due c ≤ length row → s.says c row False → IsTruthOf s row t → t ≡ False
  IsTruthOf-false one row c False m d f h = refl
  IsTruthOf-false one row c True m d f h = one c row True False m d (h c m) f
  IsTruthOf-false one row c Out m d f h = elim (h.0 c m) [ inl w ↦ absurd (let e : True ≡ False = one c row True False m d w f in cc) | inr w ↦ one c row Out False m d w f ]

  pub IsTruthOf-only : HaveOneTruth s → (row : List V) → AreDueWithin s (length row) → (t u : Truth) → IsTruthOf s row t → IsTruthOf s row u → t ≡ u
  IsTruthOf-only one row due False u h k = sym (IsTruthOf-false one row h.0 u h.1 (due h.0 h.1) h.2 k)
  IsTruthOf-only one row due True False h k = IsTruthOf-false one row k.0 True k.1 (due k.0 k.1) k.2 h
  IsTruthOf-only one row due Out False h k = IsTruthOf-false one row k.0 Out k.1 (due k.0 k.1) k.2 h
  IsTruthOf-only one row due True True h k = refl
  IsTruthOf-only one row due Out Out h k = refl
  IsTruthOf-only one row due True Out h k = let w = k.1 in one w.0 row True Out w.1 (due w.0 w.1) (h w.0 w.1) w.2
  IsTruthOf-only one row due Out True h k = let w = h.1 in one w.0 row Out True w.1 (due w.0 w.1) w.2 (k w.0 w.1)
