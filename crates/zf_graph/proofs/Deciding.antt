-- Where a search ends: the first new node that is sought, or of which it can't be decided, or that is one more than are asked for.
use Rattle.zf_graph.proofs.Prelude.{◌++◌, ◌<◌, ◌∙◌, ◌∷◌, ◌≡◌, ◌≤◌, ◌⊎◌, [], ap, arith, Bool, false, inl, inr, length, List, refl, Some, subst, sym, ℕ, slice_get, Edge, Explored, Met, IsMet, is_met, beyond, arrive_all, cond-false, AreOthers, found, IsDecisive, open_ended, Result, Sought, untold}
use Rattle.zf_graph.proofs.Places.{at_last}
use Rattle.zf_graph.proofs.Growing.{at-arrive_all, longer-arrive_all, longer-more}
use Rattle.zf_graph.proofs.OneWay.{one_more}
use Rattle.zf_graph.proofs.Writing.{arrive_all-push}

module _ {N L : Type 0} (eq : N → N → Bool) (a : Met N L) (met : List (Met N L)) where
  -- what is met stays, with further edges
  pub at-more : (es more : List (Edge N L)) (i : ℕ) (x : Met N L) → slice_get (arrive_all eq a met es) i ≡ Some x → slice_get (arrive_all eq a met (es ++ more)) i ≡ Some x
  at-more es more i x h = go met es h
    where
      go : (m : List (Met N L)) (es : List (Edge N L)) → slice_get (arrive_all eq a m es) i ≡ Some x → slice_get (arrive_all eq a m (es ++ more)) i ≡ Some x
      go m [] h = at-arrive_all eq a m more i x h
      go m (e ∷ es) h = go (arrive_all eq a m (e ∷ [])) es h

  -- the new node stands after the others
  pub new_behind : (es : List (Edge N L)) (e : Edge N L) → is_met eq (arrive_all eq a met es) e.to ≡ false → arrive_all eq a met (es ++ e ∷ []) ≡ arrive_all eq a met es ++ beyond a e ∷ []
  new_behind es e fresh = arrive_all-push eq a met es e ∙ cond-false (is_met eq (arrive_all eq a met es) e.to) (arrive_all eq a met es) (arrive_all eq a met es ++ beyond a e ∷ []) fresh

  pub new_at : (es : List (Edge N L)) (e : Edge N L) → is_met eq (arrive_all eq a met es) e.to ≡ false
      → slice_get (arrive_all eq a met (es ++ e ∷ [])) (length (arrive_all eq a met es)) ≡ Some (beyond a e)
  new_at es e fresh = subst (λ m. slice_get m (length (arrive_all eq a met es)) ≡ Some (beyond a e)) (sym (new_behind es e fresh)) (at_last (arrive_all eq a met es) (beyond a e))

  pub new_is_met : (es : List (Edge N L)) (e : Edge N L) → is_met eq (arrive_all eq a met es) e.to ≡ false → IsMet (arrive_all eq a met (es ++ e ∷ [])) e.to
  new_is_met es e fresh = record { place = length (arrive_all eq a met es); item = beyond a e; stands = new_at es e fresh; node = refl }

module _ {N L : Type 0} (p : Explored N L) (s : Sought N) (limit : ℕ) where
  -- nothing that is met ends the search
  pub record IsClear (met : List (Met N L)) : Type 0 where
    pub few : length met ≤ limit
    pub others : AreOthers p s met

  pub IsClear-before : (a : Met N L) (met : List (Met N L)) (es : List (Edge N L)) → IsClear (arrive_all p.eq a met es) → IsClear met
  IsClear-before a met es c = record {
    few = (let l = c.few in let m = longer-arrive_all p.eq a met es in omega (arith, l, m));
    others = λ b m. c.others b (record { place = m.place; item = m.item; stands = at-arrive_all p.eq a met es m.place m.item m.stands; node = m.node });
  }

  -- a new node ends the search, where these nodes are met before
  pub data Decides (before : List (Met N L)) (to : N) (result : Result) : Type 0 where
    is_sought : s.IsSought to → result ≡ found → Decides before to result
    is_untold : (at : List ℕ) → s.IsUntold to at → result ≡ untold at → Decides before to result
    is_full : (to ≡ p.root) ⊎ s.IsOther to → length before ≡ limit → result ≡ open_ended → Decides before to result

  module _ (decisive : IsDecisive p s) where
    pub none_sought : (b : N) → (b ≡ p.root) ⊎ s.IsOther b → s.IsSought b → ⊥
    none_sought b (inl root) h = decisive.root (subst s.IsSought root h)
    none_sought b (inr other) h = decisive.not_both b other h

    pub none_untold : (b : N) (at : List ℕ) → (b ≡ p.root) ⊎ s.IsOther b → s.IsUntold b at → ⊥
    none_untold b at (inl root) h = decisive.root_told at (subst (λ x. s.IsUntold x at) root h)
    none_untold b at (inr other) h = decisive.not_other b at h other

    -- it ends in one way
    pub decides_once : (before : List (Met N L)) (to : N) (q r : Result) → Decides before to q → Decides before to r → q ≡ r
    decides_once before to q r (is_sought h e) (is_sought k f) = e ∙ sym f
    decides_once before to q r (is_sought h e) (is_untold at k f) = absurd (decisive.not_sought to at k h)
    decides_once before to q r (is_sought h e) (is_full other k f) = absurd (none_sought to other h)
    decides_once before to q r (is_untold at h e) (is_sought k f) = absurd (decisive.not_sought to at h k)
    decides_once before to q r (is_untold at h e) (is_untold by k f) = e ∙ ap untold (decisive.one_text to at by h k) ∙ sym f
    decides_once before to q r (is_untold at h e) (is_full other k f) = absurd (none_untold to at other h)
    decides_once before to q r (is_full other h e) (is_sought k f) = absurd (none_sought to other k)
    decides_once before to q r (is_full other h e) (is_untold at k f) = absurd (none_untold to at other k)
    decides_once before to q r (is_full other h e) (is_full same k f) = e ∙ sym f

    -- no search goes on after it
    pub ends_there : (before after : List (Met N L)) (to : N) (result : Result) → Decides before to result → IsMet after to → length before < length after → IsClear after → ⊥
    ends_there before after to result (is_sought h e) m l c = none_sought to (c.others to m) h
    ends_there before after to result (is_untold at h e) m l c = none_untold to at (c.others to m) h
    ends_there before after to result (is_full other full e) m l c = let f = c.few in omega (arith, full, l, f)

    pub none_behind : (a : Met N L) (met : List (Met N L)) (es : List (Edge N L)) (e : Edge N L) (more all : List (Edge N L)) (result : Result) → is_met p.eq (arrive_all p.eq a met es) e.to ≡ false
        → Decides (arrive_all p.eq a met es) e.to result → all ≡ (es ++ e ∷ []) ++ more → IsClear (arrive_all p.eq a met all) → ⊥
    none_behind a met es e more all result fresh d is c =
        let m = new_is_met p.eq a met es e fresh in
        let l = one_more p.eq a met es e fresh in
        let k = longer-more p.eq a met (es ++ e ∷ []) more in
        ends_there (arrive_all p.eq a met es) (arrive_all p.eq a met ((es ++ e ∷ []) ++ more)) e.to result d
        (record { place = m.place; item = m.item; stands = at-more p.eq a met (es ++ e ∷ []) more m.place m.item m.stands; node = m.node })
        (omega (arith, l, k))
        (subst (λ xs. IsClear (arrive_all p.eq a met xs)) is c)
