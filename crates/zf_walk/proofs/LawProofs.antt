-- The laws of the definitions.
use Rattle.zf_walk.proofs.Prelude.{◌++◌, ◌∙◌, ◌∷◌, ◌≡◌, ◌⊎◌, [], ap, arith, inl, inr, length, List, None, Option, refl, Some, subst, suc, sym, take, zero, ℕ, false≢true, take_all, IsTotalOrder, lists_total, slice_cmp, ordering_reverse, ordering_then, ◌≢◌, Contains, IsTrue, Ordering, Equal, Greater, Less, Conjuncts, Event, IsEvent, Ahead, IsAhead, IsRest, past, ComesAfter, IsLater, TiesAreEqual, IsDueTest, IsUpTo, IsWalked, EndsWithNone, HasOneList, Resumes, StartsWithAll, StaysWithinBound, TakesFirst}
use Rattle.zf_walk.proofs.Lists.{Contains-head, Contains-later, Contains-cases, Contains-nil, Contains-right, Contains-either, AllPairs-nil, AllPairs-cons, AllPairs-head, AllPairs-tail, AllPairs-back, AllPairs-across, AllPairs-unique}
use Rattle.zf_walk.proofs.Order.{slice-ties}
use Rattle.zf_walk.proofs.Picks.{IsRowOf-length}
use Rattle.zf_walk.proofs.Counting.{number-le}

module _ {V : Type 0} (cmp : V → V → Ordering) (o : IsTotalOrder cmp) where
  never-both : (a b : List V) → ComesAfter cmp a b → ComesAfter cmp b a → ⊥
  never-both a b h k = let e : slice_cmp cmp a b ≡ Greater = (lists_total o).antisymm a b ∙ ap ordering_reverse k in let f : Less ≡ Greater = sym h ∙ e in cc

  comes-on : (a b c : List V) → ComesAfter cmp a b → ComesAfter cmp b c → ComesAfter cmp a c
  comes-on a b c h k = (lists_total o).trans a b c h k

  never-itself : (a : List V) → ComesAfter cmp a a → ⊥
  never-itself a h = never-both a a h h

  IsLater-on : (after : Option (List V)) (a b : List V) → IsLater cmp after a → ComesAfter cmp a b → IsLater cmp after b
  IsLater-on None a b h k = tt
  IsLater-on (Some named) a b h k = comes-on named a b h k

  -- the order of events is that of their rows
  abbrev Follows : Event V → Event V → Type 0
  Follows e f = ComesAfter cmp e.row f.row

  -- the fronts of a greater row are no less
  fronts-follow : (k : ℕ) (a b : List V) → length a ≡ length b → ComesAfter cmp a b → slice_cmp cmp (take k a) (take k b) ≢ Greater
  fronts-follow zero a b l h e = cc
  fronts-follow (suc k) [] [] l h e = cc
  fronts-follow (suc k) [] (y ∷ b) l h e = cc
  fronts-follow (suc k) (x ∷ a) [] l h e = absurd (omega arith)
  fronts-follow (suc k) (x ∷ a) (y ∷ b) l h e = go (cmp x y) h e (fronts-follow k a b (omega arith)) where
    go : (q : Ordering) → ordering_then q (slice_cmp cmp a b) ≡ Less → ordering_then q (slice_cmp cmp (take k a) (take k b)) ≡ Greater
        → (ComesAfter cmp a b → slice_cmp cmp (take k a) (take k b) ≢ Greater) → ⊥
    go Less h e ih = cc
    go Equal h e ih = ih h e
    go Greater h e ih = cc

  -- what comes after a row that is ahead is ahead
  IsAhead-on : TiesAreEqual cmp → (a : Ahead V) (row line : List V) → length row ≡ length line → IsAhead cmp a row → ComesAfter cmp row line → IsAhead cmp a line
  IsAhead-on ties a row line l h k = go (slice_cmp cmp (take n row) (take n line)) refl (fronts-follow n row line l k) h where
    n : ℕ
    n = length a.path

    go : (q : Ordering) → slice_cmp cmp (take n row) (take n line) ≡ q → q ≢ Greater → IsAhead cmp a row → IsAhead cmp a line
    go Less e ne (inl c) = inl (comes-on a.path (take n row) (take n line) c e)
    go Less e ne (inr w) = inl (subst (λ t. ComesAfter cmp t (take n line)) w.1 e)
    go Equal e ne h = subst (λ t. ComesAfter cmp a.path t ⊎ (IsTrue a.here × (t ≡ a.path))) (slice-ties cmp o ties (take n row) (take n line) e) h
    go Greater e ne h = absurd (ne refl)

  module _ (s : Conjuncts V) where
    pub one_list : HasOneList cmp s
    one_list ranges after xs ys e f = AllPairs-unique Follows (λ x y h k. never-both x.row y.row h k) xs ys e.ascending f.ascending
        (λ x m. (f.members x).1 ((e.members x).0 m)) (λ x m. (e.members x).1 ((f.members x).0 m))

    pub resumes : Resumes cmp s
    resumes ranges after front e rest ev =
        let there : IsEvent cmp s ranges after e = (ev.members e).0 (Contains-right front (e ∷ rest) e (Contains-head e rest)) in
        let back = AllPairs-back Follows front (e ∷ rest) ev.ascending in
        record {
          ascending = AllPairs-tail Follows e rest back;
          members = λ f. (
            (λ m. let i = (ev.members f).0 (Contains-right front (e ∷ rest) f (Contains-later e rest f m)) in
                record { within = i.within; later = AllPairs-head Follows e rest back f m; truth_of = i.truth_of; not_false = i.not_false }),
            (λ i. let later : ComesAfter cmp e.row f.row = i.later in
                let here : Contains (front ++ e ∷ rest) f = (ev.members f).1
                (record { within = i.within; later = IsLater-on after e.row f.row there.later later; truth_of = i.truth_of; not_false = i.not_false }) in
                elim (Contains-either front (e ∷ rest) f here) [
                  | inl m ↦ absurd (never-both e.row f.row later (AllPairs-across Follows front (e ∷ rest) ev.ascending f e m (Contains-head e rest)))
                  | inr m ↦ elim (Contains-cases e rest f m) [
                    | inl same ↦ absurd (never-itself e.row (subst (λ (g : Event V). ComesAfter cmp e.row g.row) (sym same) later))
                    | inr n ↦ n
                  ]
                ]),
          );
        }

    pub starts_with_all : StartsWithAll cmp s
    starts_with_all ranges after a all events = (
      (λ r. record { ascending = r.ascending; members = λ e. ((λ m. ((r.members e).0 m).0), (λ i. (r.members e).1 (i, all e i))) }),
      (λ r. record { ascending = r.ascending; members = λ e. ((λ m. let i = (r.members e).0 m in (i, all e i)), (λ i. (r.members e).1 i.0)) }),
    )

    pub ends_with_none : EndsWithNone cmp s
    ends_with_none ranges after a none = record { ascending = AllPairs-nil Follows; members = λ e. ((λ m. absurd (Contains-nil e m)), (λ i. absurd (none e i.0 i.1))) }

    pub takes_first : TakesFirst cmp s
    takes_first ties ranges after old new e t rest = (to, from) where
      event : IsEvent cmp s ranges after e
      event = t.event

      long : (f : Event V) → IsEvent cmp s ranges after f → length f.row ≡ length e.row
      long f i = IsRowOf-length ranges f.row i.within ∙ sym (IsRowOf-length ranges e.row event.within)

      whole : (f : Event V) → IsEvent cmp s ranges after f → take (length e.row) f.row ≡ f.row
      whole f i = take_all (length e.row) f.row (let l = long f i in omega arith)

      -- what is ahead now is what comes after the event
      later-to : (f : Event V) → IsEvent cmp s ranges after f → IsAhead cmp new f.row → ComesAfter cmp e.row f.row
      later-to f i a = go (subst (λ w. IsAhead cmp w f.row) t.passed a) where
        go : IsAhead cmp (past e.row) f.row → ComesAfter cmp e.row f.row
        go (inl c) = subst (λ r. ComesAfter cmp e.row r) (whole f i) c
        go (inr w) = absurd (false≢true w.0)

      later-from : (f : Event V) → IsEvent cmp s ranges after f → ComesAfter cmp e.row f.row → IsAhead cmp new f.row
      later-from f i c = subst (λ w. IsAhead cmp w f.row) (sym t.passed) (inl (subst (λ r. ComesAfter cmp e.row r) (sym (whole f i)) c))

      to : IsRest cmp s ranges after old (e ∷ rest) → IsRest cmp s ranges after new rest
      to r = record {
        ascending = AllPairs-tail Follows e rest r.ascending;
        members = λ f. (
          (λ m. let i = ((r.members f).0 (Contains-later e rest f m)).0 in (i, later-from f i (AllPairs-head Follows e rest r.ascending f m))),
          (λ i. let c = later-to f i.0 i.1 in
              elim (Contains-cases e rest f ((r.members f).1 (i.0, IsAhead-on ties old e.row f.row (sym (long f i.0)) t.ahead c))) [
                | inl same ↦ absurd (never-itself e.row (subst (λ (g : Event V). ComesAfter cmp e.row g.row) (sym same) c))
                | inr m ↦ m
              ]),
        );
      }

      from : IsRest cmp s ranges after new rest → IsRest cmp s ranges after old (e ∷ rest)
      from r = record {
        ascending = AllPairs-cons Follows e rest (λ f m. let i = (r.members f).0 m in later-to f i.0 i.1) r.ascending;
        members = λ f. (
          (λ m. elim (Contains-cases e rest f m) [
            | inl same ↦ subst (λ (g : Event V). IsEvent cmp s ranges after g × IsAhead cmp old g.row) same (t.event, t.ahead)
            | inr n ↦ let i = (r.members f).0 n in (i.0, IsAhead-on ties old e.row f.row (sym (long f i.0)) t.ahead (later-to f i.0 i.1))
          ]),
          (λ i. elim (t.first f i.0 i.1) [
            | inl same ↦ subst (Contains (e ∷ rest)) (sym same) (Contains-head e rest)
            | inr c ↦ Contains-later e rest f ((r.members f).1 (i.0, later-from f i.0 c))
          ]),
        );
      }

    pub stays_within_bound : StaysWithinBound cmp s
    stays_within_bound ranges after whole number bound t b =
        number-le (λ pair. IsWalked cmp s ranges after pair × IsUpTo cmp whole pair.0) (IsDueTest s ranges) number bound t b (λ x w. let v = w.0 in v.is_pair)
