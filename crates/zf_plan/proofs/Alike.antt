-- What is to be found by conjuncts that say the same is the same.
use Rattle.zf_plan.proofs.Prelude.{◌<◌, ◌↔◌, inl, inr, List, Option, refl, subst, sym, ℕ, ⊎_elim, Ordering, Conjuncts, IsTruthOf, Event, IsEvent, Advances, Ahead, AreAllAhead, IsNoneAhead, SameAhead, Stage, Takes, Truth, False, Out, True, Step, Breaks, End, Holds, SayTheSame}

pub itself : {V : Type 0} → (s : Conjuncts V) → SayTheSame s s
itself s = record { number = refl; says = λ c l row t. ((λ h. h), (λ h. h)) }

pub turned : {V : Type 0} → (s r : Conjuncts V) → SayTheSame s r → SayTheSame r s
turned s r h = record {
  number = sym h.number;
  says = λ c l row t. let back = h.says c (subst (λ n. c < n) (sym h.number) l) row t in (back.1, back.0);
}

module _ {V : Type 0} (cmp : V → V → Ordering) (s r : Conjuncts V) (same : SayTheSame s r) where
  within : (c : ℕ) → c < r.number → c < s.number
  within c l = subst (λ n. c < n) (sym same.number) l

  truth_of : (row : List V) (t : Truth) → IsTruthOf s row t → IsTruthOf r row t
  truth_of row False h = (h.0, subst (λ n. h.0 < n) same.number h.1, (same.says h.0 h.1 row False).0 h.2)
  truth_of row True h = λ c l. (same.says c (within c l) row True).0 (h c (within c l))
  truth_of row Out h = (
    λ c l. ⊎_elim (λ a. inl ((same.says c (within c l) row True).0 a)) (λ a. inr ((same.says c (within c l) row Out).0 a)) (h.0 c (within c l)),
    (h.1.0, subst (λ n. h.1.0 < n) same.number h.1.1, (same.says h.1.0 h.1.1 row Out).0 h.1.2),
  )

  pub event_of : (ranges : List (List V)) (after : Option (List V)) (e : Event V) → IsEvent cmp s ranges after e → IsEvent cmp r ranges after e
  event_of ranges after e h = record { within = h.within; later = h.later; truth_of = truth_of e.row e.truth h.truth_of; not_false = h.not_false }

pub same_events : {V : Type 0} (cmp : V → V → Ordering) (s r : Conjuncts V) → SayTheSame s r → (ranges : List (List V)) (after : Option (List V)) (e : Event V)
    → IsEvent cmp s ranges after e ↔ IsEvent cmp r ranges after e
same_events cmp s r same ranges after e = (event_of cmp s r same ranges after e, event_of cmp r s (turned s r same) ranges after e)

module _ {V : Type 0} (cmp : V → V → Ordering) (s r : Conjuncts V) (same : SayTheSame s r) (ranges : List (List V)) (after : Option (List V)) where
  there : (e : Event V) → IsEvent cmp s ranges after e → IsEvent cmp r ranges after e
  there e ev = (same_events cmp s r same ranges after e).0 ev

  back : (e : Event V) → IsEvent cmp r ranges after e → IsEvent cmp s ranges after e
  back e ev = (same_events cmp s r same ranges after e).1 ev

  pub all_ahead : (a : Ahead V) → AreAllAhead cmp s ranges after a → AreAllAhead cmp r ranges after a
  all_ahead a h = λ e ev. h e (back e ev)

  pub none_ahead : (a : Ahead V) → IsNoneAhead cmp s ranges after a → IsNoneAhead cmp r ranges after a
  none_ahead a h = λ e ev. h e (back e ev)

  pub same_ahead : (a b : Ahead V) → SameAhead cmp s ranges after a b → SameAhead cmp r ranges after a b
  same_ahead a b h = λ e ev. h e (back e ev)

  pub takes : (a : Ahead V) (e : Event V) (b : Ahead V) → Takes cmp s ranges after a e b → Takes cmp r ranges after a e b
  takes a e b h = record { event = there e h.event; ahead = h.ahead; first = λ f ev. h.first f (back f ev); passed = h.passed }

pub advances : {V : Type 0} (cmp : V → V → Ordering) (s r : Conjuncts V) → SayTheSame s r → (step : Step) (old new : Stage V) → Advances cmp s step old new → Advances cmp r step old new
advances cmp s r same Holds old new h = (h.0, h.1, takes cmp s r same old.ranges old.after old.ahead (record { row = h.0; truth = True }) new.ahead h.2)
advances cmp s r same Breaks old new h = (h.0, h.1, takes cmp s r same old.ranges old.after old.ahead (record { row = h.0; truth = Out }) new.ahead h.2)
advances cmp s r same End old new h = (h.0, none_ahead cmp s r same old.ranges old.after old.ahead h.1, h.2)
