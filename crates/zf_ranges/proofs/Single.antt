-- What a declared set that is no disjunction holds, by its outcome.
use Rattle.zf_ranges.proofs.Prelude.{◌↔◌, ◌≡◌, ap, Bool, false, List, None, not, Option, refl, Some, subst, sym, true, ℕ, IsMember, members, Outcome, Is, Out, Undefined, Value, carrier, plain, ResolvedTree, has_numbers, Ty, Infinite, direct, bounds, IsCarrier, Environment, globally, HasOutcome, IsOfType, has_endless, IsCarrierOut, IsInCarrier, IsInOne, IsInPlain, IsPlainOut, IsSetOut, Filters, IsAllOf, IsIn, IsListed, Lists, Narrows, is_none, is_some, ◌||◌, infinite_in, unended}
use Rattle.zf_outcome.specs.Symbols as symbols
use Rattle.zf_outcome.specs.declared.described.Described.{Described}
use Rattle.zf_outcome.specs.{Describes, IsDescribed, IsInDescribed}
use Rattle.zf_meaning.proofs.Environments.{one_carrier}
use Rattle.zf_meaning.proofs.Unique.{one_outcome}
use Rattle.zf_ranges.proofs.Listing.{lists_same}

-- ---- by an outcome that is the only one

in_one : (P : Outcome → Type 0) (o : Outcome) → P o → ((p : Outcome) → P p → o ≡ p) → (v : Value) → IsIn o v ↔ IsInOne P v
in_one P (Is w) h one v = (λ m. (w, h, m), λ k. let same : k.0 ≡ w = (cc (one (Is k.0) k.1)) in subst (λ z. IsMember v (members z)) same k.2)
in_one P Undefined h one v = (λ m. absurd m, λ k. (cc (one (Is k.0) k.1)))
in_one P Out h one v = (λ m. absurd m, λ k. (cc (one (Is k.0) k.1)))

among : (P Q : Value → Type 0) (xs : List Value) → ((v : Value) → P v ↔ Q v) → (v : Value) → (IsMember v xs × P v) ↔ (IsMember v xs × Q v)
among P Q xs f v = (λ k. (k.0, (f v).0 k.1), λ k. (k.0, (f v).1 k.1))

-- what is described by the only outcome of which S says so, and filters values
listed : (S : Outcome → Type 0) (d : Described) (xs ys : List Value) → ((p q : Outcome) → S p → S q → p ≡ q) → Describes S d → Filters d xs ys → (o : Outcome)
    × S o × IsListed o (λ v. IsMember v xs × IsIn o v) ys
unfolding Describes IsInDescribed
listed S d xs ys one f h =
    let o = h.1 in
    let same = in_one (IsDescribed d) o.0 o.1 (λ p q. one o.0 p (f o.0 o.1) (f p q)) in (
      o.0,
      f o.0 o.1,
      record {
        within = λ e. o.2 (subst (IsDescribed d) e o.1);
        lists = lists_same _ (λ v. IsMember v xs
            × IsIn o.0 v) ys (among (IsInDescribed d) (IsIn o.0) xs (λ v. ((same v).1, (same v).0))) h.0;
      },
    )

-- ---- the set of a declaration

-- a set that bounds is not infinite
pub bounding : (e : Environment) (t : ResolvedTree) → bounds e.numbers e.globals (plain t) ≡ true → is_none (infinite_in e t) ≡ true
bounding e t b = by (direct e.globals t) e.numbers b
  where
    by : (d : Option Infinite) (n : Option ℕ) → (is_some n || is_none d) ≡ true → is_none (unended d n) ≡ true
    by None n b = refl
    by (Some s) None b = b
    by (Some s) (Some n) b = refl

all_of : (e : Environment) (t : ResolvedTree) (d : Option Infinite) (o : Outcome) (xs : List Value) → is_none d ≡ true → HasOutcome (globally e) t o
    → IsListed o (IsIn o) xs → Lists (IsInPlain e d t) xs × (IsPlainOut e d t → ⊥)
all_of e t None o xs n h k = (
  lists_same (IsIn o) (IsInPlain e None t) xs
      (in_one (HasOutcome (globally e) t) o h (λ p q. one_outcome (globally e) t o p h q)) k.lists,
  λ q. k.within (one_outcome (globally e) t o Out h q),
)
all_of e t (Some s) o xs n h k = (cc)

pub all_of_plain : (e : Environment) (t : ResolvedTree) (o : Outcome) (xs : List Value) → bounds e.numbers e.globals (plain t) ≡ true
    → HasOutcome (globally e) t o → IsListed o (IsIn o) xs → IsAllOf e (plain t) xs
all_of_plain e t o xs n h k = all_of e t (infinite_in e t) o xs (bounding e t n) h k

some_of : (e : Environment) (t : ResolvedTree) (d : Option Infinite) (o : Outcome) (xs ys : List Value) → d ≡ None → HasOutcome (globally e) t o
    → IsListed o (λ v. IsMember v xs × IsIn o v) ys → Lists (λ v. IsMember v xs × IsInPlain e d t v) ys × (IsPlainOut e d t → ⊥)
some_of e t None o xs ys n h k = (
  lists_same _ (λ v. IsMember v xs × IsInPlain e None t v) ys
      (among (IsIn o) (IsInPlain e None t) xs (in_one (HasOutcome (globally e) t) o h (λ p q. one_outcome (globally e) t o p h q))) k.lists,
  λ q. k.within (one_outcome (globally e) t o Out h q),
)
some_of e t (Some s) o xs ys n h k = (cc)

some_of_plain : (e : Environment) (t : ResolvedTree) (o : Outcome) (xs ys : List Value) → infinite_in e t ≡ None → HasOutcome (globally e) t o
    → IsListed o (λ v. IsMember v xs × IsIn o v) ys → Narrows e (plain t) xs ys
some_of_plain e t o xs ys n h k = some_of e t (infinite_in e t) o xs ys n h k

pub filtered_by_plain : (e : Environment) (t : ResolvedTree) (d : Described) (xs ys : List Value) → infinite_in e t ≡ None
    → Describes (HasOutcome (globally e) t) d → Filters d xs ys → Narrows e (plain t) xs ys
filtered_by_plain e t d xs ys n f h =
    let l = listed (HasOutcome (globally e) t) d xs ys (λ p q. one_outcome (globally e) t p q) f h in
    some_of_plain e t l.0 xs ys n l.1 l.2

numbers_of : (e : Environment) (t : ResolvedTree) (d : Option Infinite) (s : Infinite) (xs ys : List Value) → d ≡ Some s
    → Lists (λ v. IsMember v xs × symbols.IsIn s v) ys → Lists (λ v. IsMember v xs × IsInPlain e d t v) ys × (IsPlainOut e d t → ⊥)
numbers_of e t None s xs ys n k = (cc)
numbers_of e t (Some r) s xs ys n k = let same : s ≡ r = (cc) in (subst (λ z. Lists (λ v. IsMember v xs × symbols.IsIn z v) ys) same k, λ q. q)

pub numbers_of_plain : (e : Environment) (t : ResolvedTree) (s : Infinite) (xs ys : List Value) → infinite_in e t ≡ Some s
    → Lists (λ v. IsMember v xs × symbols.IsIn s v) ys → Narrows e (plain t) xs ys
numbers_of_plain e t s xs ys n k = numbers_of e t (infinite_in e t) s xs ys n k

plain_out : (e : Environment) (t : ResolvedTree) (d : Option Infinite) (o : Outcome) → is_none d ≡ true → HasOutcome (globally e) t o → o ≡ Out → IsPlainOut e d t
plain_out e t None o n h q = subst (HasOutcome (globally e) t) q h
plain_out e t (Some s) o n h q = (cc)

pub plain_is_out : (e : Environment) (t : ResolvedTree) (o : Outcome) → is_none (infinite_in e t) ≡ true → HasOutcome (globally e) t o → o ≡ Out → IsSetOut e (plain t)
plain_is_out e t o n h q = plain_out e t (infinite_in e t) o n h q

pub described_is_out : (e : Environment) (t : ResolvedTree) (d : Described) → is_none (infinite_in e t) ≡ true → Describes (HasOutcome (globally e) t) d → IsDescribed d Out → IsSetOut e (plain t)
unfolding Describes
described_is_out e t d n f h = plain_is_out e t Out n (f Out h) refl

-- ---- the carrier of a type

all_in : (e : Environment) (t : Ty) (b : Bool) (o : Outcome) (xs : List Value) → b ≡ false → IsCarrier e t o → IsListed o (IsIn o) xs → Lists (IsInCarrier e b t) xs × (IsCarrierOut e b t → ⊥)
all_in e t true o xs n h k = (cc)
all_in e t false o xs n h k = (lists_same (IsIn o) (IsInCarrier e false t) xs (in_one (IsCarrier e t) o h (λ p q. one_carrier e t o p h q)) k.lists, λ q. k.within (one_carrier e t o Out h q))

pub all_of_carrier : (e : Environment) (t : Ty) (o : Outcome) (xs : List Value) → has_endless e.numbers t ≡ false → IsCarrier e t o → IsListed o (IsIn o) xs → IsAllOf e (carrier t) xs
all_of_carrier e t o xs n h k = all_in e t (has_endless e.numbers t) o xs n h k

some_in : (e : Environment) (t : Ty) (b : Bool) (o : Outcome) (xs ys : List Value) → b ≡ false → IsCarrier e t o
    → IsListed o (λ v. IsMember v xs × IsIn o v) ys → Lists (λ v. IsMember v xs × IsInCarrier e b t v) ys × (IsCarrierOut e b t → ⊥)
some_in e t true o xs ys n h k = (cc)
some_in e t false o xs ys n h k = (
  lists_same _ (λ v. IsMember v xs × IsInCarrier e false t v) ys
      (among (IsIn o) (IsInCarrier e false t) xs (in_one (IsCarrier e t) o h (λ p q. one_carrier e t o p h q))) k.lists,
  λ q. k.within (one_carrier e t o Out h q),
)

some_of_carrier : (e : Environment) (t : Ty) (o : Outcome) (xs ys : List Value) → has_endless e.numbers t ≡ false → IsCarrier e t o
    → IsListed o (λ v. IsMember v xs × IsIn o v) ys → Narrows e (carrier t) xs ys
some_of_carrier e t o xs ys n h k = some_in e t (has_endless e.numbers t) o xs ys n h k

-- what is described as the one outcome
pub one_described : (S : Outcome → Type 0) (o : Outcome) (d : Described) → S o → Describes (λ p. p ≡ o) d → Describes S d
unfolding Describes
one_described S o d s f p h = subst S (sym (f p h)) s

pub filtered_by_carrier : (e : Environment) (t : Ty) (d : Described) (xs ys : List Value) → has_endless e.numbers t ≡ false → Describes (IsCarrier e t) d
    → Filters d xs ys → Narrows e (carrier t) xs ys
filtered_by_carrier e t d xs ys n f h =
    let l = listed (IsCarrier e t) d xs ys (λ p q. one_carrier e t p q) f h in
    some_of_carrier e t l.0 xs ys n l.1 l.2

typed_in : (e : Environment) (t : Ty) (b : Bool) (xs ys : List Value) → b ≡ true → Lists (λ v. IsMember v xs × IsOfType e t v) ys
    → Lists (λ v. IsMember v xs × IsInCarrier e b t v) ys × (IsCarrierOut e b t → ⊥)
typed_in e t true xs ys n k = (k, λ q. q)
typed_in e t false xs ys n k = (cc)

pub typed_of_carrier : (e : Environment) (t : Ty) (xs ys : List Value) → has_endless e.numbers t ≡ true → Lists (λ v. IsMember v xs × IsOfType e t v) ys → Narrows e (carrier t) xs ys
typed_of_carrier e t xs ys n k = typed_in e t (has_endless e.numbers t) xs ys n k

carrier_out : (e : Environment) (t : Ty) (b : Bool) (o : Outcome) → b ≡ false → IsCarrier e t o → o ≡ Out → IsCarrierOut e b t
carrier_out e t true o n h q = (cc)
carrier_out e t false o n h q = subst (IsCarrier e t) q h

pub carrier_is_out : (e : Environment) (t : Ty) (o : Outcome) → has_endless e.numbers t ≡ false → IsCarrier e t o → o ≡ Out → IsSetOut e (carrier t)
carrier_is_out e t o n h q = carrier_out e t (has_endless e.numbers t) o n h q

numberless : (b : Bool) → not b ≡ true → b ≡ false
numberless true n = (cc)
numberless false n = refl

-- a type that bounds has no numbers, or these end
pub endless : (n : Option ℕ) (t : Ty) → (is_some n || not (has_numbers t)) ≡ true → has_endless n t ≡ false
endless None t b = numberless (has_numbers t) b
endless (Some n) t b = refl

pub described_carrier_is_out : (e : Environment) (t : Ty) (d : Described) → has_endless e.numbers t ≡ false → Describes (IsCarrier e t) d → IsDescribed d Out → IsSetOut e (carrier t)
unfolding Describes
described_carrier_is_out e t d n f h = carrier_is_out e t Out n (f Out h) refl

-- ---- which set it is reported to be

pub no_infinite : (d : Option Infinite) → ((s : Infinite) → d ≡ Some s → ⊥) → d ≡ None
no_infinite None h = refl
no_infinite (Some s) h = absurd (h s refl)

pub none_is_none : (d : Option Infinite) → d ≡ None → is_none d ≡ true
none_is_none d h = ap is_none h
