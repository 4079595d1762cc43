-- What steps of writing out come to.
use Rattle.zf_unfold.proofs.Prelude.{◌++◌, ◌+◌, ◌<◌, ◌∙◌, ◌∷◌, ◌≡◌, ◌≤◌, [], add-one, ap, arith, get_or, length, List, map, refl, Some, subst, suc, sym, take, zero, ℕ, slice_get, Reference, Global, Outcome, Value, quantified, range, Ranges, reference, resolved_of, ResolvedPart, ResolvedTree, Environment, longer, outcome_or, in_row, HasOutcome, AreEach, AreLifted, IsLifted, IsLonger, AreNamed, IsBase, IsSetNamed, IsUnfolded, append_assoc, length-append, of-Name, Resolved, ForAll, Is, Undefined, each_also, whole, members, instances, Span}
use Rattle.zf_term.specs.declared.resolved.Resolved.TheVariants as v
use Rattle.zf_lift.proofs.Longer as longer_ones
use Rattle.zf_unfold.proofs.Names.{base_later}
use Rattle.zf_unfold.proofs.WrittenOut.{is_unfolded, unfold_quantified}

-- ---- declared sets

pub set_seen : (n : ℕ) (l : Span) (i : ℕ) (r : Reference) (f : Environment) (s : Value) (whole : Resolved) → whole ≡ v.Name l r → r ≡ Global i → i < n
    → HasOutcome (in_row f []) (resolved_of whole) (Is s) → IsSetNamed n f (resolved_of whole) s
unfolding IsSetNamed
set_seen n l i r f s whole is global before h e b row =
    let seen : resolved_of whole ≡ reference l (Global i) = ap resolved_of is ∙ of-Name l r ∙ ap (λ q. reference l q) global in
    let there : Is s ≡ outcome_or (slice_get f.outcomes i) = subst (λ t. HasOutcome (in_row f []) t (Is s)) seen h in
    let same = longer_ones.same_outcome e f i (omega (arith, before, b.count)) b.longer in
    subst (λ t. HasOutcome (in_row e row) t (Is s)) (sym seen) (there ∙ ap outcome_or same)

-- ---- members as names

next_length : (os : List Outcome) (x : Outcome) → length (os ++ x ∷ []) ≡ suc (length os)
next_length [] x = refl
next_length (o ∷ os) x = ap suc (next_length os x)

at_end : (os further : List Outcome) (x : Outcome) → slice_get (os ++ x ∷ further) (length os) ≡ Some x
at_end [] further x = refl
at_end (o ∷ os) further x = at_end os further x

named_added : (os : List Outcome) (vs : List Value) → AreNamed (os ++ map Is vs) (length os) vs
named_added os [] = tt
named_added os (w ∷ vs) = (
  at_end os (map Is vs) (Is w),
  subst (λ ps. AreNamed ps (suc (length os)) vs) (append_assoc os (Is w ∷ []) (map Is vs))
      (subst (λ k. AreNamed ((os ++ Is w ∷ []) ++ map Is vs) k vs) (next_length os (Is w)) (named_added (os ++ Is w ∷ []) vs)),
)

more_names : (e f : Environment) → IsLonger e f → length e.outcomes ≤ length f.outcomes
more_names e f h = let all = ap (λ (x : Environment). length x.outcomes) h.1 in omega (arith, all, length-append e.outcomes h.0)

module _ (n : ℕ) (l : Span) (more : ℕ) (e f g : Environment) (s : Value) (x : ResolvedTree) (rs : Ranges) (p : ResolvedPart) (t : ResolvedTree) where
  by_members : IsBase n e f → IsSetNamed n f x s → IsLonger f g → (xs : List Value) → members s ≡ xs → AreNamed g.outcomes (length f.outcomes) xs → length xs ≡ suc more → (k : ℕ)
      → IsUnfolded g e (instances n (length f.outcomes) more l (range (suc k) x rs) p t) (quantified l ForAll (range (suc k) x rs) p t)
  unfolding IsSetNamed
  by_members b set more_than [] are z size k = absurd (omega (arith, size))
  by_members b set more_than (w ∷ vs) are z size k =
      let count : length vs ≡ more = omega (arith, size) in
      subst (λ i. IsUnfolded g e (instances n (length f.outcomes) i l (range (suc k) x rs) p t) (quantified l ForAll (range (suc k) x rs) p t)) count
      (unfold_quantified n e g l k s x rs p t (base_later n e f g b more_than) (set e b) w vs are (length f.outcomes) (omega (arith, b.count, more_names e f b.longer)) z)

  -- members were added, and the quantifier is written out over them
  pub unfold_members : IsBase n e f → IsSetNamed n f x s → g ≡ longer f (map Is (members s)) → length (members s) ≡ suc more → (j : ℕ) → 0 < j
      → IsUnfolded g e (instances n (length f.outcomes) more l (range j x rs) p t) (quantified l ForAll (range j x rs) p t)
  unfold_members b set added size zero there = absurd (omega (arith, there))
  unfold_members b set added size (suc k) there =
      by_members b set (map Is (members s), added) (members s) refl
      (subst (λ (h : Environment). AreNamed h.outcomes (length f.outcomes) (members s)) (sym added) (named_added f.outcomes (members s))) size k

-- ---- one after another

abbrev with_outcomes : Environment → List Outcome → Environment
with_outcomes e os = record { globals = e.globals; sizes = e.sizes; outcomes = os; numbers = e.numbers }

pub added_next : (e f g : Environment) (xs ys : List Value) (x : Value) → f ≡ longer e (map Is xs) → g ≡ longer f (Is x ∷ []) → map Is ys ≡ map Is xs ++ Is x ∷ [] → g ≡ longer e (map Is ys)
added_next e f g xs ys x h k i =
    k ∙ ap (λ (y : Environment). longer y (Is x ∷ [])) h ∙ ap (with_outcomes e) (append_assoc e.outcomes (map Is xs) (Is x ∷ [])) ∙ ap (λ (os : List Outcome). longer e os) (sym i)

no_more : (xs : List Outcome) → xs ++ [] ≡ xs
no_more [] = refl
no_more (x ∷ xs) = ap (λ ys. x ∷ ys) (no_more xs)

pub none_added : (e : Environment) → e ≡ longer e []
none_added e = sym (ap (with_outcomes e) (no_more e.outcomes))

lifted_further : (e f g : Environment) (w t u : ResolvedTree) → IsLifted g f w t → IsLifted f e t u → IsLifted g e w u
lifted_further e f g w t u h k = record {
  same = λ row a. (λ q. (k.same row a).0 ((h.same row a).0 q), λ q. (h.same row a).1 ((k.same row a).1 q));
  uses = λ i q. h.uses i (k.uses i q);
}

each_further : (e f g : Environment) (ws ts us : List ResolvedTree) → AreEach (IsLifted g f) ws ts → AreEach (IsLifted f e) ts us → AreEach (IsLifted g e) ws us
each_further e f g [] [] us h k = k
each_further e f g [] (t ∷ ts) us h k = absurd h
each_further e f g (w ∷ ws) [] us h k = absurd h
each_further e f g (w ∷ ws) (t ∷ ts) [] h k = absurd k
each_further e f g (w ∷ ws) (t ∷ ts) (u ∷ us) h k = (lifted_further e f g w t u h.0 k.0, each_further e f g ws ts us h.1 k.1)

pub all_further : (e f g : Environment) (ws ts us : List ResolvedTree) → AreLifted g f ws ts → AreLifted f e ts us → AreLifted g e ws us
all_further e f g ws ts us h k = record { longer = longer_ones.further e f g k.longer h.longer; each = each_further e f g ws ts us h.each k.each }

-- ---- environments

pub base_added : (n : ℕ) (e f : Environment) → n ≡ length e.outcomes → length e.globals ≤ length e.outcomes → f ≡ longer e (Undefined ∷ []) → IsBase n e f
base_added n e f is enough added = record {
  longer = (Undefined ∷ [], added);
  count = is;
  globals = omega (arith, is, enough);
  undefined = subst (λ k. slice_get f.outcomes k ≡ Some Undefined) (sym is)
      (subst (λ (h : Environment). slice_get h.outcomes (length e.outcomes) ≡ Some Undefined) (sym added) (at_end e.outcomes [] Undefined));
}

-- names after all globals stay so
pub enough_later : (e f : Environment) → IsLonger e f → length e.globals ≤ length e.outcomes → length f.globals ≤ length f.outcomes
enough_later e f h k = let same = ap length (longer_ones.same_globals e f h) in omega (arith, same, k, more_names e f h)

pub enough_based : (n : ℕ) (e f : Environment) → IsBase n e f → length f.globals ≤ length f.outcomes
enough_based n e f b = enough_later e f b.longer (omega (arith, b.globals, b.count))

one_value_front : (xs : List Value) (i : ℕ) (x : Value) → x ≡ get_or xs i x → i < length xs → map Is (take (suc i) xs) ≡ map Is (take i xs) ++ Is x ∷ []
one_value_front [] i x at l = absurd (omega arith)
one_value_front (y ∷ xs) zero x at l = ap (λ z. Is z ∷ []) (sym at)
one_value_front (y ∷ xs) (suc i) x at l = ap (λ rs. Is y ∷ rs) (one_value_front xs i x at (omega arith))

-- one value more has a name
pub one_value_more : (e f g : Environment) (xs : List Value) (i : ℕ) (x y : Value) → x ≡ get_or xs i x → i < length xs → y ≡ x
    → f ≡ longer e (map Is (take i xs)) → g ≡ longer f (Is y ∷ []) → g ≡ longer e (map Is (take (i + 1) xs))
one_value_more e f g xs i x y at l same h k =
    added_next e f g (take i xs) (take (i + 1) xs) x h (subst (λ z. g ≡ longer f (Is z ∷ [])) same k) (rw add-one (one_value_front xs i x at l))

pub all_values : (e f : Environment) (xs : List Value) (i : ℕ) → length xs ≤ i → f ≡ longer e (map Is (take i xs)) → f ≡ longer e (map Is xs)
all_values e f xs i l h = subst (λ ys. f ≡ longer e (map Is ys)) (whole xs i l) h

-- what is written out of all predicates
pub are_unfolded : (e f : Environment) (ts us : List ResolvedTree) → IsLonger e f → AreEach (IsUnfolded f e) ts us → AreLifted f e ts us
are_unfolded e f ts us h k = record { longer = h; each = each_also (IsUnfolded f e) (IsLifted f e) ts us (is_unfolded f e) k }
