-- Environments with further outcomes.
use Rattle.zf_lift.proofs.Prelude.{◌++◌, ◌<◌, ◌∙◌, ◌∷◌, ◌≡◌, ◌≤◌, [], ap, arith, length, List, None, refl, Some, subst, suc, sym, zero, ℕ, slice_get, Outcome, Defined, Context, Environment, longer, IsLonger, Wherever, append_assoc}

no_more : (xs : List Outcome) → xs ++ [] ≡ xs
no_more [] = refl
no_more (x ∷ xs) = ap (λ ys. x ∷ ys) (no_more xs)

with_outcomes : Environment → List Outcome → Environment
with_outcomes e os = record { globals = e.globals; sizes = e.sizes; outcomes = os; numbers = e.numbers }

pub itself : (e : Environment) → IsLonger e e
unfolding with_outcomes
itself e = ([], sym (ap (with_outcomes e) (no_more e.outcomes)))

pub further : (e f g : Environment) → IsLonger e f → IsLonger f g → IsLonger e g
unfolding with_outcomes
further e f g h k = (h.0 ++ k.0, k.1 ∙ ap (λ x. longer x k.0) h.1 ∙ ap (with_outcomes e) (append_assoc e.outcomes h.0 k.0))

pub later : (n : ℕ) (f g e : Environment) (P : Context → Context → Type 0) → IsLonger f g → Wherever n f e P → Wherever n g e P
later n f g e P k h x l row locals o = h x (further f g x k l) row locals o

pub same_globals : (e f : Environment) → IsLonger e f → f.globals ≡ e.globals
same_globals e f h = ap (λ x. x.globals) h.1

pub same_numbers : (e f : Environment) → IsLonger e f → f.numbers ≡ e.numbers
same_numbers e f h = ap (λ x. x.numbers) h.1

front_place : (xs ys : List Outcome) (i : ℕ) → i < length xs → slice_get (xs ++ ys) i ≡ slice_get xs i
front_place [] ys i h = absurd (omega arith)
front_place (x ∷ xs) ys zero h = refl
front_place (x ∷ xs) ys (suc i) h = front_place xs ys i (omega arith)

-- names that have an outcome keep it
pub same_outcome : (e f : Environment) (i : ℕ) → i < length e.outcomes → IsLonger e f → slice_get f.outcomes i ≡ slice_get e.outcomes i
same_outcome e f i l h = ap (λ x. slice_get x.outcomes i) h.1 ∙ front_place e.outcomes h.0 i l

last_place : (xs : List Outcome) (x : Outcome) → slice_get (xs ++ x ∷ []) (length xs) ≡ Some x
last_place [] x = refl
last_place (y ∷ xs) x = last_place xs x

last_within : (xs : List Outcome) (x : Outcome) → length xs < length (xs ++ x ∷ [])
last_within [] x = omega arith
last_within (y ∷ xs) x = let h = last_within xs x in omega (arith, h)

-- the next name has the outcome that it was given
pub new_outcome : (e f g : Environment) (x : Outcome) → f ≡ longer e (x ∷ []) → IsLonger f g → slice_get g.outcomes (length e.outcomes) ≡ Some x
new_outcome e f g x h k =
    let l = subst (λ y. length e.outcomes < length y.outcomes) (sym h) (last_within e.outcomes x) in
    same_outcome f g (length e.outcomes) l k ∙ ap (λ y. slice_get y.outcomes (length e.outcomes)) h ∙ last_place e.outcomes x

behind : (ds : List Defined) (i : ℕ) → length ds ≤ i → slice_get ds i ≡ None
behind [] i h = refl
behind (d ∷ ds) zero h = absurd (omega arith)
behind (d ∷ ds) (suc i) h = behind ds i (omega arith)

-- a name after all globals stands for none
pub no_global : (e g : Environment) (i : ℕ) → length e.globals ≤ i → IsLonger e g → slice_get g.globals i ≡ None
no_global e g i l h = ap (λ ds. slice_get ds i) (same_globals e g h) ∙ behind e.globals i l
