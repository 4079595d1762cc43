-- The first in components and declared sets, and how it is found from the front.
use Rattle.std.specs.Prelude.{unwrap_or}
use Rattle.zf_finite.proofs.Prelude.{◌++◌, ◌+◌, ◌<◌, ◌∙◌, ◌∷◌, ◌≡◌, [], ap, drop, flat_map, get_or, length, List, map, None, Option, option_map, refl, Some, sym, ℕ, flat_map-cons, Defined, set_of, sets_of, Offender, first, all_plain_spans, all_set_offenders, plain_spans, set_offenders, option_or, Span}
use Rattle.std.proofs.lemmas.Option.{none-some}
use Rattle.zf_term.specs.declared.schema.Domain.{Domain}
use Rattle.zf_extent.proofs.FirstOffenders.{first_of_both, first_step}

-- what is found in the one, and then in the other
pub both_after : {A : Type 0} (xs ys : List A) (found a b : Option A) → a ≡ option_or found (first xs) → b ≡ option_or a (first ys) → b ≡ option_or found (first (xs ++ ys))
both_after xs ys None a b e h = h ∙ ap (λ o. option_or o (first ys)) e ∙ sym (first_of_both xs ys)
both_after xs ys (Some l) a b e h = h ∙ ap (λ o. option_or o (first ys)) e

-- where nothing is found, there is nothing
pub none_found : {A : Type 0} (xs : List A) → None ≡ first xs → xs ≡ []
none_found [] e = refl
none_found (l ∷ ls) e = absurd (none-some l e)

pub or_found : {A : Type 0} (xs : List A) (l other : A) → Some l ≡ first xs → l ≡ unwrap_or (first xs) other
or_found [] l other e = absurd (none-some l (sym e))
or_found (x ∷ xs) l other e = cc

pub or_none : {A : Type 0} (xs : List A) (other : A) → None ≡ first xs → other ≡ unwrap_or (first xs) other
or_none [] other e = refl
or_none (l ∷ ls) other e = absurd (none-some l e)

-- the first of what is made of each
pub first_of_map : {A B : Type 0} (f : A → B) (xs : List A) → first (map f xs) ≡ option_map f (first xs)
first_of_map f [] = refl
first_of_map f (x ∷ xs) = refl

-- ---- one item further

pub flat_step :
    {X Y A : Type 0} (f : Y → List A) (g : X → Y) (xs : List X) (i : ℕ) (x : X) (whole found next : Option A)
    → x ≡ get_or xs i x → i < length xs
    → whole ≡ option_or found (first (flat_map f (map g (drop i xs))))
    → next ≡ option_or found (first (f (g x)))
    → whole ≡ option_or next (first (flat_map f (map g (drop (i + 1) xs))))
flat_step f g xs i x whole found next at l =
    first_step (λ ys. flat_map f (map g ys)) (λ ys. flat_map f (map g ys)) xs i x (f (g x)) whole found next at l (flat_map-cons f (g x) (map g (drop (i + 1) xs)))

pub plain_step :
    (xs : List Domain) (i : ℕ) (x : Domain) (whole found next : Option Span)
    → x ≡ get_or xs i x → i < length xs
    → whole ≡ option_or found (first (all_plain_spans (sets_of (map set_of (drop i xs)))))
    → next ≡ option_or found (first (plain_spans (set_of x)))
    → whole ≡ option_or next (first (all_plain_spans (sets_of (map set_of (drop (i + 1) xs)))))
plain_step xs i x whole found next at l =
    first_step (λ ds. all_plain_spans (sets_of (map set_of ds))) (λ ds. all_plain_spans (sets_of (map set_of ds))) xs i x (plain_spans (set_of x)) whole found next at l refl

pub sets_step :
    (g : List Defined) (xs : List Domain) (i : ℕ) (x : Domain) (whole found next : Option Offender)
    → x ≡ get_or xs i x → i < length xs
    → whole ≡ option_or found (first (all_set_offenders g (sets_of (map set_of (drop i xs)))))
    → next ≡ option_or found (first (set_offenders g (set_of x)))
    → whole ≡ option_or next (first (all_set_offenders g (sets_of (map set_of (drop (i + 1) xs)))))
sets_step g xs i x whole found next at l =
    first_step (λ ds. all_set_offenders g (sets_of (map set_of ds))) (λ ds. all_set_offenders g (sets_of (map set_of ds))) xs i x (set_offenders g (set_of x)) whole found next at l refl

-- the same where what is ahead is a list of its own
pub step_ahead :
    {X A : Type 0} (f : List X → List A) (here : List A) (ahead rest : List X) (x : X) (whole found next : Option A)
    → ahead ≡ x ∷ rest
    → f (x ∷ rest) ≡ here ++ f rest
    → whole ≡ option_or found (first (f ahead))
    → next ≡ option_or found (first here)
    → whole ≡ option_or next (first (f rest))
step_ahead f here ahead rest x whole found next step parts before one =
    before ∙ ap (λ ys. option_or found (first (f ys))) step ∙ ap (λ zs. option_or found (first zs)) parts ∙ sym (both_after here (f rest) found next _ one refl)

-- ---- the first of two lists, of which the second is made of another

pub first_in_front : {A : Type 0} (xs ys : List A) (x : A) → Some x ≡ first xs → first (xs ++ ys) ≡ Some x
first_in_front xs ys x e = first_of_both xs ys ∙ ap (λ o. option_or o (first ys)) (sym e)

pub first_behind : {A B : Type 0} (f : A → B) (xs : List B) (ys : List A) (y : A) → None ≡ first xs → Some y ≡ first ys → first (xs ++ map f ys) ≡ Some (f y)
first_behind f xs ys y e h =
    first_of_both xs (map f ys) ∙ ap (λ o. option_or o (first (map f ys))) (sym e) ∙ first_of_map f ys ∙ ap (option_map f) (sym h)
