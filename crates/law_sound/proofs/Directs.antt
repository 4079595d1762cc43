-- A term that is an infinite set is a set of numbers.
use Rattle.law_sound.proofs.Prelude.{◌<◌, ◌∙◌, ◌∷◌, ◌≡◌, [], ap, arith, List, None, Option, refl, Some, suc, sym, take, zero, ℕ, none-some, same_Some, slice_get, Reference, spelling, Tree, Constant, abbreviation, Defined, Definition, first_named, int, power, Ty, Infinite, referent, resolved, constant_sort, typed, definition_sort, global_meaning, IsOf, constant_set, definition_extent, direct, extent_by, extent_found, extent_named, extent_set, offending, named_there, outside, AreWellTyped, IsMadeAfter}
use Rattle.zf_extent.specs.declared.offender.Offender.{Offender}
use Rattle.zf_tree.specs.declared.symbol.Constant.TheVariants as constants
use Rattle.zf_tree.specs.Trees as text
use Rattle.law_sound.proofs.Globals.{in_front}

-- these globals are those up to that place, and maybe further ones
abbrev pub Begin : ℕ → List Defined → List Defined → Type 0
Begin n g h = (i : ℕ) → i < n → slice_get h i ≡ slice_get g i

front_of : (j i : ℕ) (g : List Defined) → i < j → slice_get (take j g) i ≡ slice_get g i
front_of zero i g l = absurd (omega (arith, l))
front_of (suc j) i [] l = refl
front_of (suc j) zero (d ∷ g) l = refl
front_of (suc j) (suc i) (d ∷ g) l = front_of j i g (omega (arith, l))

none_found : {X : Type 0} {A : Type 0} (x : A) → None ≡ Some x → X
none_found x e = absurd (none-some x e)

extent_infinite : (o : Option Infinite) (offenders : List Offender) (s : Infinite) → extent_set (extent_by o offenders) ≡ Some s → o ≡ Some s
extent_infinite (Some r) offenders s e = e
extent_infinite None [] s e = none_found s e
extent_infinite None (a ∷ others) s e = none_found s e

typed_same : (t u : Ty) → typed t ≡ typed u → t ≡ u
typed_same t u e = cc

-- the type of an infinite set that is a term after the first n globals
abbrev IsNumbersAt : List Defined → ℕ → Type 0
IsNumbersAt g n = (h : List Defined) (a : Tree) (u : Ty) (s : Infinite) → Begin n g h → IsOf (outside (take n g)) a (typed u) → direct h (resolved (outside (take n g)) a) ≡ Some s → u ≡ power int

constant_numbers : (k : Constant) (u : Ty) (s : Infinite) → typed u ≡ constant_sort k → constant_set k ≡ Some s → u ≡ power int
constant_numbers constants.True u s h e = none_found s e
constant_numbers constants.False u s h e = none_found s e
constant_numbers _ u s h e = typed_same u (power int) h

module _ (g : List Defined) (well : AreWellTyped g) where
  -- a global whose extent is infinite
  global_numbers : (j : ℕ) (name : List ℕ) (x : Definition) (u : Ty) (s : Infinite) → IsNumbersAt g j → IsMadeAfter (take j g) name x
      → definition_sort name x ≡ typed u → extent_set (definition_extent x) ≡ Some s → u ≡ power int
  global_numbers j name (abbreviation t r x) u s before made sort e =
      let there = extent_infinite (direct (take j g) r) (offending (take j g) r) s (sym (ap extent_set made.3) ∙ e) in
      sym (typed_same t u sort) ∙ before (take j g) made.0 t s (λ i l. front_of j i g l) made.1 (sym (ap (direct (take j g)) made.2) ∙ there)
  global_numbers j name _ u s before made sort e = none_found s e

  named_numbers : (n : ℕ) (h : List Defined) (x : List ℕ) (u : Ty) (s : Infinite) → ((j : ℕ) → j < n → IsNumbersAt g j) → Begin n g h → (r : Reference)
      → (o : Option (ℕ × Defined)) → first_named (λ d. d.name) x (take n g) ≡ o → global_meaning o ≡ Some (r, typed u)
      → extent_set (extent_named h (referent (global_meaning o))) ≡ Some s → u ≡ power int
  named_numbers n h x u s before begin r None found m e = none_found (r, typed u) m
  named_numbers n h x u s before begin r (Some p) found m e =
      let there = in_front n p.0 g p.1 (named_there (λ d. d.name) x (take n g) p found).0 in
      let same = begin p.0 there.0 ∙ there.1 in
      global_numbers p.0 p.1.name p.1.definition u s (before p.0 there.0) (well p.0 p.1 there.1) (ap (λ q. q.1) (same_Some _ _ m)) (sym (ap (λ o. extent_set (extent_found o)) same) ∙ e)

  tree_numbers : (n : ℕ) → ((j : ℕ) → j < n → IsNumbersAt g j) → (h : List Defined) (a : Tree) (u : Ty) (s : Infinite) → Begin n g h
      → IsOf (outside (take n g)) a (typed u) → direct h (resolved (outside (take n g)) a) ≡ Some s → u ≡ power int
  tree_numbers n before h (text.named m) u s begin is e = named_numbers n h (spelling m) u s before begin is.0 (first_named (λ d. d.name) (spelling m) (take n g)) refl is.1 e
  tree_numbers n before h (text.constant l k) u s begin is e = constant_numbers k u s is e
  tree_numbers n before h (text.bracket l a) u s begin is e = tree_numbers n before h a u s begin is.0 e
  tree_numbers n before h _ u s begin is e = none_found s e

  numbers_below : (k n : ℕ) → n < k → IsNumbersAt g n
  numbers_below zero n l = absurd (omega (arith, l))
  numbers_below (suc k) n l = tree_numbers n (λ j m. numbers_below k j (omega (arith, l, m)))

pub are_numbers : (g : List Defined) → AreWellTyped g → (n : ℕ) (a : Tree) (u : Ty) (s : Infinite) → IsOf (outside (take n g)) a (typed u)
    → direct g (resolved (outside (take n g)) a) ≡ Some s → u ≡ power int
are_numbers g well n a u s is e = numbers_below g well (suc n) n (omega arith) g a u s (λ i l. refl) is e
