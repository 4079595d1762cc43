-- Searches of several schemas: that at a place, and another in its stead.
use Rattle.zf_steps.proofs.Prelude.{◌++◌, ◌+◌, ◌<◌, ◌≡◌, ◌∙◌, ◌∷◌, [], ap, arith, get_or, length, List, map, refl, Some, subst, suc, sym, take, zero, ℕ, map-append, take_more, AllByRecursion, slice_get-get_or, slice_get, slice_index_or, slice_set, none_some, one_some, Environment, Schema, AreFor}

-- what holds of all holds of what stands at a place
pub all_at : {X : Type 0} (P : X → Type 0) (xs : List X) (i : ℕ) (d : X) → AllByRecursion P xs → i < length xs → P (get_or xs i d)
all_at P [] i d h l = absurd (omega (arith, l))
all_at P (x ∷ xs) zero d h l = h.0
all_at P (x ∷ xs) (suc i) d h l = all_at P xs i d h.1 (omega (arith, l))

module _ {S : Type 0} (IsFor : S → Environment → Schema → Type 0) (e : Environment) where
  -- the search at a place is one for the schema there
  pub for_at : (schemas : List Schema) (ss : List S) (place : ℕ) (s : S) (a : Schema) → AreFor IsFor e schemas ss → slice_get ss place ≡ Some s
      → slice_get schemas place ≡ Some a → IsFor s e a
  for_at [] [] place s a h at as' = absurd (none_some s at)
  for_at [] (t ∷ ss) place s a h at as' = absurd h
  for_at (b ∷ schemas) [] place s a h at as' = absurd h
  for_at (b ∷ schemas) (t ∷ ss) zero s a h at as' = subst (IsFor s e) (one_some b a as') (subst (λ u. IsFor u e b) (one_some t s at) h.0)
  for_at (b ∷ schemas) (t ∷ ss) (suc place) s a h at as' = for_at schemas ss place s a h.1 at as'

  pub another : (schemas : List Schema) (ss : List S) (place : ℕ) (old new : S) → slice_get ss place ≡ Some old
      → ((a : Schema) → IsFor old e a → IsFor new e a) → AreFor IsFor e schemas ss → AreFor IsFor e schemas (slice_set ss place new)
  another [] [] place old new at f h = absurd (none_some old at)
  another [] (t ∷ ss) place old new at f h = absurd h
  another (a ∷ schemas) [] place old new at f h = absurd h
  another (a ∷ schemas) (t ∷ ss) zero old new at f h = (f a (subst (λ u. IsFor u e a) (one_some t old at) h.0), h.1)
  another (a ∷ schemas) (t ∷ ss) (suc place) old new at f h = (h.0, another schemas ss place old new at f h.1)

  pub for_push : (schemas : List Schema) (ss : List S) (a : Schema) (s : S) → AreFor IsFor e schemas ss → IsFor s e a
      → AreFor IsFor e (schemas ++ a ∷ []) (ss ++ s ∷ [])
  for_push [] [] a s h is = (is, tt)
  for_push [] (t ∷ ss) a s h is = absurd h
  for_push (b ∷ schemas) [] a s h is = absurd h
  for_push (b ∷ schemas) (t ∷ ss) a s h is = (h.0, for_push schemas ss a s h.1 is)

  -- a search for one more of some things that have schemas
  pub for_more : {X : Type 0} (f : X → Schema) (xs : List X) (i : ℕ) (d : X) (ss : List S) (s : S) → i < length xs → AreFor IsFor e (map f (take i xs)) ss
      → IsFor s e (f (get_or xs i d))
      → AreFor IsFor e (map f (take (i + 1) xs)) (ss ++ s ∷ [])
  for_more f xs i d ss s below h is =
      subst (λ schemas. AreFor IsFor e schemas (ss ++ s ∷ [])) (sym (ap (map f) (take_more xs i d below)
      ∙ map-append f (take i xs) (get_or xs i d ∷ []))) (for_push (map f (take i xs)) ss (f (get_or xs i d)) s h is)

  -- and one of a thing that can be searched for
  pub for_item : {X : Type 0} (f : X → Schema) (P : Schema → Type 0) (xs : List X) (i : ℕ) (d x : X) (ss : List S) (s : S) → x ≡ get_or xs i d → i < length xs
      → AllByRecursion (λ y. P (f y)) xs
      → AreFor IsFor e (map f (take i xs)) ss → (P (f x) → IsFor s e (f x)) → AreFor IsFor e (map f (take (i + 1) xs)) (ss ++ s ∷ [])
  for_item f P xs i d x ss s is below all h make =
      for_more f xs i d ss s below h (subst (λ y. IsFor s e (f y)) is (make (subst (λ y. P (f y)) (sym is) (all_at (λ y. P (f y)) xs i d all below))))

  pub same_length : (schemas : List Schema) (ss : List S) → AreFor IsFor e schemas ss → length ss ≡ length schemas
  same_length [] [] h = refl
  same_length [] (s ∷ ss) h = absurd h
  same_length (a ∷ schemas) [] h = absurd h
  same_length (a ∷ schemas) (s ∷ ss) h = ap suc (same_length schemas ss h.1)

-- what is read at a place stands there
pub stands_at : {S : Type 0} (ss : List S) (place : ℕ) (s : S) → place < length ss → s ≡ slice_index_or ss place s → slice_get ss place ≡ Some s
stands_at ss place s l e = slice_get-get_or ss place s l ∙ ap Some (sym e)

pub set_at : {S : Type 0} (ss : List S) (place : ℕ) (s : S) → place < length ss → slice_get (slice_set ss place s) place ≡ Some s
set_at [] place s l = absurd (omega (arith, l))
set_at (t ∷ ss) zero s l = refl
set_at (t ∷ ss) (suc place) s l = set_at ss place s (omega (arith, l))

-- what holds of all that something gives
pub all_mapped : {X Y : Type 0} (P : Y → Type 0) (f : X → Y) (xs : List X) → AllByRecursion P (map f xs) → AllByRecursion (λ x. P (f x)) xs
all_mapped P f [] h = tt
all_mapped P f (x ∷ xs) h = (h.0, all_mapped P f xs h.1)

pub map_map : {X Y Z : Type 0} (g : Y → Z) (f : X → Y) (xs : List X) → map (λ x. g (f x)) xs ≡ map g (map f xs)
map_map g f [] = refl
map_map g f (x ∷ xs) = ap (λ zs. g (f x) ∷ zs) (map_map g f xs)
