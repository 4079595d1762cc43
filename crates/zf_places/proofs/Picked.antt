-- What stands at places of a list, place by place.
use Rattle.std.proofs.Common.{◌++◌, ◌+◌, ◌<◌, ◌≡◌, ◌≤◌, ◌∙◌, ◌∷◌, [], ap, arith, get_or, length, List, map, None, Option, refl, Some, suc, sym, take, zero, ℕ}
use Rattle.std.proofs.lemmas.List.{take_more}
use Rattle.std.proofs.lemmas.List.Elements.{filter_map-append}
use Rattle.std.proofs.lemmas.Option.{get_or_from_slice_get, slice_get_past, slice_get_within}
use Rattle.std.specs.List.{filter_map}
use Rattle.std.specs.Prelude.{option_to_list, slice_get}

-- nothing stands past the end
pub past_none : {X : Type 0} (row : List X) (place n : ℕ) → n ≡ length row → n ≤ place → None ≡ slice_get row place
past_none row place n is past = sym (slice_get_past row place (omega (arith, is, past)))

-- one more from the front
pub one_more_taken : {X : Type 0} (row : List X) (i : ℕ) (vs : List X) → vs ≡ take i row → (v u : X) → slice_get row i ≡ Some u → v ≡ u → vs ++ v ∷ [] ≡ take (i + 1) row
one_more_taken row i vs so_far v u at same =
    ap (λ us. us ++ v ∷ []) so_far ∙ ap (λ w. take i row ++ w ∷ []) (same ∙ sym (get_or_from_slice_get row i u u at)) ∙ sym (take_more row i u (slice_get_within row i u at))

one_of : {X Y : Type 0} (f : X → Option Y) (x : X) (o : Option Y) → f x ≡ o → filter_map f (x ∷ []) ≡ option_to_list o
one_of f x None e = rw e refl
one_of f x (Some y) e = rw e refl

-- one more of what a function gives, if it gives something
pub filter_push : {X Y : Type 0} (f : X → Option Y) (xs : List X) (i : ℕ) (d x : X) (old new : List Y) (o : Option Y) → x ≡ get_or xs i d → i < length xs → old ≡ filter_map f (take i xs) → o ≡ f x
    → new ≡ old ++ option_to_list o → new ≡ filter_map f (take (i + 1) xs)
filter_push f xs i d x old new o at l h same e =
    e ∙ ap (λ zs. zs ++ option_to_list o) h ∙ ap (λ p. filter_map f (take i xs) ++ p) (sym (one_of f (get_or xs i d) o (ap f (sym at) ∙ sym same)))
    ∙ sym (filter_map-append f (take i xs) (get_or xs i d ∷ [])) ∙ ap (filter_map f) (sym (take_more xs i d l))

-- nothing stands past the end, however it is seen
pub past_mapped : {X Y : Type 0} (f : X → Y) (xs : List X) (i : ℕ) → length xs ≤ i → slice_get (map f xs) i ≡ None
past_mapped f [] i l = refl
past_mapped f (x ∷ xs) zero l = absurd (omega (arith, l))
past_mapped f (x ∷ xs) (suc i) l = past_mapped f xs i (omega (arith, l))

-- what stands at a place, however it is seen
pub mapped_at : {X Y : Type 0} (f : X → Y) (xs : List X) (i : ℕ) (x : X) → x ≡ get_or xs i x → i < length xs → slice_get (map f xs) i ≡ Some (f x)
mapped_at f [] i x at l = absurd (omega (arith, l))
mapped_at f (y ∷ ys) zero x at l = ap (λ z. Some (f z)) (sym at)
mapped_at f (y ∷ ys) (suc i) x at l = mapped_at f ys i x at (omega (arith, l))
