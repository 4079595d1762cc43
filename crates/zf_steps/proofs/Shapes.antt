-- The schemas of a machine, component by component.
use Rattle.std.proofs.Common.{◌++◌, ◌+◌, ◌<◌, ◌∙◌, ◌∷◌, ◌≡◌, ◌≤◌, ◌⊎◌, ◌↔◌, [], add-one, ap, append_assoc, arith, Bool, drop, Err, get_or, IfOk, inl, inr, IsTrue, length, List, map, MatchOption, None, Ok, Option, refl, Result, Some, subst, suc, sym, take, zero, ℕ}
use Rattle.std.proofs.lemmas.List.{append-nil, map-append, map_more}
use Rattle.zf_steps.proofs.Prelude.{slice_get-get_or, cond, slice_get, none_some, one_some, Comp, comp_of, first_named, Schema, Component, are_after, Has, HasAll, if◌then◌else◌, init_in, is_other, IsInit, Lacks, LacksInit, Operation, others_from, with_strokes}
use Rattle.std.specs.List.{filter_map}
use Rattle.zf_steps.proofs.Fitting.{map_map}

-- ---- lists, item by item

-- what is ahead of a place, and at it
ahead : {X : Type 0} (xs : List X) (i : ℕ) (x : X) → slice_get xs i ≡ Some x → drop i xs ≡ x ∷ drop (suc i) xs
ahead [] i x e = absurd (none_some x e)
ahead (y ∷ xs) zero x e = ap (λ z. z ∷ xs) (one_some y x e)
ahead (y ∷ xs) (suc i) x e = ahead xs i x e

pub ahead_got : {X : Type 0} (xs : List X) (i : ℕ) (x : X) → x ≡ get_or xs i x → i < length xs → drop i xs ≡ x ∷ drop (i + 1) xs
ahead_got xs i x at l = ahead xs i x (slice_get-get_or xs i x l ∙ ap Some (sym at)) ∙ ap (λ k. x ∷ drop k xs) (sym (add-one i))

pub nothing_ahead : {X : Type 0} (xs : List X) (n : ℕ) → length xs ≤ n → drop n xs ≡ []
nothing_ahead [] zero l = refl
nothing_ahead [] (suc n) l = refl
nothing_ahead (x ∷ xs) zero l = absurd (omega (arith, l))
nothing_ahead (x ∷ xs) (suc n) l = nothing_ahead xs n (omega (arith, l))

-- one more of what two functions give alike
pub mapped_push : {X Y Z : Type 0} (g : Y → Z) (f : X → Z) (xs : List X) (i : ℕ) (x : X) (ys : List Y) (y : Y) → x ≡ get_or xs i x → i < length xs → map g ys ≡ map f (take i xs) → g y ≡ f x
    → map g (ys ++ y ∷ []) ≡ map f (take (i + 1) xs)
mapped_push g f xs i x ys y at l h same =
    map-append g ys (y ∷ []) ∙ ap (λ zs. zs ++ g y ∷ []) h ∙ ap (λ z. map f (take i xs) ++ z ∷ []) (same ∙ ap f at) ∙ sym (map_more f xs i x l)

-- all of it
past_all : {X : Type 0} (xs : List X) (n : ℕ) → length xs ≤ n → take n xs ≡ xs
past_all [] zero l = refl
past_all [] (suc n) l = refl
past_all (x ∷ xs) zero l = absurd (omega (arith, l))
past_all (x ∷ xs) (suc n) l = ap (λ ys. x ∷ ys) (past_all xs n (omega (arith, l)))

pub mapped_whole : {W X Y Z : Type 0} (g : Y → W) (h : Z → W) (f : X → Z) (xs : List X) (n : ℕ) (ys : List Y) → length xs ≤ n → map g ys ≡ map (λ x. h (f x)) (take n xs) → map g ys ≡ map h (map f xs)
mapped_whole g h f xs n ys l e = e ∙ ap (map (λ x. h (f x))) (past_all xs n l) ∙ map_map h f xs

-- ---- the places of other components

pub others_push : (state comps : List Comp) (i : ℕ) (c : Comp) (old new whole : List ℕ) (b : Bool) → slice_get comps i ≡ Some c
    → old ++ others_from state i (drop i comps) ≡ whole → b ≡ is_other state c.name
    → new ≡ old ++ cond b (i ∷ []) [] → new ++ others_from state (i + 1) (drop (i + 1) comps) ≡ whole
others_push state comps i c old new whole b at h same e =
    let rest = others_from state (i + 1) (drop (i + 1) comps) in
    let here : List ℕ = cond b (i ∷ []) [] in
    let step : here ++ rest ≡ others_from state i (drop i comps) =
    ap (λ k. here ++ others_from state (i + 1) (drop k comps)) (add-one i)
    ∙ ap (λ t. cond t (i ∷ []) [] ++ others_from state (i + 1) (drop (suc i) comps)) same
    ∙ ap (others_from state i) (sym (ahead comps i c at)) in
    ap (λ xs. xs ++ rest) e ∙ append_assoc old here rest ∙ ap (λ xs. old ++ xs) step ∙ h

pub others_whole : (state comps : List Comp) (n : ℕ) (found whole : List ℕ) → length comps ≤ n → found ++ others_from state n (drop n comps) ≡ whole → found ≡ whole
others_whole state comps n found whole l h = sym (ap (λ cs. found ++ others_from state n cs) (nothing_ahead comps n l) ∙ append-nil found) ∙ h

-- ---- which components there are

pub found_has : (comps : List Comp) (c d : Comp) (place : ℕ) (b : Bool) → Some (place, d) ≡ first_named (λ e. e.name) c.name comps → IsTrue b ↔ (d.type ≡ c.type) → IsTrue b ↔ Has comps c
found_has comps c d place b at same = (
  λ t. record { place = place; component = d; named = sym at; typed = same.0 t },
  λ h. same.1 (let one : (place, d) ≡ (h.place, h.component) = one_some (place, d) (h.place, h.component) (at ∙ h.named) in ap (λ (p : ℕ × Comp). p.1.type) one ∙ h.typed),
)

-- what is still ahead decides
pub record IsAhead (comps all rest : List Comp) : Type 0 where
  pub has : HasAll comps rest → HasAll comps all
  pub lacks : (name : List ℕ) → Lacks comps rest name → Lacks comps all name

module _ (comps all : List Comp) (xs : List Component) (i : ℕ) (x : Component) (at : x ≡ get_or xs i x) (l : i < length xs) (h : IsAhead comps all (map comp_of (drop i xs))) where
  here : map comp_of (drop i xs) ≡ comp_of x ∷ map comp_of (drop (i + 1) xs)
  here = ap (map comp_of) (ahead_got xs i x at l)

  pub passed : Has comps (comp_of x) → IsAhead comps all (map comp_of (drop (i + 1) xs))
  passed has = record {
    has = λ rest. h.has (subst (HasAll comps) (sym here) (has, rest));
    lacks = λ name rest. h.lacks name (subst (λ cs. Lacks comps cs name) (sym here) (inr (has, rest)));
  }

pub all_passed : (comps all : List Comp) (xs : List Component) (n : ℕ) → length xs ≤ n → IsAhead comps all (map comp_of (drop n xs)) → HasAll comps all
all_passed comps all xs n l h = h.has (subst (HasAll comps) (sym (ap (map comp_of) (nothing_ahead xs n l))) tt)

pub not_all : (comps wanted : List Comp) (name : List ℕ) → Lacks comps wanted name → HasAll comps wanted → ⊥
not_all comps [] name h k = h
not_all comps (c ∷ cs) name (inl (none, is)) k = none k.0
not_all comps (c ∷ cs) name (inr (has, h)) k = not_all comps cs name h k.1

pub has_both : (comps xs ys : List Comp) → HasAll comps xs → HasAll comps ys → HasAll comps (xs ++ ys)
has_both comps [] ys h k = k
has_both comps (x ∷ xs) ys h k = (h.0, has_both comps xs ys h.1 k)

pub lacks_front : (comps xs ys : List Comp) (name : List ℕ) → Lacks comps xs name → Lacks comps (xs ++ ys) name
lacks_front comps [] ys name h = absurd h
lacks_front comps (x ∷ xs) ys name (inl h) = inl h
lacks_front comps (x ∷ xs) ys name (inr h) = inr (h.0, lacks_front comps xs ys name h.1)

pub lacks_behind : (comps xs ys : List Comp) (name : List ℕ) → HasAll comps xs → Lacks comps ys name → Lacks comps (xs ++ ys) name
lacks_behind comps [] ys name h k = k
lacks_behind comps (x ∷ xs) ys name h k = inr (h.0, lacks_behind comps xs ys name h.1 k)

-- which of the two is meant is known, and what lacks is a component of that
pub lacks_meant : (state : List Comp) (name component : List ℕ) (a : Schema) (b : Bool) → b ≡ are_after state a.comps → Lacks a.comps (with_strokes state) name
    → Lacks a.comps (if b then with_strokes state else state) component → LacksInit state a component
lacks_meant state name component a b is stroked lacks =
    (not_all a.comps (with_strokes state) name stroked, subst (λ c. Lacks a.comps (if c then with_strokes state else state) component) is lacks)

-- ---- the schemas

pub if_ok : {A E : Type 0} (r : Result A E) (P Q : A → Type 0) → ((x : A) → P x → Q x) → IfOk r P → IfOk r Q
if_ok (Ok x) P Q f h = f x h
if_ok (Err e) P Q f h = tt

pub match_option : {A : Type 0} (o : Option A) (P R : Type 0) (Q S : A → Type 0) → (P → R) → ((x : A) → Q x → S x) → MatchOption o P Q → MatchOption o R S
match_option None P R Q S f g h = f h
match_option (Some x) P R Q S f g h = g x h

pub same_operation : (o p : Operation) → o.name ≡ p.name → o.schema ≡ p.schema → o.sources ≡ p.sources → o.after ≡ p.after → o.others ≡ p.others → o.label ≡ p.label → o ≡ p
same_operation o p a b c d e f =
    ap (λ (x : List ℕ). record { name = x; schema = o.schema; sources = o.sources; after = o.after; others = o.others; label = o.label }) a
    ∙ ap (λ (x : Schema). record { name = p.name; schema = x; sources = o.sources; after = o.after; others = o.others; label = o.label }) b
    ∙ ap (λ (x : List (Option ℕ)). record { name = p.name; schema = p.schema; sources = x; after = o.after; others = o.others; label = o.label }) c
    ∙ ap (λ (x : List ℕ). record { name = p.name; schema = p.schema; sources = p.sources; after = x; others = o.others; label = o.label }) d
    ∙ ap (λ (x : List ℕ). record { name = p.name; schema = p.schema; sources = p.sources; after = p.after; others = x; label = o.label }) e
    ∙ ap (λ (x : List Comp). record { name = p.name; schema = p.schema; sources = p.sources; after = p.after; others = p.others; label = x }) f

-- what is gathered of components is gathered of them as contracts see them
pub filter_mapped : {X Y Z : Type 0} (f : Y → Option Z) (g : X → Y) (xs : List X) → filter_map (λ x. f (g x)) xs ≡ filter_map f (map g xs)
filter_mapped f g [] = refl
filter_mapped {X} {Y} {Z} f g (x ∷ xs) = by (f (g x)) refl (filter_mapped f g xs) where
  by : (o : Option Z) → f (g x) ≡ o → filter_map (λ x. f (g x)) xs ≡ filter_map f (map g xs) → filter_map (λ x. f (g x)) (x ∷ xs) ≡ filter_map f (map g (x ∷ xs))
  by None e h = rw e h
  by (Some z) e h = rw e (ap (λ zs. z ∷ zs) h)

pub init_plain : (state : List Comp) (name component : List ℕ) (a : Schema) (o : Operation) → Lacks a.comps (with_strokes state) component → HasAll a.comps (with_strokes state) ⊎ HasAll a.comps state
    → o ≡ init_in state name a → IsInit state name a o
init_plain state name component a o lacks (inl has) is = absurd (not_all a.comps (with_strokes state) component lacks has)
init_plain state name component a o lacks (inr has) is = inr (not_all a.comps (with_strokes state) component lacks, has, is)
