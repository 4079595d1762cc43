-- The names of components in a text, read one after another.
use Rattle.zf_answers.proofs.Prelude.{◌++◌, ◌+◌, ◌<◌, ◌==◌, ◌∙◌, ◌∷◌, ◌≡◌, ◌≢◌, [], ap, arith, eqb-true, false, get_or, inl, inr, length, length-append, List, map, None, Option, refl, Some, subst, sym, take, true, ℕ, Comp, eq-eqb, list_any_at, get_or_append_left, get_or_default, map-append, take_all, take_more, drop, option_map, AllPairs, Contains, list_any, slice_split, first_named, component_place, HasNoPlace, is_comma, IsAdded, NamesParts, trimmed}
use Rattle.std.proofs.lemmas.Map.Views.{Contains-from_any}
use Rattle.std.proofs.Math.Seq.{get_or-append_seam}
use Rattle.std.proofs.lemmas.List.Quantifiers.{all_pairs_push}
use Rattle.std.proofs.lemmas.List.{drop_more, take-append-drop}

-- what is ahead of a place, as it is seen
ahead_at : {X : Type 0} (xs : List X) (i : ℕ) (x : X) → x ≡ get_or xs i x → i < length xs → drop i xs ≡ x ∷ drop (i + 1) xs
ahead_at xs i x at l = drop_more xs i x l ∙ ap (λ y. y ∷ drop (i + 1) xs) (sym at)

-- ---- lists of places

-- a list of places that begins so has these first
split_front : (places all : List ℕ) (rest : List (Option ℕ)) → map Some places ++ rest ≡ map Some all → (more : List ℕ) × (all ≡ places ++ more) × (rest ≡ map Some more)
split_front [] all rest is = (all, refl, is)
split_front (p ∷ places) [] rest is = cc
split_front (p ∷ places) (q ∷ all) rest is =
    let same : p ≡ q = cc in
    let later : map Some places ++ rest ≡ map Some all = cc in
    let ih = split_front places all rest later in
    (ih.0, ap (λ qs. q ∷ qs) ih.1 ∙ ap (λ r. r ∷ (places ++ ih.0)) (sym same), ih.2)

no_none : (more : List ℕ) (rest : List (Option ℕ)) → None ∷ rest ≡ map Some more → ⊥
no_none [] rest is = cc
no_none (m ∷ more) rest is = cc

first_place : (more : List ℕ) (place : ℕ) (rest : List (Option ℕ)) → Some place ∷ rest ≡ map Some more → (others : List ℕ) × (more ≡ place ∷ others)
first_place [] place rest is = cc
first_place (m ∷ more) place rest is = let same : place ≡ m = cc in (more, ap (λ n. n ∷ more) (sym same))

-- none stands there twice
not_twice : (places others : List ℕ) (place : ℕ) → AllPairs (λ i j. i ≢ j) (places ++ place ∷ others) → Contains places place → ⊥
not_twice places others place once (k, below, is) =
    let within : length places < length (places ++ place ∷ others) = (let l = length-append places (place ∷ others) in omega (arith, l)) in
    once k (length places) place below within
    (get_or_append_left places (place ∷ others) place k below ∙ is ∙ sym (get_or-append_seam places place others place))

module _ (comps : List Comp) (text : List ℕ) where
  abbrev names : List (List ℕ)
  names = slice_split is_comma text

  abbrev found : List (List ℕ) → List (Option ℕ)
  found some = map (component_place comps) (map trimmed some)

  found-append : (some others : List (List ℕ)) → found (some ++ others) ≡ found some ++ found others
  found-append some others = ap (map (component_place comps)) (map-append trimmed some others) ∙ map-append (component_place comps) (map trimmed some) (map trimmed others)

  -- these are the places of so many names
  pub record SoFar (n : ℕ) (places : List ℕ) : Type 0 where
    pub named : found (take n names) ≡ map Some places
    pub once : AllPairs (λ i j. i ≢ j) places

  pub none_yet : SoFar 0 []
  none_yet = record { named = refl; once = λ i j d l m. absurd (omega (arith, m)) }

  pub all_read : (n : ℕ) (places : List ℕ) → n ≡ length names → SoFar n places → NamesParts comps text places
  all_read n places all so_far = record { named = ap found (sym (take_all n names (omega (arith, all)))) ∙ so_far.named; once = so_far.once }

  module _ (n : ℕ) (name places : List ℕ) (so_far : SoFar n places) (l : n < length names) (is : name ≡ get_or names n name) where
    pub one_more : (new : List ℕ) → IsAdded comps name places new → SoFar (n + 1) new
    one_more new added = record {
      named = ap found (take_more names n name l ∙ ap (λ x. take n names ++ x ∷ []) (sym is)) ∙ found-append (take n names) (name ∷ [])
          ∙ ap (λ ps. ps ++ component_place comps (trimmed name) ∷ []) so_far.named ∙ ap (λ p. map Some places ++ p ∷ []) added.named
          ∙ sym (ap (map Some) added.added ∙ map-append Some places (added.place ∷ []));
      once = subst (AllPairs (λ i j. i ≢ j)) (sym added.added)
          (all_pairs_push (λ i j. i ≢ j) places added.place so_far.once (λ k d m e. added.other (k, m, get_or_default places k added.place d m ∙ e)));
    }

    -- what doesn't fit there fits nowhere
    pub none_named : HasNoPlace comps name places → (all : List ℕ) → NamesParts comps text all → ⊥
    none_named none all named =
        let rest = found (drop (n + 1) names) in
        let whole : names ≡ take n names ++ name ∷ drop (n + 1) names = sym (take-append-drop n names) ∙ ap (λ ls. take n names ++ ls) (ahead_at names n name is l) in
        let front = split_front places all (component_place comps (trimmed name) ∷ rest)
        (ap (λ ps. ps ++ component_place comps (trimmed name) ∷ rest) (sym so_far.named) ∙ sym (ap found whole ∙ found-append (take n names) (name ∷ drop (n + 1) names)) ∙ named.named) in
        elim none [
          | inl absent ↦ no_none front.0 rest (ap (λ p. p ∷ rest) (sym absent) ∙ front.2)
          | inr (place, there, among) ↦
              let behind = first_place front.0 place rest (ap (λ p. p ∷ rest) (sym there) ∙ front.2) in
              not_twice places behind.0 place (subst (AllPairs (λ i j. i ≢ j)) (front.1 ∙ ap (λ m. places ++ m) behind.1) named.once) among
        ]

-- ---- one name

module _ (comps : List Comp) (name other : List ℕ) (same : other ≡ trimmed name) where
  pub component_at : (place : ℕ) (x : Comp) → Some (place, x) ≡ first_named (λ c. c.name) other comps → component_place comps (trimmed name) ≡ Some place
  component_at place x found = subst (λ n. component_place comps n ≡ Some place) same (ap (option_map (λ p. p.0)) (sym found))

  pub no_component : None ≡ first_named (λ c. c.name) other comps → component_place comps (trimmed name) ≡ None
  no_component none = subst (λ n. component_place comps n ≡ None) same (ap (option_map (λ p. p.0)) (sym none))

-- whether a place is one of these
pub is_among : (places : List ℕ) (place : ℕ) → list_any (λ n. n == place) places ≡ true → Contains places place
is_among places place h = Contains-from_any {eq = λ q n. n == q} (λ m n e. sym (eqb-true n m e)) place places h

pub is_not_among : (places : List ℕ) (place : ℕ) → list_any (λ n. n == place) places ≡ false → Contains places place → ⊥
is_not_among places place h (k, l, e) =
    let both : true ≡ false = sym (list_any_at (λ n. n == place) places k place l (eq-eqb (get_or places k place) place e)) ∙ h in cc
