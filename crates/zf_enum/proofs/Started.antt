-- What a walk asks of ranges and conjuncts, of those of a schema.
use Rattle.zf_enum.proofs.Prelude.{◌∷◌, ◌≡◌, [], ap, arith, length, List, Option, refl, subst, suc, sym, zero, ⊎_elim, AllPairs, Contains, Less, Ahead, AreAllAhead, AreDueWithin, AreAscending, HasLength, itself, SayTheSame, IsAscending, value_order, Value, Comp, ResolvedTree, Environment, property, AreRanges, later_held, AllByRecursion}
use Rattle.zf_walk.proofs.Lists.{AllPairs-nil, AllPairs-cons, Contains-cases, Contains-nil}

abbrev Below : Value → Value → Type 0
Below v w = value_order v w ≡ Less

every_contained : (P : Value → Type 0) (xs : List Value) (y : Value) → AllByRecursion P xs → Contains xs y → P y
every_contained P [] y h m = absurd (Contains-nil y m)
every_contained P (x ∷ xs) y h m = ⊎_elim (λ s. subst P s h.0) (λ n. every_contained P xs y h.1 n) (Contains-cases x xs y m)

ascending_pairs : (xs : List Value) → IsAscending xs → AllPairs Below xs
ascending_pairs [] h = AllPairs-nil Below
ascending_pairs (x ∷ xs) h = AllPairs-cons Below x xs (λ y m. every_contained (Below x) xs y h.0 m) (ascending_pairs xs h.1)

-- the same predicates in the same environment
pub say_alike : (d e : Environment) (ts ps : List ResolvedTree) → d ≡ e → ts ≡ ps → SayTheSame (property d ts) (property e ps)
say_alike d e ts ps here same =
    subst (λ (f : Environment). SayTheSame (property d ts) (property f ps)) here (subst (λ (us : List ResolvedTree). SayTheSame (property d ts) (property d us)) same (itself (property d ts)))

module _ (e : Environment) where
  pub as_many : (cs : List Comp) (held : List (Option Value)) (rs : List (List Value)) → AreRanges e cs held rs → length cs ≡ length rs
  as_many [] held [] h = refl
  as_many [] held (xs ∷ rs) h = absurd h
  as_many (c ∷ cs) held [] h = absurd h
  as_many (c ∷ cs) held (xs ∷ rs) h = ap suc (as_many cs (later_held held) rs h.1)

  pub ranges_ascend : (cs : List Comp) (held : List (Option Value)) (rs : List (List Value)) → AreRanges e cs held rs → AreAscending value_order rs
  ranges_ascend [] held [] h k d l = absurd (omega arith)
  ranges_ascend [] held (xs ∷ rs) h k d l = absurd h
  ranges_ascend (c ∷ cs) held [] h k d l = absurd h
  ranges_ascend (c ∷ cs) held (xs ∷ rs) h zero d l = ascending_pairs xs h.0.ascending
  ranges_ascend (c ∷ cs) held (xs ∷ rs) h (suc k) d l = ranges_ascend cs (later_held held) rs h.1 k d (omega arith)

  pub named_within : (cs : List Comp) (held : List (Option Value)) (rs : List (List Value)) (after : Option (List Value)) → AreRanges e cs held rs
      → HasLength after (length cs) → HasLength after (length rs)
  named_within cs held rs after h n = subst (HasLength after) (as_many cs held rs h) n

  pub due_within : (cs : List Comp) (held : List (Option Value)) (rs : List (List Value)) (ps ts : List ResolvedTree) → AreRanges e cs held rs → ts ≡ ps
      → AreDueWithin (property e ps) (length cs) → AreDueWithin (property e ts) (length rs)
  due_within cs held rs ps ts h same d = subst (AreDueWithin (property e ts)) (as_many cs held rs h) (subst (λ (us : List ResolvedTree). AreDueWithin (property e us) (length cs)) (sym same) d)

  pub ahead_of : (ps ts : List ResolvedTree) (rs ws : List (List Value)) (after : Option (List Value)) (a : Ahead Value) → ts ≡ ps → ws ≡ rs
      → AreAllAhead value_order (property e ts) rs after a → AreAllAhead value_order (property e ps) ws after a
  ahead_of ps ts rs ws after a same there h =
      subst (λ (us : List ResolvedTree). AreAllAhead value_order (property e us) ws after a) same (subst (λ (vs : List (List Value)). AreAllAhead value_order (property e ts) vs after a) (sym there) h)
