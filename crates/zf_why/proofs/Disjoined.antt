-- A disjunction of schemas and its two sides: what holds of its sides holds of it, and a search over them can begin.
use Rattle.zf_why.proofs.Prelude.{◌++◌, ◌≡◌, ◌∙◌, ◌∷◌, [], ap, arith, inl, inr, length, List, map, None, Option, refl, Some, sym, ℕ, AllByRecursion, Comp, ResolvedTree, Value, Environment, CanAsk, CanBegin, IsAllowed, RuleOut, all_joined, binary, both_hold, joined, moved, one_holds, term_span, offending, unless, in_row, IsTruth, due, beside}
use Rattle.zf_tree.specs.declared.span.Span.{Span}
use Rattle.zf_tree.specs.declared.operator.Operator.{Operator}
use Rattle.zf_tree.specs.declared.operator.Operator.TheVariants.{Connective}
use Rattle.zf_tree.specs.declared.symbol.Connective.TheVariants.{And, Or}
use Rattle.zf_term.proofs.Renumbered.{same_span}
use Rattle.zf_extent.specs.declared.offender.Offender.{Offender}
use Rattle.zf_value.specs.declared.value.Truth.{Truth}
use Rattle.zf_value.specs.declared.value.Truth.TheVariants as truth
use Rattle.law_total.proofs.Terms.{some_truth}
use Rattle.zf_instances.proofs.Planted.{due_binary}

-- ---- numbered anew

moved_behind : (f : ℕ → ℕ) (t : ResolvedTree) (ts : List ResolvedTree) → moved f (all_joined t ts) ≡ all_joined (moved f t) (map (moved f) ts)
moved_behind f t [] = refl
moved_behind f t (u ∷ us) = moved_behind f (both_hold t u) us ∙ ap (λ (s : Span). all_joined (binary s (Connective And) (moved f t) (moved f u)) (map (moved f) us)) (sym (same_span f t))

moved_joined : (f : ℕ → ℕ) (l : Span) (ts : List ResolvedTree) → moved f (joined l ts) ≡ joined l (map (moved f) ts)
moved_joined f l [] = refl
moved_joined f l (t ∷ ts) = moved_behind f t ts

pub moved_sides : (f : ℕ → ℕ) (l : Span) (ts us : List ResolvedTree) → moved f (one_holds l ts us) ≡ one_holds l (map (moved f) ts) (map (moved f) us)
moved_sides f l ts us =
    ap (λ (t : ResolvedTree). binary l (Connective Or) t (moved f (joined l us))) (moved_joined f l ts)
    ∙ ap (λ (u : ResolvedTree). binary l (Connective Or) (joined l (map (moved f) ts)) u) (moved_joined f l us)

-- ---- what is not False

module _ (e : Environment) (row : List Value) where
  both_allowed : (l : Span) (t u : ResolvedTree) → IsAllowed e row t → IsAllowed e row u → IsAllowed e row (binary l (Connective And) t u)
  both_allowed l t u (inl h) (inl k) = inl (h, k)
  both_allowed l t u (inl h) (inr k) = inr (inr (h, k))
  both_allowed l t u (inr h) (inl k) = inr (inl (h, inl k))
  both_allowed l t u (inr h) (inr k) = inr (inl (h, inr k))

  all_allowed : (t : ResolvedTree) (ts : List ResolvedTree) → IsAllowed e row t → AllByRecursion (IsAllowed e row) ts → IsAllowed e row (all_joined t ts)
  all_allowed t [] h hs = h
  all_allowed t (u ∷ us) h hs = all_allowed (both_hold t u) us (both_allowed (term_span t) t u h hs.0) hs.1

  joined_allowed : (l : Span) (ts : List ResolvedTree) → AllByRecursion (IsAllowed e row) ts → IsAllowed e row (joined l ts)
  joined_allowed l [] hs = inl refl
  joined_allowed l (t ∷ ts) hs = all_allowed t ts hs.0 hs.1

  left_allowed : (l : Span) (t u : ResolvedTree) → IsAllowed e row t → IsAllowed e row (binary l (Connective Or) t u)
  left_allowed l t u (inl h) = inl (inl h)
  left_allowed l t u (inr h) = by (some_truth (in_row e row) u) where
    by : ((w : Truth) × IsTruth (in_row e row) u w) → IsAllowed e row (binary l (Connective Or) t u)
    by (truth.True, k) = inl (inr k)
    by (truth.False, k) = inr (inl (h, inl k))
    by (truth.Out, k) = inr (inl (h, inr k))

  right_allowed : (l : Span) (t u : ResolvedTree) → IsAllowed e row u → IsAllowed e row (binary l (Connective Or) t u)
  right_allowed l t u (inl h) = inl (inr h)
  right_allowed l t u (inr h) = by (some_truth (in_row e row) t) where
    by : ((w : Truth) × IsTruth (in_row e row) t w) → IsAllowed e row (binary l (Connective Or) t u)
    by (truth.True, k) = inl (inl k)
    by (truth.False, k) = inr (inr (k, h))
    by (truth.Out, k) = inr (inl (k, inr h))

-- what rules out everything with a disjunction does so with each side
module _ (e : Environment) (cs : List Comp) (held : List (Option Value)) (given : List ResolvedTree) (l : Span) (ts us : List ResolvedTree) where
  pub left_ruled_out : RuleOut e cs held (given ++ one_holds l ts us ∷ []) → RuleOut e cs held (given ++ ts)
  left_ruled_out none h =
      none (record {
        row = h.row;
        within = h.within;
        allowed = beside (IsAllowed e h.row) given ts (one_holds l ts us ∷ []) (λ hs. (left_allowed e h.row l (joined l ts) (joined l us) (joined_allowed e h.row l ts hs), tt)) h.allowed;
      })

  pub right_ruled_out : RuleOut e cs held (given ++ one_holds l ts us ∷ []) → RuleOut e cs held (given ++ us)
  right_ruled_out none h =
      none (record {
        row = h.row;
        within = h.within;
        allowed = beside (IsAllowed e h.row) given us (one_holds l ts us ∷ []) (λ hs. (right_allowed e h.row l (joined l ts) (joined l us) (joined_allowed e h.row l us hs), tt)) h.allowed;
      })

-- ---- what can be asked

empty_front : (xs ys : List Offender) → xs ++ ys ≡ [] → xs ≡ []
empty_front [] ys h = refl
empty_front (x ∷ xs) ys h = absurd (cc)

empty_behind : (xs ys : List Offender) → xs ++ ys ≡ [] → ys ≡ []
empty_behind [] ys h = h
empty_behind (x ∷ xs) ys h = absurd (cc)

front_ended : (n : Option ℕ) (xs ys : List Offender) → unless n (xs ++ ys) ≡ [] → unless n xs ≡ []
front_ended None xs ys h = empty_front xs ys h
front_ended (Some n) xs ys h = refl

behind_ended : (n : Option ℕ) (xs ys : List Offender) → unless n (xs ++ ys) ≡ [] → unless n ys ≡ []
behind_ended None xs ys h = empty_behind xs ys h
behind_ended (Some n) xs ys h = refl

module _ (e : Environment) (n : ℕ) where
  left_asked : (l : Span) (op : Operator) (t u : ResolvedTree) → CanAsk e n (binary l op t u) → CanAsk e n t
  left_asked l op t u h = record {
    finite = front_ended e.numbers (offending e.globals t) (offending e.globals u) h.finite;
    due = omega (arith, h.due, due_binary l op t u);
  }

  right_asked : (l : Span) (op : Operator) (t u : ResolvedTree) → CanAsk e n (binary l op t u) → CanAsk e n u
  right_asked l op t u h = record {
    finite = behind_ended e.numbers (offending e.globals t) (offending e.globals u) h.finite;
    due = omega (arith, h.due, due_binary l op t u);
  }

  each_behind : (t : ResolvedTree) (ts : List ResolvedTree) → CanAsk e n (all_joined t ts) → CanAsk e n t × AllByRecursion (CanAsk e n) ts
  each_behind t [] h = (h, tt)
  each_behind t (u ∷ us) h =
      let rest = each_behind (both_hold t u) us h in
      (left_asked (term_span t) (Connective And) t u rest.0, (right_asked (term_span t) (Connective And) t u rest.0, rest.1))

  each_joined : (l : Span) (ts : List ResolvedTree) → CanAsk e n (joined l ts) → AllByRecursion (CanAsk e n) ts
  each_joined l [] h = tt
  each_joined l (t ∷ ts) h = each_behind t ts h

module _ (e : Environment) (cs : List Comp) (given : List ResolvedTree) (l : Span) (ts us : List ResolvedTree) where
  pub left_begins : CanBegin e cs (given ++ one_holds l ts us ∷ []) → CanBegin e cs (given ++ ts)
  left_begins h = record {
    ranges = h.ranges;
    predicates = beside (CanAsk e (length cs)) given (one_holds l ts us ∷ []) ts
        (λ k. each_joined e (length cs) l ts (left_asked e (length cs) l (Connective Or) (joined l ts) (joined l us) k.0)) h.predicates;
  }

  pub right_begins : CanBegin e cs (given ++ one_holds l ts us ∷ []) → CanBegin e cs (given ++ us)
  right_begins h = record {
    ranges = h.ranges;
    predicates = beside (CanAsk e (length cs)) given (one_holds l ts us ∷ []) us
        (λ k. each_joined e (length cs) l us (right_asked e (length cs) l (Connective Or) (joined l ts) (joined l us) k.0)) h.predicates;
  }
