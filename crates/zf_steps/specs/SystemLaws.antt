-- What is searched of a specification is in order. No public clause rests on the proofs here, but those of the machine's laws.
use Rattle.std.specs.Prelude.{◌≡◌, ◌⊎◌, Bool, length, List, Option, true, ℕ, slice_get}
use Rattle.std.proofs.Common.{◌∙◌}
use Rattle.zf_steps.specs.Prelude.{ap, ap₂, false, inl, inr, refl, subst, sym, HasParts, HasTurn, IsDecisive, IsOrderly, Turn, ResolvedTree, Schema, Value, value_order, Truth, True, False, Out, ComesAfter, Event, IsTruthOf, Environment, one_truth_in, property}
use Rattle.std.proofs.Math.Seq.{take-length}
use Rattle.std.proofs.lemmas.Bool.{false≢true}
use Rattle.std.proofs.lemmas.Cmp.{tied_itself}
use Rattle.std.specs.Cmp.Lexicographic.{lists_ties, lists_total, pointwise, slice_cmp}
use Rattle.std.specs.declared.cmp.Ordering.{Ordering}
use Rattle.std.specs.declared.cmp.Ordering.TheVariants.{Equal, Greater, Less}
use Rattle.std.specs.Ordering.{is_eq, ordering_reverse}
use Rattle.zf_value.specs.contracts.plain.ValueOrd.TheImpl.Laws as order_laws
use Rattle.zf_value.specs.contracts.plain.ValuePartialEq.TheImpl as equality
use Rattle.zf_value.proofs.Exact.{exact, is_eq_true}
use Rattle.zf_walk.proofs.Order.{slice-ties}
use Rattle.zf_steps.specs.contracts.node.NodePartialEq.TheImpl as nodes
use Rattle.zf_steps.specs.declared.node.Label.{Label}
use Rattle.zf_steps.specs.declared.node.Node.{Node}
use Rattle.zf_steps.specs.declared.node.Node.TheVariants.{Root, State}
use Rattle.zf_steps.specs.Explored.{IsOther, IsSought, sought_in}
use Rattle.zf_steps.specs.Searching.{HasPassed}
use Rattle.zf_steps.specs.Steps.{exploration, IsDoubtful, IsEventOf, IsFirstOf, IsStray, parts_of, searched, stop}
use Rattle.zf_steps.specs.Systems.{System}

-- no row comes after one that comes after it
pub never_both : (a b : List Value) → ComesAfter value_order a b → ComesAfter value_order b a → ⊥
never_both a b h k = let e : slice_cmp value_order a b ≡ Greater = (lists_total order_laws.total-law).antisymm a b ∙ ap ordering_reverse k in let f : Less ≡ Greater = sym h ∙ e in cc

-- two rows are one, or one comes after the other
pub comparable : (a b : List Value) → (a ≡ b) ⊎ ComesAfter value_order a b ⊎ ComesAfter value_order b a
comparable a b = by (slice_cmp value_order a b) refl where
  by : (o : Ordering) → slice_cmp value_order a b ≡ o → (a ≡ b) ⊎ ComesAfter value_order a b ⊎ ComesAfter value_order b a
  by Less h = inr (inl h)
  by Equal h = inl (slice-ties value_order order_laws.total-law exact a b h)
  by Greater h = inr (inr ((lists_total order_laws.total-law).antisymm b a ∙ ap ordering_reverse h))

-- a row has one truth, where it is not False
module _ (e : Environment) (ts : List ResolvedTree) (row : List Value) where
  one_at : (c : ℕ) (t u : Truth) → (property e ts).says c row t → (property e ts).says c row u → t ≡ u
  one_at c t u h k = one_truth_in e row (slice_get ts c) t u h k

  not_out : IsTruthOf (property e ts) row True → IsTruthOf (property e ts) row Out → ⊥
  not_out h k = let same : True ≡ Out = one_at k.1.0 True Out (h k.1.0 k.1.1) k.1.2 in cc

  one_truth : (t u : Truth) → (t ≡ False → ⊥) → (u ≡ False → ⊥) → IsTruthOf (property e ts) row t → IsTruthOf (property e ts) row u → t ≡ u
  one_truth True True a b h k = refl
  one_truth True Out a b h k = absurd (not_out h k)
  one_truth Out True a b h k = absurd (not_out k h)
  one_truth Out Out a b h k = refl
  one_truth False u a b h k = absurd (a refl)
  one_truth True False a b h k = absurd (b refl)
  one_truth Out False a b h k = absurd (b refl)

-- events in one row are one
one_event : (e : Environment) (a : Schema) (held : List (Option Value)) (x y : Event Value) → IsEventOf e a held x → IsEventOf e a held y → x.row ≡ y.row → x ≡ y
one_event e a held x y h k same =
    let told : x.truth ≡ y.truth = one_truth e a.conjuncts y.row x.truth y.truth h.is.not_false k.is.not_false (subst (λ r. IsTruthOf (property e a.conjuncts) r x.truth) same h.is.truth_of) k.is.truth_of in
    ap₂ (λ r t. record { row = r; truth = t }) same told

linear : (e : Environment) (a : Schema) (held : List (Option Value)) (x y : Event Value) → IsEventOf e a held x → IsEventOf e a held y
    → (x ≡ y) ⊎ ComesAfter value_order x.row y.row ⊎ ComesAfter value_order y.row x.row
linear e a held x y h k = elim (comparable x.row y.row) [
  | inl same ↦ inl (one_event e a held x y h k same)
  | inr c ↦ inr c
]

-- there is one first event
one_first : (e : Environment) (a : Schema) (held : List (Option Value)) (x y : Event Value) → IsFirstOf e a held x → IsFirstOf e a held y → x ≡ y
one_first e a held x y h k = elim (h.first y k.event) [
  | inl same ↦ sym same
  | inr c ↦ elim (k.first x h.event) [ inl same ↦ same | inr d ↦ absurd (never_both x.row y.row c d) ]
]

-- ---- nodes

values_eq : (xs ys : List Value) → pointwise equality.ghosts.eq xs ys ≡ true → xs ≡ ys
values_eq xs ys h = slice-ties value_order order_laws.total-law exact xs ys (is_eq_true (slice_cmp value_order xs ys) (sym (lists_ties value_order order_laws.matches_eq-law xs ys) ∙ h))

pub node_sound : (a b : Node) → nodes.ghosts.eq a b ≡ true → a ≡ b
node_sound Root Root h = refl
node_sound Root (State ys) h = absurd (false≢true h)
node_sound (State xs) Root h = absurd (false≢true h)
node_sound (State xs) (State ys) h = ap State (values_eq xs ys h)

pub node_itself : (a : Node) → nodes.ghosts.eq a a ≡ true
node_itself Root = refl
node_itself (State xs) = lists_ties value_order order_laws.matches_eq-law xs xs ∙ ap is_eq (tied_itself (lists_total order_laws.total-law) xs)

-- ---- what is searched is in order

module _ (m : System) where
  one_stray : (a : Node) (b c : Bool) → IsStray m a b → IsStray m a c → b ≡ c
  one_stray Root b c h k = h ∙ sym k
  one_stray (State values) true true h k = refl
  one_stray (State values) true false h k = absurd (h _ k.1.event)
  one_stray (State values) false true h k = absurd (k _ h.1.event)
  one_stray (State values) false false h k = refl

  one_doubt : (a : Node) (at by : List ℕ) → IsDoubtful m a at → IsDoubtful m a by → at ≡ by
  one_doubt Root at by h k = absurd h
  one_doubt (State values) at by (row, first, said) (other, first', said') =
      said ∙ ap (stop m m.test) (one_first m.environment m.test.schema _ _ _ first first') ∙ sym said'

  no_doubt : (a : Node) (b : Bool) (at : List ℕ) → IsStray m a b → IsDoubtful m a at → ⊥
  no_doubt Root b at h k = k
  no_doubt (State values) true at h (row, first, said) = h _ first.event
  no_doubt (State values) false at h (row, first, said) =
      let same = one_first m.environment m.test.schema _ _ _ h.1 first in let told : True ≡ Out = ap (λ (x : Event Value). x.truth) same in cc

  -- what is looked at is seen in one way
  no_both : (a : Node) → IsOther m a → IsSought m a → ⊥
  no_both Root h k = k
  no_both (State values) h k = let same : true ≡ false = one_stray (State values) true false h k in false≢true (sym same)

  no_other : (a : Node) (at : List ℕ) → IsDoubtful m a at → IsOther m a → ⊥
  no_other Root at h k = h
  no_other (State values) at h k = no_doubt (State values) true at k h

  no_sought : (a : Node) (at : List ℕ) → IsDoubtful m a at → IsSought m a → ⊥
  no_sought Root at h k = h
  no_sought (State values) at h k = no_doubt (State values) false at k h

  pub decisive : (eq : Node → Node → Bool) → IsDecisive (exploration m eq) (sought_in m)
  decisive eq = record { not_both = no_both; not_other = no_other; not_sought = no_sought; one_text = one_doubt; root = λ h. h; root_told = λ at h. h }

  -- a turn that has the steps of all parts is whole
  pub all_parts : (eq : Node → Node → Bool) (a : Node) (now : Turn Node Label) → HasPassed m eq a (length (parts_of m a)) now → HasTurn (searched m eq) a now
  all_parts eq a now h = (h.0, subst (λ os. HasParts (searched m eq) a 0 os now.edges) (take-length (parts_of m a)) h.1)

  pub orderly : IsOrderly (searched m nodes.ghosts.eq)
  orderly = record {
    sound = node_sound;
    itself = node_itself;
    never_both = λ x y h k. never_both x.row y.row h k;
    linear = λ a o x y h k. linear m.environment o.schema _ x y h k;
    told = λ x h k. let same : True ≡ Out = sym h ∙ k in cc;
    one_stray = one_stray;
    one_doubt = one_doubt;
    no_doubt = no_doubt;
  }
