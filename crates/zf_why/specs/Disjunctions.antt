-- Which conjuncts of a schema are disjunctions of schemas, and of how many sides.
use Rattle.std.specs.Prelude.{ℕ, List, [], ◌∷◌, Option, Some, None, slice_get}
use Rattle.zf_tree.specs.declared.span.Span.{Span}
use Rattle.zf_term.specs.declared.conjunct.Batch.{Batch}
use Rattle.zf_term.specs.declared.conjunct.Conjunct.{Conjunct}
use Rattle.zf_term.specs.declared.conjunct.Conjunct.TheFolds.{fold-Batch, fold-Conjunct}
use Rattle.zf_term.specs.declared.conjunct.Conjunct.TheOpen.{Batch-F, Conjunct-F}

-- no disjunction of schemas, or one of two, which stand at these places
pub data Split : Type 0 where
  whole : Split
  parted : (left : Span) → Split → (right : Span) → Split → Split

-- that of a conjunct that is alone
abbrev pub only : List Split → Split
only [] = whole
only (x ∷ []) = x
only (x ∷ y ∷ zs) = whole

-- a side is split again where it has one conjunct, and that is a disjunction of schemas
abbrev pub side_split : (batches : List (List Split)) → Split
side_split [] = whole
side_split (xs ∷ []) = only xs
side_split (xs ∷ ys ∷ zs) = whole

abbrev pub split_step : Conjunct-F Split (List Split) → Split
split_step (Conjunct-F.Term t places) = whole
split_step (Conjunct-F.Member i t places) = whole
split_step (Conjunct-F.Either s left right places) = parted s.left (side_split left) s.right (side_split right)

abbrev pub splits_step : Batch-F Split (List Split) → List Split
splits_step b = b.conjuncts

unfoldable pub split_of : Conjunct → Split
split_of = fold-Conjunct Split (List Split) split_step splits_step

unfoldable pub splits_of : Batch → List Split
splits_of = fold-Batch Split (List Split) split_step splits_step

abbrev pub split_in : Option Conjunct → Split
split_in None = whole
split_in (Some c) = split_of c

abbrev pub split_at : List Conjunct → ℕ → Split
split_at cs i = split_in (slice_get cs i)
