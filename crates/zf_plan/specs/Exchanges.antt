-- Ranges of which some are exchanged for others.
use Rattle.std.specs.Prelude.{List, [], ◌∷◌, Option, Some, None}

abbrev pub exchanged : {V : Type 0} → (ranges : List (List V)) → (others : List (Option (List V))) → List (List V)
exchanged [] others = []
exchanged (xs ∷ ranges) [] = xs ∷ ranges
exchanged (xs ∷ ranges) (None ∷ others) = xs ∷ exchanged ranges others
exchanged (xs ∷ ranges) (Some ys ∷ others) = ys ∷ exchanged ranges others
