-- What was made of values that are still bound: for private contracts and the model of `Search` alone.
use Rattle.std.specs.Prelude.{◌≡◌, ◌≢◌, ℕ, ◌+◌, ◌-◌, ◌<◌, ◌≤◌, ◌^◌, Bool, true, eqb, List, length, slice_index_or, slice_set}
use Rattle.zf_plan.specs.Prelude.{cut}
use Rattle.zf_plan.specs.declared.marks.Mark.{Mark}
use Rattle.zf_plan.specs.declared.marks.Marks.{Marks}

-- of what was not made
abbrev pub unmarked : Mark
unmarked = record { due = 0; stamp = 0; is_open = true; blame = 0 }

-- the mark of a range's choice
abbrev pub mark_at : Marks → ℕ → Mark
mark_at m k = slice_index_or m.choices.items k unmarked

-- whether so many first values have the same stamp as when it was made
abbrev pub is_still : List ℕ → Mark → Bool
is_still stamps mark = eqb mark.stamp (slice_index_or stamps mark.due 0)

-- no choice of n ranges was made
pub record AreNew (n : ℕ) (m : Marks) : Type 0 where
  pub all_stamps : length m.stamps.items ≡ n + 1
  pub all_choices : length m.choices.items ≡ n
  pub some : (k : ℕ) → k < n + 1 → slice_index_or m.stamps.items k 0 ≡ 1
  pub none : (k : ℕ) → mark_at m k ≡ unmarked

-- the choice of a range is marked as made of so many values, under no stamp that is the greatest
pub record Keeps (range n : ℕ) (old new : Marks) : Type 0 where
  pub stamps : new.stamps.items ≡ old.stamps.items
  pub all : length new.choices.items ≡ length old.choices.items
  pub others : (k : ℕ) → k ≢ range → mark_at new k ≡ mark_at old k
  pub due : (mark_at new range).due ≡ n
  pub past : (mark_at new range).stamp ≤ slice_index_or old.stamps.items n 0
  pub small : (mark_at new range).stamp < 2 ^ 64 - 1

-- it is noted of a range whether its values are open, and else what they are to be blamed on
pub record Accuses (range : ℕ) (noted : Bool) (word : ℕ) (old new : Marks) : Type 0 where
  pub stamps : new.stamps.items ≡ old.stamps.items
  pub all : length new.choices.items ≡ length old.choices.items
  pub others : (k : ℕ) → k ≢ range → mark_at new k ≡ mark_at old k
  pub due : (mark_at new range).due ≡ (mark_at old range).due
  pub stamp : (mark_at new range).stamp ≡ (mark_at old range).stamp
  pub is_open : (mark_at new range).is_open ≡ noted
  pub blame : (mark_at new range).blame ≡ word

-- so many values have the next stamp, if there is one
pub record Renews (n : ℕ) (old new : Marks) : Type 0 where
  pub stamps : new.stamps.items ≡ slice_set old.stamps.items n (cut (slice_index_or old.stamps.items n 0 + 1))
  pub choices : new.choices.items ≡ old.choices.items
