-- Where a search is, and what its steps do: for private contracts and the model of `Search` alone.
use Rattle.std.specs.Prelude.{◌≡◌, ◌≢◌, ◌⊎◌, ℕ, zero, suc, ◌+◌, ◌-◌, ◌*◌, ◌<◌, ◌≤◌, ◌^◌, Bool, true, false, cond, eqb, List, [], ◌∷◌, ◌++◌, length, take, drop, slice_index_or, slice_set, Option, Some, None, Result, OnOk, OnErr, bit_or}
use Rattle.zf_plan.specs.Prelude.{Ordering, Truth, True, False, Out, Conjuncts, Ahead, AreAscending, AreDueWithin, AreWithin, ended, Event, HasBit, HasLength, is_reached, IsEvent, IsNoneAhead, IsSeen, picked, reaches, Takes, TiesAreEqual, unseen, option_copied, Seen}
use Rattle.zf_walk.specs.declared.step.Step.{Step}
use Rattle.zf_walk.specs.declared.step.Step.TheVariants.{Holds, Breaks, End}
use Rattle.zf_plan.specs.declared.place.Place.{Place}
use Rattle.zf_plan.specs.declared.plan.Plan.{Plan}
use Rattle.zf_plan.specs.declared.problem.Problem.{Problem}
use Rattle.zf_plan.specs.Groves.{trees_of}
use Rattle.zf_plan.specs.Keys.{AreKeyed}
use Rattle.zf_plan.specs.Memories.{Memory}
use Rattle.zf_plan.specs.Trees.{Tree, tree_at, HaveLeavesWithin}
use Rattle.zf_plan.specs.Knowing.{Remembers, IsRefuted, IsSettled, IsSoFar, IsLeafDue, NeedsWithin}
use Rattle.zf_plan.specs.Choosing.{IsChoice, IsNextChoice, StaysChoice}
use Rattle.zf_plan.specs.Blaming.{Covers, IsBlamed}
use Rattle.zf_plan.specs.Plans.{IsPlan}
use Rattle.zf_plan.specs.declared.marks.Mark.{Mark}
use Rattle.zf_plan.specs.declared.marks.Marks.{Marks}
use Rattle.zf_plan.specs.Marks.{is_still, mark_at, Accuses, Renews}

-- ---- places

pub record IsAt {V : Type 0} (ranges : List (List V)) (p : Place) : Type 0 where
  pub all_places : length p.places.items ≡ length ranges
  pub all_found : length p.found.items ≡ length ranges
  pub shallow : p.depth ≤ length ranges
  pub within : AreWithin ranges (take p.depth p.places.items)
  pub all_stamps : length p.marks.stamps.items ≡ length ranges + 1
  pub all_marks : length p.marks.choices.items ≡ length ranges
  pub all_seen : length p.seen.items ≡ length ranges

-- the places of the values that are bound
abbrev pub bound : Place → List ℕ
bound p = take p.depth p.places.items

abbrev pub path : {V : Type 0} → List (List V) → Place → List V
path ranges p = picked ranges (bound p)

abbrev pub ahead_of : {V : Type 0} → List (List V) → Place → Ahead V
ahead_of ranges p = record { path = path ranges p; here = p.fresh }

-- all rows
abbrev pub begun : {V : Type 0} → Ahead V
begun = record { path = []; here = true }

-- what was found on the first values, but for the last of so many
abbrev pub found_before : List Truth → ℕ → Truth
found_before found zero = True
found_before found (suc k) = slice_index_or found k True

-- it is the truth of the conjuncts that need no more of them, and not False
pub record IsFound {V : Type 0} (l : Conjuncts V) (trees : List Tree) (row : List V) (k : ℕ) (t : Truth) : Type 0 where
  pub so : IsSoFar l trees row (NeedsWithin l trees k) t
  pub not_false : t ≢ False

-- what is known of range k after the values before it
abbrev pub seen_at : Place → ℕ → Seen
seen_at p k = slice_index_or p.seen.items k unseen

-- the conjuncts that are leaves and need just this row are True on it
abbrev pub AreHeld : {V : Type 0} → Conjuncts V → List Tree → List V → ℕ → Type 0
AreHeld l trees row k = (j c : ℕ) → j < length trees → IsLeafDue l k (tree_at trees j) c → IsSettled l (tree_at trees j) row True

-- the truth of the conjuncts that are leaves and need just this row, of k values: False where one is, True where all are
abbrev pub IsTold : {V : Type 0} → Conjuncts V → List Tree → List V → ℕ → Truth → Type 0
IsTold l trees row k False = IsRefuted l trees row
IsTold l trees row k True = AreHeld l trees row k
IsTold l trees row k Out = ⊥

-- what is known of the values of the next range after those at these places is so
abbrev pub AreSeen : {V : Type 0} → Conjuncts V → List Tree → List (List V) → List ℕ → Seen → Type 0
AreSeen l trees ranges places seen = (i : ℕ) (t : Truth) → AreWithin ranges (places ++ i ∷ []) → IsSeen seen i t → IsTold l trees (picked ranges (places ++ i ∷ [])) (length places + 1) t

-- a choice of range k: it is one still where the values at these places are those of which its mark says that it was made
pub record IsKept {V : Type 0} (l : Conjuncts V) (trees : List Tree) (ranges : List (List V)) (stamps places : List ℕ) (k : ℕ) (choice : Option (List ℕ)) (mark : Mark) : Type 0 where
  pub few : mark.due ≤ k
  pub past : mark.stamp ≤ slice_index_or stamps mark.due 0
  pub small : mark.stamp < 2 ^ 64 - 1
  pub still : is_still stamps mark ≡ true → mark.due ≤ length places → StaysChoice l trees ranges k mark.due places choice

-- each choice is kept so
abbrev pub AreKept : {V : Type 0} → Conjuncts V → List Tree → List (List V) → Marks → List ℕ → List (Option (List ℕ)) → Type 0
AreKept l trees ranges marks places choices = (k : ℕ) → k < length ranges → IsKept l trees ranges marks.stamps.items places k (slice_index_or choices k None) (mark_at marks k)

-- what holds between two steps: what is remembered, kept, seen and was found is right, and for each value that is bound what was chosen of its range, and what the values are to be blamed on that were tried
pub record Stands {V : Type 0} (l : Conjuncts V) (uses : ℕ → ℕ → Bool) (trees : List Tree) (ranges : List (List V)) (p : Place) (memo : Memory) (choices : List (Option (List ℕ))) : Type 0 where
  pub at : IsAt ranges p
  pub remembers : Remembers l uses ranges (bound p) memo
  pub found : (k : ℕ) → k < p.depth → IsFound l trees (picked ranges (take k p.places.items)) k (slice_index_or p.found.items k True)
  pub all_choices : length choices ≡ length ranges
  pub kept : AreKept l trees ranges p.marks (bound p) choices
  pub chosen : (k : ℕ) → k < p.depth → IsChoice l trees ranges (picked ranges (take k p.places.items)) (slice_index_or ranges k []) (slice_index_or choices k None)
  pub seen : (k : ℕ) → k < p.depth → AreSeen l trees ranges (take k p.places.items) (seen_at p k)
  pub blamed : (k : ℕ) → k < p.depth → IsBlamed l trees ranges p.places.items k (slice_index_or p.places.items k 0) (slice_index_or choices k None) (mark_at p.marks k)
  pub past : p.fresh ≡ false → (k : ℕ) → p.depth ≡ k + 1 → IsBlamed l trees ranges p.places.items k (slice_index_or p.places.items k 0 + 1) (slice_index_or choices k None) (mark_at p.marks k)

-- what holds of what a search goes over
pub record IsSound {V : Type 0} (cmp : V → V → Ordering) (l : Conjuncts V) (uses : ℕ → ℕ → Bool) (trees : List Tree) (ranges : List (List V)) (after : Option (List V)) (planned : Plan) : Type 0 where
  pub ascending : AreAscending cmp ranges
  pub ties : TiesAreEqual cmp
  pub named : HasLength after (length ranges)
  pub due : AreDueWithin l (length ranges)
  pub leaves : HaveLeavesWithin l.number trees
  pub plan : IsPlan l uses trees (length ranges) planned

-- it holds of a problem
abbrev pub IsPosed : {V J : Type 0} → (V → V → Ordering) → (J → Conjuncts V) → (J → ℕ → ℕ → Bool) → Problem V J → Type 0
IsPosed cmp conjuncts uses p = IsSound cmp (conjuncts p.judge.now) (uses p.judge.now) (trees_of p.forest.now) p.ranges.now (option_copied p.after) p.plan.now

-- what holds where it is asked about the values at these places, by what is remembered
pub record IsAsked {V J : Type 0} (cmp : V → V → Ordering) (conjuncts : J → Conjuncts V) (uses : J → ℕ → ℕ → Bool) (is_key : J → ℕ → V → ℕ → Type 0) (p : Problem V J) (places : List ℕ) (memo : Memory) : Type 0 where
  pub sound : IsPosed cmp conjuncts uses p
  pub keys : AreKeyed (conjuncts p.judge.now) (is_key p.judge.now) p.ranges.now p.keys.now
  pub within : AreWithin p.ranges.now places
  pub remembers : Remembers (conjuncts p.judge.now) (uses p.judge.now) p.ranges.now places memo

-- how many steps a search from a row on takes at most
abbrev pub below : {V : Type 0} → List (List V) → ℕ
below [] = 2
below (range ∷ ranges) = 2 + length range * below ranges

-- how many steps are left beside and above these places
abbrev pub above : {V : Type 0} → List (List V) → List ℕ → ℕ
above [] places = 0
above (range ∷ ranges) [] = 0
above (range ∷ ranges) (i ∷ places) = (length range - suc i) * below ranges + 1 + above ranges places

-- how many steps are left
abbrev pub steps_left : {V : Type 0} → List (List V) → Place → ℕ
steps_left ranges p = cond p.fresh (below (drop p.depth ranges)) 1 + above ranges (bound p)

-- whether there is nothing to be tried any more
abbrev pub is_over : Place → Bool
is_over p = cond p.fresh false (eqb p.depth 0)

-- ---- moves

-- the value at place i of range k is bound as the last one, or where the range ends before it the row before it is passed
abbrev pub Lands : ℕ → ℕ → ℕ → Place → Place → Type 0
Lands end k i old new = (new.found.items ≡ old.found.items) × (new.seen.items ≡ old.seen.items) × (((i < end) × (new.places.items ≡ slice_set old.places.items k i) × (new.depth ≡ k + 1) × (new.fresh ≡ true) × Renews (k + 1) old.marks new.marks)
    ⊎ ((end ≤ i) × (new.places.items ≡ old.places.items) × (new.depth ≡ k) × (new.fresh ≡ false) × (new.marks ≡ old.marks)))

-- to the next chosen place from one on
abbrev pub LandsNext : ℕ → Option (List ℕ) → ℕ → ℕ → Place → Place → Type 0
LandsNext end choice k from old new = (next : ℕ) × IsNextChoice choice from next × Lands end k next old new

-- the values of the last range are open from now on
pub record Opens (old new : Place) : Type 0 where
  pub fresh : old.fresh ≡ false
  pub last : ℕ
  pub deep : old.depth ≡ last + 1
  pub is : new ≡ record old { marks = new.marks }
  pub marks : Accuses last true 0 old.marks new.marks

-- back to the last value that those of the next range are to be blamed on, which is to be blamed on the others
pub record FallsBack (old new : Place) : Type 0 where
  pub fresh : old.fresh ≡ false
  pub closed : (mark_at old.marks old.depth).is_open ≡ false
  pub low : new.depth ≤ old.depth
  pub none : (i : ℕ) → new.depth ≤ i → i < old.depth → HasBit (mark_at old.marks old.depth).blame i → ⊥
  pub is : new ≡ record old { depth = new.depth; marks = new.marks }
  pub marks : (new.depth ≡ 0) × (new.marks ≡ old.marks)
      ⊎ (last : ℕ) × (new.depth ≡ last + 1) × Accuses last (mark_at old.marks last).is_open (bit_or (mark_at old.marks last).blame (mark_at old.marks old.depth).blame) old.marks new.marks

-- where a range is exhausted
abbrev pub Jumps : Bool → Place → Place → Type 0
Jumps plain old new = ((new ≡ old) × ((old.fresh ≡ true) ⊎ (old.depth ≡ 0))) ⊎ Opens old new ⊎ (plain ≡ false) × FallsBack old new

-- the row of the bound values is passed, and the last one is open from now on
abbrev pub PassesOpen : Place → Place → Type 0
PassesOpen old new = ((old.depth ≡ 0) × (new ≡ record old { fresh = false }))
    ⊎ (last : ℕ) × (old.depth ≡ last + 1) × (new ≡ record old { fresh = false; marks = new.marks }) × Accuses last true 0 old.marks new.marks

-- as many of them stay bound as there are, but no more than so many, and the row of these is passed so
abbrev pub Leaves : ℕ → Place → Place → Type 0
Leaves count old new = (n : ℕ) × (((n ≡ old.depth) × (n ≤ count)) ⊎ ((n ≡ count) × (n ≤ old.depth))) × PassesOpen (record old { depth = n }) new

-- the row of the bound values is passed: the last one is open from now on, or it is to be blamed on what the conjuncts use that were tested
abbrev pub Passes : {V : Type 0} → (V → V → Ordering) → Conjuncts V → (ℕ → ℕ → Bool) → List Tree → List (List V) → Option (List V) → Place → Place → Type 0
Passes cmp l uses trees ranges after old new = PassesOpen old new
    ⊎ (last : ℕ) × (old.depth ≡ last + 1) × (new ≡ record old { fresh = false; marks = new.marks })
    × (is_reached cmp after (length ranges) (path ranges old) ≡ true)
    × (word : ℕ) × Covers l uses trees old.depth (length trees) word × Accuses last (mark_at old.marks last).is_open (bit_or (mark_at old.marks last).blame word) old.marks new.marks

-- the place is the same, but for the mark of what is chosen of the next range
pub record IsMarked (old new : Place) : Type 0 where
  pub is : new ≡ record old { marks = new.marks }
  pub stamps : new.marks.stamps.items ≡ old.marks.stamps.items
  pub all : length new.marks.choices.items ≡ length old.marks.choices.items
  pub others : (k : ℕ) → k ≢ old.depth → mark_at new.marks k ≡ mark_at old.marks k

-- the values of the next range are chosen, or memory ends; where nothing may be left out all of them
pub record Enters {V J T E : Type 0} (conjuncts : J → Conjuncts V) (uses : J → ℕ → ℕ → Bool) (p : Problem V J) (old : Place) (told : Memory) (chosen : Option (List ℕ)) (result : Result T E) (new : Place) (memo : Memory) (choice : Option (List ℕ)) : Type 0 where
  pub remembers : Remembers (conjuncts p.judge.now) (uses p.judge.now) p.ranges.now (bound old) memo
  pub same : memo.tests ≡ told.tests
  pub place : IsMarked old new
  pub kept : IsKept (conjuncts p.judge.now) (trees_of p.forest.now) p.ranges.now new.marks.stamps.items (bound old) old.depth choice (mark_at new.marks old.depth)
  pub all : OnOk result (p.plan.now.is_plain ≡ true → chosen ≡ None → choice ≡ None)
  pub granted : OnErr result (p.plan.now.is_plain ≡ true → ⊥)
  pub err : OnErr result (new ≡ old)

-- ---- steps

-- no event begins with this row: the named row comes after all that do, or a conjunct is False on them
abbrev pub IsHopeless : {V : Type 0} → (V → V → Ordering) → Conjuncts V → List Tree → ℕ → Option (List V) → List V → Type 0
IsHopeless cmp l trees n after row = (is_reached cmp after n row ≡ false) ⊎ IsRefuted l trees row

-- what a test of a row finds: False where no event begins with it, else the truth of the conjuncts that need no more values
unfoldable pub Finds : {V : Type 0} → (V → V → Ordering) → Conjuncts V → List Tree → ℕ → Option (List V) → List V → Truth → Type 0
Finds cmp l trees n after row False = IsHopeless cmp l trees n after row
Finds cmp l trees n after row True = (is_reached cmp after n row ≡ true) × IsSoFar l trees row (NeedsWithin l trees (length row)) True
Finds cmp l trees n after row Out = (is_reached cmp after n row ≡ true) × IsSoFar l trees row (NeedsWithin l trees (length row)) Out

-- the same events are ahead
abbrev pub KeepsEvents : {V : Type 0} → (V → V → Ordering) → Conjuncts V → List (List V) → Option (List V) → Place → Place → Type 0
KeepsEvents {V} cmp s ranges after old new = (e : Event V) → IsEvent cmp s ranges after e → reaches cmp old.fresh (path ranges old) e.row ≡ reaches cmp new.fresh (path ranges new) e.row

-- A step that goes on: the same events are ahead, and fewer steps.
pub record GoesOn {V : Type 0} (cmp : V → V → Ordering) (s : Conjuncts V) (ranges : List (List V)) (after : Option (List V)) (old new : Place) : Type 0 where
  pub same : KeepsEvents cmp s ranges after old new
  pub smaller : steps_left ranges new < steps_left ranges old

-- the row is given, or there is none
abbrev pub Gives : {V : Type 0} → (V → V → Ordering) → Conjuncts V → List (List V) → Option (List V) → Place → Step → Place → Type 0
Gives cmp s ranges after old Holds new = Takes cmp s ranges after (ahead_of ranges old) (record { row = path ranges new; truth = True }) (ahead_of ranges new) × (new.depth ≡ length ranges)
Gives cmp s ranges after old Breaks new = Takes cmp s ranges after (ahead_of ranges old) (record { row = path ranges new; truth = Out }) (ahead_of ranges new) × (new.depth ≡ length ranges)
Gives cmp s ranges after old End new = IsNoneAhead cmp s ranges after (ahead_of ranges old) × (ahead_of ranges new ≡ ended) × (is_over new ≡ true)

abbrev pub Goes : {V : Type 0} → (V → V → Ordering) → Conjuncts V → List (List V) → Option (List V) → Place → Option Step → Place → Type 0
Goes cmp s ranges after old None new = GoesOn cmp s ranges after old new
Goes cmp s ranges after old (Some step) new = Gives cmp s ranges after old step new
