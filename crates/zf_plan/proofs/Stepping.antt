-- The steps of a search: rows that hold no event are passed, and a whole row is an answer.
use Rattle.zf_plan.proofs.Prelude.{Err, IfOk, Ok, Result, length-picked, Bool, suc, zero, ◌++◌, ◌+◌, ◌<◌, ◌∙◌, ◌∷◌, ◌≡◌, ◌≤◌, ◌⊎◌, [], ap, arith, cond, drop, eqb, false, get_or, inl, inr, length, List, None, Option, refl, set, Some, subst, sym, take, true, ℕ, cases_eq, false≢true, get_or-replicate, get_or-set_other, get_or-set_same, length-replicate, length-set, take-take, take_all, IsTotalOrder, ◌≢◌, slice_get, Ordering, Equal, Less, reaches-under, IsFrontOf-picked, IsRowOf-front, IsRowOf-length, picked-nil, slice_get-nth, Conjuncts, HaveOneTruth, IsTruthOf, KeepTruths, Event, IsEvent, AreWithin, picked, above, below, is_reached, reaches, Ahead, AreAllAhead, AreDueWithin, ended, IsAhead, SameAhead, Takes, ComesAfter, IsRowOf, False, Out, Truth, True, Step, Breaks, End, Holds, IsChoice, IsChosen, Remembers, ahead_of, bound, Gives, GoesOn, is_over, IsAt, IsHopeless, IsSoFar, IsSound, KeepsEvents, Lands, LandsNext, path, Stands, steps_left, planted, Tree, Place, IsLater-from, later-reached, unreached, IsAhead-from, IsAhead-to, Marks, AreTrue, unseen, Plan}
use Rattle.zf_walk.proofs.Truths.{IsTruthOf-false, IsTruthOf-only}
use Rattle.zf_plan.specs.{AreDues, AreKept, AreNew, AreSeen, AreTouched, begun, Finds, Forgets, found_before, IsAmong, IsBlamed, IsFailed, IsFound, IsKept, IsNew, IsRefuted, mark_at, Memory, NeedsBelow, NeedsWithin, seen_at, unmarked}
use Rattle.zf_plan.proofs.Blaming.{blamed-as, blamed-skips}
use Rattle.zf_plan.proofs.Marking.{kept-chosen, kept-first, moved-on}
use Rattle.zf_plan.proofs.Forgetting.{are-forgotten}
use Rattle.zf_plan.proofs.SoFar.{so-fewer, so-longer, so-none, so-refuted, so-whole, so-within}
use Rattle.zf_plan.proofs.TreeTruths.{planted-one, planted-kept, planted-due}
use Rattle.zf_plan.proofs.Moving.{enough, same-under, length-bound, length-path, last-value, IsFrom, from-fresh, from-past, Landed, landed, tells-landed}

-- what holds of a place but for what is known of the last value
pub record Rests {V : Type 0} (l : Conjuncts V) (uses : ℕ → ℕ → Bool) (trees : List Tree) (ranges : List (List V)) (p : Place) (memo : Memory) (choices : List (Option (List ℕ))) : Type 0 where
  pub at : IsAt ranges p
  pub remembers : Remembers l uses ranges (bound p) memo
  pub found : (k : ℕ) → k < p.depth → IsFound l trees (picked ranges (take k p.places.items)) k (get_or p.found.items k True)
  pub all_choices : length choices ≡ length ranges
  pub kept : AreKept l trees ranges p.marks (bound p) choices
  pub chosen : (k : ℕ) → k < p.depth → IsChoice l trees ranges (picked ranges (take k p.places.items)) (get_or ranges k []) (get_or choices k None)
  pub seen : (k : ℕ) → k < p.depth → AreSeen l trees ranges (take k p.places.items) (seen_at p k)
  pub blamed : (k : ℕ) → k < p.depth → IsBlamed l trees ranges p.places.items k (get_or p.places.items k 0) (get_or choices k None) (mark_at p.marks k)

-- the same with what is remembered now
pub rests-still : {V : Type 0} (l : Conjuncts V) (uses : ℕ → ℕ → Bool) (trees : List Tree) (ranges : List (List V)) (p : Place) (old new : Memory)
    (choices : List (Option (List ℕ))) → Stands l uses trees ranges p old choices → Remembers l uses ranges (bound p) new
    → Rests l uses trees ranges p new choices
rests-still l uses trees ranges p old new choices st remembers = record {
  at = st.at;
  remembers = remembers;
  found = st.found;
  all_choices = st.all_choices;
  kept = st.kept;
  chosen = st.chosen;
  seen = st.seen;
  blamed = st.blamed;
}

-- where it is past a row whose next range is exhausted it is known what that is to be blamed on
pub record IsSpent {V : Type 0} (l : Conjuncts V) (trees : List Tree) (ranges : List (List V)) (k : ℕ) (p : Place) (choices : List (Option (List ℕ))) : Type 0 where
  pub deep : p.depth ≡ k
  pub blamed : IsBlamed l trees ranges p.places.items k (length (get_or ranges k [])) (get_or choices k None) (mark_at p.marks k)

-- what a move leaves
pub record Moves {V : Type 0} (l : Conjuncts V) (uses : ℕ → ℕ → Bool) (trees : List Tree) (ranges : List (List V)) (k : ℕ) (p : Place) (memo : Memory) (choices : List (Option (List ℕ))) : Type 0 where
  pub rest : Rests l uses trees ranges p memo choices
  pub spent : p.fresh ≡ false → IsSpent l trees ranges k p choices

-- what the order, the leaves and what is gone over are known to be
pub record Setting {V : Type 0} (cmp : V → V → Ordering) (l : Conjuncts V) (used : ℕ → ℕ → Bool) (trees : List Tree) (ranges : List (List V)) (after : Option (List V)) (planned : Plan) : Type 0 where
  pub total : IsTotalOrder cmp
  pub one_truth : HaveOneTruth l
  pub kept : KeepTruths l
  pub sound : IsSound cmp l used trees ranges after planned

module _ {V : Type 0} {cmp : V → V → Ordering} {l : Conjuncts V} {used : ℕ → ℕ
    → Bool} {trees : List Tree} {ranges : List (List V)} {after : Option (List V)} {planned : Plan}
    (given : Setting cmp l used trees ranges after planned) where
  due : AreDueWithin (planted l trees) (length ranges)
  due = planted-due l (length ranges) (given.sound).due trees (given.sound).leaves

  one : HaveOneTruth (planted l trees)
  one = planted-one l given.one_truth trees (given.sound).leaves

  keep : KeepTruths (planted l trees)
  keep = planted-kept l given.kept trees (given.sound).leaves

  -- ---- rows that hold no event

  -- a row on which a conjunct is False is that of no event
  pub failed-none : (row : List V) (e : Event V) → IsEvent cmp (planted l trees) ranges after e → row ≡ e.row → IsFailed l trees row → ⊥
  failed-none row e ev is r =
      let m = IsRowOf-length ranges e.row ev.within in
      ev.not_false (IsTruthOf-false (planted l trees) one e.row r.0 e.truth r.1 (let d = due r.0 r.1 in omega arith) (subst (λ w. (planted l trees).says r.0 w False) is r.2) ev.truth_of)

  hopeless-none : (road : List V) → length road ≤ length ranges → IsHopeless cmp l trees (length ranges) after road → (e : Event V) (tail : List V)
      → IsEvent cmp (planted l trees) ranges after e → road ++ tail ≡ e.row → ⊥
  hopeless-none road short (inl r) e tail ev is =
      let m = IsRowOf-length ranges e.row ev.within in
      let long : length (road ++ tail) ≡ length ranges = ap length is ∙ m in
      false≢true (sym (unreached cmp given.total after (length ranges) road tail (given.sound).named (omega arith) r) ∙ ap (is_reached cmp after (length ranges)) is
      ∙ later-reached cmp given.total after (length ranges) e.row (given.sound).named m ev.later)
  hopeless-none road short (inr r) e tail ev is = failed-none (road ++ tail) e ev is (r.0, r.1, r.2 tail)

  -- a value that is not chosen begins no event
  pub unchosen-none : (row range : List V) (choice : Option (List ℕ)) (i : ℕ) (v : V) → IsChoice l trees ranges row range choice → slice_get range i ≡ Some v
      → (IsChosen choice i → ⊥) → (e : Event V) (tail : List V) → IsEvent cmp (planted l trees) ranges after e → row ++ v ∷ tail ≡ e.row → ⊥
  unchosen-none row range choice i v chosen at out e tail ev is = failed-none (row ++ v ∷ tail) e ev is (chosen i v tail at out (subst (IsRowOf ranges) (sym is) ev.within))

  -- ---- moves

  -- to a chosen place of range k
  module _ (p q : Place) (choices : List (Option (List ℕ))) (k f : ℕ) (at : IsAt ranges p) (near : k < length ranges) (deep : k ≤ p.depth)
      (chosen : (j : ℕ) → j ≤ k → IsChoice l trees ranges (picked ranges (take j p.places.items)) (get_or ranges j []) (get_or choices j None))
      (from : IsFrom cmp ranges p k (picked ranges (take k p.places.items)) f) (next : LandsNext (length (get_or ranges k [])) (get_or choices k None) k f p q) where
    lands : Landed cmp (planted l trees) ranges after p k q
    lands =
        let n = next.1 in
        landed cmp given.total (given.sound).ties ranges (given.sound).ascending p at k near (planted l trees) after deep f next.0 n.up from q
        (λ e ev m v tail a b w is. unchosen-none (picked ranges (take k p.places.items)) (get_or ranges k []) (get_or choices k None) m v
        (chosen k (omega arith)) (slice_get-nth (get_or ranges k []) m v w) (n.skipped m a b) e tail ev is) next.2

    moves-on : GoesOn cmp (planted l trees) ranges after p q
    moves-on = let h = lands in record { same = h.same; smaller = h.smaller }

    blames : ((j : ℕ) → j < k → IsBlamed l trees ranges p.places.items j (get_or p.places.items j 0) (get_or choices j None) (mark_at p.marks j))
        → IsBlamed l trees ranges p.places.items k f (get_or choices k None) (mark_at p.marks k)
        → (j : ℕ) → j < q.depth → IsBlamed l trees ranges q.places.items j (get_or q.places.items j 0) (get_or choices j None) (mark_at q.marks j)
    blames blamed here = go next.2 where
      go : Lands (length (get_or ranges k [])) k next.0 p q → (j : ℕ) → j < q.depth → IsBlamed l trees ranges q.places.items j (get_or q.places.items j 0) (get_or choices j None) (mark_at q.marks j)
      go (found, seen, inl (low, ps, d, fr, renews)) j m =
          let mark : mark_at q.marks j ≡ mark_at p.marks j = ap (λ ms. get_or ms j unmarked) renews.choices in
          let same = λ (i : ℕ) (ne : i ≢ k). ap (λ is. get_or is i 0) ps ∙ get_or-set_other p.places.items k i next.0 0 ne in
          elim (cases_eq j k) [
            | inl e ↦
                let now : get_or q.places.items j 0 ≡ next.0 = ap (λ is. get_or is j 0) ps ∙ ap (λ i. get_or (set p.places.items k next.0) i 0) e
                ∙ get_or-set_same p.places.items k next.0 0 (omega (arith, at.all_places)) in
                let skipped = blamed-skips l trees ranges p.places.items k f next.0 (get_or choices k None) (mark_at p.marks k) next.1 here in
                blamed-as l trees ranges p.places.items q.places.items j next.0 (get_or q.places.items j 0) (get_or choices j None) (get_or choices j None) (mark_at p.marks j) (mark_at q.marks j)
                (λ i low'. same i (λ z. absurd (omega arith))) (omega (arith, now)) refl mark
                (subst (λ i. IsBlamed l trees ranges p.places.items i next.0 (get_or choices i None) (mark_at p.marks i)) (sym e) skipped)
            | inr ne ↦
                blamed-as l trees ranges p.places.items q.places.items j (get_or p.places.items j 0) (get_or q.places.items j 0) (get_or choices j None)
                (get_or choices j None) (mark_at p.marks j) (mark_at q.marks j)
                (λ i low'. same i (λ z. absurd (omega (arith, m, d, ne)))) (omega (arith, same j ne)) refl mark (blamed j (omega (arith, m, d, ne)))
          ]
      go (found, seen, inr (high, ps, d, fr, marks)) j m =
          let mark : mark_at q.marks j ≡ mark_at p.marks j = ap (λ (ms : Marks). mark_at ms j) marks in
          blamed-as l trees ranges p.places.items q.places.items j (get_or p.places.items j 0) (get_or q.places.items j 0) (get_or choices j None)
          (get_or choices j None) (mark_at p.marks j) (mark_at q.marks j)
          (λ i low'. ap (λ is. get_or is i 0) ps) (omega (arith, ap (λ is. get_or is j 0) ps)) refl mark (blamed j (omega (arith, m, d)))

    spends : IsBlamed l trees ranges p.places.items k f (get_or choices k None) (mark_at p.marks k) → q.fresh ≡ false → IsSpent l trees ranges k q choices
    spends here = go next.2 where
      go : Lands (length (get_or ranges k [])) k next.0 p q → q.fresh ≡ false → IsSpent l trees ranges k q choices
      go (found, seen, inl (low, ps, d, fr, renews)) past = absurd (false≢true (sym past ∙ fr))
      go (found, seen, inr (high, ps, d, fr, marks)) past = record {
        deep = d;
        blamed = blamed-as l trees ranges p.places.items q.places.items k next.0 (length (get_or ranges k [])) (get_or choices k None) (get_or choices k None) (mark_at p.marks k) (mark_at q.marks k)
            (λ i low'. ap (λ is. get_or is i 0) ps) high refl (ap (λ (ms : Marks). mark_at ms k) marks)
            (blamed-skips l trees ranges p.places.items k f next.0 (get_or choices k None) (mark_at p.marks k) next.1 here);
      }

    -- the leaves that need one value more are forgotten
    moves-stand : (uses : ℕ → ℕ → Bool) (old new : Memory) → Remembers l uses ranges (bound p) old → length choices ≡ length ranges
        → AreKept l trees ranges p.marks (bound p) choices → Forgets (k + 1) old new
        → ((j : ℕ) → j ≤ k → IsFound l trees (picked ranges (take j p.places.items)) j (get_or p.found.items j True))
        → ((j : ℕ) → j ≤ k → AreSeen l trees ranges (take j p.places.items) (seen_at p j))
        → ((j : ℕ) → j < k → IsBlamed l trees ranges p.places.items j (get_or p.places.items j 0) (get_or choices j None) (mark_at p.marks j))
        → IsBlamed l trees ranges p.places.items k f (get_or choices k None) (mark_at p.marks k)
        → Moves l uses trees ranges k q new choices
    moves-stand uses old new remembers long kept g found seen blamed here =
        let h = lands in
        let n = next.2 in
        let fronts : (j : ℕ) → j ≤ k → j ≤ q.depth → take j p.places.items ≡ take j q.places.items =
        λ j low deep'. sym (take-take j p.depth p.places.items (omega arith)) ∙ sym (h.fronts j low) ∙ take-take j q.depth q.places.items deep' in
        record {
          rest = record {
            at = h.at;
            remembers = record {
              dues = subst (AreDues l) (sym g.dues) remembers.dues;
              tells = tells-landed l ranges k (bound p) (bound q) old.truths new.truths remembers.tells (are-forgotten l (k + 1) old new remembers.dues g)
                  (omega (arith, length-bound ranges p at)) (omega (arith, length-bound ranges q h.at, h.deep)) h.fronts;
              tables = subst (AreTrue l uses ranges) (sym g.tables) remembers.tables;
            };
            found = λ j m.
                let low : j ≤ k = omega (arith, h.deep) in
                subst (λ is. IsFound l trees (picked ranges is) j (get_or q.found.items j True)) (fronts j low (omega arith))
                (subst (λ ts. IsFound l trees (picked ranges (take j p.places.items)) j (get_or ts j True)) (sym n.0) (found j low));
            all_choices = long;
            kept = λ d within. moved-on l trees ranges k p q deep at h.at h.deep h.fronts d (get_or choices d None) (length (get_or ranges k [])) next.0 n (kept d within);
            chosen = λ j m.
                let low : j ≤ k = omega (arith, h.deep) in
                subst (λ is. IsChoice l trees ranges (picked ranges is) (get_or ranges j []) (get_or choices j None)) (fronts j low (omega arith)) (chosen j low);
            seen = λ j m.
                let low : j ≤ k = omega (arith, h.deep) in
                subst (λ is. AreSeen l trees ranges is (seen_at q j)) (fronts j low (omega arith))
                (subst (λ ss. AreSeen l trees ranges (take j p.places.items) (get_or ss j unseen)) (sym n.1) (seen j low));
            blamed = blames blamed here;
          };
          spent = spends here;
        }

  module _ (p q : Place) (choices : List (Option (List ℕ))) (choice : Option (List ℕ)) (at : IsAt ranges p) (all : length choices ≡ length ranges)
      (before : (j : ℕ) → j < p.depth → IsChoice l trees ranges (picked ranges (take j p.places.items)) (get_or ranges j []) (get_or choices j None))
      (here : IsChoice l trees ranges (path ranges p) (get_or ranges p.depth []) choice) (f : p.fresh ≡ true)
      (near : p.depth < length ranges) (next : LandsNext (length (get_or ranges p.depth [])) (get_or (set choices p.depth choice) p.depth None) p.depth 0 p q) where
    all-chosen : (j : ℕ) → j ≤ p.depth → IsChoice l trees ranges (picked ranges (take j p.places.items)) (get_or ranges j []) (get_or (set choices p.depth choice) j None)
    all-chosen j h = elim (cases_eq j p.depth) [
      | inl e ↦
          let is : get_or (set choices p.depth choice) j None ≡ choice =
          ap (λ i. get_or (set choices p.depth choice) i None) e ∙ get_or-set_same choices p.depth choice None (omega (arith, all)) in
          subst (IsChoice l trees ranges (picked ranges (take j p.places.items)) (get_or ranges j [])) (sym is)
          (subst (λ i. IsChoice l trees ranges (picked ranges (take i p.places.items)) (get_or ranges i []) choice) (sym e) here)
      | inr ne ↦
          subst (IsChoice l trees ranges (picked ranges (take j p.places.items)) (get_or ranges j []))
          (sym (get_or-set_other choices p.depth j choice None ne)) (before j (omega arith))
    ]

    first-from : IsFrom cmp ranges p p.depth (path ranges p) 0
    first-from = from-fresh cmp given.total (given.sound).ties ranges (given.sound).ascending p at p.depth near f refl

    pub descends : GoesOn cmp (planted l trees) ranges after p q
    descends = moves-on p q (set choices p.depth choice) p.depth 0 at near (omega arith) all-chosen first-from next

    pub descends-stand : (uses : ℕ → ℕ → Bool) (old new : Memory) → Remembers l uses ranges (bound p) old
        → AreKept l trees ranges p.marks (bound p) (set choices p.depth choice) → Forgets (p.depth + 1) old new
        → ((j : ℕ) → j ≤ p.depth → IsFound l trees (picked ranges (take j p.places.items)) j (get_or p.found.items j True))
        → ((j : ℕ) → j ≤ p.depth → AreSeen l trees ranges (take j p.places.items) (seen_at p j))
        → ((j : ℕ) → j < p.depth → IsBlamed l trees ranges p.places.items j (get_or p.places.items j 0) (get_or choices j None) (mark_at p.marks j))
        → IsBlamed l trees ranges p.places.items p.depth 0 choice (mark_at p.marks p.depth)
        → Moves l uses trees ranges p.depth q new (set choices p.depth choice)
    descends-stand uses old new remembers kept g found seen blamed first =
        moves-stand p q (set choices p.depth choice) p.depth 0 at near (omega arith) all-chosen first-from next uses old new remembers
        (length-set choices p.depth choice ∙ all) kept g found seen
        (λ j low. subst (λ c. IsBlamed l trees ranges p.places.items j (get_or p.places.items j 0) c (mark_at p.marks j))
        (sym (get_or-set_other choices p.depth j choice None (λ e. absurd (omega arith)))) (blamed j low))
        (subst (λ c. IsBlamed l trees ranges p.places.items p.depth 0 c (mark_at p.marks p.depth)) (sym (get_or-set_same choices p.depth choice None (omega (arith, all)))) first)

  module _ (uses : ℕ → ℕ → Bool) (p q : Place) (old : Memory) (choices : List (Option (List ℕ))) (k : ℕ) (st : Stands l uses trees ranges p old choices) (f : p.fresh ≡ false) (d : p.depth ≡ k + 1)
      (next : LandsNext (length (get_or ranges k [])) (get_or choices k None) k (get_or p.places.items k 0 + 1) p q) where
    near-last : k < length ranges
    near-last = let at = st.at in omega (arith, at.shallow)

    last-from : IsFrom cmp ranges p k (picked ranges (take k p.places.items)) (get_or p.places.items k 0 + 1)
    last-from = from-past cmp given.total (given.sound).ties ranges (given.sound).ascending p st.at k near-last f d

    pub retreats : GoesOn cmp (planted l trees) ranges after p q
    retreats = moves-on p q choices k (get_or p.places.items k 0 + 1) st.at near-last (omega arith) (λ j h. st.chosen j (omega arith)) last-from next

    pub retreats-stand : (new : Memory) → Forgets (k + 1) old new → Moves l uses trees ranges k q new choices
    retreats-stand new g =
        moves-stand p q choices k (get_or p.places.items k 0 + 1) st.at near-last (omega arith) (λ j h. st.chosen j (omega arith)) last-from next
        uses old new st.remembers st.all_choices st.kept g (λ j h. st.found j (omega arith)) (λ j h. st.seen j (omega arith)) (λ j h. st.blamed j (omega arith)) (st.past f k d)

  pub passes : (p q : Place) → IsAt ranges p → p.fresh ≡ true → q.fresh ≡ false → q.places.items ≡ p.places.items → q.depth ≡ p.depth
      → IsHopeless cmp l trees (length ranges) after (path ranges p) → GoesOn cmp (planted l trees) ranges after p q
  passes p q at f g ps d h =
      let same : path ranges q ≡ path ranges p = ap (λ is. picked ranges (take q.depth is)) ps ∙ ap (λ k. picked ranges (take k p.places.items)) d in
      let stairs : bound q ≡ bound p = ap (λ is. take q.depth is) ps ∙ ap (λ k. take k p.places.items) d in
      record {
        same = λ e ev. ap (λ b. reaches cmp b (path ranges p) e.row) f
            ∙ reaches-under cmp given.total true (path ranges p) e.row
            ∙ same-under cmp given.total (given.sound).ties (path ranges p) (λ _. true) (λ _. false) e.row
            (λ tail is. absurd (hopeless-none (path ranges p) (omega (arith, length-path ranges p at, at.shallow)) h e tail ev is))
            ∙ sym (reaches-under cmp given.total false (path ranges p) e.row)
            ∙ sym (ap (λ b. reaches cmp b (path ranges q) e.row) g ∙ ap (λ r. reaches cmp false r e.row) same);
        smaller =
            let a : steps_left ranges p ≡ below (drop p.depth ranges) + above ranges (bound p) = ap (λ b. cond b (below (drop p.depth ranges)) 1 + above ranges (bound p)) f in
            let z : steps_left ranges q ≡ 1 + above ranges (bound p) =
            ap (λ b. cond b (below (drop q.depth ranges)) 1 + above ranges (bound q)) g ∙ ap (λ is. 1 + above ranges is) stairs in
            omega (arith, a, z, enough (drop p.depth ranges));
      }

  -- ---- what a test finds

  -- what was found on the values before the last one
  pub before-found : (uses : ℕ → ℕ → Bool) (p : Place) (memo : Memory) (choices : List (Option (List ℕ))) → Stands l uses trees ranges p memo choices
      → (found_before p.found.items p.depth ≢ False) × IsSoFar l trees (path ranges p) (NeedsBelow l trees p.depth) (found_before p.found.items p.depth)
  before-found uses p memo choices st = go p.depth refl where
    go : (d : ℕ) → p.depth ≡ d → (found_before p.found.items d ≢ False) × IsSoFar l trees (path ranges p) (NeedsBelow l trees d) (found_before p.found.items d)
    go zero e = ((λ z. let y : True ≡ False = z in cc), so-none l trees (NeedsBelow l trees 0) (path ranges p) (λ j m h. omega arith))
    go (suc k) e =
        let f = st.found k (omega arith) in
        let last = last-value ranges p st.at k (omega (arith, e)) in
        let t = get_or p.found.items k True in (
          f.not_false,
          subst (λ row. IsSoFar l trees row (NeedsBelow l trees (suc k)) t) (sym last.2)
              (so-longer l trees (NeedsBelow l trees (suc k)) (picked ranges (take k p.places.items)) (last.0 ∷ []) t f.not_false
              (so-fewer l trees (NeedsWithin l trees k) (NeedsBelow l trees (suc k)) (picked ranges (take k p.places.items)) t (λ j m h. omega arith) f.so)),
        )

  pub finds-unreached : (row : List V) → is_reached cmp after (length ranges) row ≡ false → Finds cmp l trees (length ranges) after row False
  unfolding Finds
  finds-unreached row e = inl e

  pub finds-from : (row : List V) (t : Truth) → is_reached cmp after (length ranges) row ≡ true → IsSoFar l trees row (NeedsWithin l trees (length row)) t
      → Finds cmp l trees (length ranges) after row t
  unfolding Finds
  finds-from row False r h = inr (so-refuted l trees (NeedsWithin l trees (length row)) row h)
  finds-from row True r h = (r, h)
  finds-from row Out r h = (r, h)

  -- the same where memory may end
  pub finds-ok : {E : Type 0} (places numbers : List ℕ) (r : Result Truth E) → AreWithin ranges places → is_reached cmp after (length ranges) (picked ranges places) ≡ true
      → AreTouched l trees (length places) (length trees) numbers → IfOk r (IsSoFar l trees (picked ranges places) (IsAmong l trees (length places) numbers))
      → IfOk r (Finds cmp l trees (length ranges) after (picked ranges places))
  finds-ok places numbers (Err e) w reached touched h = tt
  finds-ok places numbers (Ok t) w reached touched h = finds-from (picked ranges places) t reached
      (subst (λ n. IsSoFar l trees (picked ranges places) (NeedsWithin l trees n) t) (sym (length-picked ranges places w))
      (so-within l trees (length places) (picked ranges places) numbers t touched h))

  -- False
  pub finds-hopeless : (row : List V) (t : Truth) → t ≡ False → Finds cmp l trees (length ranges) after row t → IsHopeless cmp l trees (length ranges) after row
  unfolding Finds
  finds-hopeless row False e h = h
  finds-hopeless row True e h = absurd (cc)
  finds-hopeless row Out e h = absurd (cc)

  -- or the truth of the conjuncts that need no more values
  pub finds-reached : (row : List V) (t : Truth) → t ≢ False → Finds cmp l trees (length ranges) after row t
      → (is_reached cmp after (length ranges) row ≡ true) × IsSoFar l trees row (NeedsWithin l trees (length row)) t
  unfolding Finds
  finds-reached row False ne h = absurd (ne refl)
  finds-reached row True ne h = h
  finds-reached row Out ne h = h

  pub finds-whole : (row : List V) (t : Truth) → length row ≡ length ranges → t ≢ False → Finds cmp l trees (length ranges) after row t → IsTruthOf (planted l trees) row t
  finds-whole row t long ne h = so-whole l trees (length row) row t (λ j m. let d = due j m in omega (arith, long)) ne (finds-reached row t ne h).1

  -- ---- answers

  over-ahead : (p : Place) → p.fresh ≡ false → p.depth ≡ 0 → ahead_of ranges p ≡ ended
  over-ahead p f d = ap (λ b. record { path = path ranges p; here = b }) f ∙ ap (λ r. record { path = r; here = false }) (ap (λ k. picked ranges (take k p.places.items)) d ∙ picked-nil ranges)

  none-ahead : (row : List V) → IsAhead cmp ended row → ⊥
  none-ahead row (inl e) = let z : Equal ≡ Less = e in cc
  none-ahead row (inr a) = false≢true a.0

  -- a search that has ended is over
  pub over-from : (p : Place) → IsAt ranges p → ahead_of ranges p ≡ ended → is_over p ≡ true
  over-from p at e =
      let none : path ranges p ≡ [] = ap (λ a. a.path) e in
      let f : p.fresh ≡ false = ap (λ a. a.here) e in
      let d : p.depth ≡ 0 = sym (length-path ranges p at) ∙ ap length none in
      ap (λ b. cond b false (eqb p.depth 0)) f ∙ ap (λ i. eqb i 0) d

  pub gives-end : (p : Place) → p.fresh ≡ false → p.depth ≡ 0 → Gives cmp (planted l trees) ranges after p End p
  gives-end p f d =
      let over = over-ahead p f d in (
        (λ e ev a. none-ahead e.row (subst (λ w. IsAhead cmp w e.row) over a)),
        over,
        ap (λ b. cond b false (eqb p.depth 0)) f ∙ ap (λ i. eqb i 0) d,
      )

  -- a whole row with its truth
  pub takes-whole : (p q : Place) (t : Truth) → IsAt ranges p → p.fresh ≡ true → length ranges ≤ p.depth
      → is_reached cmp after (length ranges) (path ranges p) ≡ true → IsTruthOf (planted l trees) (path ranges p) t → t ≢ False
      → q.fresh ≡ false → q.places.items ≡ p.places.items → q.depth ≡ p.depth
      → Takes cmp (planted l trees) ranges after (ahead_of ranges p) (record { row = path ranges q; truth = t }) (ahead_of ranges q) × (q.depth ≡ length ranges)
  takes-whole p q t at f whole reached truth ne g ps d =
      let same : path ranges q ≡ path ranges p = ap (λ is. picked ranges (take q.depth is)) ps ∙ ap (λ k. picked ranges (take k p.places.items)) d in
      let full : p.depth ≡ length ranges = omega (arith, at.shallow) in
      let len : length (path ranges p) ≡ length ranges = length-path ranges p at ∙ full in (
        subst (λ row. Takes cmp (planted l trees) ranges after (ahead_of ranges p) (record { row = row; truth = t }) (ahead_of ranges q)) (sym same) (record {
          event = record {
            within = IsRowOf-front ranges (path ranges p) (IsFrontOf-picked ranges (take p.depth p.places.items) at.within) len;
            later = IsLater-from cmp given.total after (length ranges) (path ranges p) (given.sound).named len reached;
            truth_of = truth;
            not_false = ne;
          };
          ahead = inr (f, take_all (length (path ranges p)) (path ranges p) (omega arith));
          first = first len;
          passed = ap (λ z. record { path = path ranges q; here = z }) g ∙ ap (λ r. record { path = r; here = false }) same;
        }),
        d ∙ full,
      ) where
        first : length (path ranges p) ≡ length ranges → (e : Event V) → IsEvent cmp (planted l trees) ranges after e → IsAhead cmp (ahead_of ranges p) e.row
            → (e ≡ record { row = path ranges p; truth = t }) ⊎ ComesAfter cmp (path ranges p) e.row
        first len e ev a =
            let m : length e.row ≡ length ranges = IsRowOf-length ranges e.row ev.within in
            let cut : take (length (path ranges p)) e.row ≡ e.row = take_all (length (path ranges p)) e.row (omega (arith, len)) in
            elim a [
              | inl c ↦ inr (subst (λ r. ComesAfter cmp (path ranges p) r) cut c)
              | inr h ↦ let row : e.row ≡ path ranges p = sym cut ∙ h.1 in
                  let is : e.truth ≡ t = IsTruthOf-only (planted l trees) one (path ranges p) (λ c n. let z = due c n in omega (arith, len)) e.truth t
                  (subst (λ r. IsTruthOf (planted l trees) r e.truth) row ev.truth_of) truth in
                  inl (ap (λ r. record { row = r; truth = e.truth }) row ∙ ap (λ u. record { row = path ranges p; truth = u }) is)
            ]

  -- ---- what follows steps that go on

  ahead-from : (p : Place) → IsAt ranges p → (e : Event V) → IsEvent cmp (planted l trees) ranges after e → reaches cmp p.fresh (path ranges p) e.row ≡ true → IsAhead cmp (ahead_of ranges p) e.row
  ahead-from p at e ev h = IsAhead-from cmp given.total (given.sound).ties p.fresh (path ranges p) e.row
      (let m = IsRowOf-length ranges e.row ev.within in omega (arith, length-path ranges p at, at.shallow)) h

  ahead-to : (p : Place) → IsAt ranges p → (e : Event V) → IsEvent cmp (planted l trees) ranges after e → IsAhead cmp (ahead_of ranges p) e.row → reaches cmp p.fresh (path ranges p) e.row ≡ true
  ahead-to p at e ev h = IsAhead-to cmp given.total (given.sound).ties p.fresh (path ranges p) e.row
      (let m = IsRowOf-length ranges e.row ev.within in omega (arith, length-path ranges p at, at.shallow)) h

  -- the same events are ahead, in the words of the definitions
  pub SameAhead-from : (p q : Place) → IsAt ranges p → IsAt ranges q → KeepsEvents cmp (planted l trees) ranges after p q
      → SameAhead cmp (planted l trees) ranges after (ahead_of ranges p) (ahead_of ranges q)
  SameAhead-from p q at bt same e ev = (
    (λ a. ahead-from q bt e ev (sym (same e ev) ∙ ahead-to p at e ev a)),
    (λ a. ahead-from p at e ev (same e ev ∙ ahead-to q bt e ev a)),
  )

  takes-on : (a b c : Ahead V) (e : Event V) → SameAhead cmp (planted l trees) ranges after a b → Takes cmp (planted l trees) ranges after b e c → Takes cmp (planted l trees) ranges after a e c
  takes-on a b c e same t = record {
    event = t.event;
    ahead = (same e t.event).1 t.ahead;
    first = λ f ev h. t.first f ev ((same f ev).0 h);
    passed = t.passed;
  }

  pub gives-on : (p q r : Place) (step : Step) → SameAhead cmp (planted l trees) ranges after (ahead_of ranges p) (ahead_of ranges q)
      → Gives cmp (planted l trees) ranges after q step r → Gives cmp (planted l trees) ranges after p step r
  gives-on p q r Holds same g = (takes-on (ahead_of ranges p) (ahead_of ranges q) (ahead_of ranges r) (record { row = path ranges r; truth = True }) same g.0, g.1)
  gives-on p q r Breaks same g = (takes-on (ahead_of ranges p) (ahead_of ranges q) (ahead_of ranges r) (record { row = path ranges r; truth = Out }) same g.0, g.1)
  gives-on p q r End same g = ((λ e ev a. g.0 e ev ((same e ev).0 a)), g.1, g.2)

-- a row on which a conjunct is False holds no event
pub finds-refuted : {V : Type 0} (cmp : V → V → Ordering) (l : Conjuncts V) (trees : List Tree) (n : ℕ) (after : Option (List V)) (row : List V)
    → IsRefuted l trees row → Finds cmp l trees n after row False
unfolding Finds
finds-refuted cmp l trees n after row h = inr h

-- there is no row where a range is empty
pub empty-none : {V : Type 0} (ranges : List (List V)) (k : ℕ) → k < length ranges → length (get_or ranges k []) ≡ 0 → (row : List V) → IsRowOf ranges row → ⊥
empty-none [] k near e row m = omega arith
empty-none (r ∷ ranges) k near e [] m = m
empty-none (r ∷ ranges) zero near e (v ∷ row) m = let w = m.0 in omega (arith, w.1)
empty-none (r ∷ ranges) (suc k) near e (v ∷ row) m = empty-none ranges k (omega arith) e row m.1

-- at first every event is ahead
pub ahead-begins : {V : Type 0} (cmp : V → V → Ordering) (s : Conjuncts V) (ranges : List (List V)) (after : Option (List V)) (a : Ahead V) → a ≡ begun → AreAllAhead cmp s ranges after a
ahead-begins cmp s ranges after a is e ev = subst (λ b. IsAhead cmp b e.row) (sym is) (inr (refl, refl))

pub ahead-first : {V : Type 0} (cmp : V → V → Ordering) (s : Conjuncts V) (ranges : List (List V)) (after : Option (List V)) (road : List V) (fresh : Bool)
    → road ≡ [] → (fresh ≡ false → (row : List V) → IsRowOf ranges row → ⊥)
    → AreAllAhead cmp s ranges after (record { path = road; here = fresh })
ahead-first cmp s ranges after road true e none ev is = ahead-begins cmp s ranges after (record { path = road; here = true }) (ap (λ r. record { path = r; here = true }) e) ev is
ahead-first cmp s ranges after road false e none ev is = absurd (none refl ev.row is.within)

pub setting-of : {V : Type 0} {cmp : V → V → Ordering} {l : Conjuncts V} {used : ℕ → ℕ → Bool} {trees : List Tree} {ranges : List (List V)} {after : Option (List V)} {planned : Plan}
    → IsTotalOrder cmp → HaveOneTruth l → KeepTruths l → IsSound cmp l used trees ranges after planned → Setting cmp l used trees ranges after planned
setting-of o one keep sound = record { total = o; one_truth = one; kept = keep; sound = sound }

-- no value is bound and nothing is known
pub stands-first : {V : Type 0} (l : Conjuncts V) (uses : ℕ → ℕ → Bool) (trees : List Tree) (ranges : List (List V)) (p : Place) (memo : Memory) (choices : List (Option (List ℕ)))
    → p.depth ≡ 0 → length p.places.items ≡ length ranges → length p.found.items ≡ length ranges → length p.seen.items ≡ length ranges → AreNew (length ranges) p.marks
    → IsNew l uses ranges memo → length choices ≡ length ranges → Stands l uses trees ranges p memo choices
stands-first l uses trees ranges p memo choices d long found seen marks new all = record {
  at = record {
    all_places = long;
    all_found = found;
    shallow = omega arith;
    within = subst (λ k. AreWithin ranges (take k p.places.items)) (sym d) (record { few = omega arith; each = λ k h. absurd (omega arith) });
    all_stamps = marks.all_stamps;
    all_marks = marks.all_choices;
    all_seen = seen;
  };
  remembers = record {
    dues = new.dues;
    tells = record {
      all = ap length new.none ∙ length-replicate l.number None;
      right = λ c t m n f. absurd (let z : get_or memo.truths c None ≡ None = ap (λ xs. get_or xs c None) new.none ∙ get_or-replicate l.number c None None m in cc);
    };
    tables = new.tables;
  };
  found = λ k m. absurd (omega arith);
  all_choices = all;
  kept = kept-first l trees ranges p.marks (bound p) choices marks;
  chosen = λ k m. absurd (omega arith);
  seen = λ k m. absurd (omega arith);
  blamed = λ k m. absurd (omega arith);
  past = λ f k e. absurd (omega arith);
}

-- a choice that was refused leaves all as it was
pub stands-refused : {V : Type 0} (l : Conjuncts V) (uses : ℕ → ℕ → Bool) (trees : List Tree) (ranges : List (List V)) (p : Place) (old new : Memory)
    (choices : List (Option (List ℕ))) (choice : Option (List ℕ))
    → Stands l uses trees ranges p old choices → p.depth < length ranges → Remembers l uses ranges (bound p) new
    → IsKept l trees ranges p.marks.stamps.items (bound p) p.depth choice (mark_at p.marks p.depth) → Stands l uses trees ranges p new (set choices p.depth choice)
stands-refused l uses trees ranges p old new choices choice st near remembers kept = record {
  at = st.at;
  remembers = remembers;
  found = st.found;
  all_choices = length-set choices p.depth choice ∙ st.all_choices;
  kept = kept-chosen l trees ranges p.marks p.marks (bound p) choices p.depth choice (omega (arith, st.all_choices)) refl (λ d ne. refl) st.kept kept;
  chosen = λ k m. subst (IsChoice l trees ranges (picked ranges (take k p.places.items)) (get_or ranges k []))
      (sym (get_or-set_other choices p.depth k choice None (λ e. absurd (omega arith)))) (st.chosen k m);
  seen = st.seen;
  blamed = λ k m. subst (λ c. IsBlamed l trees ranges p.places.items k (get_or p.places.items k 0) c (mark_at p.marks k))
      (sym (get_or-set_other choices p.depth k choice None (λ e. absurd (omega arith)))) (st.blamed k m);
  past = λ f k e. subst (λ c. IsBlamed l trees ranges p.places.items k (get_or p.places.items k 0 + 1) c (mark_at p.marks k))
      (sym (get_or-set_other choices p.depth k choice None (λ z. absurd (omega arith)))) (st.past f k e);
}
