-- Where a range is exhausted: back to the last value that its values are to be blamed on.
use Rattle.zf_plan.proofs.Prelude.{◌++◌, ◌+◌, ◌<◌, ◌∙◌, ◌∷◌, ◌≡◌, ◌≤◌, ◌⊎◌, [], ap, arith, cond, drop, false, false≢true, get_or, get_or-take, inl, inr, length, length-take-le, List, None, Option, refl, subst, suc, sym, take, take-append-drop, take-take, true, zero, ℕ, cases_eq, above, below, AreWithin, bound, Bool, Conjuncts, Event, first_of, IsAt, IsEvent, IsHopeless, IsRowOf, KeepsEvents, Ordering, path, picked, Place, planted, reaches, reaches-under, Remembers, Stands, steps_left, Tree, under, bit_or, FollowUsed, HasBit, Accuses, IsBlamed, IsCounted, IsKept, IsRefuted, Jumps, mark_at, Memory, Passes, PassesOpen, Mark, Marks, Plan}
use Rattle.zf_plan.proofs.Blaming.{AreBarren, blamed-as, blamed-more, blamed-open, refuted-barren, spent-barren}
use Rattle.zf_plan.proofs.Knowing.{picked-take}
use Rattle.zf_plan.proofs.Moving.{length-bound, same-under, within-front}
use Rattle.zf_plan.proofs.Stepping.{failed-none, Moves, Rests, Setting}

-- ---- rows after a road

reaches-behind : {V : Type 0} (cmp : V → V → Ordering) (here : Bool) (road rest row : List V) → reaches cmp here (road ++ rest) row ≡ under cmp road (reaches cmp here rest) row
reaches-behind cmp here [] rest row = refl
reaches-behind cmp here (x ∷ road) rest [] = refl
reaches-behind cmp here (x ∷ road) rest (v ∷ row) = ap (first_of (cmp x v)) (reaches-behind cmp here road rest row)

above-front : {V : Type 0} (ranges : List (List V)) (places : List ℕ) (n : ℕ) → above ranges (take n places) ≤ above ranges places
above-front [] places n = omega arith
above-front (r ∷ ranges) [] zero = omega arith
above-front (r ∷ ranges) [] (suc n) = omega arith
above-front (r ∷ ranges) (i ∷ places) zero = omega arith
above-front (r ∷ ranges) (i ∷ places) (suc n) = let ih = above-front ranges places n in omega (arith, ih)

-- ---- what is remembered and kept of fewer values, whatever is noted of a range

module _ {V : Type 0} (l : Conjuncts V) (uses : ℕ → ℕ → Bool) (trees : List Tree) (ranges : List (List V)) (places : List ℕ) (n : ℕ) (few : n ≤ length places) where
  remembers-front : (m : Memory) → Remembers l uses ranges places m → Remembers l uses ranges (take n places) m
  remembers-front m r = let told = r.tells in record {
    dues = r.dues;
    tells = record {
      all = told.all;
      right = λ c t k d e.
          let low : l.due c ≤ n = omega (arith, d, length-take-le n places few) in
          subst (λ js. l.says c (picked ranges js) t) (sym (take-take (l.due c) n places low)) (told.right c t k (omega (arith, low, few)) e);
    };
    tables = r.tables;
  }

  kept-front : (stamps : List ℕ) (k : ℕ) (choice : Option (List ℕ)) (mark : Mark) → IsKept l trees ranges stamps places k choice mark → IsKept l trees ranges stamps (take n places) k choice mark
  kept-front stamps k choice mark h = record {
    few = h.few;
    past = h.past;
    small = h.small;
    still = λ is within others w long first.
        let low : mark.due ≤ n = omega (arith, within, length-take-le n places few) in
        h.still is (omega (arith, low, few)) others w long (first ∙ take-take mark.due n places low);
  }

pub kept-as : {V : Type 0} (l : Conjuncts V) (trees : List Tree) (ranges : List (List V)) (stamps places : List ℕ) (k : ℕ) (choice : Option (List ℕ))
    (old new : Mark) → new.due ≡ old.due → new.stamp ≡ old.stamp
    → IsKept l trees ranges stamps places k choice old → IsKept l trees ranges stamps places k choice new
kept-as l trees ranges stamps places k choice old new due stamp h =
    let is : new ≡ record { due = old.due; stamp = old.stamp; is_open = new.is_open; blame = new.blame } =
    ap (λ (d : ℕ). record new { due = d }) due ∙ ap (λ (s : ℕ). record { due = old.due; stamp = s; is_open = new.is_open; blame = new.blame }) stamp in
    subst (IsKept l trees ranges stamps places k choice) (sym is) (record { few = h.few; past = h.past; small = h.small; still = h.still })

pub accuses-due : (range : ℕ) (is_open : Bool) (blame : ℕ) (old new : Marks) → Accuses range is_open blame old new → (k : ℕ) → (mark_at new k).due ≡ (mark_at old k).due
accuses-due range is_open blame old new h k = elim (cases_eq k range) [
  | inl e ↦ subst (λ i. (mark_at new i).due ≡ (mark_at old i).due) (sym e) h.due
  | inr ne ↦ ap (λ (m : Mark). m.due) (h.others k ne)
]

pub accuses-stamp : (range : ℕ) (is_open : Bool) (blame : ℕ) (old new : Marks) → Accuses range is_open blame old new → (k : ℕ) → (mark_at new k).stamp ≡ (mark_at old k).stamp
accuses-stamp range is_open blame old new h k = elim (cases_eq k range) [
  | inl e ↦ subst (λ i. (mark_at new i).stamp ≡ (mark_at old i).stamp) (sym e) h.stamp
  | inr ne ↦ ap (λ (m : Mark). m.stamp) (h.others k ne)
]

-- ---- fewer values, and other notes

-- notes that leave of each choice what it was made of
pub record AreNotes (old new : Marks) : Type 0 where
  pub stamps : new.stamps.items ≡ old.stamps.items
  pub all : length new.choices.items ≡ length old.choices.items
  pub due : (k : ℕ) → (mark_at new k).due ≡ (mark_at old k).due
  pub stamp : (k : ℕ) → (mark_at new k).stamp ≡ (mark_at old k).stamp

pub notes-same : (old new : Marks) → new ≡ old → AreNotes old new
notes-same old new e = record {
  stamps = ap (λ (m : Marks). m.stamps.items) e;
  all = ap (λ (m : Marks). length m.choices.items) e;
  due = λ k. ap
      (λ (m : Marks). (mark_at m k).due) e;
  stamp = λ k. ap (λ (m : Marks). (mark_at m k).stamp) e;
}

pub notes-of : (range : ℕ) (is_open : Bool) (blame : ℕ) (old new : Marks) → Accuses range is_open blame old new → AreNotes old new
notes-of range is_open blame old new h = record { stamps = h.stamps; all = h.all; due = accuses-due range is_open blame old new h; stamp = accuses-stamp range is_open blame old new h }

module _ {V : Type 0} (l : Conjuncts V) (uses : ℕ → ℕ → Bool) (trees : List Tree) (ranges : List (List V)) (q : Place) (memo : Memory)
    (choices : List (Option (List ℕ))) (st : Rests l uses trees ranges q memo choices)
    (d : ℕ) (low : d ≤ q.depth) (b : Bool) (m : Marks) where
  abbrev gone : Place
  gone = record q { depth = d; fresh = b; marks = m }

  pub front : bound gone ≡ take d (bound q)
  front = sym (take-take d q.depth q.places.items low)

  pub lowered : AreNotes q.marks m → ((k : ℕ) → k < d → IsBlamed l trees ranges q.places.items k (get_or q.places.items k 0) (get_or choices k None) (mark_at m k))
      → (b ≡ false → (k : ℕ) → d ≡ k + 1 → IsBlamed l trees ranges q.places.items k (get_or q.places.items k 0 + 1) (get_or choices k None) (mark_at m k))
      → Stands l uses trees ranges gone memo choices
  lowered notes blamed past =
      let at = st.at in
      let few : d ≤ length (bound q) = omega (arith, low, length-bound ranges q at) in
      record {
        at = record {
          all_places = at.all_places;
          all_found = at.all_found;
          shallow = let a = at.shallow in omega (arith, low, a);
          within = within-front ranges q at d low;
          all_stamps = ap length notes.stamps ∙ at.all_stamps;
          all_marks = notes.all ∙ at.all_marks;
          all_seen = at.all_seen;
        };
        remembers = subst (λ js. Remembers l uses ranges js memo) (sym front) (remembers-front l uses trees ranges (bound q) d few memo st.remembers);
        found = λ j n. st.found j (omega (arith, n, low));
        all_choices = st.all_choices;
        kept = λ c near. subst (λ js. IsKept l trees ranges m.stamps.items js c (get_or choices c None) (mark_at m c)) (sym front)
            (subst (λ ss. IsKept l trees ranges ss (take d (bound q)) c (get_or choices c None) (mark_at m c)) (sym notes.stamps)
            (kept-as l trees ranges q.marks.stamps.items (take d (bound q)) c (get_or choices c None) (mark_at q.marks c) (mark_at m c) (notes.due c) (notes.stamp c)
            (kept-front l uses trees ranges (bound q) d few q.marks.stamps.items c (get_or choices c None) (mark_at q.marks c) (st.kept c near))));
        chosen = λ j n. st.chosen j (omega (arith, n, low));
        seen = λ j n. st.seen j (omega (arith, n, low));
        blamed = blamed;
        past = past;
      }

  -- the last value is open
  pub lowered-open : (last : ℕ) → d ≡ last + 1 → Accuses last true 0 q.marks m → Stands l uses trees ranges gone memo choices
  lowered-open last deep notes =
      lowered (notes-of last true 0 q.marks m notes)
      (λ k n. elim (cases_eq k last) [
        | inl e ↦ blamed-open l trees ranges q.places.items k (get_or q.places.items k 0) (get_or choices k None) (mark_at m k) (ap (λ i. (mark_at m i).is_open) e ∙ notes.is_open)
        | inr ne ↦ subst (IsBlamed l trees ranges q.places.items k (get_or q.places.items k 0) (get_or choices k None)) (sym (notes.others k ne)) (st.blamed k (omega (arith, n, low)))
      ])
      (λ f k e. let same : k ≡ last = omega (arith, e, deep) in
      blamed-open l trees ranges q.places.items k (get_or q.places.items k 0 + 1) (get_or choices k None) (mark_at m k) (ap (λ i. (mark_at m i).is_open) same ∙ notes.is_open))

  -- the last value is to be blamed on more
  pub lowered-blamed : (last word : ℕ) → d ≡ last + 1 → AreBarren l trees ranges word q.places.items (last + 1)
      → Accuses last (mark_at q.marks last).is_open (bit_or (mark_at q.marks last).blame word) q.marks m → Stands l uses trees ranges gone memo choices
  lowered-blamed last word deep barren notes =
      let at = st.at in
      let near : last < length ranges = let a = at.shallow in omega (arith, a, low, deep) in
      let whole : IsBlamed l trees ranges q.places.items last (get_or q.places.items last 0 + 1) (get_or choices last None) (mark_at m last) =
      blamed-more l trees ranges q.places.items last near (get_or choices last None) (mark_at q.marks last) (mark_at m last) word
      (st.blamed last (omega (arith, low, deep))) barren notes.is_open notes.blame in
      let here : (k : ℕ) → k ≡ last → IsBlamed l trees ranges q.places.items k (get_or q.places.items k 0 + 1) (get_or choices k None) (mark_at m k) =
      λ k e. subst (λ i. IsBlamed l trees ranges q.places.items i (get_or q.places.items i 0 + 1) (get_or choices i None) (mark_at m i)) (sym e) whole in
      lowered (notes-of last (mark_at q.marks last).is_open (bit_or (mark_at q.marks last).blame word) q.marks m notes)
      (λ k n. elim (cases_eq k last) [
        | inl e ↦ blamed-as l trees ranges q.places.items q.places.items k (get_or q.places.items k 0 + 1) (get_or q.places.items k 0) (get_or choices k None)
            (get_or choices k None) (mark_at m k) (mark_at m k)
            (λ i z. refl) (omega arith) refl refl (here k e)
        | inr ne ↦ subst (IsBlamed l trees ranges q.places.items k (get_or q.places.items k 0) (get_or choices k None)) (sym (notes.others k ne)) (st.blamed k (omega (arith, n, low)))
      ])
      (λ f k e. here k (omega (arith, e, deep)))

-- ---- the jump

-- what a jump leaves
pub record Jumped {V : Type 0} (cmp : V → V → Ordering) (l : Conjuncts V) (uses : ℕ → ℕ
    → Bool) (trees : List Tree) (ranges : List (List V)) (after : Option (List V)) (q r : Place) (memo : Memory)
    (choices : List (Option (List ℕ))) : Type 0 where
  pub stands : Stands l uses trees ranges r memo choices
  pub keeps : KeepsEvents cmp (planted l trees) ranges after q r
  pub fewer : steps_left ranges r ≤ steps_left ranges q

module _ {V : Type 0} {cmp : V → V → Ordering} {l : Conjuncts V} {used : ℕ → ℕ
    → Bool} {trees : List Tree} {ranges : List (List V)} {after : Option (List V)} {planned : Plan}
    (given : Setting cmp l used trees ranges after planned) where
  module _ (uses : ℕ → ℕ → Bool) (q : Place) (memo : Memory) (choices : List (Option (List ℕ))) (k : ℕ) (moved : Moves l uses trees ranges k q memo choices) (near : k < length ranges) where
    module _ (f : q.fresh ≡ false) (closed : (mark_at q.marks q.depth).is_open ≡ false) (d : ℕ) (low : d ≤ q.depth) (none : (i : ℕ) → d ≤ i → i < q.depth
        → HasBit (mark_at q.marks q.depth).blame i → ⊥) (m : Marks) where
      abbrev back : Place
      back = record q { depth = d; marks = m }

      word : ℕ
      word = (mark_at q.marks q.depth).blame

      at : IsAt ranges q
      at = let r = moved.rest in r.at

      deep : q.depth ≡ k
      deep = let s = moved.spent f in s.deep

      barren : AreBarren l trees ranges (mark_at q.marks q.depth).blame q.places.items d
      barren =
          let s = moved.spent f in
          subst (λ i. AreBarren l trees ranges (mark_at q.marks i).blame q.places.items d) (sym deep)
          (spent-barren l trees ranges q.places.items k near (get_or choices k None) (mark_at q.marks k) s.blamed
          (subst (λ i. (mark_at q.marks i).is_open ≡ false) deep closed) d (omega (arith, low, deep))
          (λ i a b h. none i a (omega (arith, b, deep)) (subst (λ j. HasBit (mark_at q.marks j).blame i) (sym deep) h)))

      front-back : bound back ≡ take d (bound q)
      front-back = sym (take-take d q.depth q.places.items low)

      long-back : length (bound back) ≡ d
      long-back = length-take-le d q.places.items (let a = at in omega (arith, low, a.all_places, a.shallow))

      -- no event begins with the values that are left
      none-there : (e : Event V) (tail : List V) → IsEvent cmp (planted l trees) ranges after e → path ranges back ++ tail ≡ e.row → ⊥
      none-there e tail ev is =
          failed-none given (path ranges back ++ tail) e ev is
          (barren (bound back) (within-front ranges q at d low) long-back
          (λ i short bit. get_or-take d q.places.items i 0 (omega (arith, short, long-back))) tail (subst (IsRowOf ranges) (sym is) ev.within))

      back-keeps : KeepsEvents cmp (planted l trees) ranges after q back
      back-keeps e ev =
          let whole = path ranges q in
          let road = path ranges back in
          let rest = drop d whole in
          let a : AreWithin ranges (bound q) = let z = at in z.within in
          let split : whole ≡ road ++ rest = sym (take-append-drop d whole) ∙ ap (λ r. r ++ rest) (sym (ap (picked ranges) front-back ∙ picked-take ranges (bound q) d a)) in
          ap (λ b. reaches cmp b whole e.row) f ∙ ap (λ r. reaches cmp false r e.row) split ∙ reaches-behind cmp false road rest e.row
          ∙ same-under cmp given.total (given.sound).ties road (reaches cmp false rest) (λ _. false) e.row (λ tail is. absurd (none-there e tail ev is))
          ∙ sym (reaches-under cmp given.total false road e.row) ∙ sym (ap (λ b. reaches cmp b road e.row) f)

      back-fewer : steps_left ranges back ≤ steps_left ranges q
      back-fewer =
          let a : steps_left ranges q ≡ 1 + above ranges (bound q) = ap (λ b. cond b (below (drop q.depth ranges)) 1 + above ranges (bound q)) f in
          let b : steps_left ranges back ≡ 1 + above ranges (take d (bound q)) = ap (λ b. cond b (below (drop d ranges)) 1 + above ranges (bound back)) f ∙ ap (λ is. 1 + above ranges is) front-back in
          omega (arith, a, b, above-front ranges (bound q) d)

      pub back-jumped : ((d ≡ 0) × (m ≡ q.marks)) ⊎ (last : ℕ) × (d ≡ last + 1)
          × Accuses last (mark_at q.marks last).is_open (bit_or (mark_at q.marks last).blame (mark_at q.marks q.depth).blame) q.marks m
          → Jumped cmp l uses trees ranges after q back memo choices
      back-jumped (inl (none', same)) = record {
        stands = lowered l uses trees ranges q memo choices moved.rest d low q.fresh m (notes-same q.marks m same) (λ j n. absurd (omega (arith, n, none')))
            (λ z j e. absurd (omega (arith, e, none')));
        keeps = back-keeps;
        fewer = back-fewer;
      }
      back-jumped (inr (last, e, notes)) = record {
        stands = lowered-blamed l uses trees ranges q memo choices moved.rest d low q.fresh m last (mark_at q.marks q.depth).blame e
            (subst (AreBarren l trees ranges (mark_at q.marks q.depth).blame q.places.items) e barren) notes;
        keeps = back-keeps;
        fewer = back-fewer;
      }

    pub jumps : (plain : Bool) (r : Place) → Jumps plain q r → Jumped cmp l uses trees ranges after q r memo choices
    jumps plain r (inl (same, why)) = subst (λ w. Jumped cmp l uses trees ranges after q w memo choices) (sym same) (record {
      stands = lowered l uses trees ranges q memo choices moved.rest q.depth (omega arith) q.fresh q.marks (notes-same q.marks q.marks refl) (let t = moved.rest in t.blamed)
          (λ f j e. elim why [ inl still ↦ absurd (false≢true (sym f ∙ still)) | inr none ↦ absurd (omega (arith, none, e)) ]);
      keeps = λ e ev. refl;
      fewer = omega arith;
    })
    jumps plain r (inr (inl h)) = subst (λ w. Jumped cmp l uses trees ranges after q w memo choices) (sym h.is) (record {
      stands = lowered-open l uses trees ranges q memo choices moved.rest q.depth (omega arith) q.fresh r.marks h.last h.deep h.marks;
      keeps = λ e ev. refl;
      fewer = omega arith;
    })
    jumps plain r (inr (inr (closed, h))) = subst (λ w. Jumped cmp l uses trees ranges after q w memo choices) (sym h.is) (back-jumped h.fresh h.closed r.depth h.low h.none r.marks h.marks)

  -- ---- a row that is passed

  pub passes-open-stand : (uses : ℕ → ℕ → Bool) (p q : Place) (memo : Memory) (choices : List (Option (List ℕ))) → Rests l uses trees ranges p memo choices
      → PassesOpen p q → Stands l uses trees ranges q memo choices
  passes-open-stand uses p q memo choices st (inl (none, is)) = subst (λ w. Stands l uses trees ranges w memo choices) (sym is)
      (lowered l uses trees ranges p memo choices st p.depth (omega arith) false p.marks (notes-same p.marks p.marks refl) st.blamed (λ f j e. absurd (omega (arith, none, e))))
  passes-open-stand uses p q memo choices st (inr (last, deep, is, notes)) = subst (λ w. Stands l uses trees ranges w memo choices) (sym is)
      (lowered-open l uses trees ranges p memo choices st p.depth (omega arith) false q.marks last deep notes)

  pub passes-stand : FollowUsed l used → (p q : Place) (memo : Memory) (choices : List (Option (List ℕ))) → Rests l used trees ranges p memo choices
      → IsHopeless cmp l trees (length ranges) after (path ranges p)
      → Passes cmp l used trees ranges after p q → Stands l used trees ranges q memo choices
  passes-stand follow p q memo choices st hopeless (inl h) = passes-open-stand used p q memo choices st h
  passes-stand follow p q memo choices st hopeless (inr (last, deep, is, reached, word, covers, notes)) =
      let at = st.at in
      let refuted : IsRefuted l trees (path ranges p) = elim hopeless [ inl not ↦ absurd (false≢true (sym not ∙ reached)) | inr r ↦ r ] in
      let barren = refuted-barren l used trees ranges follow (given.sound).due (given.sound).leaves word p.places.items p.depth at.within (length-bound ranges p at) covers refuted in
      subst (λ w. Stands l used trees ranges w memo choices) (sym is)
      (lowered-blamed l used trees ranges p memo choices st p.depth (omega arith) false q.marks last word deep (subst (AreBarren l trees ranges word p.places.items) deep barren) notes)

-- nothing but a mark of the last value is other where a row is passed
pub opened-is : (p q : Place) → PassesOpen p q → q ≡ record p { fresh = false; marks = q.marks }
opened-is p q (inl (none, is)) = is ∙ ap (λ (m : Marks). record p { fresh = false; marks = m }) (sym (ap (λ (w : Place). w.marks) is))
opened-is p q (inr (last, deeper, is, notes)) = is

pub passed-is : {V : Type 0} (cmp : V → V → Ordering) (l : Conjuncts V) (uses : ℕ → ℕ → Bool) (trees : List Tree) (ranges : List (List V)) (after : Option (List V)) (p q : Place)
    → Passes cmp l uses trees ranges after p q → q ≡ record p { fresh = false; marks = q.marks }
passed-is cmp l uses trees ranges after p q (inl h) = opened-is p q h
passed-is cmp l uses trees ranges after p q (inr (last, deeper, is, reached, bits, covers, notes)) = is

-- where tests are counted there is no jump
pub jumps-counted : {V : Type 0} (cmp : V → V → Ordering) (l : Conjuncts V) (ranges : List (List V)) (after : Option (List V)) (plain : Bool) (q r : Place)
    (tests : ℕ) (choices : List (Option (List ℕ))) → plain ≡ true → Jumps plain q r
    → IsCounted cmp l ranges after q tests choices → IsCounted cmp l ranges after r tests choices
jumps-counted cmp l ranges after plain q r tests choices e (inl (same, why)) h = subst (λ w. IsCounted cmp l ranges after w tests choices) (sym same) h
jumps-counted cmp l ranges after plain q r tests choices e (inr (inl o)) h =
    subst (λ w. IsCounted cmp l ranges after w tests choices) (sym o.is) (record { counts = h.counts; whole = h.whole; unseen = h.unseen })
jumps-counted cmp l ranges after plain q r tests choices e (inr (inr (no', b))) h = absurd (false≢true (sym no' ∙ e))
