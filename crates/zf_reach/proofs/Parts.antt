-- How a turn goes on by the parts of its edges.
use Rattle.zf_reach.proofs.Prelude.{◌++◌, ◌+◌, ◌<◌, ◌≡◌, ◌⊎◌, ◌∷◌, ◌∙◌, [], ap, arith, Appends, Appends-nil, AppendsFront, AtTurn, Bool, broken, cases_Bool, cases_lt, ended, some_at, Closes, cond, cond-false, cond-true, counted, Edge, edge_text, Explored, false, inl, InParts, inr, InTurn, IsFull, IsStuck, KeepsNodes, length, list_any, List, node_at, no_turn, Option, paused, place_within, refl, slice_get, Some, StopsEarly, subst, sym, true, Turn, with_edge, with_node, Words, ℕ, length-map, at_left, one_at}
use Rattle.zf_reach.proofs.Running.{at_over_edges, at_over_stuck, closes_broken, closes_ended, closes_paused, in_begun, in_passed, stops_before, stops_in, stops_in_edge, stops_in_stray, stops_in_stuck_line}

-- ---- what is met stays

pub keeps_same : {N : Type 0} (nodes : List N) → KeepsNodes nodes nodes
keeps_same nodes place node at = at

pub keeps_more : {N : Type 0} (eq : N → N → Bool) (first nodes later : List N) (to : N) → KeepsNodes first nodes → later ≡ with_node eq nodes to → KeepsNodes first later
keeps_more eq first nodes later to keeps is place node at = subst (λ ns. slice_get ns place ≡ Some node) (sym is) (go (cases_Bool (list_any (eq to) nodes)))
  where
    go : (list_any (eq to) nodes ≡ true) ⊎ (list_any (eq to) nodes ≡ false) → slice_get (with_node eq nodes to) place ≡ Some node
    go (inl known) = subst (λ ns. slice_get ns place ≡ Some node) (sym (cond-true (list_any (eq to) nodes) nodes (nodes ++ to ∷ []) known)) (keeps place node at)
    go (inr fresh) = subst (λ ns. slice_get ns place ≡ Some node) (sym (cond-false (list_any (eq to) nodes) nodes (nodes ++ to ∷ []) fresh)) (at_left nodes (to ∷ []) place node (keeps place node at))

module _ {N L : Type 0} (p : Explored N L) (w : Words N L) (limit : ℕ) (origin : Option (List ℕ)) where
  -- a turn begins
  pub parts_begun : (HasPassed : N → ℕ → Turn N L → Type 0) (old new : Option (List ℕ)) (nodes : List N) (place edges : ℕ) (of : N) (now : Turn N L)
      (stray : Bool) → AtTurn p w limit origin old nodes place edges
      → slice_get nodes place ≡ Some of → now ≡ record { stray = stray; edges = [] } → p.BeginsTurn of now → HasPassed of 0 now → Appends old new (cond stray (w.stray place) [])
      → InParts p w limit (λ of' now'. HasPassed of' 0 now') origin new nodes place edges true
  parts_begun HasPassed old new nodes place edges of now stray t at is begins passed more = record {
    node = of;
    now = now;
    stands = passed;
    begins = begins;
    is_stuck = subst (λ u. u.edges ≡ []) (sym is) refl;
    in_turn = subst (λ u. InTurn p w limit origin new of u nodes place edges) (sym is) (in_begun p w limit origin old nodes place edges t of stray new at more);
  }

  -- the same of what is seen afterwards
  pub opened : (HasPassed : N → ℕ → Turn N L → Type 0) (old new : Option (List ℕ)) (nodes : List N) (place edges : ℕ) (of : N) (now : Turn N L) (stray : Bool)
      → AtTurn p w limit origin old nodes place edges
      → slice_get nodes place ≡ Some of → now ≡ record { stray = stray; edges = [] } → p.BeginsTurn of now → HasPassed of 0 now → Appends old new (cond stray (w.stray place) [])
      → (keys : List N) (at' count : ℕ) (stuck : Bool) → keys ≡ nodes → at' ≡ place → count ≡ edges → stuck ≡ true
      → InParts p w limit (λ of' now'. HasPassed of' 0 now') origin new keys at' count stuck
  opened HasPassed old new nodes place edges of now stray t at is begins passed more keys at' count stuck k a c n =
      subst (λ x. InParts p w limit (λ of' now'. HasPassed of' 0 now') origin new x at' count stuck) (sym k)
      (subst (λ x. InParts p w limit (λ of' now'. HasPassed of' 0 now') origin new nodes x count stuck) (sym a)
      (subst (λ x. InParts p w limit (λ of' now'. HasPassed of' 0 now') origin new nodes place x stuck) (sym c)
      (subst (λ x. InParts p w limit (λ of' now'. HasPassed of' 0 now') origin new nodes place edges x) (sym n)
      (parts_begun HasPassed old new nodes place edges of now stray t at is begins passed more))))

  -- a turn that breaks off before it begins
  pub closes_unopened : (old : Option (List ℕ)) (nodes : List N) (place edges : ℕ) (of : N) (stop : List ℕ) → AtTurn p w limit origin old nodes place edges
      → slice_get nodes place ≡ Some of → p.BreaksTurn of no_turn stop
      → (keys : List N) (count : ℕ) → keys ≡ nodes → count ≡ edges → Closes p w limit (broken stop) origin old keys count
  closes_unopened old nodes place edges of stop t at break keys count k c =
      subst (λ x. Closes p w limit (broken stop) origin old x count) (sym k)
      (subst (λ x. Closes p w limit (broken stop) origin old nodes x) (sym c)
      (closes_broken p w limit origin old of no_turn nodes place edges (in_begun p w limit origin old nodes place edges t of false old at (Appends-nil old)) stop break))

  -- a turn is due
  pub stops_unopened : (old : Option (List ℕ)) (nodes : List N) (place edges : ℕ) → AtTurn p w limit origin old nodes place edges → place < length nodes → StopsEarly p w limit origin old
  stops_unopened old nodes place edges t lt = let b = some_at nodes place lt in stops_before p w limit origin old nodes place edges t b.0 b.1

  pub stops_in_mark : (old new : Option (List ℕ)) (nodes : List N) (place edges : ℕ) (of : N) (now : Turn N L) → AtTurn p w limit origin old nodes place edges → slice_get nodes place ≡ Some of
      → now ≡ record { stray = true; edges = [] } → p.BeginsTurn of now → (place' : ℕ) → place' ≡ place → AppendsFront old new (w.stray place') → StopsEarly p w limit origin new
  stops_in_mark old new nodes place edges of now t at is begins place' same front =
      stops_in_stray p w limit origin old nodes place edges t of new at (subst (λ u. p.BeginsTurn of u) is begins) (subst (λ k. AppendsFront old new (w.stray k)) same front)

  pub opened_mark : (HasPassed : N → ℕ → Turn N L → Type 0) (old new : Option (List ℕ)) (nodes : List N) (place edges : ℕ) (of : N) (now : Turn N L) → AtTurn p w limit origin old nodes place edges
      → slice_get nodes place ≡ Some of → now ≡ record { stray = true; edges = [] } → p.BeginsTurn of now → HasPassed of 0 now → (place' : ℕ) → place' ≡ place → Appends old new (w.stray place')
      → (keys : List N) (at' count : ℕ) (stuck : Bool) → keys ≡ nodes → at' ≡ place → count ≡ edges → stuck ≡ true
      → InParts p w limit (λ of' now'. HasPassed of' 0 now') origin new keys at' count stuck
  opened_mark HasPassed old new nodes place edges of now t at is begins passed place' same more = opened HasPassed old new nodes place edges of now true t at
      is begins passed (subst (λ k. Appends old new (w.stray k)) same more)

  -- the whole ends where no turn is due
  pub closes_all : (old : Option (List ℕ)) (nodes : List N) (place edges : ℕ) → AtTurn p w limit origin old nodes place edges → (place < length nodes → ⊥)
      → Closes p w limit ended origin old nodes edges
  closes_all old nodes place edges t none = closes_ended p w limit origin old nodes place edges t (elim (cases_lt place (length nodes)) [ inl lt ↦ absurd (none lt) | inr ge ↦ ge ])

  -- a turn that is due is one of the limit's
  pub due_within : (old : Option (List ℕ)) (nodes : List N) (place edges : ℕ) → AtTurn p w limit origin old nodes place edges → place < length nodes → place < limit
  due_within old nodes place edges t lt = let l = t.stands.within in let m = ap (λ ns. length ns) t.stands.of_nodes in let k = length-map t.stands.met (λ x. x.node) in omega (arith, lt, l, m, k)

  module _ (Stands : N → Turn N L → Type 0) (old : Option (List ℕ)) (nodes : List N) (place edges : ℕ) (stuck : Bool) (t : InParts p w limit Stands origin old nodes place edges stuck) where
    pub stops_in_part : StopsEarly p w limit origin old
    stops_in_part = stops_in p w limit origin old t.node t.now nodes place edges t.in_turn t.begins

    pub part_node : slice_get nodes place ≡ Some t.node
    part_node = node_at p w limit t.node t.now nodes place t.in_turn.inner t.in_turn.text t.in_turn.stands

    pub part_within : place < length nodes
    part_within = place_within p w limit t.node t.now nodes place t.in_turn.inner t.in_turn.text t.in_turn.stands

    -- the same with another relation
    pub parts_on : (Next : N → Turn N L → Type 0) → (Stands t.node t.now → Next t.node t.now) → InParts p w limit Next origin old nodes place edges stuck
    parts_on Next f = record { node = t.node; now = t.now; stands = f t.stands; begins = t.begins; is_stuck = t.is_stuck; in_turn = t.in_turn }

    -- the search for the next part begins
    pub parts_started : (Next : N → Turn N L → Type 0) → ((of : N) → slice_get nodes place ≡ Some of → (now : Turn N L) → Stands of now → Next of now)
        → (keys : List N) (at' count : ℕ) (now_stuck : Bool) → keys ≡ nodes → at' ≡ place → count ≡ edges → now_stuck ≡ stuck → InParts p w limit Next origin old keys at' count now_stuck
    parts_started Next starts keys at' count now_stuck k a c n =
        subst (λ x. InParts p w limit Next origin old x at' count now_stuck) (sym k)
        (subst (λ x. InParts p w limit Next origin old nodes x count now_stuck) (sym a)
        (subst (λ x. InParts p w limit Next origin old nodes place x now_stuck) (sym c)
        (subst (λ x. InParts p w limit Next origin old nodes place edges x) (sym n)
        (parts_on Next (starts t.node part_node t.now)))))

    module _ (e : Edge N L) (begins : p.BeginsTurn t.node (with_edge t.now e)) (new : Option (List ℕ)) where
      pub stops_at_edge : (shown : List ℕ) → shown ≡ edge_text w p.eq place nodes e → AppendsFront old new shown → StopsEarly p w limit origin new
      stops_at_edge shown is front = stops_in_edge p w limit origin old t.node t.now nodes place edges t.in_turn e new begins (subst (AppendsFront old new) is front)

      pub parts_passed : (Next : N → Turn N L → Type 0) → Next t.node (with_edge t.now e) → IsFull false p.eq nodes e.to limit → Appends old new (edge_text w p.eq place nodes e)
          → InParts p w limit Next origin new (with_node p.eq nodes e.to) place (counted place edges) false
      parts_passed Next next room more = record {
        node = t.node;
        now = with_edge t.now e;
        stands = next;
        begins = begins;
        is_stuck = pushed t.now.edges e;
        in_turn = in_passed p w limit origin old t.node t.now nodes place edges t.in_turn e new room more;
      }
        where
          pushed : (es : List (Edge N L)) (d : Edge N L) → IsStuck false (es ++ d ∷ [])
          pushed [] d = (d, [], refl)
          pushed (c ∷ es) d = (c, es ++ d ∷ [], refl)

      pub closes_full : IsFull true p.eq nodes e.to limit → Appends old new (edge_text w p.eq place nodes e) → Closes p w limit paused origin new (with_node p.eq nodes e.to) (counted place edges)
      closes_full full more = closes_paused p w limit origin old t.node t.now nodes place edges t.in_turn e new begins full more

      -- the same of what is seen afterwards
      pub parts_go_on : (Next : N → Turn N L → Type 0) → Next t.node (with_edge t.now e) → IsFull false p.eq nodes e.to limit → (shown : List ℕ)
          → shown ≡ edge_text w p.eq place nodes e → Appends old new shown
          → (keys : List N) (at' count : ℕ) (now_stuck : Bool) → keys ≡ with_node p.eq nodes e.to → at' ≡ place → count ≡ counted place edges → now_stuck ≡ false
          → InParts p w limit Next origin new keys at' count now_stuck
      parts_go_on Next next room shown is more keys at' count now_stuck k a c n =
          subst (λ x. InParts p w limit Next origin new x at' count now_stuck) (sym k)
          (subst (λ x. InParts p w limit Next origin new (with_node p.eq nodes e.to) x count now_stuck) (sym a)
          (subst (λ x. InParts p w limit Next origin new (with_node p.eq nodes e.to) place x now_stuck) (sym c)
          (subst (λ x. InParts p w limit Next origin new (with_node p.eq nodes e.to) place (counted place edges) x) (sym n)
          (parts_passed Next next room (subst (Appends old new) is more)))))

      pub closes_full_at : IsFull true p.eq nodes e.to limit → (shown : List ℕ) → shown ≡ edge_text w p.eq place nodes e → Appends old new shown
          → (keys : List N) (count : ℕ) → keys ≡ with_node p.eq nodes e.to → count ≡ counted place edges
          → Closes p w limit paused origin new keys count
      closes_full_at full shown is more keys count k c =
          subst (λ x. Closes p w limit paused origin new x count) (sym k)
          (subst (λ x. Closes p w limit paused origin new (with_node p.eq nodes e.to) x) (sym c) (closes_full full (subst (Appends old new) is more)))

    pub closes_out : (stop : List ℕ) → p.BreaksTurn t.node t.now stop → Closes p w limit (broken stop) origin old nodes edges
    closes_out stop break = closes_broken p w limit origin old t.node t.now nodes place edges t.in_turn stop break

  module _ (old : Option (List ℕ)) (nodes : List N) (place edges : ℕ) where
    -- a whole turn, which has edges, or has none
    pub turns_over : (stuck : Bool) → InParts p w limit p.HasTurn origin old nodes place edges stuck → stuck ≡ false → AtTurn p w limit origin old nodes (place + 1) edges
    turns_over stuck s is = let t = subst (InParts p w limit p.HasTurn origin old nodes place edges) is s in at_over_edges p w limit origin old t.node t.now
        nodes place edges t.in_turn t.stands t.is_stuck

    pub turns_stuck : (stuck : Bool) → InParts p w limit p.HasTurn origin old nodes place edges stuck → stuck ≡ true → (new : Option (List ℕ)) → Appends old new (w.stuck place)
        → (keys : List N) (at' count : ℕ) → keys ≡ nodes → at' ≡ place → count ≡ edges → AtTurn p w limit origin new keys (at' + 1) count
    turns_stuck stuck s is new more keys at' count k a c =
        let t = subst (InParts p w limit p.HasTurn origin old nodes place edges) is s in
        subst (λ x. AtTurn p w limit origin new x (at' + 1) count) (sym k)
        (subst (λ x. AtTurn p w limit origin new nodes (x + 1) count) (sym a)
        (subst (λ x. AtTurn p w limit origin new nodes (place + 1) x) (sym c)
        (at_over_stuck p w limit origin old t.node t.now nodes place edges t.in_turn new t.stands t.is_stuck more)))

    pub stops_at_stuck : (stuck : Bool) → InParts p w limit p.HasTurn origin old nodes place edges stuck → stuck ≡ true → (new : Option (List ℕ))
        → AppendsFront old new (w.stuck place) → StopsEarly p w limit origin new
    stops_at_stuck stuck s is new front =
        let t = subst (InParts p w limit p.HasTurn origin old nodes place edges) is s in
        stops_in_stuck_line p w limit origin old t.node t.now nodes place edges t.in_turn new t.stands t.is_stuck front

-- the node at a place has as many parts as were counted, where what is met has stayed
pub still_counted : {N : Type 0} (parts : N → ℕ) (first : List N) (before count : ℕ) → ((of : N) → slice_get first before ≡ Some of → count ≡ parts of) → (b : N) → slice_get first before ≡ Some b
    → (nodes : List N) (place : ℕ) → KeepsNodes first nodes → place ≡ before → (of : N) → slice_get nodes place ≡ Some of → count ≡ parts of
still_counted parts first before count says b here nodes place keeps stays of at = says b here
    ∙ ap parts (one_at nodes place b of (subst (λ k. slice_get nodes k ≡ Some b) (sym stays) (keeps before b here)) at)

-- the node of the turn has as many parts as were counted when it began
module _ {N L : Type 0} (p : Explored N L) (w : Words N L) (limit : ℕ) (origin : Option (List ℕ)) (parts : N
    → ℕ) (first : List N) (before count : ℕ) (counted' : (of : N) → slice_get first before ≡ Some of → count ≡ parts of) where
  module _ (Begins Stands : N → Turn N L → Type 0) (old new : Option (List ℕ)) (edges later : ℕ) (stuck still : Bool) (s : InParts p w limit Begins origin old first before edges stuck)
      (nodes : List N) (place : ℕ) (t : InParts p w limit Stands origin new nodes place later still) (keeps : KeepsNodes first nodes) (stays : place ≡ before) where
    same_node : (of : N) → slice_get nodes place ≡ Some of → count ≡ parts of
    same_node of at = still_counted parts first before count counted' s.node (part_node p w limit origin Begins old first before edges stuck s) nodes place keeps stays of at

    pub part_of : (which : ℕ) → which < count → (of : N) → slice_get nodes place ≡ Some of → which < parts of
    part_of which lt of at = subst (λ n. which < n) (same_node of at) lt

    pub parts_done : (HasPassed : N → ℕ → Turn N L → Type 0) → ((of : N) (now : Turn N L) → HasPassed of (parts of) now → p.HasTurn of now) → (which : ℕ) → count ≡ which
        → (Stands t.node t.now → HasPassed t.node which t.now) → InParts p w limit p.HasTurn origin new nodes place later still
    parts_done HasPassed all which end f =
        parts_on p w limit origin Stands new nodes place later still t p.HasTurn
        (λ h. all t.node t.now (subst (λ n. HasPassed t.node n t.now) (sym end ∙ same_node t.node (part_node p w limit origin Stands new nodes place later still t)) (f h)))
