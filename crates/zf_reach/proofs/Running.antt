-- How a run goes on, where it stops and how it ends.
use Rattle.zf_reach.proofs.Prelude.{◌++◌, ◌+◌, ◌-◌, ◌<◌, ◌^◌, ◌∙◌, ◌∷◌, ◌≡◌, ◌≤◌, ◌⊎◌, [], ap, arith, Bool, cond, eqb, false, inl, inr, length, length-append, List, Option, refl, Some, subst, sym, true, ℕ, min, Appends-nil, Appends-trans, Appends, cases_eq, cases_lt, cond-false, cond-true, eq-eqb, ne_eqb, list_any, slice_get, Explored, Turn, with_node, Edge, StandsBefore, broken, edge_text, ended, Ending, IsExplored, paused, stuck_text, with_edge, Words, begins_before, begins_in, begins_with, ends_broken, ends_ended, ends_paused, few_nodes, is_new, place_within, some_at, stands_begun, stands_first, stands_over, stands_passed, AppendsFront, AtTurn, Closes, counted, cut, InTurn, IsFull, IsStuck, StopsEarly}
use Rattle.zf_reach.proofs.Fronts.{front_behind, front_longer, front_whole}

-- ---- counting

-- the exact count after one more edge
abbrev pub next_count : (place inner : ℕ) → ℕ
next_count place inner = cond (eqb place 0) inner (inner + 1)

pub none_at_root : (place inner : ℕ) → place ≡ 0 → next_count place inner ≡ inner
none_at_root place inner z = cond-true (eqb place 0) inner (inner + 1) (eq-eqb place 0 z)

pub one_beyond : (place inner : ℕ) → 0 < place → next_count place inner ≡ inner + 1
one_beyond place inner l = cond-false (eqb place 0) inner (inner + 1) (ne_eqb place 0 (λ z. omega (arith, l, z)))

pub counted_cut : (place edges inner : ℕ) → edges ≡ cut inner → counted place edges ≡ cut (next_count place inner)
counted_cut place edges inner h = go (cases_eq place 0)
  where
    go : (place ≡ 0) ⊎ (place ≡ 0 → ⊥) → counted place edges ≡ cut (next_count place inner)
    go (inl z) = cond-true (eqb place 0) edges (min (edges + 1) (2 ^ 64 - 1)) (eq-eqb place 0 z) ∙ h ∙ ap cut (sym (none_at_root place inner z))
    go (inr other) =
        cond-false (eqb place 0) edges (min (edges + 1) (2 ^ 64 - 1)) (ne_eqb place 0 other)
        ∙ (let one : min (edges + 1) (2 ^ 64 - 1) ≡ min (inner + 1) (2 ^ 64 - 1) = omega (arith, h) in one)
        ∙ ap cut (sym (one_beyond place inner (omega (arith, other))))

module _ {N L : Type 0} (p : Explored N L) (w : Words N L) (limit : ℕ) (origin : Option (List ℕ)) where
  -- ---- before a turn

  pub at_first : 1 ≤ limit → (new : Option (List ℕ)) → Appends origin new w.head → AtTurn p w limit origin new (p.root ∷ []) 0 0
  at_first some new written = record { inner = 0; text = w.head; stands = stands_first p w limit some; reached = omega arith; count = refl; written = written }

  -- before the first turn
  pub stops_in_head : 1 ≤ limit → (new : Option (List ℕ)) → AppendsFront origin new w.head → StopsEarly p w limit origin new
  stops_in_head some new front = (w.head, inr (inl (begins_before p w limit (p.root ∷ []) 0 0 w.head p.root (stands_first p w limit some) refl)), front)

  module _ (old : Option (List ℕ)) (nodes : List N) (place edges : ℕ) (t : AtTurn p w limit origin old nodes place edges) where
    pub stops_before : (b : N) → slice_get nodes place ≡ Some b → StopsEarly p w limit origin old
    stops_before b at = (t.text, inr (inl (begins_before p w limit nodes place t.inner t.text b t.stands at)), front_whole origin old t.text t.written)

    pub in_begun : (b : N) (stray : Bool) (new : Option (List ℕ)) → slice_get nodes place ≡ Some b → Appends old new (cond stray (w.stray place) [])
        → InTurn p w limit origin new b (record { stray = stray; edges = [] }) nodes place edges
    in_begun b stray new at more = record {
      inner = t.inner;
      text = t.text ++ cond stray (w.stray place) [];
      stands = stands_begun p w limit nodes place t.inner t.text b stray t.stands at;
      count = t.count;
      written = Appends-trans origin old new t.text (cond stray (w.stray place) []) t.written more;
    }

    pub stops_in_stray : (b : N) (new : Option (List ℕ)) → slice_get nodes place ≡ Some b → p.BeginsTurn b (record { stray = true; edges = [] })
        → AppendsFront old new (w.stray place) → StopsEarly p w limit origin new
    stops_in_stray b new at begun front = (
      t.text ++ w.stray place,
      inr (inl (begins_in p w limit b (record { stray = true; edges = [] }) nodes place t.inner (t.text ++ w.stray place)
          (stands_begun p w limit nodes place t.inner t.text b true t.stands at) (inl begun))),
      front_behind origin old new t.text (w.stray place) t.written front,
    )

    pub closes_ended : length nodes ≤ place → Closes p w limit ended origin old nodes edges
    closes_ended all = record { inner = t.inner; text = t.text; ends = ends_ended p w limit nodes place t.inner t.text t.stands all t.reached; count = t.count; written = t.written }

  -- ---- in a turn

  module _ (old : Option (List ℕ)) (node : N) (now : Turn N L) (nodes : List N) (place edges : ℕ) (t : InTurn p w limit origin old node now nodes place edges) where
    pub stops_in : p.BeginsTurn node now → StopsEarly p w limit origin old
    stops_in begun = (t.text, inr (inl (begins_in p w limit node now nodes place t.inner t.text t.stands (inl begun))), front_whole origin old t.text t.written)

    pub stops_in_edge : (e : Edge N L) (new : Option (List ℕ)) → p.BeginsTurn node (with_edge now e) → AppendsFront old new (edge_text w p.eq place nodes e) → StopsEarly p w limit origin new
    stops_in_edge e new begun front = (
      t.text ++ edge_text w p.eq place nodes e,
      inr (inl (begins_with p w limit node now nodes place t.inner t.text t.stands e begun)),
      front_behind origin old new t.text (edge_text w p.eq place nodes e) t.written front,
    )

    pub in_passed : (e : Edge N L) (new : Option (List ℕ)) → IsFull false p.eq nodes e.to limit → Appends old new (edge_text w p.eq place nodes e)
        → InTurn p w limit origin new node (with_edge now e) (with_node p.eq nodes e.to) place (counted place edges)
    in_passed e new room more = record {
      inner = next_count place t.inner;
      text = t.text ++ edge_text w p.eq place nodes e;
      stands = stands_passed p w limit node now nodes place t.inner t.text t.stands e (next_count place t.inner) (room few) (none_at_root place t.inner) (one_beyond place t.inner);
      count = counted_cut place edges t.inner t.count;
      written = Appends-trans origin old new t.text (edge_text w p.eq place nodes e) t.written more;
    }
      where
        few : length nodes ≤ limit
        few = few_nodes p w limit node now nodes place t.inner t.text t.stands

    pub closes_paused : (e : Edge N L) (new : Option (List ℕ)) → p.BeginsTurn node (with_edge now e) → IsFull true p.eq nodes e.to limit → Appends old new (edge_text w p.eq place nodes e)
        → Closes p w limit paused origin new (with_node p.eq nodes e.to) (counted place edges)
    closes_paused e new begun full more = record {
      inner = next_count place t.inner;
      text = t.text ++ edge_text w p.eq place nodes e;
      ends = subst (λ k. IsExplored p w limit paused ((t.text ++ edge_text w p.eq place nodes e) ++ w.last paused k (next_count place t.inner))) states
          (ends_paused p w limit node now nodes place t.inner t.text t.stands e (next_count place t.inner) begun full.1
          (is_new p w limit node now nodes place t.inner t.text t.stands e.to full.0) (none_at_root place t.inner) (one_beyond place t.inner));
      count = counted_cut place edges t.inner t.count;
      written = Appends-trans origin old new t.text (edge_text w p.eq place nodes e) t.written more;
    }
      where
        states : limit ≡ length (with_node p.eq nodes e.to) - 1
        states = let l = ap (λ ns. length ns) (cond-false (list_any (p.eq e.to) nodes) nodes (nodes ++ e.to ∷ []) full.0) in let m = length-append nodes
            (e.to ∷ []) in let f = full.1 in omega (arith, l, m, f)

    pub closes_broken : (stop : List ℕ) → p.BreaksTurn node now stop → Closes p w limit (broken stop) origin old nodes edges
    closes_broken stop break = record { inner = t.inner; text = t.text; ends = ends_broken p w limit node now nodes place t.inner t.text t.stands stop break; count = t.count; written = t.written }

    pub at_over : (new : Option (List ℕ)) → p.HasTurn node now → Appends old new (stuck_text w p.eq place now.edges) → AtTurn p w limit origin new nodes (place + 1) edges
    at_over new turn more = record {
      inner = t.inner;
      text = t.text ++ stuck_text w p.eq place now.edges;
      stands = stands_over p w limit node now nodes place t.inner t.text t.stands turn;
      reached = (let l = place_within p w limit node now nodes place t.inner t.text t.stands in omega (arith, l));
      count = t.count;
      written = Appends-trans origin old new t.text (stuck_text w p.eq place now.edges) t.written more;
    }

    -- the same by what was written of it: nothing where it has edges
    pub at_over_edges : p.HasTurn node now → IsStuck false now.edges → AtTurn p w limit origin old nodes (place + 1) edges
    at_over_edges turn some = at_over old turn (subst (λ es. Appends old old (stuck_text w p.eq place es)) (sym some.2) (Appends-nil old))

    pub at_over_stuck : (new : Option (List ℕ)) → p.HasTurn node now → now.edges ≡ [] → Appends old new (w.stuck place) → AtTurn p w limit origin new nodes (place + 1) edges
    at_over_stuck new turn none more = at_over new turn (subst (λ es. Appends old new (stuck_text w p.eq place es)) (sym none) more)

    -- the last words of a turn are the front of what comes after it
    pub stops_in_stuck : (new : Option (List ℕ)) → p.HasTurn node now → AppendsFront old new (stuck_text w p.eq place now.edges) → StopsEarly p w limit origin new
    stops_in_stuck new turn front = go (cases_lt (place + 1) (length nodes))
      where
        after : StandsBefore p w limit nodes (place + 1) t.inner (t.text ++ stuck_text w p.eq place now.edges)
        after = stands_over p w limit node now nodes place t.inner t.text t.stands turn

        fronts : AppendsFront origin new (t.text ++ stuck_text w p.eq place now.edges)
        fronts = front_behind origin old new t.text (stuck_text w p.eq place now.edges) t.written front

        go : (place + 1 < length nodes) ⊎ (length nodes ≤ place + 1) → StopsEarly p w limit origin new
        go (inl more) = let b = some_at nodes (place + 1) more in (
          t.text ++ stuck_text w p.eq place now.edges,
          inr (inl (begins_before p w limit nodes (place + 1) t.inner (t.text ++ stuck_text w p.eq place now.edges) b.0 after b.1)),
          fronts,
        )
        go (inr all) = (
          (t.text ++ stuck_text w p.eq place now.edges) ++ w.last ended (length nodes - 1) t.inner,
          inr (inr (
            ended,
            ends_ended p w limit nodes (place + 1) t.inner (t.text ++ stuck_text w p.eq place now.edges) after all
                (let l = place_within p w limit node now nodes place t.inner t.text t.stands in omega (arith, l)),
          )),
          front_longer origin new (t.text ++ stuck_text w p.eq place now.edges) (w.last ended (length nodes - 1) t.inner) fronts,
        )

    pub stops_in_stuck_line : (new : Option (List ℕ)) → p.HasTurn node now → now.edges ≡ [] → AppendsFront old new (w.stuck place) → StopsEarly p w limit origin new
    stops_in_stuck_line new turn none front = stops_in_stuck new turn (subst (λ es. AppendsFront old new (stuck_text w p.eq place es)) (sym none) front)

  -- ---- at the end

  module _ (ending : Ending) (old : Option (List ℕ)) (nodes : List N) (edges : ℕ) (c : Closes p w limit ending origin old nodes edges) where
    pub stops_closed : StopsEarly p w limit origin old
    stops_closed = (
      c.text ++ w.last ending (length nodes - 1) c.inner,
      inr (inr (ending, c.ends)),
      front_longer origin old c.text (w.last ending (length nodes - 1) c.inner) (front_whole origin old c.text c.written),
    )

    pub stops_in_last : (new : Option (List ℕ)) → AppendsFront old new (w.last ending (length nodes - 1) c.inner) → StopsEarly p w limit origin new
    stops_in_last new front = (
      c.text ++ w.last ending (length nodes - 1) c.inner,
      inr (inr (ending, c.ends)),
      front_behind origin old new c.text (w.last ending (length nodes - 1) c.inner) c.written front,
    )

    pub writes_last : (new : Option (List ℕ)) → Appends old new (w.last ending (length nodes - 1) c.inner) → (text : List ℕ) × IsExplored p w limit ending text × Appends origin new text
    writes_last new more = (c.text ++ w.last ending (length nodes - 1) c.inner, c.ends, Appends-trans origin old new c.text (w.last ending (length nodes - 1) c.inner) c.written more)

    -- the same of what is seen afterwards
    pub stops_in_seen : (shown : List ℕ) (new : Option (List ℕ)) → shown ≡ w.last ending (length nodes - 1) c.inner → AppendsFront old new shown → StopsEarly p w limit origin new
    stops_in_seen shown new is front = stops_in_last new (subst (AppendsFront old new) is front)

    pub writes_seen : (shown : List ℕ) (new : Option (List ℕ)) → shown ≡ w.last ending (length nodes - 1) c.inner → Appends old new shown → (text : List ℕ)
        × IsExplored p w limit ending text × Appends origin new text
    writes_seen shown new is more = writes_last new (subst (Appends old new) is more)

module _ {N L : Type 0} (p : Explored N L) (w : Words N L) (limit : ℕ) (origin : Option (List ℕ)) where
  -- nothing is written yet
  pub stops_at_once : StopsEarly p w limit origin origin
  stops_at_once = ([], inl refl, front_whole origin origin [] (Appends-nil origin))

  pub at_first_seen : 1 ≤ limit → (new : Option (List ℕ)) → Appends origin new w.head → (nodes : List N) (place edges : ℕ) → nodes ≡ p.root ∷ [] → place ≡ 0
      → edges ≡ 0 → AtTurn p w limit origin new nodes place edges
  at_first_seen some new written nodes place edges n k e =
      subst (λ x. AtTurn p w limit origin new x place edges) (sym n)
      (subst (λ x. AtTurn p w limit origin new (p.root ∷ []) x edges) (sym k)
      (subst (λ x. AtTurn p w limit origin new (p.root ∷ []) 0 x) (sym e)
      (at_first p w limit origin some new written)))
