-- How a search goes on by what an edge brings, and how it ends.
use Rattle.zf_graph.proofs.Searching.{item_at, met_with_new, seeks_begun, seeks_broken, seeks_first, seeks_found, seeks_full, seeks_known, seeks_missing, seeks_new, seeks_over, seeks_untold}
use Rattle.zf_graph.specs.{at_first, beyond, found, Graph, IsNumbered, IsOf, IsSearched, Met, missing, nodes_of, open_ended, Result, SeeksIn, Sought, untold, way_text}
use Rattle.zf_reach.proofs.Prelude.{◌++◌, ◌+◌, ◌-◌, ◌<◌, ◌∙◌, ◌∷◌, ◌≡◌, ◌≤◌, ◌⊎◌, [], ap, Appends-nil, AppendsFront, arith, Bool, cases_lt, cond-false, cond-true, counted, cut, Explored, false, inl, inr, KeepsNodes, length, length-append, List, list_any, no_turn, None, Option, refl, slice_get, slice_get_within, Some, subst, suc, sym, true, Turn, with_edge, with_node, Words, zero, ℕ, length-map, position_or_len, not, numbered, at_last, at_left, at_map, at_push, map_at, none_some, one_at, one_some, Arrival, AtSearch, BeginsAs, Brings, Concludes, edge, EndsWithout, InSearch, IsArrival, IsEarlier, IsFoundBy, IsTrail, result_of, SaysWay, SeesNew, StopsSearch, UnlessOut}
use Rattle.zf_reach.proofs.Fronts.{front_whole}
use Rattle.zf_reach.proofs.Passing.{place-none}
use Rattle.zf_reach.proofs.Running.{counted_cut, next_count, none_at_root, one_beyond}
use Rattle.zf_reach.specs.declared.finding.Finding.{Finding}
use Rattle.zf_reach.specs.declared.finding.Finding.TheVariants as findings
use Rattle.zf_reach.specs.declared.machine.Beginning.{Beginning}
use Rattle.zf_reach.specs.declared.machine.Beginning.TheVariants as beginnings

-- ---- the trail

module _ {N L : Type 0} where
  pub trail_first : (root : N) → IsTrail {N = N} {L = L} (at_first root) []
  trail_first root = record {
    each = refl;
    first = λ x h. ap (λ y. y.way)
        (sym (one_some (record { node = root; way = [] }) x h));
    arrivals = λ place x h. absurd
        (let w = slice_get_within (at_first {N = N} {L = L} root) (place + 1) x h in omega (arith, w));
  }

  module _ (met : List (Met N L)) (trail : List (Arrival L)) (t : IsTrail met trail) where
    -- with a node that is met in the turn of one of them
    pub trail_push : (a : Met N L) (place : ℕ) (label : L) (to : N) → slice_get met place ≡ Some a
        → IsTrail (met ++ beyond a (edge label to) ∷ []) (trail ++ record { from = place; label = label } ∷ [])
    trail_push a place label to at = record { each = each; first = first; arrivals = arrivals }
      where
        new : Met N L
        new = beyond a (edge label to)

        arrival : Arrival L
        arrival = record { from = place; label = label }

        each : length (met ++ beyond a (edge label to) ∷ []) ≡ length (trail ++ record { from = place; label = label } ∷ []) + 1
        each = let e = t.each in let l = length-append met (beyond a (edge label to) ∷ []) in let k = length-append {A = Arrival L} trail
            (record { from = place; label = label } ∷ []) in omega (arith, e, l, k)

        first : (x : Met N L) → slice_get (met ++ beyond a (edge label to) ∷ []) 0 ≡ Some x → x.way ≡ []
        first x h = go (at_push met (beyond a (edge label to)) 0 x h)
          where
            go : (slice_get met 0 ≡ Some x) ⊎ ((0 ≡ length met) × (x ≡ beyond a (edge label to))) → x.way ≡ []
            go (inl old) = t.first x old
            go (inr last) = let e = t.each in absurd (omega (arith, e, last.0))

        arrivals : (i : ℕ) (x : Met N L) → slice_get (met ++ beyond a (edge label to) ∷ []) (i + 1) ≡ Some x
            → IsArrival (met ++ beyond a (edge label to) ∷ []) (trail ++ record { from = place; label = label } ∷ []) i x
        arrivals i x h = go (at_push met (beyond a (edge label to)) (i + 1) x h)
          where
            go : (slice_get met (i + 1) ≡ Some x) ⊎ ((i + 1 ≡ length met) × (x ≡ beyond a (edge label to)))
                → IsArrival (met ++ beyond a (edge label to) ∷ []) (trail ++ record { from = place; label = label } ∷ []) i x
            go (inl old) =
                let r = t.arrivals i x old in
                record {
                  arrival = r.arrival;
                  from = r.from;
                  kept = at_left trail (record { from = place; label = label } ∷ []) i r.arrival r.kept;
                  earlier = r.earlier;
                  at = at_left met (beyond a (edge label to) ∷ []) r.arrival.from r.from r.at;
                  way = r.way;
                }
            go (inr last) =
                let e = t.each in
                let w = slice_get_within met place a at in
                let same : i ≡ length trail = omega (arith, e, last.0) in
                record {
                  arrival = record { from = place; label = label };
                  from = a;
                  kept = subst (λ k. slice_get (trail ++ record { from = place; label = label } ∷ []) k ≡ Some (record { from = place; label = label }))
                      (sym same) (at_last {X = Arrival L} trail (record { from = place; label = label }));
                  earlier = omega (arith, w, e, same);
                  at = at_left met (beyond a (edge label to) ∷ []) place a at;
                  way = subst (λ y. y.way ≡ a.way ++ edge label y.node ∷ []) (sym last.1) refl;
                }

    -- each arrival is that of a later node
    pub trail_earlier : IsEarlier trail
    trail_earlier place arrival h =
        let w = slice_get_within trail place arrival h in
        let e = t.each in
        let x = item (place + 1) (omega (arith, w, e)) in
        let r = t.arrivals place x.0 x.1 in
        subst (λ (a : Arrival L). a.from ≤ place) (one_at trail place r.arrival arrival r.kept h) r.earlier
      where
        some : (xs : List (Met N L)) (i : ℕ) → i < length xs → (x : Met N L) × (slice_get xs i ≡ Some x)
        some [] i lt = absurd (omega (arith, lt))
        some (y ∷ xs) zero lt = (y, refl)
        some (y ∷ xs) (suc i) lt = some xs i (omega (arith, lt))

        item : (i : ℕ) → i < length met → (x : Met N L) × (slice_get met i ≡ Some x)
        item i lt = some met i lt

-- ---- what an edge brings

module _ {N L : Type 0} (p : Explored N L) (s : Sought N) (limit : ℕ) (node_eq : N → N → Bool) (same : p.eq ≡ node_eq) (keys after : List N) (to : N) (number : ℕ) (is_new : Bool)
    (new : is_new ≡ not (list_any (node_eq to) keys)) (placed : number ≡ position_or_len (node_eq to) keys) (kept : after ≡ with_node node_eq keys to) (is : is_new ≡ true) where
  absent : list_any (node_eq to) keys ≡ false
  absent = go (list_any (node_eq to) keys) (sym new ∙ is)
    where
      go : (b : Bool) → not b ≡ true → b ≡ false
      go true h = sym h
      go false h = refl

  pub new_last : number ≡ length keys
  new_last = placed ∙ place-none (node_eq to) keys absent

  new_keys : after ≡ keys ++ to ∷ []
  new_keys = kept ∙ cond-false (list_any (node_eq to) keys) keys (keys ++ to ∷ []) absent

  pub new_there : slice_get after number ≡ Some to
  new_there = subst (λ ks. slice_get ks number ≡ Some to) (sym new_keys) (subst (λ k. slice_get (keys ++ to ∷ []) k ≡ Some to) (sym new_last) (at_last keys to))

  pub brings_new : (stop : List ℕ) (left : Option Finding) (place from : ℕ) (shown : List N) (trail trail_new : List (Arrival L)) (label : L) → from ≡ place
      → shown ≡ after → trail_new ≡ trail ++ record { from = from; label = label } ∷ []
      → SeesNew p s limit left stop number to → Brings p s limit stop left place keys shown trail trail_new label to
  brings_new stop left place from shown trail trail_new label f k t sees = inr (
    subst (λ (eq : N → N → Bool). list_any (eq to) keys ≡ false) (sym same) absent,
    k ∙ new_keys,
    t ∙ ap (λ n. trail ++ record { from = n; label = label } ∷ []) f,
    subst (λ n. SeesNew p s limit left stop n to) new_last sees,
  )

module _ {N L : Type 0} (p : Explored N L) (s : Sought N) (limit : ℕ) (node_eq : N → N → Bool) (same : p.eq ≡ node_eq) (keys after : List N) (to : N) (is_new : Bool)
    (new : is_new ≡ not (list_any (node_eq to) keys)) (kept : after ≡ with_node node_eq keys to) (is : is_new ≡ false) where
  present : list_any (node_eq to) keys ≡ true
  present = go (list_any (node_eq to) keys) (sym new ∙ is)
    where
      go : (b : Bool) → not b ≡ false → b ≡ true
      go true h = refl
      go false h = sym h

  pub brings_known : (stop : List ℕ) (place : ℕ) (shown : List N) (trail : List (Arrival L)) (label : L) → shown ≡ after → Brings p s limit stop None place keys shown trail trail label to
  brings_known stop place shown trail label k = inl (
    subst (λ (eq : N → N → Bool). list_any (eq to) keys ≡ true) (sym same) present,
    k ∙ kept ∙ cond-true (list_any (node_eq to) keys) keys (keys ++ to ∷ []) present,
    refl,
    refl,
  )

-- what is met stays
pub keeps_brought : {N L : Type 0} (p : Explored N L) (s : Sought N) (limit : ℕ) (stop : List ℕ) (left : Option Finding) (place : ℕ) (first old new : List N)
    (trail trail_new : List (Arrival L)) (label : L) (to : N)
    → KeepsNodes first old → Brings p s limit stop left place old new trail trail_new label to → KeepsNodes first new
keeps_brought p s limit stop left place first old new trail trail_new label to keeps (inl (known, n, k, e)) i node at = subst (λ ns. slice_get ns i ≡ Some node) (sym n) (keeps i node at)
keeps_brought p s limit stop left place first old new trail trail_new label to keeps (inr (fresh, n, k, sees)) i node at = subst
    (λ ns. slice_get ns i ≡ Some node) (sym n) (at_left old (to ∷ []) i node (keeps i node at))

-- ---- the search

module _ {N L : Type 0} (p : Explored N L) (s : Sought N) (limit : ℕ) where
  pub search_first : 1 ≤ limit → (keys : List N) (trail : List (Arrival L)) (place edges : ℕ) → keys ≡ p.root ∷ [] → trail ≡ [] → place ≡ 0 → edges ≡ 0 → AtSearch p s limit keys trail place edges
  search_first some keys trail place edges k t a e =
      subst (λ x. AtSearch p s limit x trail place edges) (sym k)
      (subst (λ x. AtSearch p s limit (p.root ∷ []) x place edges) (sym t)
      (subst (λ x. AtSearch p s limit (p.root ∷ []) [] x edges) (sym a)
      (subst (λ x. AtSearch p s limit (p.root ∷ []) [] 0 x) (sym e)
      (record { inner = 0; met = at_first p.root; seeks = seeks_first p s limit some; of_nodes = refl; kept = trail_first p.root; reached = omega arith; count = refl }))))

  module _ (nodes : List N) (trail : List (Arrival L)) (place edges : ℕ) (t : AtSearch p s limit nodes trail place edges) where
    -- a turn that is due is one of the limit's
    pub search_within : place < length nodes → place < limit
    search_within lt = let f = t.seeks.few in let n = ap (λ ns. length ns) t.of_nodes in let k = length-map t.met (λ x. x.node) in omega (arith, lt, f, n, k)

    -- a turn begins
    pub search_begun : (Next : N → Turn N L → Type 0) (of : N) (now : Turn N L) (stray : Bool) → slice_get nodes place ≡ Some of
        → now ≡ record { stray = stray; edges = [] } → p.BeginsTurn of now → Next of now
        → (keys : List N) (at' count : ℕ) → keys ≡ nodes → at' ≡ place → count ≡ edges → InSearch p s limit Next keys trail at' count
    search_begun Next of now stray at is begins next keys at' count k a c =
        subst (λ x. InSearch p s limit Next x trail at' count) (sym k)
        (subst (λ x. InSearch p s limit Next nodes trail x count) (sym a)
        (subst (λ x. InSearch p s limit Next nodes trail place x) (sym c)
        (let m = map_at (λ (x : Met N L). x.node) t.met place of (subst (λ ns. slice_get ns place ≡ Some of) t.of_nodes at) in
        record {
          node = of;
          now = now;
          inner = t.inner;
          met = t.met;
          stands = next;
          begins = begins;
          seeks = subst (λ n. SeeksIn p s limit of n t.met place t.inner) (sym is)
              (subst (λ n. SeeksIn p s limit n (record { stray = stray; edges = [] }) t.met place t.inner) m.2
              (seeks_begun p s limit t.met place t.inner t.seeks m.0 stray m.1));
          of_nodes = t.of_nodes;
          kept = t.kept;
          count = t.count;
        })))

  module _ (Stands : N → Turn N L → Type 0) (nodes : List N) (trail : List (Arrival L)) (place edges : ℕ) (t : InSearch p s limit Stands nodes trail place edges) where
    pub search_node : slice_get nodes place ≡ Some t.node
    search_node = subst (λ n. slice_get nodes place ≡ Some n) t.seeks.of_node (subst (λ ns. slice_get ns place ≡ Some t.seeks.item.node) (sym t.of_nodes)
        (at_map (λ (x : Met N L). x.node) t.met place t.seeks.item (item_at p s limit t.node t.now t.met place t.inner t.seeks)))

    pub search_place : place < length nodes
    search_place = slice_get_within nodes place t.node search_node

    -- the same with another relation
    pub search_on : (Next : N → Turn N L → Type 0) → (Stands t.node t.now → Next t.node t.now) → InSearch p s limit Next nodes trail place edges
    search_on Next f = record {
      node = t.node;
      now = t.now;
      inner = t.inner;
      met = t.met;
      stands = f t.stands;
      begins = t.begins;
      seeks = t.seeks;
      of_nodes
          = t.of_nodes;
      kept = t.kept;
      count = t.count;
    }

    -- the search for the next part begins
    pub search_started : (Next : N → Turn N L → Type 0) → ((of : N) → slice_get nodes place ≡ Some of → (now : Turn N L) → Stands of now → Next of now)
        → (keys : List N) (at' count : ℕ) → keys ≡ nodes → at' ≡ place → count ≡ edges → InSearch p s limit Next keys trail at' count
    search_started Next starts keys at' count k a c =
        subst (λ x. InSearch p s limit Next x trail at' count) (sym k)
        (subst (λ x. InSearch p s limit Next nodes trail x count) (sym a)
        (subst (λ x. InSearch p s limit Next nodes trail place x) (sym c)
        (search_on Next (starts t.node search_node t.now))))

    -- the turn is over
    pub search_over : (Stands t.node t.now → p.HasTurn t.node t.now) → AtSearch p s limit nodes trail (place + 1) edges
    search_over f = record {
      inner = t.inner;
      met = t.met;
      seeks = seeks_over p s limit t.node t.now t.met place t.inner t.seeks (f t.stands);
      of_nodes = t.of_nodes;
      kept = t.kept;
      reached = (let l = search_place in omega (arith, l));
      count = t.count;
    }

    lengths : length nodes ≡ length t.met
    lengths = ap (λ ns. length ns) t.of_nodes ∙ length-map t.met (λ x. x.node)

    -- an edge is passed, and the search goes on
    module _ (label : L) (to : N) where
      is_met_by : (b : Bool) → list_any (p.eq to) nodes ≡ b → list_any (p.eq to) (nodes_of t.met) ≡ b
      is_met_by b h = ap (λ ns. list_any (p.eq to) ns) (sym t.of_nodes) ∙ h

      on_known : (Next : N → Turn N L → Type 0) → p.BeginsTurn t.node (with_edge t.now (edge label to)) → Next t.node (with_edge t.now (edge label to))
          → list_any (p.eq to) nodes ≡ true → InSearch p s limit Next nodes trail place (counted place edges)
      on_known Next begins next known = record {
        node = t.node;
        now = with_edge t.now (edge label to);
        inner = next_count place t.inner;
        met = t.met;
        stands = next;
        begins = begins;
        seeks = seeks_known p s limit t.node t.now t.met place t.inner t.seeks (edge label to) (next_count place t.inner) (none_at_root place t.inner)
            (one_beyond place t.inner) (is_met_by true known);
        of_nodes = t.of_nodes;
        kept = t.kept;
        count = counted_cut place edges t.inner t.count;
      }

      nodes_push : nodes ++ to ∷ [] ≡ nodes_of (t.met ++ beyond t.seeks.item (edge label to) ∷ [])
      nodes_push = ap (λ ns. ns ++ to ∷ []) t.of_nodes ∙ sym (pushed t.met)
        where
          pushed : (xs : List (Met N L)) → nodes_of (xs ++ beyond t.seeks.item (edge label to) ∷ []) ≡ nodes_of xs ++ to ∷ []
          pushed [] = refl
          pushed (x ∷ xs) = ap (λ ns. x.node ∷ ns) (pushed xs)

      kept_push : IsTrail (t.met ++ beyond t.seeks.item (edge label to) ∷ []) (trail ++ record { from = place; label = label } ∷ [])
      kept_push = trail_push t.met trail t.kept t.seeks.item place label to (item_at p s limit t.node t.now t.met place t.inner t.seeks)

      on_new : (Next : N → Turn N L → Type 0) → p.BeginsTurn t.node (with_edge t.now (edge label to)) → Next t.node (with_edge t.now (edge label to))
          → list_any (p.eq to) nodes ≡ false → s.IsOther to → (length nodes ≡ limit → ⊥)
          → InSearch p s limit Next (nodes ++ to ∷ []) (trail ++ record { from = place; label = label } ∷ []) place (counted place edges)
      on_new Next begins next fresh other room = record {
        node = t.node;
        now = with_edge t.now (edge label to);
        inner = next_count place t.inner;
        met = t.met ++ beyond t.seeks.item (edge label to) ∷ [];
        stands = next;
        begins = begins;
        seeks = seeks_new p s limit t.node t.now t.met place t.inner t.seeks (edge label to) (next_count place t.inner) (none_at_root place t.inner)
            (one_beyond place t.inner) (is_met_by false fresh) other less;
        of_nodes = nodes_push;
        kept = kept_push;
        count = counted_cut place edges t.inner t.count;
      }
        where
          less : length t.met < limit
          less = go (cases_lt (length t.met) limit)
            where
              go : (length t.met < limit) ⊎ (limit ≤ length t.met) → length t.met < limit
              go (inl lt) = lt
              go (inr ge) = absurd (room (let f = t.seeks.few in let l = lengths in omega (arith, f, l, ge)))

      pub search_goes_on : (Next : N → Turn N L → Type 0) (stop : List ℕ) (new : List N) (trail_new : List (Arrival L))
          → p.BeginsTurn t.node (with_edge t.now (edge label to)) → Next t.node (with_edge t.now (edge label to))
          → Brings p s limit stop None place nodes new trail trail_new label to → (at' count : ℕ) → at' ≡ place → count ≡ counted place edges → InSearch p s limit Next new trail_new at' count
      search_goes_on Next stop new trail_new begins next brings at' count a c =
          subst (λ x. InSearch p s limit Next new trail_new x count) (sym a) (subst (λ x. InSearch p s limit Next new trail_new place x) (sym c) (go brings))
        where
          go : Brings p s limit stop None place nodes new trail trail_new label to → InSearch p s limit Next new trail_new place (counted place edges)
          go (inl (known, n, k, e)) = subst (λ x. InSearch p s limit Next x trail_new place (counted place edges)) (sym n)
              (subst (λ x. InSearch p s limit Next nodes x place (counted place edges)) (sym k) (on_known Next begins next known))
          go (inr (fresh, n, k, sees)) =
              subst (λ x. InSearch p s limit Next x trail_new place (counted place edges)) (sym n)
              (subst (λ x. InSearch p s limit Next (nodes ++ to ∷ []) x place (counted place edges)) (sym k) (on_new Next begins next fresh sees.0 sees.1))

  -- ---- the end

  module _ (g : Graph N L) (of : IsOf p g) (w : Words N L) (last : Result → (nodes edges : ℕ) → List ℕ) where
    module _ (nodes : List N) (trail : List (Arrival L)) (place edges : ℕ) (t : AtSearch p s limit nodes trail place edges) where
      -- each node has had its turn
      pub search_missing : (place < length nodes → ⊥) → EndsWithout p s limit w last missing nodes edges
      search_missing none = record {
        inner = t.inner;
        ends = subst (λ n. IsSearched p s w last limit missing (w.head ++ last missing (n - 1) t.inner)) (sym same)
            (seeks_missing p s w last limit t.met place t.inner t.seeks all (let r = t.reached in let l = same in omega (arith, r, l)));
        count = t.count;
      }
        where
          same : length nodes ≡ length t.met
          same = ap (λ ns. length ns) t.of_nodes ∙ length-map t.met (λ x. x.node)

          all : length t.met ≤ place
          all = go (cases_lt place (length nodes))
            where
              go : (place < length nodes) ⊎ (length nodes ≤ place) → length t.met ≤ place
              go (inl lt) = absurd (none lt)
              go (inr ge) = let l = same in omega (arith, ge, l)

    module _ (Stands : N → Turn N L → Type 0) (nodes : List N) (trail : List (Arrival L)) (place edges : ℕ) (t : InSearch p s limit Stands nodes trail place edges) where
      -- the search for an edge breaks off
      pub search_out : (stop : List ℕ) → p.BreaksTurn t.node t.now stop → EndsWithout p s limit w last (untold stop) nodes edges
      search_out stop break = record {
        inner = t.inner;
        ends = subst (λ n. IsSearched p s w last limit (untold stop) (w.head ++ last (untold stop) (n - 1) t.inner))
            (sym (lengths Stands nodes trail place edges t)) (seeks_broken p s w last limit t.node t.now t.met place t.inner t.seeks stop break);
        count = t.count;
      }

      module _ (label : L) (to : N) (begins : p.BeginsTurn t.node (with_edge t.now (edge label to))) (fresh : list_any (p.eq to) nodes ≡ false) where
        next : ℕ
        next = next_count place t.inner

        before : length t.met ≡ length (nodes ++ to ∷ []) - 1
        before = let l = lengths Stands nodes trail place edges t in let k = length-append nodes (to ∷ []) in omega (arith, l, k)

        is_new : list_any (p.eq to) (nodes_of t.met) ≡ false
        is_new = is_met_by Stands nodes trail place edges t label to false fresh

        finds_it : s.IsSought to → IsFoundBy p s limit w last (nodes ++ to ∷ []) (trail ++ record { from = place; label = label } ∷ []) (counted place edges)
        finds_it sought = record {
          inner = next_count place t.inner;
          met = t.met ++ beyond t.seeks.item (edge label to) ∷ [];
          item = beyond t.seeks.item (edge label to);
          shown = record {
            of_nodes = nodes_push Stands nodes trail place edges t label to;
            kept = kept_push Stands nodes trail place edges t label to;
            numbered = subst (IsNumbered p) (sym (met_with_new p s limit t.node t.now t.met place t.inner t.seeks (edge label to) (next_count place t.inner)
                (none_at_root place t.inner) (one_beyond place t.inner) is_new))
                (numbered g p of t.seeks.turns t.seeks.before t.seeks.item (with_edge t.now (edge label to)) t.seeks.up_to
                (subst (λ n. p.BeginsTurn n (with_edge t.now (edge label to))) (sym t.seeks.of_node) begins));
          };
          last_met = subst (λ n. slice_get (t.met ++ beyond t.seeks.item (edge label to) ∷ []) n ≡ Some (beyond t.seeks.item (edge label to))) at_end
              (at_last t.met (beyond t.seeks.item (edge label to)));
          ends = subst (λ n. IsSearched p s w last limit found ((w.head ++ way_text w p.eq (nodes ++ to ∷ []) p.root (t.seeks.item.way ++ edge label to ∷ []))
              ++ last found n (next_count place t.inner))) before
              (subst (λ ns. IsSearched p s w last limit found ((w.head ++ way_text w p.eq ns p.root (t.seeks.item.way ++ edge label to ∷ [])) ++ last found (length t.met) (next_count place t.inner)))
              (sym (nodes_push Stands nodes trail place edges t label to))
              (seeks_found p s w last limit t.node t.now t.met place t.inner t.seeks (edge label to) (next_count place t.inner) (none_at_root place t.inner)
              (one_beyond place t.inner) is_new begins sought));
          count = counted_cut place edges t.inner t.count;
        }
          where
            at_end : length t.met ≡ length (trail ++ record { from = place; label = label } ∷ [])
            at_end = let e = t.kept.each in let k = length-append {A = Arrival L} trail (record { from = place; label = label } ∷ []) in omega (arith, e, k)

        full_there : s.IsOther to → length nodes ≡ limit → EndsWithout p s limit w last open_ended (nodes ++ to ∷ []) (counted place edges)
        full_there other full = record {
          inner = next_count place t.inner;
          ends = subst (λ n. IsSearched p s w last limit open_ended (w.head ++ last open_ended n (next_count place t.inner))) before
              (seeks_full p s w last limit t.node t.now t.met place t.inner t.seeks (edge label to) (next_count place t.inner) (none_at_root place t.inner)
              (one_beyond place t.inner) is_new begins other (sym (lengths Stands nodes trail place edges t) ∙ full));
          count = counted_cut place edges t.inner t.count;
        }

        untold_there : (stop : List ℕ) → s.IsUntold to stop → EndsWithout p s limit w last (untold stop) (nodes ++ to ∷ []) (counted place edges)
        untold_there stop doubt = record {
          inner = next_count place t.inner;
          ends = subst (λ n. IsSearched p s w last limit (untold stop) (w.head ++ last (untold stop) n (next_count place t.inner))) before
              (seeks_untold p s w last limit t.node t.now t.met place t.inner t.seeks (edge label to) (next_count place t.inner) (none_at_root place t.inner)
              (one_beyond place t.inner) is_new begins stop doubt);
          count = counted_cut place edges t.inner t.count;
        }

        ends_by : (finding : Finding) (stop : List ℕ) → SeesNew p s limit (Some finding) stop (length nodes) to
            → Concludes p s limit w last finding stop (nodes ++ to ∷ []) (trail ++ record { from = place; label = label } ∷ []) (counted place edges)
        ends_by findings.Found stop sees = finds_it sees
        ends_by findings.Missing stop sees = absurd sees
        ends_by findings.OpenEnded stop sees = full_there sees.0 sees.1
        ends_by findings.Untold stop sees = untold_there stop sees

      -- the search ends at a new node
      pub search_ends : (finding : Finding) (label : L) (to : N) (stop : List ℕ) (new : List N) (trail_new : List (Arrival L)) → p.BeginsTurn t.node (with_edge t.now (edge label to))
          → Brings p s limit stop (Some finding) place nodes new trail trail_new label to → (count : ℕ) → count ≡ counted place edges → Concludes p s limit w last finding stop new trail_new count
      search_ends finding label to stop new trail_new begins (inl (known, n, k, e)) count c = absurd (none_some finding (sym e))
      search_ends finding label to stop new trail_new begins (inr (fresh, n, k, sees)) count c =
          subst (λ x. Concludes p s limit w last finding stop x trail_new count) (sym n)
          (subst (λ x. Concludes p s limit w last finding stop (nodes ++ to ∷ []) x count) (sym k)
          (subst (λ x. Concludes p s limit w last finding stop (nodes ++ to ∷ []) (trail ++ record { from = place; label = label } ∷ []) x) (sym c)
          (ends_by label to begins fresh finding stop sees)))

    -- a turn that breaks off before it begins
    pub search_unopened : (nodes : List N) (trail : List (Arrival L)) (place edges : ℕ) → AtSearch p s limit nodes trail place edges → (b : N) (stop : List ℕ)
        → slice_get nodes place ≡ Some b → p.BreaksTurn b no_turn stop
        → (keys : List N) (count : ℕ) → keys ≡ nodes → count ≡ edges → EndsWithout p s limit w last (untold stop) keys count
    search_unopened nodes trail place edges t b stop at break keys count k c =
        subst (λ x. EndsWithout p s limit w last (untold stop) x count) (sym k)
        (subst (λ x. EndsWithout p s limit w last (untold stop) nodes x) (sym c)
        (record {
          inner = t.inner;
          ends = subst (λ n. IsSearched p s w last limit (untold stop) (w.head ++ last (untold stop) (n - 1) t.inner)) (sym (ap (λ ns. length ns) t.of_nodes ∙ length-map t.met (λ x. x.node)))
              (seeks_broken p s w last limit m.0.node no_turn t.met place t.inner (seeks_begun p s limit t.met place t.inner t.seeks m.0 false m.1) stop
              (subst (λ n. p.BreaksTurn n no_turn stop) (sym m.2) break));
          count = t.count;
        }))
      where
        m : (x : Met N L) × (slice_get t.met place ≡ Some x) × (x.node ≡ b)
        m = map_at (λ (x : Met N L). x.node) t.met place b (subst (λ ns. slice_get ns place ≡ Some b) t.of_nodes at)

-- ---- the text

module _ {N L : Type 0} (p : Explored N L) (s : Sought N) (limit : ℕ) (w : Words N L) (last : Result → (nodes edges : ℕ)
    → List ℕ) (stop : List ℕ) (nodes : List N) (trail : List (Arrival L)) (edges : ℕ) where
  -- what the lines of a way need
  pub shown_earlier : (finding : Finding) → finding ≡ findings.Found → Concludes p s limit w last finding stop nodes trail edges → IsEarlier trail
  shown_earlier finding is h = let f = subst (λ x. Concludes p s limit w last x stop nodes trail edges) is h in trail_earlier f.met trail f.shown.kept

  module _ (first begun whole : List ℕ) (count : ℕ) (none : first ≡ []) (head : begun ≡ first ++ w.head) (counts : count ≡ length nodes - 1) where
    head_alone : begun ≡ w.head
    head_alone = head ∙ ap (λ t. t ++ w.head) none

    pub laid_found : (finding : Finding) → finding ≡ findings.Found → Concludes p s limit w last finding stop nodes trail edges → (with_way : List ℕ)
        → SaysWay p w nodes trail (length trail) begun with_way
        → ((n : ℕ) → edges ≡ cut n → whole ≡ with_way ++ last (result_of finding stop) count n) → IsSearched p s w last limit (result_of finding stop) whole
    laid_found finding is h with_way way verdict =
        let f = subst (λ x. Concludes p s limit w last x stop nodes trail edges) is h in
        subst (λ x. IsSearched p s w last limit (result_of x stop) whole) (sym is)
        (subst (IsSearched p s w last limit found) (sym (text f)) f.ends)
      where
        text : (f : IsFoundBy p s limit w last nodes trail edges) → whole ≡ (w.head ++ way_text w p.eq nodes p.root f.item.way) ++ last found (length nodes - 1) f.inner
        text f =
            verdict f.inner f.count
            ∙ ap (λ x. with_way ++ last (result_of x stop) count f.inner) is
            ∙ ap (λ t. t ++ last found count f.inner) (way f.met f.item f.shown f.last_met)
            ∙ ap (λ t. (t ++ way_text w p.eq nodes p.root f.item.way) ++ last found count f.inner) head_alone
            ∙ ap (λ n. (w.head ++ way_text w p.eq nodes p.root f.item.way) ++ last found n f.inner) counts

    without : (r : Result) → EndsWithout p s limit w last r nodes edges → ((n : ℕ) → edges ≡ cut n → whole ≡ begun ++ last r count n) → IsSearched p s w last limit r whole
    without r e verdict = subst (IsSearched p s w last limit r) (sym (verdict e.inner e.count ∙ ap (λ t. t ++ last r count e.inner) head_alone ∙ ap (λ n. w.head ++ last r n e.inner) counts)) e.ends

    pub laid_other : (finding : Finding) → (finding ≡ findings.Found → ⊥) → Concludes p s limit w last finding stop nodes trail edges
        → ((n : ℕ) → edges ≡ cut n → whole ≡ begun ++ last (result_of finding stop) count n) → IsSearched p s w last limit (result_of finding stop) whole
    laid_other findings.Found other h verdict = absurd (other refl)
    laid_other findings.Missing other h verdict = without missing h verdict
    laid_other findings.OpenEnded other h verdict = without open_ended h verdict
    laid_other findings.Untold other h verdict = without (untold stop) h verdict

module _ {N L : Type 0} (p : Explored N L) (s : Sought N) (w : Words N L) (last : Result → (nodes edges : ℕ) → List ℕ) (limit : ℕ) (origin : Option (List ℕ)) where
  -- nothing is written yet
  pub stops_unwritten : StopsSearch p s w last limit origin origin
  stops_unwritten = ([], inl refl, front_whole origin origin [] (Appends-nil origin))

  -- the front of its text is written
  pub stops_in_text : (result : Result) (text : List ℕ) (new : Option (List ℕ)) → IsSearched p s w last limit result text → AppendsFront origin new text → StopsSearch p s w last limit origin new
  stops_in_text result text new searched front = (text, inr (result, searched), front)

-- ---- how a turn begins

-- unless it breaks off at once
pub goes_on : {N L : Type 0} (p : Explored N L) (b : Beginning) → (b ≡ beginnings.Regular) ⊎ (b ≡ beginnings.Stray)
    → (node : N) (now : Turn N L) (stop : List ℕ) (P : Type 0) → BeginsAs p b node now stop → UnlessOut b P
    → (stray : Bool) × (now ≡ record { stray = stray; edges = [] }) × p.BeginsTurn node now × P
goes_on p b (inl is) node now stop P begins unless =
    let h = subst (λ x. BeginsAs p x node now stop) is begins in
    (false, h.0, h.1, subst (λ x. UnlessOut x P) is unless)
goes_on p b (inr is) node now stop P begins unless =
    let h = subst (λ x. BeginsAs p x node now stop) is begins in
    (true, h.0, h.1, subst (λ x. UnlessOut x P) is unless)

-- ---- the findings are four

IsFound : Finding → Type 0
IsFound findings.Found = Unit {0}
IsFound findings.Missing = ⊥
IsFound findings.OpenEnded = ⊥
IsFound findings.Untold = ⊥

pub not_found : (f : Finding) → (f ≡ findings.Missing) ⊎ ((f ≡ findings.OpenEnded) ⊎ (f ≡ findings.Untold)) → f ≡ findings.Found → ⊥
unfolding IsFound
not_found f (inl is) found' = subst IsFound (sym found' ∙ is) tt
not_found f (inr (inl is)) found' = subst IsFound (sym found' ∙ is) tt
not_found f (inr (inr is)) found' = subst IsFound (sym found' ∙ is) tt
