-- The way to a node that is met, backwards along the trail.
use Rattle.zf_reach.proofs.Prelude.{◌++◌, ◌-◌, ◌<◌, ◌∙◌, ◌∷◌, ◌≡◌, [], ap, append_assoc, arith, Explored, length, List, refl, slice_get, Some, subst, sym, Words, ℕ, way_text-push, at_map, one_at, end_of, Met, number_in, way_text, Arrival, by, edge, IsArrival, IsChain, over, SaysStep, SaysWay}
use Rattle.std.proofs.lemmas.List.{length-append, same_from_push}

module _ {L : Type 0} (trail : List (Arrival L)) (target : ℕ) where
  -- one more number
  pub chain_longer : (numbers after : List ℕ) (at : ℕ) (arrival : Arrival L) → after ≡ numbers ++ at ∷ [] → 0 < at → slice_get trail (at - 1) ≡ Some arrival
      → IsChain trail target numbers at → IsChain trail target after arrival.from
  chain_longer numbers after at arrival is some kept c = by after arrival.from numbers at arrival is some kept refl c

  -- the last number that is left
  pub record IsLast (rest : List ℕ) (number at : ℕ) : Type 0 where
    pub arrival : Arrival L
    pub some : 0 < number
    pub kept : slice_get trail (number - 1) ≡ Some arrival
    pub from : arrival.from ≡ at
    pub chain : IsChain trail target rest number

  pub chain_last : (numbers rest : List ℕ) (number at : ℕ) → numbers ≡ rest ++ number ∷ [] → IsChain trail target numbers at → IsLast rest number at
  chain_last numbers rest number at is (over ns at' none end) = absurd (let l = ap (λ xs. length xs) (sym none ∙ is) in let k = length-append rest (number ∷ []) in omega (arith, l, k))
  chain_last numbers rest number at is (by ns at' more last arrival split some kept from c) =
      let r = same_from_push rest more number last (sym is ∙ split) in
      record {
        arrival = arrival;
        some = subst (λ n. 0 < n) (sym r.1) some;
        kept = subst (λ n. slice_get trail (n - 1) ≡ Some arrival) (sym r.1) kept;
        from = from;
        chain = subst (λ xs. IsChain trail target xs number) (sym r.0) (subst (λ n. IsChain trail target more n) (sym r.1) c);
      }

  pub chain_over : (numbers : List ℕ) (at : ℕ) → numbers ≡ [] → IsChain trail target numbers at → at ≡ target
  chain_over numbers at is (over ns at' none end) = end
  chain_over numbers at is (by ns at' more last arrival split some kept from c) = absurd
      (let l = ap (λ xs. length xs) (sym is ∙ split) in let k = length-append more (last ∷ []) in omega (arith, l, k))

module _ {N L : Type 0} (p : Explored N L) (w : Words N L) (nodes : List N) (trail : List (Arrival L)) where
  -- with the lines of the next node
  pub way_further : (number from : ℕ) (arrival : Arrival L) → 0 < number → slice_get trail (number - 1) ≡ Some arrival → arrival.from ≡ from
      → (first old new : List ℕ) → SaysWay p w nodes trail from first old → SaysStep w nodes trail number old new
      → SaysWay p w nodes trail number first new
  way_further number from arrival some kept is first old new so_far step met x shown at =
      step x.node arrival (nodes_at number x at) kept
      ∙ ap (λ t. (t ++ w.node arrival.from number x.node) ++ w.edge arrival.from arrival.label number) before
      ∙ append_assoc (first ++ text) (w.node arrival.from number x.node) (w.edge arrival.from arrival.label number)
      ∙ append_assoc first text (w.node arrival.from number x.node ++ w.edge arrival.from arrival.label number)
      ∙ ap (λ t. first ++ t) (ap (λ n. text ++ (w.node n number x.node ++ w.edge n arrival.label number)) (sym number_from)
      ∙ ap (λ n. text ++ (w.node (number_in p.eq nodes (end_of p.root r.from.way)) n x.node ++ w.edge (number_in p.eq nodes (end_of p.root r.from.way)) arrival.label n)) (sym number_to)
      ∙ sym (way_text-push w p.eq nodes p.root r.from.way (edge arrival.label x.node))
      ∙ ap (λ es. way_text w p.eq nodes p.root es) (ap (λ (a : Arrival L). r.from.way ++ edge a.label x.node ∷ []) (sym same) ∙ sym r.way))
    where
      r : IsArrival met trail (number - 1) x
      r = shown.kept.arrivals (number - 1) x (subst (λ k. slice_get met k ≡ Some x) (omega (arith, some)) at)

      same : r.arrival ≡ arrival
      same = one_at trail (number - 1) r.arrival arrival r.kept kept

      from_at : slice_get met arrival.from ≡ Some r.from
      from_at = subst (λ (a : Arrival L). slice_get met a.from ≡ Some r.from) same r.at

      text : List ℕ
      text = way_text w p.eq nodes p.root r.from.way

      before : old ≡ first ++ way_text w p.eq nodes p.root r.from.way
      before = so_far met r.from shown (subst (λ k. slice_get met k ≡ Some r.from) is from_at)

      nodes_at : (i : ℕ) (y : Met N L) → slice_get met i ≡ Some y → slice_get nodes i ≡ Some y.node
      nodes_at i y h = subst (λ ns. slice_get ns i ≡ Some y.node) (sym shown.of_nodes) (at_map (λ (z : Met N L). z.node) met i y h)

      number_to : number_in p.eq nodes x.node ≡ number
      number_to = ap (λ ns. number_in p.eq ns x.node) shown.of_nodes ∙ (shown.numbered number x at).0

      number_from : number_in p.eq nodes (end_of p.root r.from.way) ≡ arrival.from
      number_from = ap (λ b. number_in p.eq nodes b) (shown.numbered arrival.from r.from from_at).1 ∙ ap (λ ns. number_in p.eq ns r.from.node) shown.of_nodes
          ∙ (shown.numbered arrival.from r.from from_at).0
