-- What a search for a node finds, and what it means that it finds none.
use Rattle.zf_graph.proofs.Prelude.{◌++◌, ◌∷◌, ◌≡◌, ◌⊎◌, [], inl, inr, length, List, subst, ℕ, Graph, Explored, Met, nodes_of, IsMet, beyond, arrive_all, with_edge, IsOf, AreOthers, doubts, finds, found, FoundIsShortest, inner_edges, IsDecisive, misses, missing, MissingIsNowhere, open_ended, Result, Sought, untold, Words, breaks, pauses}
use Rattle.zf_graph.proofs.Meeting.{finds_shortest, meets_reachable}

-- the results are four
is_found : Result → Type 0
is_found found = Unit {0}
is_found missing = ⊥
is_found open_ended = ⊥
is_found (untold at) = ⊥

is_missing : Result → Type 0
is_missing found = ⊥
is_missing missing = Unit {0}
is_missing open_ended = ⊥
is_missing (untold at) = ⊥

not_found : (r : Result) → found ≡ r → (is_found r → ⊥) → ⊥
unfolding is_found
not_found r e no' = no' (subst is_found e tt)

not_missing : (r : Result) → missing ≡ r → (is_missing r → ⊥) → ⊥
unfolding is_missing
not_missing r e no' = no' (subst is_missing e tt)

module _ {N L : Type 0} (p : Explored N L) (g : Graph N L) (s : Sought N) (w : Words N L) (last : Result → (nodes edges : ℕ) → List ℕ) (limit : ℕ) (of : IsOf p g) (decisive : IsDecisive p s) where
  -- what is another, or the root, is not sought
  none_of : (met : List (Met N L)) → AreOthers p s met → (b : N) → IsMet met b → s.IsSought b → ⊥
  none_of met others b m h = go (others b m)
    where
      go : (b ≡ p.root) ⊎ s.IsOther b → ⊥
      go (inl root) = decisive.root (subst s.IsSought root h)
      go (inr other) = decisive.not_both b other h

  pub found_is_shortest : FoundIsShortest p g s w last limit
  unfolding is_found
  found_is_shortest text (finds turns met a now e to begun few fresh others sought is written) = record {
    way = (beyond a e).way;
    nodes = nodes_of (arrive_all p.eq a met (now.edges ++ e ∷ []));
    states = length (arrive_all p.eq a met now.edges);
    steps = inner_edges turns (with_edge now e);
    shortest = finds_shortest g p of s.IsSought turns met a now e to begun (none_of (arrive_all p.eq a met now.edges) others) sought;
    written = written;
  }
  found_is_shortest text (misses turns met h few others is written) = absurd (not_found missing is (λ h. h))
  found_is_shortest text (pauses turns met a now e to begun full fresh others is written) = absurd (not_found open_ended is (λ h. h))
  found_is_shortest text (breaks turns met a now at to break few others is written) = absurd (not_found (untold at) is (λ h. h))
  found_is_shortest text (doubts turns met a now e at to begun few fresh others untold' is written) = absurd (not_found (untold at) is (λ h. h))

  pub missing_is_nowhere : MissingIsNowhere p g s w last limit
  unfolding is_missing
  missing_is_nowhere text (finds turns met a now e to begun few fresh others sought is written) b r h = not_missing found is (λ x. x)
  missing_is_nowhere text (misses turns met all few others is written) b r h = none_of met others b ((meets_reachable g p of turns met all b).1 r) h
  missing_is_nowhere text (pauses turns met a now e to begun full fresh others is written) b r h = not_missing open_ended is (λ x. x)
  missing_is_nowhere text (breaks turns met a now at to break few others is written) b r h = not_missing (untold at) is (λ x. x)
  missing_is_nowhere text (doubts turns met a now e at to begun few fresh others untold' is written) b r h = not_missing (untold at) is (λ x. x)
