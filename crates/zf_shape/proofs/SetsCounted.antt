-- What is counted of the first of several declared sets.
use Rattle.zf_shape.proofs.Prelude.{◌+◌, ◌<◌, ◌≡◌, ◌≤◌, arith, get_or, length, List, map, take, ℕ, set_of, all_set_counts, all_set_nodes, set_count, set_nodes}
use Rattle.zf_term.specs.declared.schema.Domain.{Domain}
use Rattle.zf_shape.proofs.FirstOf.{before, IsCounted, IsMore, more}

sets_counted : IsCounted (λ (x : Domain). set_count (set_of x)) (λ xs. all_set_counts (map set_of xs))
sets_counted = (omega arith, λ x xs. omega arith)

nodes_counted : IsCounted (λ (x : Domain). set_nodes (set_of x)) (λ xs. all_set_nodes (map set_of xs))
nodes_counted = (omega arith, λ x xs. omega arith)

pub counts_before : (xs : List Domain) (i : ℕ) (x : Domain) → x ≡ get_or xs i x → i < length xs → all_set_counts (map set_of (take i xs)) + set_count (set_of x) ≤ all_set_counts (map set_of xs)
counts_before = before _ _ sets_counted

pub nodes_before : (xs : List Domain) (i : ℕ) (x : Domain) → x ≡ get_or xs i x → i < length xs → all_set_nodes (map set_of (take i xs)) + set_nodes (set_of x) ≤ all_set_nodes (map set_of xs)
nodes_before = before _ _ nodes_counted

pub counts_more : IsMore (λ (x : Domain). set_count (set_of x)) (λ xs. all_set_counts (map set_of xs))
counts_more = more _ _ sets_counted

pub nodes_more : IsMore (λ (x : Domain). set_nodes (set_of x)) (λ xs. all_set_nodes (map set_of xs))
nodes_more = more _ _ nodes_counted
