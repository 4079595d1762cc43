-- The laws of what is searched.
use Rattle.zf_steps.proofs.Prelude.{ℕ, IsDecisive, IsOf, IsSearchedInOneWay, IsSure, decisive, exploration, explored_in, orderly, searched, sought_in, steps, System, verdict, words}
use Rattle.zf_graph.proofs.OneSearch.{one_search}
use Rattle.zf_graph.proofs.Turns.{of_graph, sure}
use Rattle.zf_steps.specs.contracts.node.NodePartialEq.TheImpl as nodes

pub is_of : (m : System) → IsOf (exploration m nodes.ghosts.eq) (steps m nodes.ghosts.eq)
is_of m = of_graph (searched m nodes.ghosts.eq) (orderly m)

pub is_sure : (m : System) → IsSure (exploration m nodes.ghosts.eq)
is_sure m = sure (searched m nodes.ghosts.eq) (orderly m)

pub is_decisive : (m : System) → IsDecisive (explored_in m) (sought_in m)
is_decisive m = decisive m nodes.ghosts.eq

pub is_searched_once : (m : System) (limit : ℕ) → IsSearchedInOneWay (explored_in m) (sought_in m) (words m) (verdict m) limit
is_searched_once m limit = one_search (explored_in m) (sought_in m) (words m) (verdict m) limit (is_sure m) (is_decisive m)
