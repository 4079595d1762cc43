-- A schema that has grown is within a limit only if it was before.
use Rattle.zf_calculus.proofs.Prelude.{◌++◌, ◌+◌, ◌<◌, ◌∷◌, ◌≡◌, ◌≤◌, [], arith, length, length-append, List, ℕ, sum_by-append, AllByRecursion, sum_by, Comp, Schema, ResolvedTree, set_count, set_nodes, nodes, grown, HasLeft, IsLow, IsTooLarge, KeepsTo, Limit, Offence, schema_with, with_comp}
use Rattle.zf_term.specs.declared.fault.Limit.TheVariants as limit
use Rattle.zf_calculus.proofs.Merging.{counts_more}

-- what passes a limit passes it with more
pub still_large : (a b : Schema) (o : Offence) → ((l : Limit) → KeepsTo l b → KeepsTo l a) → IsTooLarge a o → IsTooLarge b o
still_large a b o keep h = (h.0, h.1, λ w. h.2 (keep h.0 w))

first_low : (ts us : List ResolvedTree) → AllByRecursion IsLow (ts ++ us) → AllByRecursion IsLow ts
first_low [] us h = tt
first_low (t ∷ ts) us h = (h.0, first_low ts us h.1)

pub before_conjuncts : (l : Limit) (cs : List Comp) (ts us : List ResolvedTree) → KeepsTo l (schema_with cs (ts ++ us)) → KeepsTo l (schema_with cs ts)
before_conjuncts limit.TypeNodes cs ts us w = tt
before_conjuncts limit.Components cs ts us w = w
before_conjuncts limit.Sets cs ts us w = w
before_conjuncts limit.Conjuncts cs ts us w = omega (arith, length-append ts us, w)
before_conjuncts limit.Nodes cs ts us w = omega (arith, sum_by-append nodes ts us, w)
before_conjuncts limit.Height cs ts us w = first_low ts us w

-- ---- what is left of the limits

pub left_grown : (a : Schema) (c : Comp) (s n t m : ℕ) → HasLeft a s n → t + sum_by set_count c.sets ≡ s → m + sum_by set_nodes c.sets ≡ n → length (with_comp a.comps c) ≤ 64 → HasLeft (grown a c) t m
left_grown a c s n t m h e f l =
    let p = counts_more set_count a.comps c in
    let q = counts_more set_nodes a.comps c in
    let sets = h.sets in
    let nodes = h.nodes in
    record {
      sets = omega arith;
      nodes = omega arith;
      within = record {
        comps = l;
        sets = omega arith;
        conjuncts = h.within.conjuncts;
        nodes = omega arith;
        low = h.within.low;
      };
    }

pub sets_passed : (a : Schema) (c : Comp) (s n : ℕ) → HasLeft a s n → s < sum_by set_count c.sets → KeepsTo limit.Sets (grown a c) → ⊥
sets_passed a c s n h e w = omega (arith, counts_more set_count a.comps c, h.sets, w)

pub nodes_passed : (a : Schema) (c : Comp) (s n : ℕ) → HasLeft a s n → n < sum_by set_nodes c.sets → KeepsTo limit.Nodes (grown a c) → ⊥
nodes_passed a c s n h e w = omega (arith, counts_more set_nodes a.comps c, h.nodes, w)

pub all_low : (ts us : List ResolvedTree) → AllByRecursion IsLow ts → AllByRecursion IsLow us → AllByRecursion IsLow (ts ++ us)
all_low [] us h g = g
all_low (t ∷ ts) us h g = (h.0, all_low ts us h.1 g)
