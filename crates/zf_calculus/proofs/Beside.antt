-- A schema beside another: what is counted of both, and what is left.
use Rattle.zf_calculus.proofs.Prelude.{◌++◌, ◌+◌, ◌-◌, ◌<◌, ◌∙◌, ◌∷◌, ◌≡◌, ◌≤◌, [], ap, arith, length, length-append, List, map, refl, ℕ, length-map, sum_by-append, sum_by-cons, AllByRecursion, sum_by, place_in, Comp, DeclaredSet, Schema, ResolvedTree, set_count, set_nodes, moved, nodes, AreAt, counted, HasLeft, IsLow, KeepsTo, conjoined, new_place, schema_with, with_comp, with_comps}
use Rattle.zf_term.specs.declared.fault.Limit.TheVariants as limit
use Rattle.zf_term.proofs.Renumbered.{same_height, same_nodes}
use Rattle.zf_calculus.proofs.Merging.{counts_more}
use Rattle.zf_calculus.proofs.Monotony.{all_low}
use Rattle.zf_calculus.proofs.Placing.{are_new_places}

counted_both : (f : DeclaredSet → ℕ) (cs ds : List Comp) → counted f (with_comps cs ds) ≡ counted f cs + counted f ds
counted_both f cs [] = let none : counted f [] ≡ 0 = refl in omega arith
counted_both f cs (d ∷ ds) = omega (arith, counted_both f (with_comp cs d) ds, counts_more f cs d, sum_by-cons (λ c. sum_by f c.sets) d ds)

moved_nodes : (f : ℕ → ℕ) (ts : List ResolvedTree) → sum_by nodes (map (moved f) ts) ≡ sum_by nodes ts
moved_nodes f [] = refl
moved_nodes f (t ∷ ts) = omega (arith, sum_by-cons nodes (moved f t) (map (moved f) ts), sum_by-cons nodes t ts, same_nodes f t, moved_nodes f ts)

moved_low : (f : ℕ → ℕ) (ts : List ResolvedTree) → AllByRecursion IsLow ts → AllByRecursion IsLow (map (moved f) ts)
moved_low f [] h = tt
moved_low f (t ∷ ts) h = (omega (arith, same_height f t, h.0), moved_low f ts h.1)

abbrev carrying : Schema → Schema → ℕ → ℕ
carrying a b = new_place b.comps (with_comps a.comps b.comps)

both_nodes : (a b : Schema) → sum_by nodes (conjoined a b).conjuncts ≡ sum_by nodes a.conjuncts + sum_by nodes b.conjuncts
both_nodes a b = sum_by-append nodes a.conjuncts (map (moved (carrying a b)) b.conjuncts) ∙ ap (λ n. sum_by nodes a.conjuncts + n) (moved_nodes (carrying a b) b.conjuncts)

both_long : (a b : Schema) → length (conjoined a b).conjuncts ≡ length a.conjuncts + length b.conjuncts
both_long a b = length-append a.conjuncts (map (moved (carrying a b)) b.conjuncts) ∙ ap (λ n. length a.conjuncts + n) (length-map b.conjuncts (moved (carrying a b)))

pub left_beside :
    (a b : Schema) (s n t m u v : ℕ) → HasLeft a s n → HasLeft b t m → u + (4096 - t) ≡ s → v + (65536 - m) ≡ n
    → length a.conjuncts + length b.conjuncts ≤ 4096
    → length (with_comps a.comps b.comps) ≤ 64
    → HasLeft (conjoined a b) u v
left_beside a b s n t m u v h g e f l room =
    let p = counted_both set_count a.comps b.comps in
    let q = counted_both set_nodes a.comps b.comps in
    let r = both_nodes a b in
    let long = both_long a b in
    let first_sets = h.sets in
    let first_nodes = h.nodes in
    let second_sets = g.sets in
    let second_nodes = g.nodes in
    record {
      sets = omega arith;
      nodes = omega arith;
      within = record {
        comps = room;
        sets = omega arith;
        conjuncts = omega arith;
        nodes = omega arith;
        low = all_low a.conjuncts (map (moved (carrying a b)) b.conjuncts) h.within.low (moved_low (carrying a b) b.conjuncts g.within.low);
      };
    }

pub sets_beside : (a b : Schema) (s n t m : ℕ) → HasLeft a s n → HasLeft b t m → s < 4096 - t → KeepsTo limit.Sets (conjoined a b) → ⊥
sets_beside a b s n t m h g e w = omega (arith, counted_both set_count a.comps b.comps, h.sets, g.sets, w)

pub nodes_beside : (a b : Schema) (s n t m : ℕ) → HasLeft a s n → HasLeft b t m → n < 65536 - m → KeepsTo limit.Nodes (conjoined a b) → ⊥
nodes_beside a b s n t m h g e w = omega (arith, counted_both set_nodes a.comps b.comps, both_nodes a b, h.nodes, g.nodes, w)

-- the components are joined, and the conjuncts follow them
pub both_made : (a b : Schema) (cs : List Comp) (ts : List ResolvedTree) (ps : List ℕ) → cs ≡ with_comps a.comps b.comps → AreAt cs ps b.comps
    → ts ≡ a.conjuncts ++ map (moved (place_in ps)) b.conjuncts → schema_with cs ts ≡ conjoined a b
both_made a b cs ts ps joined at taken =
    ap (λ (us : List ResolvedTree). schema_with cs us) (taken ∙ ap (λ (f : ℕ → ℕ). a.conjuncts ++ map (moved f) b.conjuncts) (are_new_places cs ps b.comps at))
    ∙ ap (λ (ds : List Comp). schema_with ds (a.conjuncts ++ map (moved (new_place b.comps ds)) b.conjuncts)) joined
