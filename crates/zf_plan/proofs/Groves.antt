-- The trees of a list of nodes: each is that of its node over the others.
use Rattle.zf_plan.proofs.Prelude.{◌++◌, ◌+◌, ◌<◌, ◌∙◌, ◌∷◌, ◌≡◌, [], ap, arith, get_or, inl, inr, length, length-append, List, map, refl, Some, subst, suc, sym, zero, ℕ, get_or-append_seam, cases_lt, get_or_append_left, get_or_default, length-map, map-append, get_or_from_slice_get, slice_get-get_or, slice_get_within, All, slice_get, both, either, leaf, negated, Tree, tree_at}
use Rattle.zf_plan.specs.declared.node.Node.{Node}
use Rattle.zf_plan.specs.declared.node.Node.TheVariants.{Leaf, Not, And, Or}
use Rattle.zf_plan.specs.{Grove, Grows, HasLeavesWithin, HaveLeavesWithin, IsFlat, IsGrown, IsOver, Takes, tree_of, trees_made, trees_of, trees_onto}

onto-append : (made : List Tree) (nodes : List Node) (node : Node) → trees_onto made (nodes ++ node ∷ []) ≡ trees_onto made nodes ++ tree_of (trees_onto made nodes) node ∷ []
onto-append made [] node = refl
onto-append made (m ∷ nodes) node = onto-append (made ++ tree_of made m ∷ []) nodes node

length-onto : (made : List Tree) (nodes : List Node) → length (trees_onto made nodes) ≡ length made + length nodes
length-onto made [] = omega arith
length-onto made (m ∷ nodes) = length-onto (made ++ tree_of made m ∷ []) nodes ∙ (omega (arith, length-append made (tree_of made m ∷ [])))

-- what was made stays
onto-keeps : (made : List Tree) (nodes : List Node) (i : ℕ) → i < length made → tree_at (trees_onto made nodes) i ≡ tree_at made i
onto-keeps made [] i h = refl
onto-keeps made (m ∷ nodes) i h =
    onto-keeps (made ++ tree_of made m ∷ []) nodes i (omega (arith, length-append made (tree_of made m ∷ [])))
    ∙ get_or_append_left made (tree_of made m ∷ []) (leaf 0) i h

-- a node over the same trees
over-same : (made whole : List Tree) (k : ℕ) (node : Node) → IsOver k node → ((i : ℕ) → i < k → tree_at made i ≡ tree_at whole i) → tree_of made node ≡ tree_of whole node
over-same made whole k (Leaf c) o h = refl
over-same made whole k (Not a) o h = ap negated (h a o)
over-same made whole k (And a b) o h = ap (λ t. both t (tree_at made b)) (h a o.0) ∙ ap (both (tree_at whole a)) (h b o.1)
over-same made whole k (Or a b) o h = ap (λ t. either t (tree_at made b)) (h a o.0) ∙ ap (either (tree_at whole a)) (h b o.1)

onto-at : (made : List Tree) (nodes : List Node) (j : ℕ) (node : Node) → slice_get nodes j ≡ Some node → IsOver (length made + j) node
    → tree_at (trees_onto made nodes) (length made + j) ≡ tree_of (trees_onto made nodes) node
onto-at made [] j node e o = absurd (let w = slice_get_within [] j node e in omega arith)
onto-at made (m ∷ nodes) zero node e o =
    let same : m ≡ node = get_or_from_slice_get (m ∷ nodes) 0 node m e in
    let made' = made ++ tree_of made m ∷ [] in
    let long : length made' ≡ length made + 1 = length-append made (tree_of made m ∷ []) in
    let here : tree_at (trees_onto made' nodes) (length made) ≡ tree_of made m = onto-keeps made' nodes (length made) (omega arith) ∙ get_or-append_seam made (tree_of made m) [] (leaf 0) in
    let over : IsOver (length made) node = subst (λ k. IsOver k node) (omega arith) o in
    subst (λ k. tree_at (trees_onto made' nodes) k ≡ tree_of (trees_onto made' nodes) node) (omega arith)
    (here ∙ ap (tree_of made) same ∙ over-same made (trees_onto made' nodes) (length made) node over (λ i l.
    sym (onto-keeps made' nodes i (omega arith) ∙ get_or_append_left made (tree_of made m ∷ []) (leaf 0) i l)))
onto-at made (m ∷ nodes) (suc j) node e o =
    let made' = made ++ tree_of made m ∷ [] in
    let long : length made' ≡ length made + 1 = length-append made (tree_of made m ∷ []) in
    let up : length made' + j ≡ length made + suc j = omega arith in
    subst (λ k. tree_at (trees_onto made' nodes) k ≡ tree_of (trees_onto made' nodes) node) up
    (onto-at made' nodes j node e (subst (λ k. IsOver k node) (sym up) o))

pub length-made : (g : Grove) → length (trees_made g) ≡ length g.nodes
unfolding trees_made
length-made g = length-onto [] g.nodes ∙ (omega arith)

pub made-none : (g : Grove) → g.nodes ≡ [] → trees_made g ≡ []
unfolding trees_made
made-none g e = ap (trees_onto []) e

pub made-at : (g : Grove) (i : ℕ) (node : Node) → IsGrown g → slice_get g.nodes i ≡ Some node → tree_at (trees_made g) i ≡ tree_of (trees_made g) node
unfolding trees_made
made-at g i node w e =
    let z : 0 + i ≡ i = omega arith in
    subst (λ k. tree_at (trees_onto [] g.nodes) k ≡ tree_of (trees_onto [] g.nodes) node) z (onto-at [] g.nodes i node e (subst (λ k. IsOver k node) (sym z) (w.over i node e)))

-- trees at places among the first of a list
map-same : (made whole : List Tree) (roots : List ℕ) → All (λ r. r < length made) roots → ((i : ℕ) → i < length made → tree_at made i ≡ tree_at whole i)
    → map (tree_at made) roots ≡ map (tree_at whole) roots
map-same made whole [] a h = refl
map-same made whole (r ∷ roots) a h =
    ap (λ t. t ∷ map (tree_at made) roots) (h r (a 0 0 (omega arith))) ∙ ap (λ ts. tree_at whole r ∷ ts) (map-same made whole roots (λ k d l. a (suc k) d (omega arith)) h)

made-same : (g h : Grove) → h.nodes ≡ g.nodes → trees_made h ≡ trees_made g
unfolding trees_made
made-same g h e = ap (trees_onto []) e

made-more : (g h : Grove) (node : Node) → h.nodes ≡ g.nodes ++ node ∷ [] → trees_made h ≡ trees_made g ++ tree_of (trees_made g) node ∷ []
unfolding trees_made
made-more g h node e = ap (trees_onto []) e ∙ onto-append [] g.nodes node

-- one node more
pub grown : (g h : Grove) (node : Node) → IsGrown g → h.nodes ≡ g.nodes ++ node ∷ [] → h.roots ≡ g.roots → Grows g (tree_of (trees_made g) node) (length g.nodes) h
grown g h node w e r =
    let more : trees_made h ≡ trees_made g ++ tree_of (trees_made g) node ∷ [] = made-more g h node e in
    record {
      made = more;
      place = sym (length-made g);
      trees = ap (map (tree_at (trees_made h))) r ∙ sym (map-same (trees_made g) (trees_made h) g.roots
          (λ k d l. subst (λ n. get_or g.roots k d < n) (sym (length-made g)) (w.roots k d l))
          (λ i l. sym (ap (λ ts. tree_at ts i) more ∙ get_or_append_left (trees_made g) (tree_of (trees_made g) node ∷ []) (leaf 0) i l)));
    }

pub grown-still : (g h : Grove) (node : Node) → IsGrown g → IsOver (length (trees_made g)) node → h.nodes ≡ g.nodes ++ node ∷ [] → h.roots ≡ g.roots → IsGrown h
grown-still g h node w o e r = record {
  over = λ i n s. over i n (ap (λ ns. slice_get ns i) (sym e) ∙ s);
  roots = λ k d l. let rs : get_or g.roots k d ≡ get_or h.roots k d = ap (λ rs. get_or rs k d) (sym r) in
      let a : get_or g.roots k d < length g.nodes = w.roots k d (omega (arith, ap length r)) in
      omega (arith, ap length e, length-append g.nodes (node ∷ []));
} where
  over : (i : ℕ) (n : Node) → slice_get (g.nodes ++ node ∷ []) i ≡ Some n → IsOver i n
  over i n s =
      let l : i < length (g.nodes ++ node ∷ []) = slice_get_within (g.nodes ++ node ∷ []) i n s in
      let at : get_or (g.nodes ++ node ∷ []) i node ≡ n = get_or_from_slice_get (g.nodes ++ node ∷ []) i n node s in
      elim (cases_lt i (length g.nodes)) [
        | inl old ↦ w.over i n (slice_get-get_or g.nodes i node old ∙ ap Some (sym (get_or_append_left g.nodes (node ∷ []) node i old) ∙ at))
        | inr new ↦
            let here : i ≡ length g.nodes = omega (arith, length-append g.nodes (node ∷ [])) in
            let is : node ≡ n = sym (get_or-append_seam g.nodes node [] node) ∙ ap (λ k. get_or (g.nodes ++ node ∷ []) k node) (sym here) ∙ at in
            subst (IsOver i) is (subst (λ k. IsOver k node) (length-made g ∙ sym here) o)
      ]

-- one conjunct more
pub taken : (g h : Grove) (place : ℕ) → h.nodes ≡ g.nodes → h.roots ≡ g.roots ++ place ∷ [] → Takes g place h
taken g h place e r =
    let same : trees_made h ≡ trees_made g = made-same g h e in
    record { made = same; trees = ap (map (tree_at (trees_made h))) r ∙ ap (λ ts. map (tree_at ts) (g.roots ++ place ∷ [])) same ∙ map-append (tree_at (trees_made g)) g.roots (place ∷ []) }

pub taken-still : (g h : Grove) (place : ℕ) → IsGrown g → place < length (trees_made g) → h.nodes ≡ g.nodes → h.roots ≡ g.roots ++ place ∷ [] → IsGrown h
taken-still g h place w l e r = record {
  over = λ i n s. w.over i n (ap (λ ns. slice_get ns i) (sym e) ∙ s);
  roots = λ k d m. subst (λ n. get_or h.roots k d < n) (ap length (sym e)) (subst (λ rs. get_or rs k d < length g.nodes) (sym r) (roots k d (subst (λ rs. k < length rs) r m)));
} where
  roots : (k d : ℕ) → k < length (g.roots ++ place ∷ []) → get_or (g.roots ++ place ∷ []) k d < length g.nodes
  roots k d m = elim (cases_lt k (length g.roots)) [
    | inl old ↦ subst (λ r. r < length g.nodes) (sym (get_or_append_left g.roots (place ∷ []) d k old)) (w.roots k d old)
    | inr new ↦
        let here : k ≡ length g.roots = omega (arith, length-append g.roots (place ∷ [])) in
        let is : get_or (g.roots ++ place ∷ []) k d ≡ place = ap (λ i. get_or (g.roots ++ place ∷ []) i d) here ∙ get_or-append_seam g.roots place [] d in
        omega (arith, length-made g)
  ]

-- a root
pub root-within : (g : Grove) (j r : ℕ) → IsGrown g → j < length (trees_of g) → r ≡ get_or g.roots j r → r < length (trees_made g)
root-within g j r w l e =
    let long : j < length g.roots = omega (arith, length-map g.roots (tree_at (trees_made g))) in
    omega (arith, w.roots j r long, length-made g)

-- one leaf more
pub flat_push : (n at : ℕ) (old mid new : Grove) → IsFlat n (trees_of old) → Grows old (leaf n) at mid → Takes mid at new → IsFlat (n + 1) (trees_of new)
flat_push n at old mid new f g t =
    let trees : trees_of new ≡ trees_of old ++ leaf n ∷ [] = t.trees ∙ ap (λ ts. ts ++ tree_at (trees_made mid) at ∷ []) g.trees ∙ ap (λ x. trees_of old ++ x ∷ [])
    (ap (tree_at (trees_made mid)) g.place ∙ ap (λ ts. tree_at ts (length (trees_made old))) g.made ∙ get_or-append_seam (trees_made old) (leaf n) [] (leaf 0)) in
    record {
      number = ap length trees ∙ length-append (trees_of old) (leaf n ∷ []) ∙ ap (λ i. i + 1) f.number;
      leaves = λ c m. ap (λ ts. tree_at ts c) trees ∙ elim (cases_lt c n) [
        | inl low ↦ get_or_append_left (trees_of old) (leaf n ∷ []) (leaf 0) c (let e = f.number in omega arith) ∙ f.leaves c low
        | inr high ↦
            let here : c ≡ length (trees_of old) = let e = f.number in omega arith in
            ap (tree_at (trees_of old ++ leaf n ∷ [])) here ∙ get_or-append_seam (trees_of old) (leaf n) [] (leaf 0) ∙ ap leaf (let e = f.number in omega arith)
      ];
    }

pub flat_none : (g : Grove) → trees_of g ≡ [] → IsFlat 0 (trees_of g)
flat_none g e = record { number = ap length e; leaves = λ c m. absurd (omega arith) }

pub flat-leaves : (n : ℕ) (trees : List Tree) → IsFlat n trees → HaveLeavesWithin n trees
flat-leaves n trees f i d h =
    let low : i < n = let e = f.number in omega arith in
    subst (HasLeavesWithin n) (sym (get_or_default trees i d (leaf 0) h ∙ f.leaves i low)) low
