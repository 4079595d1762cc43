-- Strokes change no size, and are added to one component after another.
use Rattle.zf_calculus.proofs.Prelude.{set, drop-set-lt, drop_all, get_or_default, length-map, take_all, take_more_set, sum_by-cons, sum_by, dropped, pushed, Comp, comp_of, DeclaredSet, Schema, set_count, set_nodes, Component, counted, HasLeft, IsWithin, KeepsTo, Limit, comp, decorated, schema_with}
use Rattle.zf_term.specs.declared.fault.Limit.TheVariants as limit
use Rattle.std.proofs.Common.{◌≡◌, ℕ, ◌+◌, ◌<◌, ◌≤◌, Bool, true, ◌==◌, eqb-true, length, sym, List, [], ◌∷◌, ◌++◌, map, take, drop, get_or, refl, ap, ◌∙◌, subst, arith, append-nil}

abbrev pub stroked : List ℕ → Comp → Comp
stroked strokes c = comp (c.name ++ strokes) c.type c.sets

counts_same : (f : DeclaredSet → ℕ) (strokes : List ℕ) (cs : List Comp) → counted f (map (stroked strokes) cs) ≡ counted f cs
counts_same f strokes [] = refl
counts_same f strokes (c ∷ cs) =
    let rest = counts_same f strokes cs in
    omega (arith, sum_by-cons (λ d. sum_by f d.sets) c cs, sum_by-cons (λ d. sum_by f d.sets) (stroked strokes c) (map (stroked strokes) cs))

pub within_decorated : (strokes : List ℕ) (a : Schema) → IsWithin a → IsWithin (decorated strokes a)
within_decorated strokes a w =
    let l = length-map a.comps (stroked strokes) in
    let s = counts_same set_count strokes a.comps in
    let n = counts_same set_nodes strokes a.comps in
    let comps = w.comps in
    let sets = w.sets in
    let nodes = w.nodes in
    record {
      comps = omega arith;
      sets = omega arith;
      conjuncts = w.conjuncts;
      nodes = omega arith;
      low = w.low;
    }

pub keeps_undecorated : (l : Limit) (strokes : List ℕ) (a : Schema) → KeepsTo l (decorated strokes a) → KeepsTo l a
keeps_undecorated limit.TypeNodes strokes a w = tt
keeps_undecorated limit.Components strokes a w = omega (arith, length-map a.comps (stroked strokes), w)
keeps_undecorated limit.Sets strokes a w = omega (arith, counts_same set_count strokes a.comps, w)
keeps_undecorated limit.Conjuncts strokes a w = w
keeps_undecorated limit.Nodes strokes a w = omega (arith, counts_same set_nodes strokes a.comps, w)
keeps_undecorated limit.Height strokes a w = w

pub left_decorated : (strokes : List ℕ) (a b : Schema) (s n : ℕ) → HasLeft a s n → b ≡ decorated strokes a → HasLeft b s n
left_decorated strokes a b s n h e =
    let c = counts_same set_count strokes a.comps in
    let d = counts_same set_nodes strokes a.comps in
    let sets = h.sets in
    let nodes = h.nodes in
    let whole : HasLeft (decorated strokes a) s n = record {
      sets = omega arith;
      nodes = omega arith;
      within = within_decorated strokes a h.within;
    } in
    subst (λ (x : Schema). HasLeft x s n) (sym e) whole

no_strokes : (cs : List Comp) → map (stroked []) cs ≡ cs
no_strokes [] = refl
no_strokes (c ∷ cs) = ap (λ (x : List ℕ). comp x c.type c.sets ∷ map (stroked []) cs) (append-nil c.name) ∙ ap (λ (ds : List Comp). c ∷ ds) (no_strokes cs)

pub undecorated : (a : Schema) → decorated [] a ≡ a
undecorated a = ap (λ (cs : List Comp). schema_with cs a.conjuncts) (no_strokes a.comps)

pub unstroked : (strokes : List ℕ) (none : Bool) (a : Schema) → none ≡ true → none ≡ (length strokes == 0) → a ≡ decorated strokes a
unstroked [] none a set is = sym (undecorated a)
unstroked (x ∷ strokes) none a set is =
    let both : length (x ∷ strokes) ≡ 0 = eqb-true (length (x ∷ strokes)) 0 (sym is ∙ set) in
    absurd (omega (arith, both))

-- ---- one component after another

-- the first have the strokes, the others will have them
abbrev pub with_strokes_from : List ℕ → ℕ → List Component → List Comp
with_strokes_from strokes i cs = map comp_of (take i cs) ++ map (stroked strokes) (map comp_of (drop i cs))

pub one_more_stroked :
    (strokes : List ℕ) (cs : List Component) (i : ℕ) (item : Component) (x : List ℕ) (whole : List Comp) → i < length cs → x ≡ (get_or cs i item).name ++ strokes
    → with_strokes_from strokes i cs ≡ whole
    → with_strokes_from strokes (i + 1) (set cs i (record { name = x; ztype = (get_or cs i item).ztype; domains = (get_or cs i item).domains })) ≡ whole
one_more_stroked strokes cs i item x whole below e before =
    let c = get_or cs i item in
    let new : Component = record { name = x; ztype = c.ztype; domains = c.domains } in
    let behind = map (stroked strokes) (map comp_of (drop (i + 1) cs)) in
    ap (λ (ds : List Component). map comp_of (take (i + 1) (set cs i new)) ++ map (stroked strokes) (map comp_of ds)) (drop-set-lt (i + 1) cs i new (omega arith))
    ∙ pushed comp_of (take i cs) (take (i + 1) (set cs i new)) new behind (take_more_set cs i new below)
    ∙ ap (λ (y : List ℕ). map comp_of (take i cs) ++ comp y (comp_of c).type (comp_of c).sets ∷ behind) e
    ∙ ap (λ (ds : List Component). map comp_of (take i cs) ++ map (stroked strokes) (map comp_of ds)) (sym (dropped cs i c below (sym (get_or_default cs i c item below))))
    ∙ before

pub all_stroked : (strokes : List ℕ) (cs : List Component) (i : ℕ) (whole : List Comp) → length cs ≤ i → with_strokes_from strokes i cs ≡ whole → map comp_of cs ≡ whole
all_stroked strokes cs i whole past before =
    ap (map comp_of) (sym (take_all i cs past)) ∙ sym (append-nil (map comp_of (take i cs)))
    ∙ ap (λ (ds : List Component). map comp_of (take i cs) ++ map (stroked strokes) (map comp_of ds)) (sym (drop_all i cs past))
    ∙ before
