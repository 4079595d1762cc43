-- The conjuncts of each schema that a text defines name its own components alone.
use Rattle.zf_answers.proofs.Prelude.{inl, inr, [], AllByRecursion, ap, ◌∙◌, false≢true, option_or, if◌then◌else◌, ◌++◌, ◌+◌, ◌<◌, ◌∷◌, ◌≡◌, ◌≤◌, arith, Bool, false, length, List, map, None, Option, refl, Some, subst, suc, sym, true, zero, ℕ, length-map, none-some, same_Some, bytes_eq, Component, spelling, both, DeclTree, either, include, schema_bracket, schema_text, SchemaTree, Tree, vars, carrier, Comp, DeclaredSet, Defined, plain, Schema, schema, sides, binary, ResolvedTree, conjuncts, term_span, moved, resolved, due, Ty}
use Rattle.std.specs.Prelude.{flat_map, fold, slice_get}
use Rattle.zf_tree.specs.declared.symbol.Connective.TheVariants.{And}
use Rattle.zf_tree.specs.declared.span.Span.{Span}
use Rattle.zf_tree.specs.declared.tree.Name.{Name}
use Rattle.zf_tree.specs.declared.tree.RefMark.{RefMark}
use Rattle.zf_tree.specs.declared.tree.RefMark.TheVariants.{Plain, Delta, Xi}
use Rattle.zf_tree.specs.declared.tree.SchemaRef.{SchemaRef}
use Rattle.zf_tree.specs.Trees as text
use Rattle.zf_tree.specs.declared.operator.Operator.TheVariants.{Connective}
use Rattle.zf_term.proofs.SameNames.{is_itself}
use Rattle.zf_constraints.specs.{constraints, membership, memberships}
use Rattle.zf_calculus.specs.{all_unchanged, carried, comp, comp_named, conjoined, decorated, delta, disjoined, either_comps, empty_schema, joined, marked, new_place, place_of, place_or, prime, with_comp, with_comps, xi}
use Rattle.zf_schema.specs.{AddsAll, both_span, Constrains, Declares, DeclaresOne, inside, IsSchema, outside, Refers, TakesAll}
use Rattle.std.proofs.lemmas.Option.{slice_get_cases}
use Rattle.zf_calculus.proofs.Merging.{known_is, none_shorter, nothing_before}
use Rattle.zf_schema.proofs.Named.{joined_type, named_there, not_found}
use Rattle.zf_schema.specs.{type_found, type_named}
use Rattle.zf_answers.proofs.Lists.{all_joined, all_mapped}
use Rattle.zf_answers.proofs.Within.{AreDue, conjuncts_due, due_both, due_joined, due_longer, greatest_onto, moved_due, resolved_within}

-- ---- places

-- a component of a list has a name there
has_name : (ds : List Comp) (i : ℕ) (d : Comp) → slice_get ds i ≡ Some d → comp_named d.name ds ≡ None → ⊥
has_name [] i d at none = absurd (none-some d at)
has_name (e ∷ ds) zero d at none =
    let other = (nothing_before (bytes_eq e.name d.name) (0, e) (comp_named d.name ds) none).0 in
    absurd (false≢true (sym other ∙ ap (λ (x : Comp). bytes_eq x.name d.name) (same_Some e d at) ∙ is_itself d.name))
has_name (e ∷ ds) (suc i) d at none = has_name ds i d at (nothing_before (bytes_eq e.name d.name) (0, e) (comp_named d.name ds) none).1

no_other : (o p : Option Ty) → option_or o p ≡ None → p ≡ None
no_other None p e = e
no_other (Some t) p e = absurd (none-some t (sym e))

new_place_within : (cs ds : List Comp) (i : ℕ) → i < length ds → new_place ds (with_comps cs ds) i < length (with_comps cs ds)
new_place_within cs ds i l = elim (slice_get_cases ds i).1 [
  | inl at ↦ subst (λ o. place_of o (with_comps cs ds) i < length (with_comps cs ds)) (sym at.2) (found at.0 (comp_named at.0.name (with_comps cs ds)) at.2 refl)
  | inr past ↦ let far = past.0 in absurd (omega (arith, l, far))
]
  where
    found : (d : Comp) (o : Option (ℕ × Comp)) → slice_get ds i ≡ Some d → comp_named d.name (with_comps cs ds) ≡ o → place_or o i < length (with_comps cs ds)
    found d (Some p) at e = (known_is d.name (with_comps cs ds) p.1 p.0 e).0
    found d None at e =
        let none = no_other (type_named d.name cs) (type_named d.name ds) (sym (joined_type d.name cs ds) ∙ ap type_found e) in
        absurd (has_name ds i d at (not_found (comp_named d.name ds) none))

-- ---- declared sets name no component

abbrev IsClosed : DeclaredSet → Type 0
IsClosed (plain e) = due e ≤ 0
IsClosed (carrier t) = Unit {0}
IsClosed (sides a b) = Unit {0}

abbrev AreClosed : List DeclaredSet → Type 0
AreClosed ds = AllByRecursion IsClosed ds

abbrev HaveClosed : List Comp → Type 0
HaveClosed cs = AllByRecursion (λ c. AreClosed c.sets) cs

closed_more : (cs : List Comp) (c : Comp) → HaveClosed cs → AreClosed c.sets → HaveClosed (with_comp cs c)
closed_more [] c h k = (k, tt)
closed_more (d ∷ ds) c h k = by (bytes_eq d.name c.name) (closed_more ds c h.1 k)
  where
    by : (s : Bool) → HaveClosed (with_comp ds c) → HaveClosed (if s then comp d.name d.type (d.sets ++ c.sets) ∷ ds else d ∷ with_comp ds c)
    by true g = (all_joined IsClosed d.sets c.sets h.0 k, h.1)
    by false g = (h.0, g)

closed_all : (cs ds : List Comp) → HaveClosed cs → HaveClosed ds → HaveClosed (with_comps cs ds)
closed_all cs [] h k = h
closed_all cs (d ∷ ds) h k = closed_all (with_comp cs d) ds (closed_more cs d h k.0) k.1

closed_mapped : (f : Comp → Comp) (cs : List Comp) → ((c : Comp) → AreClosed c.sets → AreClosed (f c).sets) → HaveClosed cs → HaveClosed (map f cs)
closed_mapped f cs made h = all_mapped (λ c. AreClosed c.sets) (λ c. AreClosed c.sets) f made cs h

-- ---- schemas

abbrev pub IsOwn : Schema → Type 0
IsOwn a = AreDue (length a.comps) a.conjuncts × HaveClosed a.comps

carried_due : (cs ds : List Comp) (ts : List ResolvedTree) → AreDue (length ds) ts → AreDue (length (with_comps cs ds)) (carried ds (with_comps cs ds) ts)
carried_due cs ds ts k =
    let n = length (with_comps cs ds) in let f = new_place ds (with_comps cs ds) in
    all_mapped (λ t. due t ≤ length ds) (λ t. due t ≤ n) (moved f) (λ t h. moved_due (length ds) n f t (new_place_within cs ds) h) ts k

own_conjoined : (a b : Schema) → IsOwn a → IsOwn b → IsOwn (conjoined a b)
own_conjoined a b h k = (
  due_joined (length (with_comps a.comps b.comps)) a.conjuncts (carried b.comps (with_comps a.comps b.comps) b.conjuncts)
      (due_longer (length a.comps) (length (with_comps a.comps b.comps)) a.conjuncts (none_shorter a.comps b.comps) h.0)
      (carried_due a.comps b.comps b.conjuncts k.0),
  closed_all a.comps b.comps h.1 k.1,
)

own_decorated : (strokes : List ℕ) (a : Schema) → IsOwn a → IsOwn (decorated strokes a)
own_decorated strokes a h = (
  due_longer (length a.comps) (length (decorated strokes a).comps) a.conjuncts (let l = length-map a.comps (λ c. comp (c.name ++ strokes) c.type c.sets) in omega (arith, l)) h.0,
  closed_mapped (λ c. comp (c.name ++ strokes) c.type c.sets) a.comps (λ c k. k) h.1,
)

unchanged_due : (n : ℕ) (l : Span) (primed all : List Comp) (i : ℕ) (cs : List Comp)
    → ((j : ℕ) → j < i + length cs → (j < n) × (new_place primed all j < n)) → AreDue n (all_unchanged l primed all i cs)
unchanged_due n l primed all i [] h = tt
unchanged_due n l primed all i (c ∷ cs) h = let k = h i (omega arith) in let k0 = k.0 in let k1 = k.1 in (
  omega (arith, k0, k1),
  unchanged_due n l primed all (i + 1) cs (λ j m. h j (omega (arith, m))),
)

own_delta : (a : Schema) → IsOwn a → IsOwn (delta a)
own_delta a h = own_conjoined a (decorated prime a) h (own_decorated prime a h)

own_xi : (l : Span) (a : Schema) → IsOwn a → IsOwn (xi l a)
own_xi l a h =
    let d = own_delta a h in (
      due_joined (length (delta a).comps) (delta a).conjuncts (all_unchanged l (decorated prime a).comps (delta a).comps 0 a.comps) d.0
          (unchanged_due (length (delta a).comps) l (decorated prime a).comps (delta a).comps 0 a.comps (λ j m. (
            let g = none_shorter a.comps (decorated prime a).comps in omega (arith, m, g),
            new_place_within a.comps (decorated prime a).comps j (let e = length-map a.comps (λ c. comp (c.name ++ prime) c.type c.sets) in omega (arith, m, e)),
          ))),
      d.1,
    )

own_marked : (mark : RefMark) (l : Span) (a : Schema) → IsOwn a → IsOwn (marked mark l a)
own_marked Plain l a h = h
own_marked Delta l a h = own_delta a h
own_marked Xi l a h = own_xi l a h

membership_due : (n i : ℕ) (d : DeclaredSet) → i < n → IsClosed d → AreDue n (membership i d)
membership_due n i (plain e) l h = (let whole = greatest_onto (Component i ∷ []) e in omega (arith, l, h, whole), tt)
membership_due n i (carrier t) l h = tt
membership_due n i (sides a b) l h = tt

sets_due : (n i : ℕ) (ds : List DeclaredSet) → i < n → AreClosed ds → AreDue n (flat_map (membership i) ds)
sets_due n i [] l h = tt
sets_due n i (d ∷ ds) l h = due_joined n (membership i d) (flat_map (membership i) ds) (membership_due n i d l h.0) (sets_due n i ds l h.1)

memberships_due : (n i : ℕ) (cs : List Comp) → i + length cs ≤ n → HaveClosed cs → AreDue n (memberships i cs)
memberships_due n i [] l h = tt
memberships_due n i (c ∷ cs) l h = due_joined n (flat_map (membership i) c.sets) (memberships (i + 1) cs) (sets_due n i c.sets (omega (arith, l)) h.0)
    (memberships_due n (i + 1) cs (omega (arith, l)) h.1)

constraints_due : (a : Schema) → IsOwn a → AreDue (length a.comps) (constraints a)
constraints_due a h = due_joined (length a.comps) (memberships 0 a.comps) a.conjuncts (memberships_due (length a.comps) 0 a.comps (omega arith) h.1) h.0

folded_due : (n : ℕ) (t : ResolvedTree) (ts : List ResolvedTree) → due t ≤ n → AreDue n ts
    → due (fold (λ u v. binary (term_span u) (Connective And) u v) t ts) ≤ n
folded_due n t [] h k = h
folded_due n t (u ∷ us) h k =
    let here = k.0 in let both = due_both t u in folded_due n (binary (term_span t) (Connective And) t u) us (omega (arith, h, here, both)) k.1

joined_due : (n : ℕ) (l : Span) (ts : List ResolvedTree) → AreDue n ts → due (joined l ts) ≤ n
joined_due n l [] h = omega arith
joined_due n l (t ∷ ts) h = folded_due n t ts h.0 h.1

own_disjoined : (l : Span) (a b : Schema) → IsOwn a → IsOwn b → IsOwn (disjoined l a b)
own_disjoined l a b h k =
    let all = with_comps a.comps b.comps in
    let n = length (either_comps a.comps b.comps) in
    let same : n ≡ length all = length-map all _ in
    let longer = none_shorter a.comps b.comps in
    let left = joined_due n l (constraints a) (due_longer (length a.comps) n (constraints a) (omega (arith, longer, same)) (constraints_due a h)) in
    let right = joined_due n l (carried b.comps all (constraints b)) (due_longer (length all) n (carried b.comps all (constraints b)) (omega (arith, same))
    (carried_due a.comps b.comps (constraints b) (constraints_due b k))) in
    let both = due_both (joined l (constraints a)) (joined l (carried b.comps all (constraints b))) in
    ((omega (arith, left, right, both), tt), closed_mapped _ all (λ c k. (tt, tt)) (closed_all a.comps b.comps h.1 k.1))

-- ---- what a text defines

-- each schema among the globals
abbrev pub AreOwn : List Defined → Type 0
AreOwn g = (i : ℕ) (name : List ℕ) (a : Schema) → slice_get g i ≡ Some (record { name = name; definition = schema a }) → IsOwn a

own_reference : (g : List Defined) (r : SchemaRef) (b : Schema) → AreOwn g → Refers g r b → IsOwn b
own_reference g r b all p =
    let base = all p.0 p.1 p.2 (named_there (λ d. d.name) r.name.base g (p.0, record { name = p.1; definition = schema p.2 }) p.3).0 in
    subst IsOwn (sym p.5.0) (own_decorated r.name.strokes (marked r.mark r.name.span p.2) (own_marked r.mark r.name.span p.2 base))

own_added : (a : Schema) (ns : List Name) (t : Ty) (s : DeclaredSet) (b : Schema) → IsClosed s → IsOwn a → AddsAll a ns t s b → IsOwn b
own_added a [] t s b c h p = subst IsOwn (sym p) h
own_added a (n ∷ ns) t s b c h p =
    let d = comp (spelling n) t (s ∷ []) in
    own_added p.0 ns t s b c
    (subst IsOwn (sym p.1.1.0) (due_longer (length a.comps) (length (with_comp a.comps d)) a.conjuncts (none_shorter a.comps (d ∷ [])) h.0, closed_more a.comps d h.1 (c, tt))) p.2

own_declaration : (g : List Defined) (a : Schema) (d : DeclTree) (b : Schema) → AreOwn g → IsOwn a → DeclaresOne g a d b → IsOwn b
own_declaration g a (vars ns e) b all h p = own_added a ns p.0 (plain (resolved (outside g) e)) b (resolved_within (outside g) e) h p.2
own_declaration g a (include r) b all h p = subst IsOwn (sym p.2.1.0) (own_conjoined a p.0 h (own_reference g r p.0 all p.1))

own_declared : (g : List Defined) (a : Schema) (ds : List DeclTree) (b : Schema) → AreOwn g → IsOwn a → Declares g a ds b → IsOwn b
own_declared g a [] b all h p = subst IsOwn (sym p) h
own_declared g a (d ∷ ds) b all h p = own_declared g p.0 ds b all (own_declaration g a d p.0 all h p.1) p.2

own_taken : (a : Schema) (ts : List ResolvedTree) (b : Schema) → AreDue (length a.comps) ts → IsOwn a → TakesAll a ts b → IsOwn b
own_taken a [] b k h p = subst IsOwn (sym p) h
own_taken a (t ∷ ts) b k h p =
    let next : IsOwn p.0 = subst IsOwn (sym p.1.0) (due_joined (length a.comps) a.conjuncts (t ∷ []) h.0 (k.0, tt), h.1) in
    own_taken p.0 ts b (subst (λ (v : Schema). AreDue (length v.comps) ts) (sym p.1.0) k.1) next p.2

own_constrained : (g : List Defined) (a : Schema) (es : List Tree) (b : Schema) → IsOwn a → Constrains g a es b → IsOwn b
own_constrained g a [] b h p = subst IsOwn (sym p) h
own_constrained g a (e ∷ es) b h p =
    own_constrained g p.0 es b (own_taken a (conjuncts (resolved (inside g a) e)) p.0 (conjuncts_due (length a.comps) (resolved (inside g a) e) (resolved_within (inside g a) e)) h p.1.1) p.2

pub own_schema : (g : List Defined) (x : SchemaTree) (c : Schema) → AreOwn g → IsSchema g x c → IsOwn c
own_schema g (schema_text s ds es) c all p = own_constrained g p.0 es c (own_declared g empty_schema ds p.0 all (tt, tt) p.1) p.2
own_schema g (text.schema_reference s r) c all p = own_reference g r c all p
own_schema g (both s x y) c all p = subst IsOwn (sym p.5.0) (own_conjoined p.0 p.1 (own_schema g x p.0 all p.2) (own_schema g y p.1 all p.3))
own_schema g (either s x y) c all p = subst IsOwn (sym p.5.0) (own_disjoined (both_span x y) p.0 p.1 (own_schema g x p.0 all p.2) (own_schema g y p.1 all p.3))
own_schema g (schema_bracket s x) c all p = own_schema g x c all p
