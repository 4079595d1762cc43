-- The declared sets of components are sets for them, and stay so where schemas are made of others.
use Rattle.law_sound.proofs.Prelude.{AllByRecursion, if◌then◌else◌, ◌++◌, ◌∙◌, ◌∷◌, ◌≡◌, [], ap, Bool, false, List, map, None, Option, refl, Some, subst, suc, sym, true, zero, ℕ, none-some, same_Some, slice_get, bytes_eq, swapped, Comp, DeclaredSet, Defined, Schema, sets_of, later, Ty, joined_type, named_there, type_of_once, type_one_more, decorated_once, joined_once, type_found, type_named, option_or, Agree, Agrees, AreOnce, HasTypeOf, MarkAgrees, comp, comp_named, decorated, either_comps, marked, prime, sets_on, with_comp, with_comps}
use Rattle.zf_tree.specs.declared.span.Span.{Span}
use Rattle.zf_tree.specs.declared.tree.RefMark.{RefMark}
use Rattle.zf_tree.specs.declared.tree.RefMark.TheVariants.{Plain, Delta, Xi}
use Rattle.zf_term.proofs.Choices.{or_none}
use Rattle.zf_calculus.proofs.Merging.{nothing_before}
use Rattle.law_sound.proofs.DeclaredSets.{IsSome, AreSetsFor}

-- the component has declared sets, and they are sets for its type
abbrev pub IsCompFor : List Defined → Comp → Type 0
IsCompFor g c = IsSome (sets_of c.sets) × AreSetsFor g c.type (sets_of c.sets)

abbrev pub AreCompsFor : List Defined → List Comp → Type 0
AreCompsFor g cs = AllByRecursion (IsCompFor g) cs

pub all_at : {A : Type 0} (P : A → Type 0) (xs : List A) (i : ℕ) (x : A) → AllByRecursion P xs → slice_get xs i ≡ Some x → P x
all_at P [] i x h e = absurd (none-some x e)
all_at P (y ∷ ys) zero x h e = subst P (same_Some y x e) h.0
all_at P (y ∷ ys) (suc i) x h e = all_at P ys i x h.1 e

-- ---- one more component

some_joined : (ds es : List DeclaredSet) → IsSome (sets_of ds) → IsSome (sets_of (ds ++ es))
some_joined [] es h = absurd h
some_joined (d ∷ ds) es h = tt

for_joined : (g : List Defined) (t : Ty) (ds es : List DeclaredSet) → AreSetsFor g t (sets_of ds) → AreSetsFor g t (sets_of es) → AreSetsFor g t (sets_of (ds ++ es))
for_joined g t [] es h k = k
for_joined g t (d ∷ ds) es h k = (h.0, for_joined g t ds es h.1 k)

earlier : (o : Option (ℕ × Comp)) (c : Comp) → HasTypeOf (later o) c → HasTypeOf o c
earlier None c h = tt
earlier (Some p) c h = h

pub one_more_for : (g : List Defined) (cs : List Comp) (c : Comp) → AreCompsFor g cs → Agrees cs c → IsCompFor g c → AreCompsFor g (with_comp cs c)
one_more_for g [] c h a k = (k, tt)
one_more_for g (d ∷ ds) c h a k = by (bytes_eq d.name c.name) a (λ b. one_more_for g ds c h.1 b k)
  where
    by : (s : Bool) → HasTypeOf (if s then Some (0, d) else later (comp_named c.name ds)) c → (Agrees ds c → AreCompsFor g (with_comp ds c))
        → AreCompsFor g (if s then comp d.name d.type (d.sets ++ c.sets) ∷ ds else d ∷ with_comp ds c)
    by true b rest = ((some_joined d.sets c.sets h.0.0, for_joined g d.type d.sets c.sets h.0.1 (subst (λ t. AreSetsFor g t (sets_of c.sets)) (sym b) k.1)), h.1)
    by false b rest = (h.0, rest (earlier (comp_named c.name ds) c b))

-- ---- components that agree

agreed_type : (o : Option (ℕ × Comp)) (c : Comp) → HasTypeOf o c → (u : Ty) → type_found o ≡ Some u → u ≡ c.type
agreed_type None c h u e = absurd (none-some u e)
agreed_type (Some p) c h u e = sym (same_Some p.1.type u e) ∙ h

type_agreed : (o : Option (ℕ × Comp)) (c : Comp) → ((u : Ty) → type_found o ≡ Some u → u ≡ c.type) → HasTypeOf o c
type_agreed None c f = tt
type_agreed (Some p) c f = f p.1.type refl

still_agrees : (cs : List Comp) (d c : Comp) → bytes_eq d.name c.name ≡ false → Agrees cs c → Agrees (with_comp cs d) c
still_agrees cs d c apart a =
    let same : type_named c.name (with_comp cs d) ≡ type_named c.name cs =
    type_one_more c.name cs d ∙ ap (λ b. option_or (type_named c.name cs) (if b then Some d.type else None)) apart ∙ or_none (type_named c.name cs) in
    type_agreed (comp_named c.name (with_comp cs d)) c (λ u e. agreed_type (comp_named c.name cs) c a u (sym same ∙ e))

all_still_agree : (cs : List Comp) (d : Comp) (ds : List Comp) → comp_named d.name ds ≡ None → Agree cs ds → Agree (with_comp cs d) ds
all_still_agree cs d [] none a = tt
all_still_agree cs d (c ∷ ds) none a =
    let u = nothing_before (bytes_eq c.name d.name) (0, c) (comp_named d.name ds) none in
    (still_agrees cs d c (swapped d.name c.name ∙ u.0) a.0, all_still_agree cs d ds u.1 a.1)

pub joined_for : (g : List Defined) (cs ds : List Comp) → AreCompsFor g cs → AreCompsFor g ds → AreOnce ds → Agree cs ds → AreCompsFor g (with_comps cs ds)
joined_for g cs [] h k once a = h
joined_for g cs (d ∷ ds) h k once a = joined_for g (with_comp cs d) ds (one_more_for g cs d h a.0 k.0) k.1 once.1 (all_still_agree cs d ds once.0 a.1)

-- ---- decoration, `\Delta` and `\Xi`

pub decorated_for : (g : List Defined) (strokes : List ℕ) (cs : List Comp) → AreCompsFor g cs → AreCompsFor g (map (λ c. comp (c.name ++ strokes) c.type c.sets) cs)
decorated_for g strokes [] h = tt
decorated_for g strokes (c ∷ cs) h = (h.0, decorated_for g strokes cs h.1)

delta_for : (g : List Defined) (a : Schema) → AreCompsFor g a.comps → AreOnce a.comps → Agree a.comps (decorated prime a).comps → AreCompsFor g (with_comps a.comps (decorated prime a).comps)
delta_for g a h once agree = joined_for g a.comps (decorated prime a).comps h (decorated_for g prime a.comps h) (decorated_once prime a once) agree

pub marked_for : (g : List Defined) (mark : RefMark) (l : Span) (a : Schema) → AreCompsFor g a.comps → AreOnce a.comps → MarkAgrees mark a → AreCompsFor g (marked mark l a).comps
marked_for g Plain l a h once agree = h
marked_for g Delta l a h once agree = delta_for g a h once agree
marked_for g Xi l a h once agree = delta_for g a h once agree

-- ---- disjunction

side_for : (g : List Defined) (cs : List Comp) (x : List ℕ) (t : Ty) → AreCompsFor g cs → ((p : ℕ × Comp) → comp_named x cs ≡ Some p → p.1.type ≡ t)
    → (o : Option (ℕ × Comp)) → comp_named x cs ≡ o → IsSome (sets_of (sets_on o t)) × AreSetsFor g t (sets_of (sets_on o t))
side_for g cs x t h same None e = (tt, (refl, tt))
side_for g cs x t h same (Some p) e =
    let k = all_at (IsCompFor g) cs p.0 p.1 h (named_there (λ c. c.name) x cs p e).0 in
    (k.0, subst (λ u. AreSetsFor g u (sets_of p.1.sets)) (same p e) k.1)

-- a component of the one schema, or of the other, has the type that it has in both
type_left : (cs ds : List Comp) (i : ℕ) (c : Comp) → AreOnce (with_comps cs ds) → slice_get (with_comps cs ds) i ≡ Some c → (p : ℕ × Comp) → comp_named c.name cs ≡ Some p → p.1.type ≡ c.type
type_left cs ds i c once at p e =
    same_Some p.1.type c.type (ap (λ o. option_or (type_found o) (type_named c.name ds)) (sym e) ∙ sym (joined_type c.name cs ds) ∙ type_of_once (with_comps cs ds) i c once at)

type_right : (cs ds : List Comp) (i : ℕ) (c : Comp) → AreOnce (with_comps cs ds) → Agree cs ds → slice_get (with_comps cs ds) i ≡ Some c → (p : ℕ × Comp)
    → comp_named c.name ds ≡ Some p → p.1.type ≡ c.type
type_right cs ds i c once agree at p e =
    let there = named_there (λ d. d.name) c.name ds p e in
    let agrees = subst (λ x. HasTypeOf (comp_named x cs) p.1) there.1 (all_at (Agrees cs) ds p.0 p.1 agree there.0) in
    by (comp_named c.name cs) agrees (sym (joined_type c.name cs ds) ∙ type_of_once (with_comps cs ds) i c once at)
  where
    by : (o : Option (ℕ × Comp)) → HasTypeOf o p.1 → option_or (type_found o) (type_named c.name ds) ≡ Some c.type → p.1.type ≡ c.type
    by None a f = same_Some p.1.type c.type (ap type_found (sym e) ∙ f)
    by (Some q) a f = sym a ∙ same_Some q.1.type c.type f

map_for : (g : List Defined) (f : Comp → Comp) (cs : List Comp) → ((i : ℕ) (c : Comp) → slice_get cs i ≡ Some c → IsCompFor g (f c)) → AreCompsFor g (map f cs)
map_for g f [] h = tt
map_for g f (c ∷ cs) h = (h 0 c refl, map_for g f cs (λ i d e. h (suc i) d e))

pub either_for : (g : List Defined) (cs ds : List Comp) → AreCompsFor g cs → AreCompsFor g ds → AreOnce cs → Agree cs ds → AreCompsFor g (either_comps cs ds)
either_for g cs ds h k once agree =
    let both = joined_once cs ds once in
    map_for g _ (with_comps cs ds) (λ i c at. (
      tt,
      (
        (side_for g cs c.name c.type h (type_left cs ds i c both at) (comp_named c.name cs) refl, side_for g ds c.name c.type k (type_right cs ds i c both agree at) (comp_named c.name ds) refl),
        tt,
      ),
    ))
