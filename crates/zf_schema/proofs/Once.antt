-- What is made of schemas whose components have names of their own is such a schema.
use Rattle.zf_schema.proofs.Prelude.{if◌then◌else◌, ◌++◌, ◌+◌, ◌∙◌, ◌∷◌, ◌≡◌, [], ap, Bool, false, List, map, None, Option, refl, Some, subst, sym, true, ℕ, append_cancel_right, none-some, same_Some, bytes_eq, spelling, both, DeclTree, either, include, schema_reference, schema_bracket, schema_text, SchemaTree, Tree, vars, Name, SchemaRef, is_same, swapped, tests_alike, Comp, DeclaredSet, Defined, plain, Schema, schema, first_named, later, ResolvedTree, conjuncts, Ty, resolved, AreOnce, comp, comp_named, decorated, either_comps, marked, empty_schema, prime, with_comp, with_comps, AddsAll, Constrains, Declares, DeclaresOne, inside, IsSchema, IsText, outside, Refers, TakesAll, HasCompsOnce, HaveCompsOnce, type_found, type_named, RefMark, Plain, Delta, Xi, Span}
use Rattle.std.proofs.lemmas.Slice.Eq.{bytes_eq-Decides}
use Rattle.std.specs.List.{AllByRecursion}
use Rattle.zf_calculus.proofs.Merging.{none_known}
use Rattle.zf_schema.proofs.Named.{later_type, not_found}

-- ---- one more component

pub one_more_once : (cs : List Comp) (c : Comp) → AreOnce cs → AreOnce (with_comp cs c)
one_more_once [] c once = (refl, tt)
one_more_once (d ∷ ds) c once = by (bytes_eq d.name c.name) refl (one_more_once ds c once.1)
  where
    by : (t : Bool) → bytes_eq d.name c.name ≡ t → AreOnce (with_comp ds c) → AreOnce (if t then comp d.name d.type (d.sets ++ c.sets) ∷ ds else d ∷ with_comp ds c)
    by true same rest = (once.0, once.1)
    by false same rest = (none_known d.name ds c once.0 (swapped c.name d.name ∙ same), rest)

pub joined_once : (cs ds : List Comp) → AreOnce cs → AreOnce (with_comps cs ds)
joined_once cs [] once = once
joined_once cs (d ∷ ds) once = joined_once (with_comp cs d) ds (one_more_once cs d once)

-- ---- other names

type_renamed :
    (f : Comp → Comp) (x y : List ℕ) (cs : List Comp) → ((c : Comp) → bytes_eq (f c).name y ≡ bytes_eq c.name x) → ((c : Comp) → (f c).type ≡ c.type)
    → type_named y (map f cs) ≡ type_named x cs
type_renamed f x y [] alike types = refl
type_renamed f x y (c ∷ cs) alike types = by (bytes_eq (f c).name y) (bytes_eq c.name x) (alike c) (type_renamed f x y cs alike types)
  where
    by :
        (s t : Bool) → s ≡ t → type_named y (map f cs) ≡ type_named x cs
        → type_found (if s then Some (0, f c) else later (comp_named y (map f cs))) ≡ type_found (if t then Some (0, c) else later (comp_named x cs))
    by true true e rest = ap Some (types c)
    by true false e rest = absurd (cc)
    by false true e rest = absurd (cc)
    by false false e rest = later_type (comp_named y (map f cs)) ∙ rest ∙ sym (later_type (comp_named x cs))

-- names that differ still do
pub renamed_once :
    (f : Comp → Comp) (cs : List Comp) → ((c d : Comp) → bytes_eq (f c).name (f d).name ≡ bytes_eq c.name d.name) → ((c : Comp) → (f c).type ≡ c.type)
    → AreOnce cs → AreOnce (map f cs)
renamed_once f [] alike types once = tt
renamed_once f (c ∷ cs) alike types once =
    let none = type_renamed f c.name (f c).name cs (λ d. alike d c) types ∙ ap type_found once.0 in
    (not_found (comp_named (f c).name (map f cs)) none, renamed_once f cs alike types once.1)

stroked : (x y strokes : List ℕ) → bytes_eq (x ++ strokes) (y ++ strokes) ≡ bytes_eq x y
stroked x y strokes =
    tests_alike (bytes_eq (x ++ strokes) (y ++ strokes)) (bytes_eq x y)
    (λ e. (bytes_eq-Decides x y).1 (append_cancel_right x y strokes (is_same (x ++ strokes) (y ++ strokes) e)))
    (λ e. (bytes_eq-Decides (x ++ strokes) (y ++ strokes)).1 (ap (λ n. n ++ strokes) (is_same x y e)))

pub decorated_once : (strokes : List ℕ) (a : Schema) → AreOnce a.comps → AreOnce (decorated strokes a).comps
decorated_once strokes a once = renamed_once (λ c. comp (c.name ++ strokes) c.type c.sets) a.comps (λ c d. stroked c.name d.name strokes) (λ c. refl) once

pub marked_once : (mark : RefMark) (l : Span) (a : Schema) → AreOnce a.comps → AreOnce (marked mark l a).comps
marked_once Plain l a once = once
marked_once Delta l a once = joined_once a.comps (decorated prime a).comps once
marked_once Xi l a once = joined_once a.comps (decorated prime a).comps once

pub disjoined_once : (cs ds : List Comp) → AreOnce cs → AreOnce (either_comps cs ds)
disjoined_once cs ds once = renamed_once _ (with_comps cs ds) (λ c d. refl) (λ c. refl) (joined_once cs ds once)

-- ---- schema expressions

-- what holds of all holds of the one that is found
found_holds : (P : Defined → Type 0) (x : List ℕ) (g : List Defined) (p : ℕ × Defined) → AllByRecursion P g → first_named (λ d. d.name) x g ≡ Some p → P p.1
found_holds P x [] p all e = absurd (none-some p e)
found_holds P x (d ∷ g) p all e = by (bytes_eq d.name x) (first_named (λ d. d.name) x g) (λ q. found_holds P x g q all.1) e
  where
    by : (t : Bool) (o : Option (ℕ × Defined)) → ((q : ℕ × Defined) → o ≡ Some q → P q.1) → (if t then Some (0, d) else later o) ≡ Some p → P p.1
    by true o rest e = subst (λ q. P q.1) (same_Some (0, d) p e) all.0
    by false None rest e = absurd (none-some p e)
    by false (Some q) rest e = subst (λ r. P r.1) (same_Some (q.0 + 1, q.1) p e) (rest q refl)

pub reference_once : (g : List Defined) (r : SchemaRef) (b : Schema) → HaveCompsOnce g → Refers g r b → AreOnce b.comps
reference_once g r b all p =
    let base = found_holds (λ d. HasCompsOnce d.definition) r.name.base g (p.0, record { name = p.1; definition = schema p.2 }) all p.3 in
    let once = decorated_once r.name.strokes (marked r.mark r.name.span p.2) (marked_once r.mark r.name.span p.2 base) in
    subst (λ v. AreOnce v.comps) (sym p.5.0) once

pub all_added_once : (a : Schema) (ns : List Name) (t : Ty) (s : DeclaredSet) (b : Schema) → AreOnce a.comps → AddsAll a ns t s b → AreOnce b.comps
all_added_once a [] t s b once p = subst (λ v. AreOnce v.comps) (sym p) once
all_added_once a (n ∷ ns) t s b once p =
    let added = one_more_once a.comps (comp (spelling n) t (s ∷ [])) once in
    all_added_once p.0 ns t s b (subst (λ v. AreOnce v.comps) (sym p.1.1.0) added) p.2

pub declaration_once : (g : List Defined) (a : Schema) (d : DeclTree) (b : Schema) → AreOnce a.comps → DeclaresOne g a d b → AreOnce b.comps
declaration_once g a (vars ns e) b once p = all_added_once a ns p.0 (plain (resolved (outside g) e)) b once p.2
declaration_once g a (include r) b once p = subst (λ v. AreOnce v.comps) (sym p.2.1.0) (joined_once a.comps p.0.comps once)

pub declared_once : (g : List Defined) (a : Schema) (ds : List DeclTree) (b : Schema) → AreOnce a.comps → Declares g a ds b → AreOnce b.comps
declared_once g a [] b once p = subst (λ v. AreOnce v.comps) (sym p) once
declared_once g a (d ∷ ds) b once p = declared_once g p.0 ds b (declaration_once g a d p.0 once p.1) p.2

-- predicates change no component
pub taken_comps : (a : Schema) (cs : List ResolvedTree) (b : Schema) → TakesAll a cs b → b.comps ≡ a.comps
taken_comps a [] b p = ap (λ v. v.comps) p
taken_comps a (c ∷ cs) b p = taken_comps p.0 cs b p.2 ∙ ap (λ v. v.comps) p.1.0

pub constrained_comps : (g : List Defined) (a : Schema) (es : List Tree) (b : Schema) → Constrains g a es b → b.comps ≡ a.comps
constrained_comps g a [] b p = ap (λ v. v.comps) p
constrained_comps g a (e ∷ es) b p = constrained_comps g p.0 es b p.2 ∙ taken_comps a (conjuncts (resolved (inside g a) e)) p.0 p.1.1

pub text_once : (g : List Defined) (ds : List DeclTree) (es : List Tree) (b : Schema) → IsText g ds es b → AreOnce b.comps
text_once g ds es b p = subst AreOnce (sym (constrained_comps g p.0 es b p.2)) (declared_once g empty_schema ds p.0 tt p.1)

pub schema_once : (g : List Defined) (x : SchemaTree) (c : Schema) → HaveCompsOnce g → IsSchema g x c → AreOnce c.comps
schema_once g (schema_text s ds es) c all p = text_once g ds es c p
schema_once g (schema_reference s r) c all p = reference_once g r c all p
schema_once g (both s x y) c all p = subst (λ v. AreOnce v.comps) (sym p.5.0) (joined_once p.0.comps p.1.comps (schema_once g x p.0 all p.2))
schema_once g (either s x y) c all p = subst (λ v. AreOnce v.comps) (sym p.5.0) (disjoined_once p.0.comps p.1.comps (schema_once g x p.0 all p.2))
schema_once g (schema_bracket s x) c all p = schema_once g x c all p
