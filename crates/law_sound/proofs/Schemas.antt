-- The declared sets of each schema that is defined are sets for its components.
use Rattle.law_sound.proofs.Prelude.{AllByRecursion, ◌<◌, ◌∷◌, ◌≡◌, [], arith, List, refl, Some, subst, suc, sym, take, zero, ℕ, slice_get, spelling, both, DeclTree, either, include, schema_reference, schema_bracket, schema_text, SchemaTree, vars, Name, DeclaredSet, Defined, Definition, plain, Schema, schema, Ty, resolved, comp, marked, empty_schema, named_there, constrained_comps, reference_once, schema_once, AddsAll, Declares, DeclaresOne, IsSchema, outside, Refers, HasCompsOnce, HaveCompsOnce, AreWellTyped, IsMadeAfter}
use Rattle.zf_tree.specs.declared.tree.SchemaRef.{SchemaRef}
use Rattle.law_sound.proofs.DeclaredSets.{IsSetFor}
use Rattle.law_sound.proofs.Globals.{in_front}
use Rattle.law_sound.proofs.Components.{all_at, AreCompsFor, one_more_for, joined_for, decorated_for, marked_for, either_for}

-- ---- names of their own

all_of : {A : Type 0} (P : A → Type 0) (xs : List A) → ((i : ℕ) (x : A) → slice_get xs i ≡ Some x → P x) → AllByRecursion P xs
all_of P [] f = tt
all_of P (x ∷ xs) f = (f 0 x refl, all_of P xs (λ i y e. f (suc i) y e))

definition_once : (g : List Defined) (name : List ℕ) (x : Definition) → HaveCompsOnce g → IsMadeAfter g name x → HasCompsOnce x
definition_once g name (schema a) all made = schema_once g made.0 a all made.1
definition_once g name _ all made = tt

once_below : (g : List Defined) → AreWellTyped g → (k i : ℕ) (d : Defined) → i < k → slice_get g i ≡ Some d → HasCompsOnce d.definition
once_below g well zero i d l at = absurd (omega (arith, l))
once_below g well (suc k) i d l at =
    definition_once (take i g) d.name d.definition
    (all_of (λ x. HasCompsOnce x.definition) (take i g) (λ j x e. let q = in_front i j g x e in let before = q.0 in once_below g well k j x (omega (arith, l, before)) q.1))
    (well i d at)

once_in_front : (g : List Defined) → AreWellTyped g → (n : ℕ) → HaveCompsOnce (take n g)
once_in_front g well n = all_of (λ x. HasCompsOnce x.definition) (take n g) (λ j x e. let q = in_front n j g x e in once_below g well (suc j) j x (omega arith) q.1)

-- ---- schema expressions after the first n globals, where the schemas among these are as they are to be

abbrev AreForBelow : List Defined → ℕ → Type 0
AreForBelow g n = (i : ℕ) (name : List ℕ) (a : Schema) → i < n → slice_get g i ≡ Some (record { name = name; definition = schema a }) → AreCompsFor g a.comps

module _ (g : List Defined) (n : ℕ) (once : HaveCompsOnce (take n g)) (before : AreForBelow g n) where
  reference_for : (r : SchemaRef) (b : Schema) → Refers (take n g) r b → AreCompsFor g b.comps
  reference_for r b p =
      let base : Defined = record { name = p.1; definition = schema p.2 } in
      let there = (named_there (λ d. d.name) r.name.base (take n g) (p.0, base) p.3).0 in
      let front = in_front n p.0 g base there in
      let own = before p.0 p.1 p.2 front.0 front.1 in
      let names = all_at (λ d. HasCompsOnce d.definition) (take n g) p.0 base once there in
      subst (λ v. AreCompsFor g v.comps) (sym p.5.0) (decorated_for g r.name.strokes (marked r.mark r.name.span p.2).comps (marked_for g r.mark r.name.span p.2 own names p.4))

  added_for : (a : Schema) (ns : List Name) (t : Ty) (d : DeclaredSet) (b : Schema) → AreCompsFor g a.comps → IsSetFor g t d → AddsAll a ns t d b → AreCompsFor g b.comps
  added_for a [] t d b h k p = subst (λ v. AreCompsFor g v.comps) (sym p) h
  added_for a (m ∷ ns) t d b h k p =
      added_for p.0 ns t d b (subst (λ v. AreCompsFor g v.comps) (sym p.1.1.0) (one_more_for g a.comps (comp (spelling m) t (d ∷ [])) h p.1.0 (tt, (k, tt)))) k p.2

  declaration_for : (a : Schema) (d : DeclTree) (b : Schema) → AreCompsFor g a.comps → DeclaresOne (take n g) a d b → AreCompsFor g b.comps
  declaration_for a (vars ns e) b h p = added_for a ns p.0 (plain (resolved (outside (take n g)) e)) b h (n, e, p.1, refl) p.2
  declaration_for a (include r) b h p =
      subst (λ v. AreCompsFor g v.comps) (sym p.2.1.0) (joined_for g a.comps p.0.comps h (reference_for r p.0 p.1) (reference_once (take n g) r p.0 once p.1) p.2.0)

  declared_for : (a : Schema) (ds : List DeclTree) (b : Schema) → AreCompsFor g a.comps → Declares (take n g) a ds b → AreCompsFor g b.comps
  declared_for a [] b h p = subst (λ v. AreCompsFor g v.comps) (sym p) h
  declared_for a (d ∷ ds) b h p = declared_for p.0 ds b (declaration_for a d p.0 h p.1) p.2

  schema_for : (x : SchemaTree) (c : Schema) → IsSchema (take n g) x c → AreCompsFor g c.comps
  schema_for (schema_text s ds es) c p = subst (AreCompsFor g) (sym (constrained_comps (take n g) p.0 es c p.2)) (declared_for empty_schema ds p.0 tt p.1)
  schema_for (schema_reference s r) c p = reference_for r c p
  schema_for (both s x y) c p =
      subst (λ v. AreCompsFor g v.comps) (sym p.5.0) (joined_for g p.0.comps p.1.comps (schema_for x p.0 p.2) (schema_for y p.1 p.3) (schema_once (take n g) y p.1 once p.3) p.4)
  schema_for (either s x y) c p =
      subst (λ v. AreCompsFor g v.comps) (sym p.5.0) (either_for g p.0.comps p.1.comps (schema_for x p.0 p.2) (schema_for y p.1 p.3) (schema_once (take n g) x p.0 once p.2) p.4)
  schema_for (schema_bracket s x) c p = schema_for x c p

for_below : (g : List Defined) → AreWellTyped g → (n : ℕ) → AreForBelow g n
for_below g well zero i name a l at = absurd (omega (arith, l))
for_below g well (suc n) i name a l at =
    let made = well i (record { name = name; definition = schema a }) at in
    schema_for g i (once_in_front g well i) (λ j m b k q. for_below g well n j m b (omega (arith, l, k)) q) made.0 a made.1

pub comps_for : (g : List Defined) → AreWellTyped g → (i : ℕ) (name : List ℕ) (a : Schema) → slice_get g i ≡ Some (record { name = name; definition = schema a }) → AreCompsFor g a.comps
comps_for g well i name a at = for_below g well (suc i) i name a (omega arith) at
