-- A schema expression that is a schema has no offence.
use Rattle.zf_schema.proofs.Prelude.{both_span, ◌∙◌, ◌++◌, ◌∷◌, [], inl, inr, List, refl, subst, sym, ℕ, None, none-some, Option, same_Some, Some, spelling, both, DeclTree, either, include, schema_reference, schema_bracket, schema_text, SchemaTree, Tree, vars, Name, SchemaRef, DeclaredSet, Defined, plain, Schema, schema, ResolvedTree, conjuncts, Comp, Ty, Offence, no_offence, one_sort, same_set, Offends, resolved, predicate, set_sort, Clashes, Differs, Includes, IsNext, IsTooLarge, IsWithin, KeepsTo, Limit, MarkClashes, OneClashes, Stops, AddsAll, Constrains, Declares, DeclaresOne, inside, IsSchema, IsText, outside, Refers, TakesAll, AnyByRecursion, CantRefer, IsNoSchema, name_span, OffendsAfter, OffendsAlone, OffendsConjuncts, OffendsDecls, OffendsNames, OffendsPredicates, OffendsRef, OffendsSchema, OffendsText, OneConstrainsTooMuch, OneOffendsAfter, StopsEither, RefMark, Plain, Delta, Xi, Agree, Agrees, comp, comp_named, conjoined, decorated, disjoined, empty_schema, HasTypeOf, MarkAgrees, marked, prime, schema_with, with_comp, Span}
use Rattle.zf_tree.specs.declared.operator.Need.TheVariants as need
use Rattle.zf_term.specs.declared.fault.Limit.TheVariants as limit
use Rattle.zf_schema.proofs.Once.{taken_comps}
use Rattle.zf_schema.proofs.Texts.{same_judged}
use Rattle.zf_schema.proofs.OneSchema.{one_base, one_reference, one_added, one_declaration, all_declared, one_constraint, one_schema}

-- ---- what is next is not stopped

not_different : (o : Option (ℕ × Comp)) (c : Comp) (k : Offence) → HasTypeOf o c → Differs o c k → ⊥
not_different None c k agreed d = d
not_different (Some p) c k agreed d = d.0 agreed

none_clashes : (cs ds : List Comp) (k : Offence) → Agree cs ds → OneClashes cs ds k → ⊥
none_clashes cs [] k agreed d = d
none_clashes cs (c ∷ ds) k agreed (inl d) = not_different (comp_named c.name cs) c k agreed.0 d
none_clashes cs (c ∷ ds) k agreed (inr d) = none_clashes cs ds k agreed.1 d

mark_agrees : (mark : RefMark) (a : Schema) (k : Offence) → MarkAgrees mark a → MarkClashes mark a k → ⊥
mark_agrees Plain a k agreed d = d
mark_agrees Delta a k agreed d = none_clashes a.comps (decorated prime a).comps k agreed d
mark_agrees Xi a k agreed d = none_clashes a.comps (decorated prime a).comps k agreed d

keeps_each : (l : Limit) (a : Schema) → IsWithin a → KeepsTo l a
keeps_each limit.TypeNodes a w = tt
keeps_each limit.Components a w = w.comps
keeps_each limit.Sets a w = w.sets
keeps_each limit.Conjuncts a w = w.conjuncts
keeps_each limit.Nodes a w = w.nodes
keeps_each limit.Height a w = w.low

not_large : (a : Schema) (k : Offence) → IsWithin a → IsTooLarge a k → ⊥
not_large a k w h = h.2 (keeps_each h.0 a w)

pub not_stopped : (Clashing : Offence → Type 0) (Agreed : Type 0) (next b : Schema) (k : Offence) → (Clashing k → ⊥) → IsNext next b → Stops Clashing Agreed next k → ⊥
not_stopped Clashing Agreed next b k none p (inl o) = none o
not_stopped Clashing Agreed next b k none p (inr o) = not_large next k p.1 o.1

either_not_stopped :
    (Clashing : Offence → Type 0) (Agreed : Type 0) (next b : Schema) (l name : Span) (k : Offence) (m : Span)
    → (Clashing k → ⊥) → IsNext next b → StopsEither Clashing Agreed next l name k m → ⊥
either_not_stopped Clashing Agreed next b l name k m none p (inl o) = none o.1
either_not_stopped Clashing Agreed next b l name k m none p (inr o) = not_large next k p.1 o.2

-- ---- references

can_refer : (g : List Defined) (r : SchemaRef) (b : Schema) (k : Offence) → Refers g r b → CantRefer g r k → ⊥
can_refer g r b k p (inl o) = none-some (p.0, record { name = p.1; definition = schema p.2 }) (sym o.1 ∙ p.3)
can_refer g r b k p (inr (inl o)) =
    let same = same_Some (o.1, o.2) (p.0, record { name = p.1; definition = schema p.2 }) (sym o.3 ∙ p.3) in
    subst (λ d. IsNoSchema d.1.definition) same o.4
can_refer g r b k p (inr (inr o)) =
    let base = one_base g r.name.base p.0 o.0 p.1 o.1 p.2 o.2 p.3 o.3 in
    let agreed = subst (λ a. MarkAgrees r.mark a) base p.4 in
    let next = subst (λ a. IsNext (decorated r.name.strokes (marked r.mark r.name.span a)) b) base p.5 in
    not_stopped (MarkClashes r.mark o.2) (MarkAgrees r.mark o.2) (decorated r.name.strokes (marked r.mark r.name.span o.2)) b k (mark_agrees r.mark o.2 k agreed) next o.4

pub no_reference_offence : (g : List Defined) (r : SchemaRef) (b : Schema) (k : Offence) (m : Span) → Refers g r b → OffendsRef g r k m → ⊥
no_reference_offence g r b k m p o = can_refer g r b k p o.1

-- ---- declarations

pub no_name_offends : (a : Schema) (ns : List Name) (t : Ty) (s : DeclaredSet) (b : Schema) (k : Offence) (m : Span) → AddsAll a ns t s b → OffendsNames a ns t s k m → ⊥
no_name_offends a [] t s b k m p o = o
no_name_offends a (n ∷ ns) t s b k m p (inl o) =
    let c = comp (spelling n) t (s ∷ []) in
    not_stopped (Clashes a.comps c) (Agrees a.comps c) (schema_with (with_comp a.comps c) a.conjuncts) p.0 k (not_different (comp_named c.name a.comps) c k p.1.0) p.1.1 o.1
no_name_offends a (n ∷ ns) t s b k m p (inr o) =
    let mid = one_added a (comp (spelling n) t (s ∷ [])) p.0 o.0 p.1 o.1 in
    no_name_offends o.0 ns t s b k m (subst (λ v. AddsAll v ns t s b) mid p.2) o.2

no_offence_alone : (g : List Defined) (a : Schema) (d : DeclTree) (b : Schema) (k : Offence) (m : Span) → DeclaresOne g a d b → OffendsAlone g d k m → ⊥
no_offence_alone g a (vars ns e) b k m p o = no_offence (outside g) need.Set e (set_sort p.0) k m p.1 (p.0, refl) o
no_offence_alone g a (include r) b k m p o = no_reference_offence g r p.0 k m p.1 o

no_offence_after : (g : List Defined) (a : Schema) (d : DeclTree) (b : Schema) (k : Offence) (m : Span) → DeclaresOne g a d b → OffendsAfter g a d k m → ⊥
no_offence_after g a (vars ns e) b k m p o =
    let type = same_set p.0 o.0 (one_sort (outside g) e (set_sort p.0) (set_sort o.0) p.1 o.1) in
    let set = plain (resolved (outside g) e) in
    no_name_offends a ns o.0 set b k m (subst (λ t. AddsAll a ns t set b) type p.2) o.2
no_offence_after g a (include r) b k m p o =
    let included = one_reference g r p.0 o.0 p.1 o.1 in
    let taken = subst (λ c. Includes a c b) included p.2 in
    not_stopped (OneClashes a.comps o.0.comps) (Agree a.comps o.0.comps) (conjoined a o.0) b k (none_clashes a.comps o.0.comps k taken.0) taken.1 o.3

none_offends_alone : (g : List Defined) (a : Schema) (ds : List DeclTree) (b : Schema) (k : Offence) (m : Span) → Declares g a ds b → AnyByRecursion (λ d. OffendsAlone g d k m) ds → ⊥
none_offends_alone g a [] b k m p o = o
none_offends_alone g a (d ∷ ds) b k m p (inl o) = no_offence_alone g a d p.0 k m p.1 o
none_offends_alone g a (d ∷ ds) b k m p (inr o) = none_offends_alone g p.0 ds b k m p.2 o

none_offends_after : (g : List Defined) (a : Schema) (ds : List DeclTree) (b : Schema) (k : Offence) (m : Span) → Declares g a ds b → OneOffendsAfter g a ds k m → ⊥
none_offends_after g a [] b k m p o = o
none_offends_after g a (d ∷ ds) b k m p (inl o) = no_offence_after g a d p.0 k m p.1 o
none_offends_after g a (d ∷ ds) b k m p (inr o) =
    let mid = one_declaration g a d p.0 o.0 p.1 o.1 in
    none_offends_after g o.0 ds b k m (subst (λ v. Declares g v ds b) mid p.2) o.2

pub no_declared_offence : (g : List Defined) (a : Schema) (ds : List DeclTree) (b : Schema) (k : Offence) (m : Span) → Declares g a ds b → OffendsDecls g a ds k m → ⊥
no_declared_offence g a ds b k m p (inl o) = none_offends_alone g a ds b k m p o
no_declared_offence g a ds b k m p (inr o) = none_offends_after g a ds b k m p o

-- ---- predicates

pub no_conjunct_offends : (a : Schema) (cs : List ResolvedTree) (b : Schema) (k : Offence) (m : Span) → TakesAll a cs b → OffendsConjuncts a cs k m → ⊥
no_conjunct_offends a [] b k m p o = o
no_conjunct_offends a (c ∷ cs) b k m p (inl o) = not_large (schema_with a.comps (a.conjuncts ++ c ∷ [])) k p.1.1 o.1
no_conjunct_offends a (c ∷ cs) b k m p (inr o) =
    let mid = p.1.0 ∙ sym o.1.0 in
    no_conjunct_offends o.0 cs b k m (subst (λ v. TakesAll v cs b) mid p.2) o.2

all_are_predicates : (g : List Defined) (a : Schema) (es : List Tree) (b : Schema) (k : Offence) (m : Span) → Constrains g a es b → AnyByRecursion (λ e. Offends (inside g a) need.Predicate e k m) es → ⊥
all_are_predicates g a [] b k m p o = o
all_are_predicates g a (e ∷ es) b k m p (inl o) = no_offence (inside g a) need.Predicate e predicate k m p.1.0 refl o
all_are_predicates g a (e ∷ es) b k m p (inr o) =
    let comps = taken_comps a (conjuncts (resolved (inside g a) e)) p.0 p.1.1 in
    all_are_predicates g p.0 es b k m p.2 (same_judged g es a.comps p.0.comps k m (sym comps) o)

none_is_too_much : (g : List Defined) (a : Schema) (es : List Tree) (b : Schema) (k : Offence) (m : Span) → Constrains g a es b → OneConstrainsTooMuch g a es k m → ⊥
none_is_too_much g a [] b k m p o = o
none_is_too_much g a (e ∷ es) b k m p (inl o) = no_conjunct_offends a (conjuncts (resolved (inside g a) e)) p.0 k m p.1.1 o.1
none_is_too_much g a (e ∷ es) b k m p (inr o) =
    let mid = one_constraint g a e p.0 o.0 p.1 o.1 in
    none_is_too_much g o.0 es b k m (subst (λ v. Constrains g v es b) mid p.2) o.2

pub no_constraint_offence : (g : List Defined) (a : Schema) (es : List Tree) (b : Schema) (k : Offence) (m : Span) → Constrains g a es b → OffendsPredicates g a es k m → ⊥
no_constraint_offence g a es b k m p (inl o) = all_are_predicates g a es b k m p o
no_constraint_offence g a es b k m p (inr o) = none_is_too_much g a es b k m p o

-- ---- boxes and schema expressions

pub no_text_offence : (g : List Defined) (ds : List DeclTree) (es : List Tree) (b : Schema) (k : Offence) (m : Span) → IsText g ds es b → OffendsText g ds es k m → ⊥
no_text_offence g ds es b k m p (inl o) = no_declared_offence g empty_schema ds p.0 k m p.1 o
no_text_offence g ds es b k m p (inr o) =
    let mid = all_declared g empty_schema ds p.0 o.0 p.1 o.1 in
    no_constraint_offence g o.0 es b k m (subst (λ v. Constrains g v es b) mid p.2) o.2

pub no_schema_offence : (g : List Defined) (x : SchemaTree) (c : Schema) (k : Offence) (m : Span) → IsSchema g x c → OffendsSchema g x k m → ⊥
no_schema_offence g (schema_text s ds es) c k m p o = no_text_offence g ds es c k m p o
no_schema_offence g (schema_reference s r) c k m p o = no_reference_offence g r c k m p o
no_schema_offence g (both s x y) c k m p (inl o) = no_schema_offence g x p.0 k m p.2 o
no_schema_offence g (both s x y) c k m p (inr (inl o)) = no_schema_offence g y p.1 k m p.3 o
no_schema_offence g (both s x y) c k m p (inr (inr o)) =
    let left = one_schema g x p.0 o.0 p.2 o.2 in
    let right = one_schema g y p.1 o.1 p.3 o.3 in
    let agreed = subst (λ b. Agree o.0.comps b.comps) right (subst (λ a. Agree a.comps p.1.comps) left p.4) in
    let next = subst (λ b. IsNext (conjoined o.0 b) c) right (subst (λ a. IsNext (conjoined a p.1) c) left p.5) in
    not_stopped (OneClashes o.0.comps o.1.comps) (Agree o.0.comps o.1.comps) (conjoined o.0 o.1) c k (none_clashes o.0.comps o.1.comps k agreed) next o.5
no_schema_offence g (either s x y) c k m p (inl o) = no_schema_offence g x p.0 k m p.2 o
no_schema_offence g (either s x y) c k m p (inr (inl o)) = no_schema_offence g y p.1 k m p.3 o
no_schema_offence g (either s x y) c k m p (inr (inr o)) =
    let left = one_schema g x p.0 o.0 p.2 o.2 in
    let right = one_schema g y p.1 o.1 p.3 o.3 in
    let agreed = subst (λ b. Agree o.0.comps b.comps) right (subst (λ a. Agree a.comps p.1.comps) left p.4) in
    let next = subst (λ b. IsNext (disjoined (both_span x y) o.0 b) c) right (subst (λ a. IsNext (disjoined (both_span x y) a p.1) c) left p.5) in
    either_not_stopped (OneClashes o.0.comps o.1.comps) (Agree o.0.comps o.1.comps) (disjoined (both_span x y) o.0 o.1) c (both_span x y) (name_span y) k m (none_clashes o.0.comps o.1.comps k agreed) next o.4
no_schema_offence g (schema_bracket s x) c k m p o = no_schema_offence g x c k m p o
