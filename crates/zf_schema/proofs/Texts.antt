-- The steps of a text, and what stops one.
use Rattle.zf_schema.proofs.Prelude.{◌∷◌, ◌≡◌, inl, inr, List, refl, subst, ℕ, DeclTree, include, Tree, SchemaRef, Comp, Defined, Schema, conjuncts, Offence, Offends, resolved, Agree, conjoined, OneClashes, Stops, ConstrainsOne, DeclaresOne, inside, Refers, CantConstrain, CantDeclare, over, AnyByRecursion, OffendsDecls, OffendsPredicates, Span}
use Rattle.zf_tree.specs.declared.operator.Need.TheVariants as need
use Rattle.zf_schema.proofs.Once.{taken_comps}

-- the schema of a reference can't be taken in
pub cant_include : (g : List Defined) (a : Schema) (r : SchemaRef) (c : Schema) → Refers g r c → (k : Offence)
    → Stops (OneClashes a.comps c.comps) (Agree a.comps c.comps) (conjoined a c) k → CantDeclare g a (include r) k r.name.span
cant_include g a r c h k s = inr (c, h, refl, s)

-- ---- what one of several offends, they offend

pub first_declares : (g : List Defined) (a : Schema) (d : DeclTree) (ds : List DeclTree) (k : Offence) (m : Span) → CantDeclare g a d k m → OffendsDecls g a (d ∷ ds) k m
first_declares g a d ds k m (inl o) = inl (inl o)
first_declares g a d ds k m (inr o) = inr (inl o)

pub later_declares : (g : List Defined) (a : Schema) (d : DeclTree) (b : Schema) (ds : List DeclTree) (k : Offence) (m : Span) → DeclaresOne g a d b
    → OffendsDecls g b ds k m → OffendsDecls g a (d ∷ ds) k m
later_declares g a d b ds k m p (inl o) = inl (inr o)
later_declares g a d b ds k m p (inr o) = inr (inr (b, p, o))

pub first_constrains : (g : List Defined) (a : Schema) (p : Tree) (ps : List Tree) (k : Offence) (m : Span) → CantConstrain g a p k m → OffendsPredicates g a (p ∷ ps) k m
first_constrains g a p ps k m (inl o) = inl (inl o)
first_constrains g a p ps k m (inr o) = inr (inl o)

-- over equal components the same predicates offend
pub same_judged : (g : List Defined) (ps : List Tree) (cs ds : List Comp) (k : Offence) (m : Span) → cs ≡ ds
    → AnyByRecursion (λ p. Offends (over g cs) need.Predicate p k m) ps → AnyByRecursion (λ p. Offends (over g ds) need.Predicate p k m) ps
same_judged g ps cs ds k m e o = subst (λ (es : List Comp). AnyByRecursion (λ (p : Tree). Offends (over g es) need.Predicate p k m) ps) e o

pub later_constrains : (g : List Defined) (a : Schema) (p : Tree) (b : Schema) (ps : List Tree) (k : Offence) (m : Span) → ConstrainsOne g a p b
    → OffendsPredicates g b ps k m → OffendsPredicates g a (p ∷ ps) k m
later_constrains g a p b ps k m c (inl o) = inl (inr (same_judged g ps b.comps a.comps k m (taken_comps a (conjuncts (resolved (inside g a) p)) b c.1) o))
later_constrains g a p b ps k m c (inr o) = inr (inr (b, c, o))
