-- What is offended where a step stops.
use Rattle.zf_schema.proofs.Prelude.{◌∷◌, ◌≡◌, [], inl, inr, List, None, Option, refl, Some, subst, sym, told, ℕ, spelling, Name, Comp, DeclaredSet, Schema, ResolvedTree, Ty, type_of, Limit, Offence, IfFault, Refusal, Agrees, comp, comp_named, IfStopped, IsTooLarge, Clashes, Differs, OneClashes, Stops, CantAdd, CantTake, either_span, Refuses, StopsEither, clash, term_span, too_large, constrained, grown, Span}
use Rattle.zf_term.specs.declared.fault.Clash as fault
use Rattle.zf_calculus.specs.declared.stop.Stop.{Stop}
use Rattle.zf_calculus.specs.declared.stop.Stop.TheVariants.{Clash, TooLarge, OutOfMemory}

pub refused_by : (e : Stop) (l : Span) (r : Refusal) (P : Offence → Type 0) (Q : Offence → Span → Type 0) → ((k : Offence) → P k → Q k l) → Refuses e l r → IfStopped e P → IfFault r Q
refused_by (Clash c) l r P Q f w h = told r _ l Q w (f _ h)
refused_by (TooLarge m) l r P Q f w h = told r _ l Q w (f _ h)
refused_by OutOfMemory l r P Q f w h = subst (λ z. IfFault z Q) (sym w) tt

pub cant_add :
    (a : Schema) (n : Name) (t : Ty) (d : DeclaredSet) (c : Comp) (l : Span) → c ≡ comp (spelling n) t (d ∷ []) → l ≡ n.span
    → (k : Offence) → Stops (Clashes a.comps c) (Agrees a.comps c) (grown a c) k → CantAdd a n t d k l
cant_add a n t d c l e span k h = (span, subst (λ (x : Comp). Stops (Clashes a.comps x) (Agrees a.comps x) (grown a x) k) e h)

pub cant_take : (a : Schema) (t u : ResolvedTree) (l : Span) → u ≡ t → l ≡ term_span t → (k : Offence) → IsTooLarge (constrained a (u ∷ [])) k
    → CantTake a t k l
cant_take a t u l e span k h = (span, subst (λ (x : ResolvedTree). IsTooLarge (constrained a (x ∷ [])) k) e h)

-- ---- a disjunction: a clash is at the place of a name, a limit at that of the disjunction

abbrev IsLimit : Offence → Type 0
IsLimit (too_large l) = Unit {0}
IsLimit _ = ⊥

no_limit : (o : Option (ℕ × Comp)) (c : Comp) (l : Limit) → Differs o c (too_large l) → ⊥
no_limit None c l h = h
no_limit (Some p) c l h = subst IsLimit h.1 tt

none_is_limit : (cs ds : List Comp) (l : Limit) → OneClashes cs ds (too_large l) → ⊥
none_is_limit cs [] l h = h
none_is_limit cs (d ∷ ds) l (inl h) = no_limit (comp_named d.name cs) d l h
none_is_limit cs (d ∷ ds) l (inr h) = none_is_limit cs ds l h

module _ (cs ds : List Comp) (agree : Type 0) (next : Schema) (whole name : Span) where
  at_name :
      (c : fault.Clash) → Stops (OneClashes cs ds) agree next (clash c.name (type_of c.left) (type_of c.right))
      → StopsEither (OneClashes cs ds) agree next whole name (clash c.name (type_of c.left) (type_of c.right)) name
  at_name c (inl h) = inl (refl, h)
  at_name c (inr h) = absurd (subst IsLimit (sym h.1.1) tt)

  at_whole : (l : Limit) → Stops (OneClashes cs ds) agree next (too_large l) → StopsEither (OneClashes cs ds) agree next whole name (too_large l) whole
  at_whole l (inl h) = absurd (none_is_limit cs ds l h)
  at_whole l (inr h) = inr (refl, h.0, h.1)

  pub either_refused :
      (e : Stop) (r : Refusal) → Refuses e (either_span e whole name) r → IfStopped e (Stops (OneClashes cs ds) agree next)
      → IfFault r (StopsEither (OneClashes cs ds) agree next whole name)
  either_refused (Clash c) r w h = told r _ name (StopsEither (OneClashes cs ds) agree next whole name) w (at_name c h)
  either_refused (TooLarge l) r w h = told r _ whole (StopsEither (OneClashes cs ds) agree next whole name) w (at_whole l h)
  either_refused OutOfMemory r w h = subst (λ z. IfFault z (StopsEither (OneClashes cs ds) agree next whole name)) (sym w) tt
