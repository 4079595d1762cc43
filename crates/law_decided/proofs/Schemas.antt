-- References, declarations, predicates and schema expressions are a schema, or have an offence.
use Rattle.law_decided.proofs.Prelude.{both_span, ◌++◌, ◌∷◌, ◌≡◌, ◌⊎◌, [], inl, inr, List, None, Option, refl, Some, subst, ℕ, spelling, both, DeclTree, either, include, schema_reference, schema_bracket, schema_text, SchemaTree, Tree, vars, Name, abbreviation, constructor, DeclaredSet, Defined, Definition, free_type, given_set, plain, Schema, schema, first_named, Ty, not_a_schema, not_declared, Offence, Offends, resolved, predicate, set_sort, IsOf, Agree, Agrees, comp, conjoined, decorated, disjoined, MarkAgrees, marked, empty_schema, schema_with, with_comp, IsTooLarge, IsWithin, Adds, Clashes, IsNext, MarkClashes, OneClashes, Stops, AnyByRecursion, IsNoSchema, name_span, OffendsAfter, OffendsAlone, OffendsConjuncts, OffendsDecls, OffendsNames, OffendsPredicates, OffendsRef, OffendsSchema, OffendsText, SomeOffence, AddsAll, Constrains, ConstrainsOne, Declares, DeclaresOne, IsSchema, IsText, Refers, ResolvedTree, TakesAll, conjuncts, inside, outside, term_span, Span}
use Rattle.zf_tree.specs.declared.tree.SchemaRef.{SchemaRef}
use Rattle.zf_tree.specs.declared.operator.Need.TheVariants as need
use Rattle.zf_schema.proofs.Once.{taken_comps}
use Rattle.law_decided.proofs.Limits.{OrTold, is_within, agrees, agree, mark_agrees, next_or_stopped, next_at}
use Rattle.law_decided.proofs.Terms.{IsJudged, judged}

-- ---- one step and then the rest: the step stops, or what is made goes into the rest

module _ (Step : Schema → Type 0) (Rest : Schema → Schema → Type 0) (Stopped : Offence → Span → Type 0) (Later : Schema → Offence → Span → Type 0) where
  then_rest :
      ((mid : Schema) × Step mid) ⊎ SomeOffence Stopped → ((mid : Schema) → ((b : Schema) × Rest mid b) ⊎ SomeOffence (Later mid))
      → ((b : Schema) × ((mid : Schema) × Step mid × Rest mid b)) ⊎ SomeOffence (λ k m. Stopped k m ⊎ ((mid : Schema) × Step mid × Later mid k m))
  then_rest (inr o) rest = inr (o.0, o.1, inl o.2)
  then_rest (inl p) rest = elim (rest p.0) [
    | inl q ↦ inl (q.0, (p.0, p.1, q.1))
    | inr o ↦ inr (o.0, o.1, inr (p.0, p.1, o.2))
  ]

-- ---- references

module _ (g : List Defined) (r : SchemaRef) where
  no_schema :
      (i : ℕ) (d : Defined) → first_named (λ e. e.name) r.name.base g ≡ Some (i, d) → IsNoSchema d.definition
      → ((b : Schema) × Refers g r b) ⊎ SomeOffence (OffendsRef g r)
  no_schema i d e h = inr (not_a_schema (spelling r.name), r.name.span, (refl, inr (inl (refl, i, d, e, h))))

  of_definition :
      (i : ℕ) (x : List ℕ) (d : Definition) → first_named (λ e. e.name) r.name.base g ≡ Some (i, record { name = x; definition = d })
      → ((b : Schema) × Refers g r b) ⊎ SomeOffence (OffendsRef g r)
  of_definition i x (given_set n) e = no_schema i (record { name = x; definition = given_set n }) e tt
  of_definition i x (free_type n names) e = no_schema i (record { name = x; definition = free_type n names }) e tt
  of_definition i x (constructor n of_type place) e = no_schema i (record { name = x; definition = constructor n of_type place }) e tt
  of_definition i x (abbreviation t u w) e = no_schema i (record { name = x; definition = abbreviation t u w }) e tt
  of_definition i x (schema a) e =
      elim (next_or_stopped (MarkClashes r.mark a) (MarkAgrees r.mark a) (decorated r.name.strokes (marked r.mark r.name.span a)) (mark_agrees r.mark a)) [
        | inl p ↦ inl (decorated r.name.strokes (marked r.mark r.name.span a), (i, x, a, e, p.0, p.1))
        | inr o ↦ inr (o.0, r.name.span, (refl, inr (inr (i, x, a, e, o.1))))
      ]

  of_base : (o : Option (ℕ × Defined)) → first_named (λ e. e.name) r.name.base g ≡ o → ((b : Schema) × Refers g r b) ⊎ SomeOffence (OffendsRef g r)
  of_base None e = inr (not_declared (spelling r.name), r.name.span, (refl, inl (refl, e)))
  of_base (Some p) e = of_definition p.0 p.1.name p.1.definition e

  pub reference_judged : ((b : Schema) × Refers g r b) ⊎ SomeOffence (OffendsRef g r)
  reference_judged = of_base (first_named (λ e. e.name) r.name.base g) refl

-- ---- declarations

names_judged : (a : Schema) (ns : List Name) (t : Ty) (d : DeclaredSet) → ((b : Schema) × AddsAll a ns t d b) ⊎ SomeOffence (OffendsNames a ns t d)
names_judged a [] t d = inl (a, refl)
names_judged a (n ∷ ns) t d =
    let c = comp (spelling n) t (d ∷ []) in
    let next = schema_with (with_comp a.comps c) a.conjuncts in
    then_rest (Adds a c) (λ mid b. AddsAll mid ns t d b) (λ k m. (m ≡ n.span) × Stops (Clashes a.comps c) (Agrees a.comps c) next k) (λ mid k m. OffendsNames mid ns t d k m)
    (next_at n.span (Clashes a.comps c) (Agrees a.comps c) next (agrees a.comps c)) (λ mid. names_judged mid ns t d)

-- a declaration is taken, or it offends alone, or after those before it
abbrev IsTakenIn : List Defined → Schema → DeclTree → Type 0
IsTakenIn g a d = ((b : Schema) × DeclaresOne g a d b) ⊎ (SomeOffence (OffendsAlone g d) ⊎ SomeOffence (OffendsAfter g a d))

of_vars : (g : List Defined) (a : Schema) (ns : List Name) (e : Tree) → IsJudged (outside g) need.Set e → IsTakenIn g a (vars ns e)
of_vars g a ns e (inr o) = inr (inl o)
of_vars g a ns e (inl p) = by (subst (IsOf (outside g) e) p.2.1 p.1) (names_judged a ns p.2.0 (plain (resolved (outside g) e)))
  where
    by :
        IsOf (outside g) e (set_sort p.2.0) → ((b : Schema) × AddsAll a ns p.2.0 (plain (resolved (outside g) e)) b) ⊎ SomeOffence (OffendsNames a ns p.2.0 (plain (resolved (outside g) e)))
        → IsTakenIn g a (vars ns e)
    by is (inl q) = inl (q.0, (p.2.0, is, q.1))
    by is (inr o) = inr (inr (o.0, o.1, (p.2.0, is, o.2)))

of_include : (g : List Defined) (a : Schema) (r : SchemaRef) → ((c : Schema) × Refers g r c) ⊎ SomeOffence (OffendsRef g r) → IsTakenIn g a (include r)
of_include g a r (inr o) = inr (inl o)
of_include g a r (inl c) = elim (next_at r.name.span (OneClashes a.comps c.0.comps) (Agree a.comps c.0.comps) (conjoined a c.0) (agree a.comps c.0.comps)) [
  | inl q ↦ inl (q.0, (c.0, c.1, q.1))
  | inr o ↦ inr (inr (o.0, o.1, (c.0, c.1, o.2.0, o.2.1)))
]

declaration_judged : (g : List Defined) (a : Schema) (d : DeclTree) → IsTakenIn g a d
declaration_judged g a (vars ns e) = of_vars g a ns e (judged (outside g) need.Set e)
declaration_judged g a (include r) = of_include g a r (reference_judged g r)

later_declared :
    (g : List Defined) (a mid : Schema) (d : DeclTree) (ds : List DeclTree) (k : Offence) (m : Span)
    → DeclaresOne g a d mid → OffendsDecls g mid ds k m → OffendsDecls g a (d ∷ ds) k m
later_declared g a mid d ds k m p (inl o) = inl (inr o)
later_declared g a mid d ds k m p (inr o) = inr (inr (mid, p, o))

first_declared :
    (g : List Defined) (a : Schema) (d : DeclTree) (ds : List DeclTree)
    → IsTakenIn g a d → ((mid : Schema) → ((b : Schema) × Declares g mid ds b) ⊎ SomeOffence (OffendsDecls g mid ds))
    → ((b : Schema) × Declares g a (d ∷ ds) b) ⊎ SomeOffence (OffendsDecls g a (d ∷ ds))
first_declared g a d ds (inr (inl o)) rest = inr (o.0, o.1, inl (inl o.2))
first_declared g a d ds (inr (inr o)) rest = inr (o.0, o.1, inr (inl o.2))
first_declared g a d ds (inl p) rest = elim (rest p.0) [
  | inl q ↦ inl (q.0, (p.0, p.1, q.1))
  | inr o ↦ inr (o.0, o.1, later_declared g a p.0 d ds o.0 o.1 p.1 o.2)
]

declarations_judged : (g : List Defined) (a : Schema) (ds : List DeclTree) → ((b : Schema) × Declares g a ds b) ⊎ SomeOffence (OffendsDecls g a ds)
declarations_judged g a [] = inl (a, refl)
declarations_judged g a (d ∷ ds) = first_declared g a d ds (declaration_judged g a d) (λ mid. declarations_judged g mid ds)

-- ---- predicates

conjunct_judged :
    (span : Span) (next : Schema)
    → ((mid : Schema) × IsNext next mid) ⊎ SomeOffence (λ k m. (m ≡ span) × IsTooLarge next k)
conjunct_judged span next = elim (is_within next) [
  | inl within ↦ inl (next, (refl, within))
  | inr large ↦ inr (large.0, span, (refl, large.1))
]

conjuncts_judged : (a : Schema) (cs : List ResolvedTree) → ((b : Schema) × TakesAll a cs b) ⊎ SomeOffence (OffendsConjuncts a cs)
conjuncts_judged a [] = inl (a, refl)
conjuncts_judged a (c ∷ cs) =
    let next = schema_with a.comps (a.conjuncts ++ c ∷ []) in
    then_rest (IsNext next) (λ mid b. TakesAll mid cs b) (λ k m. (m ≡ term_span c) × IsTooLarge next k) (λ mid k m. OffendsConjuncts mid cs k m)
    (conjunct_judged (term_span c) next) (λ mid. conjuncts_judged mid cs)

later_constrained :
    (g : List Defined) (a mid : Schema) (p : Tree) (ps : List Tree) (k : Offence) (m : Span)
    → ConstrainsOne g a p mid → OffendsPredicates g mid ps k m → OffendsPredicates g a (p ∷ ps) k m
later_constrained g a mid p ps k m q (inl o) =
    let comps = taken_comps a (conjuncts (resolved (inside g a) p)) mid q.1 in
    inl (inr (subst (λ cs. AnyByRecursion (λ e. Offends (record { globals = g; comps = cs; locals = [] }) need.Predicate e k m) ps) comps o))
later_constrained g a mid p ps k m q (inr o) = inr (inr (mid, q, o))

first_constrained :
    (g : List Defined) (a : Schema) (p : Tree) (ps : List Tree)
    → IsJudged (inside g a) need.Predicate p → ((mid : Schema) → ((b : Schema) × Constrains g mid ps b) ⊎ SomeOffence (OffendsPredicates g mid ps))
    → ((b : Schema) × Constrains g a (p ∷ ps) b) ⊎ SomeOffence (OffendsPredicates g a (p ∷ ps))
first_constrained g a p ps (inr o) rest = inr (o.0, o.1, inl (inl o.2))
first_constrained g a p ps (inl j) rest = taken (subst (IsOf (inside g a) p) j.2 j.1) (conjuncts_judged a (conjuncts (resolved (inside g a) p)))
  where
    by :
        (mid : Schema) → ConstrainsOne g a p mid → ((b : Schema) × Constrains g mid ps b) ⊎ SomeOffence (OffendsPredicates g mid ps)
        → ((b : Schema) × Constrains g a (p ∷ ps) b) ⊎ SomeOffence (OffendsPredicates g a (p ∷ ps))
    by mid c (inl q) = inl (q.0, (mid, c, q.1))
    by mid c (inr o) = inr (o.0, o.1, later_constrained g a mid p ps o.0 o.1 c o.2)

    taken :
        IsOf (inside g a) p predicate → ((b : Schema) × TakesAll a (conjuncts (resolved (inside g a) p)) b) ⊎ SomeOffence (OffendsConjuncts a (conjuncts (resolved (inside g a) p)))
        → ((b : Schema) × Constrains g a (p ∷ ps) b) ⊎ SomeOffence (OffendsPredicates g a (p ∷ ps))
    taken is (inr o) = inr (o.0, o.1, inr (inl (is, o.2)))
    taken is (inl t) = by t.0 (is, t.1) (rest t.0)

predicates_judged : (g : List Defined) (a : Schema) (ps : List Tree) → ((b : Schema) × Constrains g a ps b) ⊎ SomeOffence (OffendsPredicates g a ps)
predicates_judged g a [] = inl (a, refl)
predicates_judged g a (p ∷ ps) = first_constrained g a p ps (judged (inside g a) need.Predicate p) (λ mid. predicates_judged g mid ps)

-- ---- texts and schema expressions

pub text_judged : (g : List Defined) (ds : List DeclTree) (ps : List Tree) → ((b : Schema) × IsText g ds ps b) ⊎ SomeOffence (OffendsText g ds ps)
text_judged g ds ps =
    then_rest (Declares g empty_schema ds) (λ mid b. Constrains g mid ps b) (OffendsDecls g empty_schema ds) (λ mid. OffendsPredicates g mid ps)
    (declarations_judged g empty_schema ds) (λ mid. predicates_judged g mid ps)

module _ (g : List Defined) (s : Span) (x y : SchemaTree) where
  of_both :
      ((a : Schema) × IsSchema g x a) ⊎ SomeOffence (OffendsSchema g x) → ((b : Schema) × IsSchema g y b) ⊎ SomeOffence (OffendsSchema g y)
      → ((c : Schema) × IsSchema g (both s x y) c) ⊎ SomeOffence (OffendsSchema g (both s x y))
  of_both (inr o) right = inr (o.0, o.1, inl o.2)
  of_both (inl p) (inr o) = inr (o.0, o.1, inr (inl o.2))
  of_both (inl p) (inl q) =
      elim (next_or_stopped (OneClashes p.0.comps q.0.comps) (Agree p.0.comps q.0.comps) (conjoined p.0 q.0) (agree p.0.comps q.0.comps)) [
        | inl n ↦ inl (conjoined p.0 q.0, (p.0, q.0, p.1, q.1, n.0, n.1))
        | inr o ↦ inr (o.0, name_span y, inr (inr (p.0, q.0, p.1, q.1, refl, o.1)))
      ]

  of_either :
      ((a : Schema) × IsSchema g x a) ⊎ SomeOffence (OffendsSchema g x) → ((b : Schema) × IsSchema g y b) ⊎ SomeOffence (OffendsSchema g y)
      → ((c : Schema) × IsSchema g (either s x y) c) ⊎ SomeOffence (OffendsSchema g (either s x y))
  of_either (inr o) right = inr (o.0, o.1, inl o.2)
  of_either (inl p) (inr o) = inr (o.0, o.1, inr (inl o.2))
  of_either (inl p) (inl q) = by (agree p.0.comps q.0.comps)
    where
      sized : Agree p.0.comps q.0.comps → OrTold (IsWithin (disjoined (both_span x y) p.0 q.0)) (IsTooLarge (disjoined (both_span x y) p.0 q.0))
          → ((c : Schema) × IsSchema g (either s x y) c) ⊎ SomeOffence (OffendsSchema g (either s x y))
      sized agreed (inl within) = inl (disjoined (both_span x y) p.0 q.0, (p.0, q.0, p.1, q.1, agreed, (refl, within)))
      sized agreed (inr large) = inr (large.0, both_span x y, inr (inr (p.0, q.0, p.1, q.1, inr (refl, agreed, large.1))))

      by : OrTold (Agree p.0.comps q.0.comps) (OneClashes p.0.comps q.0.comps) → ((c : Schema) × IsSchema g (either s x y) c) ⊎ SomeOffence (OffendsSchema g (either s x y))
      by (inl agreed) = sized agreed (is_within (disjoined (both_span x y) p.0 q.0))
      by (inr clash) = inr (clash.0, name_span y, inr (inr (p.0, q.0, p.1, q.1, inl (refl, clash.1))))

pub schema_judged : (g : List Defined) (x : SchemaTree) → ((a : Schema) × IsSchema g x a) ⊎ SomeOffence (OffendsSchema g x)
schema_judged g (schema_text s ds ps) = text_judged g ds ps
schema_judged g (schema_reference s r) = reference_judged g r
schema_judged g (both s x y) = of_both g s x y (schema_judged g x) (schema_judged g y)
schema_judged g (either s x y) = of_either g s x y (schema_judged g x) (schema_judged g y)
schema_judged g (schema_bracket s x) = schema_judged g x
