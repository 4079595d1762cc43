-- What a name stands for has a value of the name's type, where each value that is bound has its own.
use Rattle.law_sound.proofs.Prelude.{if◌then◌else◌, ◌++◌, ◌+◌, ◌∙◌, ◌∷◌, ◌≡◌, [], add-one, ap, Bool, false, List, None, Option, refl, Some, subst, suc, sym, true, zero, ℕ, none-some, same_Some, slice_get, bytes_eq, Reference, Outcome, Is, Value, Comp, Defined, first_named, later, Sort, typed, global_sort, last_named, meaning, Scope, Var, component_meaning, global_meaning, variable_meaning, types_of, named_there, Context, Environment, outcome_in, outcome_or, value_or, within, AreOfTypes, IsOfType, option_or}
use Rattle.zf_reference.specs.declared.reference.Reference.TheVariants.{Component, Local, Global}
use Rattle.zf_typing.specs.Scopes as scopes
use Rattle.law_sound.proofs.OfTypes.{first_of_types, nil_not_cons}
use Rattle.law_sound.proofs.Operations.{IsOfSort, sorted}

-- ---- where a name is found

further : {A : Type 0} (x : A) (xs : List A) (n : ℕ) (y : A) → slice_get xs n ≡ Some y → slice_get (x ∷ xs) (n + 1) ≡ Some y
further x xs n y e = rw add-one e

last_found : (x : List ℕ) (vs : List Var) (p : ℕ × Var) → last_named (λ v. v.name) x vs ≡ Some p → slice_get vs p.0 ≡ Some p.1
last_found x [] p e = absurd (none-some p e)
last_found x (v ∷ vs) p e = go (last_named (λ u. u.name) x vs) (bytes_eq v.name x) (last_found x vs) e
  where
    go : (o : Option (ℕ × Var)) (b : Bool) → ((q : ℕ × Var) → o ≡ Some q → slice_get vs q.0 ≡ Some q.1)
        → option_or (later o) (if b then Some (0, v) else None) ≡ Some p → slice_get (v ∷ vs) p.0 ≡ Some p.1
    go (Some q) b ih f = subst (λ (r : ℕ × Var). slice_get (v ∷ vs) r.0 ≡ Some r.1) (same_Some (q.0 + 1, q.1) p f) (further v vs q.0 q.1 (ih q refl))
    go None true ih f = subst (λ (r : ℕ × Var). slice_get (v ∷ vs) r.0 ≡ Some r.1) (same_Some (0, v) p f) refl
    go None false ih f = absurd (none-some p f)

-- ---- what is bound

-- the global has such values alone, where it is an expression
abbrev pub HasValues : Environment → Defined → Outcome → Type 0
HasValues e d o = (v : Value) → o ≡ Is v → IsOfSort e (global_sort d) v

-- each value that is bound is of its type
pub record Fits (e : Environment) (s : Scope) (c : Context) : Type 0 where
  pub globals : (i : ℕ) (d : Defined) (o : Outcome) → slice_get s.globals i ≡ Some d → slice_get c.environment.outcomes i ≡ Some o → HasValues e d o
  pub comps : (i : ℕ) (d : Comp) (v : Value) → slice_get s.comps i ≡ Some d → slice_get c.row i ≡ Some v → IsOfType e d.type v
  pub locals : AreOfTypes e (types_of s.locals) c.locals

joined : (e : Environment) (us vs : List Var) (xs ys : List Value) → AreOfTypes e (types_of us) xs → AreOfTypes e (types_of vs) ys → AreOfTypes e (types_of (us ++ vs)) (xs ++ ys)
joined e [] vs xs ys h k = subst (λ zs. AreOfTypes e (types_of vs) (zs ++ ys)) (sym h) k
joined e (u ∷ us) vs [] ys h k = nil_not_cons h.0 h.1 h.2
joined e (u ∷ us) vs (x ∷ xs) ys h k = let p = first_of_types e u.type (types_of us) x xs h in (x, xs ++ ys, refl, p.0, joined e us vs xs ys p.1 k)

pub fits_within : (e : Environment) (s : Scope) (c : Context) (vs : List Var) (ws : List Value) → Fits e s c → AreOfTypes e (types_of vs) ws → Fits e (scopes.with_variables s vs) (within c ws)
fits_within e s c vs ws f h = record { globals = f.globals; comps = f.comps; locals = joined e s.locals vs c.locals ws f.locals h }

local_at : (e : Environment) (vs : List Var) (ws : List Value) (i : ℕ) (d : Var) (v : Value) → AreOfTypes e (types_of vs) ws → slice_get vs i ≡ Some d → slice_get ws i ≡ Some v → IsOfType e d.type v
local_at e [] ws i d v h a b = absurd (none-some d a)
local_at e (u ∷ us) [] i d v h a b = absurd (none-some v b)
local_at e (u ∷ us) (w ∷ ws) zero d v h a b =
    subst (λ (x : Var). IsOfType e x.type v) (same_Some u d a) (subst (IsOfType e u.type) (same_Some w v b) (first_of_types e u.type (types_of us) w ws h).0)
local_at e (u ∷ us) (w ∷ ws) (suc i) d v h a b = local_at e us ws i d v (first_of_types e u.type (types_of us) w ws h).1 a b

-- ---- what a name stands for

value_is : (o : Option Value) (v : Value) → value_or o ≡ Is v → o ≡ Some v
value_is None v e = absurd (cc)
value_is (Some w) v e = ap Some (cc)

outcome_is : (o : Option Outcome) (v : Value) → outcome_or o ≡ Is v → o ≡ Some (Is v)
outcome_is None v e = absurd (cc)
outcome_is (Some p) v e = ap Some e

abbrev meant : Reference → Sort → Option (Reference × Sort)
meant r z = Some (r, z)

parts_of_reference : (r q : Reference) (z y : Sort) → meant r z ≡ meant q y → (r ≡ q) × (z ≡ y)
parts_of_reference r q z y e = let s = same_Some (r, z) (q, y) e in (ap (λ p. p.0) s, ap (λ p. p.1) s)

pub named_typed : (e : Environment) (s : Scope) (c : Context) (x : List ℕ) (r : Reference) (z : Sort) (v : Value) → Fits e s c → meaning s x ≡ Some (r, z) → outcome_in c r ≡ Is v → IsOfSort e z v
named_typed e s c x r z v f = local (last_named (λ u. u.name) x s.locals) (last_found x s.locals)
  where
    with_these : (q : Reference) (y : Sort) → (outcome_in c q ≡ Is v → IsOfSort e y v) → meant q y ≡ meant r z → outcome_in c r ≡ Is v → IsOfSort e z v
    with_these q y k m p = let t = parts_of_reference q r y z m in sorted e y z v t.1 (k (ap (outcome_in c) t.0 ∙ p))

    global : (o : Option (ℕ × Defined)) → ((p : ℕ × Defined) → o ≡ Some p → (slice_get s.globals p.0 ≡ Some p.1) × (p.1.name ≡ x))
        → global_meaning o ≡ meant r z → outcome_in c r ≡ Is v → IsOfSort e z v
    global None k m p = absurd (none-some (r, z) m)
    global (Some g) k m p =
        with_these (Global g.0) (global_sort g.1) (λ q. f.globals g.0 g.1 (Is v) (k g refl).0 (outcome_is (slice_get c.environment.outcomes g.0) v q) v refl) m p

    component : (o : Option (ℕ × Comp)) → ((p : ℕ × Comp) → o ≡ Some p → (slice_get s.comps p.0 ≡ Some p.1) × (p.1.name ≡ x))
        → option_or (component_meaning o) (global_meaning (first_named (λ d. d.name) x s.globals)) ≡ meant r z → outcome_in c r ≡ Is v → IsOfSort e z v
    component None k m p = global (first_named (λ d. d.name) x s.globals) (named_there (λ d. d.name) x s.globals) m p
    component (Some g) k m p = with_these (Component g.0) (typed g.1.type) (λ q. f.comps g.0 g.1 v (k g refl).0 (value_is (slice_get c.row g.0) v q)) m p

    local : (o : Option (ℕ × Var)) → ((p : ℕ × Var) → o ≡ Some p → slice_get s.locals p.0 ≡ Some p.1)
        → option_or (variable_meaning o) (option_or (component_meaning (first_named (λ d. d.name) x s.comps))
        (global_meaning (first_named (λ d. d.name) x s.globals))) ≡ meant r z → outcome_in c r ≡ Is v → IsOfSort e z v
    local None k m p = component (first_named (λ d. d.name) x s.comps) (named_there (λ d. d.name) x s.comps) m p
    local (Some g) k m p = with_these (Local g.0) (typed g.1.type) (λ q. local_at e s.locals c.locals g.0 g.1 v f.locals (k g refl) (value_is (slice_get c.locals g.0) v q)) m p
