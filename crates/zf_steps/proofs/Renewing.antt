-- A search that is begun again goes by the conjuncts of its schema, over its ranges.
use Rattle.zf_steps.proofs.Prelude.{◌≡◌, ◌≢◌, ◌∙◌, ◌∷◌, [], ap, Bool, Err, IfOk, List, map, None, Ok, Option, refl, Result, Some, subst, suc, sym, true, zero, ℕ, ⊎_elim, inl, inr, is_some, Value, value_order, Advances, SameRanges, Environment, environment_of, Schema, schema_of, AreRanges, held_at, Begins, CanHold, conjuncts_of, planted_goal, portion, property, Stepped, AreMarked, AreMarkedHeld, BeginsFor, CanSearch, GoesBy, GoesOver, IsFor, stage_of}
use Rattle.std.proofs.lemmas.Bool.{false≢true}
use Rattle.zf_plan.proofs.Alike.{advances}
use Rattle.zf_plan.specs.{SayTheSame}
use Rattle.zf_instances.specs.declared.instances.Instances.{Instances}
use Rattle.zf_steps.specs.declared.renewed.Renewed.{Renewed}

pub goes_by_schema : {E : Type 0} (r : Renewed) (i j : Instances) (result : Result Stepped E) → r.search ≡ Some i
    → IfOk result (λ s. Advances value_order (conjuncts_of (planted_goal i.names i.search)) s.step i.search.stage j.search.stage)
    → IfOk result (λ s. (e : Environment) (a : Schema) → IsFor r e a → Advances value_order (property e a.conjuncts) s.step (stage_of r.search) j.search.stage)
goes_by_schema r i j (Ok s) is h = λ e a f.
    let over = subst (λ o. GoesBy o r.given.items e a) is f.goes_by in
    subst (λ o. Advances value_order (property e a.conjuncts) s.step (stage_of o) j.search.stage) (sym is)
    (advances value_order (conjuncts_of (planted_goal i.names i.search)) (property e a.conjuncts) over.same s.step i.search.stage j.search.stage h)
goes_by_schema r i j (Err e) is h = tt

-- a step changes neither
pub goes_on : (i j : Instances) (given : List Bool) (e : Environment) (a : Schema) → planted_goal j.names j.search ≡ planted_goal i.names i.search → SameRanges i.search.stage j.search.stage
    → GoesOver i given e a → GoesOver j given e a
goes_on i j given e a goal same h = record {
  environment = ap (λ g. g.environment) goal ∙ h.environment;
  same = subst (λ g. SayTheSame (conjuncts_of g) (property e a.conjuncts)) (sym goal) h.same;
  before = h.before;
  ranges = subst (AreRanges e a.comps h.before) (sym same.ranges) h.ranges;
  marked = h.marked;
}

-- ---- marks of what is held

nothing_held : (place : ℕ) → held_at place [] ≡ None
nothing_held zero = refl
nothing_held (suc place) = nothing_held place

marks : (held : List (Option Value)) → AreMarked held (map is_some held)
marks [] place = inl (nothing_held place)
marks (None ∷ held) zero = inl refl
marks (Some v ∷ held) zero = inr refl
marks (h ∷ held) (suc place) = marks held place

pub marks_all : (held : List (Option Value)) (given : List Bool) → given ≡ map is_some held → AreMarked held given
marks_all held given is = subst (AreMarked held) (sym is) (marks held)

-- ---- beginning again

pub can_hold : (r : Renewed) (e : Environment) (a : Schema) (i : Instances) (held : List (Option Value)) → r.search ≡ Some i → IsFor r e a → AreMarkedHeld r.given.items held
    → CanHold (environment_of r.env.now) (schema_of r.flat.now) held (planted_goal i.names i.search) i.search.stage.ranges
can_hold r e a i held is f again =
    let over = subst (λ o. GoesBy o r.given.items e a) is f.goes_by in
    let can : CanHold e a held (planted_goal i.names i.search) i.search.stage.ranges = record {
      environment = over.environment;
      same = over.same;
      before = over.before;
      of_components = over.ranges;
      none_out = f.can.none_out;
      again = λ place none. ⊎_elim (λ n. n) (λ m. absurd (again place m none)) (over.marked place);
    } in
    subst (λ x. CanHold x (schema_of r.flat.now) held (planted_goal i.names i.search) i.search.stage.ranges) (sym f.environment)
    (subst (λ y. CanHold e y held (planted_goal i.names i.search) i.search.stage.ranges) (sym f.schema) can)

pub can_search : (r : Renewed) (e : Environment) (a : Schema) → IsFor r e a → CanSearch (environment_of r.env.now) (schema_of r.flat.now)
can_search r e a f = subst (λ x. CanSearch x (schema_of r.flat.now)) (sym f.environment) (subst (λ y. CanSearch e y) (sym f.schema) f.can)

begins_as : (x e : Environment) (y a : Schema) (i : Instances) (held : List (Option Value)) → x ≡ e → y ≡ a
    → Begins x y (portion None held) (planted_goal i.names i.search) i.search.stage → Begins e a (portion None held) (planted_goal i.names i.search) i.search.stage
begins_as x e y a i held is at h =
    subst (λ z. Begins z a (portion None held) (planted_goal i.names i.search) i.search.stage) is (subst (λ z. Begins x z (portion None held) (planted_goal i.names i.search) i.search.stage) at h)

-- of a search that is made of another with the same environment and schema
pub is_for : (r s : Renewed) (e : Environment) (a : Schema) (i : Instances) (held : List (Option Value)) → s.env ≡ r.env → s.flat ≡ r.flat → s.search ≡ Some i → s.given.items ≡ map is_some held
    → Begins (environment_of s.env.now) (schema_of s.flat.now) (portion None held) (planted_goal i.names i.search) i.search.stage → IsFor r e a → IsFor s e a
is_for r s e a i held env flat is given h f =
    let here : environment_of s.env.now ≡ e = ap (λ x. environment_of x.now) env ∙ f.environment in
    let at : schema_of s.flat.now ≡ a = ap (λ x. schema_of x.now) flat ∙ f.schema in
    let b = begins_as (environment_of s.env.now) e (schema_of s.flat.now) a i held here at h in
    let over : GoesOver i s.given.items e a = record { environment = b.environment; same = b.same; before = held; ranges = b.ranges; marked = marks_all held s.given.items given } in
    record { environment = here; schema = at; can = f.can; goes_by = subst (λ o. GoesBy o s.given.items e a) (sym is) over }

-- of one with no search begun
pub emptied : (r s : Renewed) (e : Environment) (a : Schema) → s.env ≡ r.env → s.flat ≡ r.flat → s.search ≡ None → IsFor r e a → IsFor s e a
emptied r s e a env flat none f = record {
  environment = ap (λ x. environment_of x.now) env ∙ f.environment;
  schema = ap (λ x. schema_of x.now) flat ∙ f.schema;
  can = f.can;
  goes_by = subst (λ o. GoesBy o s.given.items e a) (sym none) tt;
}

-- of a search that is made of another with the same environment and schema
pub begins_again : (r s : Renewed) (e : Environment) (a : Schema) (i : Instances) (held : List (Option Value)) → s.env ≡ r.env → s.flat ≡ r.flat
    → Begins (environment_of s.env.now) (schema_of s.flat.now) (portion None held) (planted_goal i.names i.search) i.search.stage → IsFor r e a → BeginsFor e a held i.search.stage
begins_again r s e a i held env flat h f =
    let here : environment_of s.env.now ≡ e = ap (λ x. environment_of x.now) env ∙ f.environment in
    let at : schema_of s.flat.now ≡ a = ap (λ x. schema_of x.now) flat ∙ f.schema in
    let b = begins_as (environment_of s.env.now) e (schema_of s.flat.now) a i held here at h in
    record { ranges = b.ranges; named = b.named; ahead = b.ahead }

-- what is not there is not held
pub not_there : (h : Option Value) → is_some h ≡ true → h ≡ None → ⊥
not_there None there none = absurd (false≢true there)
not_there (Some v) there none = (cc)
