-- Schemas make one machine, and where each can be searched, so can it.
use Rattle.zf_machines.proofs.Prelude.{◌++◌, ◌∙◌, ◌∷◌, ◌≡◌, [], ap, inl, inr, List, map, None, Option, Some, subst, sym, ℕ, AllByRecursion, option_to_list, unwrap_or, Environment, CanSearch, CanSearchAll, IsInit, Operation, operation_in, System, Comp, Schema, all_of, IsMachineOf, Named, Schemas, state_of, test_of}
use Rattle.zf_steps.specs.declared.form.Form.{Form}
use Rattle.zf_print.specs.declared.spelling.Spelling.{Spelling}

one_init : (state : List Comp) (name : List ℕ) (a : Schema) (o u : Operation) → IsInit state name a o → IsInit state name a u → o ≡ u
one_init state name a o u (inl x) (inl y) = x.1 ∙ sym y.1
one_init state name a o u (inl x) (inr y) = absurd (y.0 x.0)
one_init state name a o u (inr x) (inl y) = absurd (x.0 y.0)
one_init state name a o u (inr x) (inr y) = x.2 ∙ sym y.2

same_system : (m n : System) → m.environment ≡ n.environment → m.elements ≡ n.elements → m.form ≡ n.form → m.state ≡ n.state → m.test ≡ n.test → m.init ≡ n.init → m.operations ≡ n.operations → m ≡ n
same_system m n e s f a t i o =
    ap (λ x. record { environment = x; elements = m.elements; form = m.form; state = m.state; test = m.test; init = m.init; operations = m.operations }) e
    ∙ ap (λ x. record { environment = n.environment; elements = x; form = m.form; state = m.state; test = m.test; init = m.init; operations = m.operations }) s
    ∙ ap (λ x. record { environment = n.environment; elements = n.elements; form = x; state = m.state; test = m.test; init = m.init; operations = m.operations }) f
    ∙ ap (λ x. record { environment = n.environment; elements = n.elements; form = n.form; state = x; test = m.test; init = m.init; operations = m.operations }) a
    ∙ ap (λ x. record { environment = n.environment; elements = n.elements; form = n.form; state = n.state; test = x; init = m.init; operations = m.operations }) t
    ∙ ap (λ x. record { environment = n.environment; elements = n.elements; form = n.form; state = n.state; test = n.test; init = x; operations = m.operations }) i
    ∙ ap (λ x. record { environment = n.environment; elements = n.elements; form = n.form; state = n.state; test = n.test; init = n.init; operations = x }) o

pub one_machine : (e : Environment) (elements : List Spelling) (form : Form) (p : Schemas) (m n : System) → IsMachineOf e elements form p m → IsMachineOf e elements form p n → m ≡ n
one_machine e elements form p m n x y =
    same_system m n (x.environment ∙ sym y.environment) (x.spelled ∙ sym y.spelled) (x.formed ∙ sym y.formed) (x.state ∙ sym y.state) (x.test ∙ sym y.test)
    (one_init _ _ _ _ _ x.init y.init) (x.operations ∙ sym y.operations)

-- ---- searching it

all_of_mapped : {A B : Type 0} (P : B → Type 0) (f : A → B) (xs : List A) → AllByRecursion (λ x. P (f x)) xs → AllByRecursion P (map f xs)
all_of_mapped P f [] h = tt
all_of_mapped P f (x ∷ xs) h = (h.0, all_of_mapped P f xs h.1)

init_schema : (state : List Comp) (name : List ℕ) (a : Schema) (o : Operation) → IsInit state name a o → o.schema ≡ a
init_schema state name a o (inl x) = ap (λ o. o.schema) x.1
init_schema state name a o (inr x) = ap (λ o. o.schema) x.2

-- of those in front, and of the one after, if there is one
all_front : {A : Type 0} (P : A → Type 0) (xs ys : List A) → AllByRecursion P (xs ++ ys) → AllByRecursion P xs
all_front P [] ys h = tt
all_front P (x ∷ xs) ys h = (h.0, all_front P xs ys h.1)

all_behind : {A : Type 0} (P : A → Type 0) (xs ys : List A) → AllByRecursion P (xs ++ ys) → AllByRecursion P ys
all_behind P [] ys h = h
all_behind P (x ∷ xs) ys h = all_behind P xs ys h.1

one_of_them : {A : Type 0} (P : A → Type 0) (o : Option A) (d : A) → AllByRecursion P (option_to_list o) → P d → P (unwrap_or o d)
one_of_them P None d h k = k
one_of_them P (Some x) d h k = h.0

-- what holds of all schemas holds of that by which states are tested
pub of_test : (P : Named → Type 0) (p : Schemas) → AllByRecursion P (all_of p) → P (test_of p)
of_test P p h = one_of_them P p.sought p.state (all_behind P p.operations (option_to_list p.sought) h.1.1) h.0

-- and of the operations
pub of_operations : (P : Named → Type 0) (p : Schemas) → AllByRecursion P (all_of p) → AllByRecursion P p.operations
of_operations P p h = all_front P p.operations (option_to_list p.sought) h.1.1

pub can_search_all : (e : Environment) (elements : List Spelling) (form : Form) (p : Schemas) (m : System) → IsMachineOf e elements form p m
    → AllByRecursion (λ n. CanSearch e n.schema) (all_of p) → CanSearchAll m
can_search_all e elements form p m is h =
    let there = sym is.environment in record {
      test = subst (λ x. CanSearch x m.test.schema) there (subst (λ (o : Operation). CanSearch e o.schema) (sym is.test) (of_test (λ n. CanSearch e n.schema) p h));
      init = subst (λ x. CanSearch x m.init.schema) there (subst (λ a. CanSearch e a) (sym (init_schema _ _ _ _ is.init)) h.1.0);
      operations = subst (λ x. AllByRecursion (λ o. CanSearch x o.schema) m.operations) there
          (subst (AllByRecursion (λ o. CanSearch e o.schema)) (sym is.operations)
          (all_of_mapped (λ (o : Operation). CanSearch e o.schema) (λ (n : Named). operation_in (state_of p) n.name n.schema) p.operations (of_operations (λ n. CanSearch e n.schema) p h)));
    }
