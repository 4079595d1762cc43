-- What a name stands for: the innermost bound variable of that name, else the component, else the global.
use Rattle.std.specs.Prelude.{ℕ, if◌then◌else◌, List, [], ◌∷◌, ◌++◌, Option, Some, None}
use Rattle.zf_typing.specs.Prelude.{abbreviation, basic, Comp, constructor, Defined, Definition, first_named, free_type, given_set, later, schema, Ty, Reference, Component, Local, Global, a_schema, set_sort, Sort, typed}
use Rattle.std.specs.Str.{bytes_eq}
use Rattle.std.specs.Option.{option_map, option_or}

pub record Var : Type 0 where
  pub name : List ℕ
  pub type : Ty

-- what is in scope; the variables that are bound last stand last
pub record Scope : Type 0 where
  pub globals : List Defined
  pub comps : List Comp
  pub locals : List Var

-- the scope with further bound variables
abbrev pub with_variables : Scope → List Var → Scope
with_variables s vs = record { globals = s.globals; comps = s.comps; locals = s.locals ++ vs }

-- the last that has it
abbrev pub last_named : {A : Type 0} → (A → List ℕ) → List ℕ → List A → Option (ℕ × A)
last_named name x [] = None
last_named name x (a ∷ rest) = option_or (later (last_named name x rest)) (if bytes_eq (name a) x then Some (0, a) else None)

abbrev pub definition_sort : List ℕ → Definition → Sort
definition_sort name (given_set n) = set_sort (basic name)
definition_sort name (free_type n names) = set_sort (basic name)
definition_sort name (constructor n of_type place) = typed (basic of_type)
definition_sort name (abbreviation t r x) = typed t
definition_sort name (schema f) = a_schema

abbrev pub global_sort : Defined → Sort
global_sort d = definition_sort d.name d.definition

abbrev pub variable_meaning : Option (ℕ × Var) → Option (Reference × Sort)
variable_meaning = option_map (λ p. (Local p.0, typed p.1.type))

abbrev pub component_meaning : Option (ℕ × Comp) → Option (Reference × Sort)
component_meaning = option_map (λ p. (Component p.0, typed p.1.type))

abbrev pub global_meaning : Option (ℕ × Defined) → Option (Reference × Sort)
global_meaning = option_map (λ p. (Global p.0, global_sort p.1))

-- what a name refers to, and what it is
abbrev pub meaning : Scope → List ℕ → Option (Reference × Sort)
meaning s x =
    option_or (variable_meaning (last_named (λ v. v.name) x s.locals))
    (option_or (component_meaning (first_named (λ c. c.name) x s.comps)) (global_meaning (first_named (λ d. d.name) x s.globals)))
