-- What names stand for: the globals with the sizes of given sets and free types, which numbers there are, and what a row and bound variables give.
use Rattle.std.specs.Prelude.{◌≡◌, ℕ, ◌^◌, nat_lt, if◌then◌else◌, List, [], ◌++◌, take, Option, Some, None, slice_get, MatchOption, unwrap_or}
use Rattle.zf_meaning.specs.Prelude.{option_and_then, option_map_or, Reference, Component, Local, Global, Defined, Definition, first_named, free_type, given_set, Value, Elem, Outcome, Is, Undefined, AreElements}

-- with how many elements each given set and free type has, the outcome of each global, and, if numbers end, the greatest: `\num` goes from its opposite to it
pub record Environment : Type 0 where
  pub globals : List Defined
  pub sizes : List ℕ
  pub outcomes : List Outcome
  pub numbers : Option ℕ

-- the environment as it is before the global at this place
abbrev pub before : Environment → ℕ → Environment
before e i = record { globals = e.globals; sizes = e.sizes; outcomes = take i e.outcomes; numbers = e.numbers }

-- how many elements the type of this number has; the number of an element's type has 32 bits
abbrev pub element_count : Environment → ℕ → Option ℕ
element_count e n = if nat_lt n (2 ^ 32) then slice_get e.sizes n else None

-- the element at this place of the type of this number
abbrev pub element : ℕ → ℕ → Outcome
element n i = if nat_lt n (2 ^ 32) then Is (Elem n i) else Undefined

-- the set of all elements of the type of this number
abbrev pub IsTypeSet : Environment → ℕ → Outcome → Type 0
IsTypeSet e n o = MatchOption (element_count e n) (o ≡ Undefined) (λ k. AreElements n k o)

abbrev pub definition_number : Definition → Option ℕ
definition_number (given_set n) = Some n
definition_number (free_type n names) = Some n
definition_number _ = None

-- the number of the given set or free type of this name
abbrev pub type_number : Environment → List ℕ → Option ℕ
type_number e name = option_and_then (λ p. definition_number p.1.definition) (first_named (λ d. d.name) name e.globals)

-- the components that are bound so far, and the bound variables, the outermost first
pub record Context : Type 0 where
  pub environment : Environment
  pub row : List Value
  pub locals : List Value

-- where neither components nor variables are bound
abbrev pub globally : Environment → Context
globally e = record { environment = e; row = []; locals = [] }

abbrev pub within : Context → List Value → Context
within c vs = record { environment = c.environment; row = c.row; locals = c.locals ++ vs }

abbrev pub outcome_in : Context → Reference → Outcome
outcome_in c (Component i) = option_map_or Is (slice_get c.row i) Undefined
outcome_in c (Local i) = option_map_or Is (slice_get c.locals i) Undefined
outcome_in c (Global i) = unwrap_or (slice_get c.environment.outcomes i) Undefined
