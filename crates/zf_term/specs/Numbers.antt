-- How given sets and free types are numbered.
use Rattle.std.specs.Prelude.{ℕ, List}
use Rattle.std.specs.List.{sum_by}
use Rattle.zf_term.specs.Definitions.{Defined, Definition, given_set, free_type}

abbrev pub has_elements : Definition → ℕ
has_elements (given_set n) = 1
has_elements (free_type n names) = 1
has_elements _ = 0

-- the number of the next given set or free type
abbrev pub next_number : List Defined → ℕ
next_number g = sum_by (λ d. has_elements d.definition) g
