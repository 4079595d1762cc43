-- What holds of every term.
use Rattle.std.specs.Prelude.{◌≡◌}
use Rattle.zf_typing.specs.Prelude.{Tree, Need, Offence, Meets, Sort, Span}
use Rattle.zf_typing.specs.Scopes.{Scope}
use Rattle.zf_typing.specs.Typing.{IsOf}
use Rattle.zf_typing.specs.Offences.{Offends}

-- a term has at most one sort in a scope
abbrev pub OneSort : Type 0
OneSort = (s : Scope) (e : Tree) (x y : Sort) → IsOf s e x → IsOf s e y → x ≡ y

-- a term that is well typed for its place has no offence there
abbrev pub NoOffence : Type 0
NoOffence = (s : Scope) (n : Need) (e : Tree) (z : Sort) (o : Offence) (m : Span) → IsOf s e z → Meets n z → Offends s n e o m → ⊥
