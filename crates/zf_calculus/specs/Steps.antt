-- The next schema, and why there is none.
use Rattle.std.specs.Prelude.{◌≡◌, ◌⊎◌, ℕ, List, [], ◌∷◌, Option}
use Rattle.zf_calculus.specs.Prelude.{IsSomeAnd, RefMark, Plain, clash, Comp, IsTooLarge, IsWithin, Offence, Schema}
use Rattle.zf_calculus.specs.Calculus.{schema_with, comp_named, Agrees, Agree, with_comp, conjoined, decorated, prime}

-- the schema after one more, well typed and within the limits
abbrev pub IsNext : Schema → Schema → Type 0
IsNext next b = (b ≡ next) × IsWithin next

abbrev pub Adds : Schema → Comp → Schema → Type 0
Adds a c b = Agrees a.comps c × IsNext (schema_with (with_comp a.comps c) a.conjuncts) b

abbrev pub Includes : Schema → Schema → Schema → Type 0
Includes a c b = Agree a.comps c.comps × IsNext (conjoined a c) b

-- the component has another type than the one that has its name
abbrev pub Differs : Option (ℕ × Comp) → Comp → Offence → Type 0
Differs found c o = IsSomeAnd found (λ p. (p.1.type ≡ c.type → ⊥) × (o ≡ clash c.name p.1.type c.type))

abbrev pub Clashes : List Comp → Comp → Offence → Type 0
Clashes cs c o = Differs (comp_named c.name cs) c o

abbrev pub OneClashes : List Comp → List Comp → Offence → Type 0
OneClashes cs [] o = ⊥
OneClashes cs (d ∷ ds) o = Clashes cs d o ⊎ OneClashes cs ds o

-- of S', where S and S' are taken
abbrev pub MarkClashes : RefMark → Schema → Offence → Type 0
MarkClashes Plain a o = ⊥
MarkClashes _ a o = OneClashes a.comps (decorated prime a).comps o

-- why there is no next schema: a component gets two types, or all agree and a limit is passed
abbrev pub Stops : (Offence → Type 0) → Type 0 → Schema → Offence → Type 0
Stops clashes agree next o = clashes o ⊎ (agree × IsTooLarge next o)
