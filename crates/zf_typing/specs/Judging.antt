-- What the parts of the checker of terms answer, for private contracts alone.
use Rattle.std.specs.Prelude.{Bool, false, ◌≡◌, ◌⊎◌, ℕ, List, [], ◌∷◌, Option, Some, None, Result, IfOk, IfErr}
use Rattle.zf_typing.specs.Prelude.{Name, absent, binary, bracket, span_of, Perhaps, present, spelling, Tree, VarDecls, Need, is_and, local_twice, mismatch, no_members, no_types, Offence, resolved_of, Ty, type, Tys, IfFault, Meets, sort_of, typed, Span}
use Rattle.zf_tree.specs.declared.tree.Term.{Term}
use Rattle.zf_tree.specs.declared.tree.Term.TheVariants as form
use Rattle.zf_tree.specs.declared.tree.Link.{Link}
use Rattle.zf_tree.specs.declared.tree.VarDecl.{VarDecl}
use Rattle.zf_tree.specs.declared.operator.Operator.{Operator}
use Rattle.zf_tree.specs.declared.symbol.Quantifier.{Quantifier}
use Rattle.zf_sorts.specs.declared.fault.Refusal.{Refusal}
use Rattle.zf_typing.specs.declared.judge.Judged.{Judged}
use Rattle.zf_typing.specs.Offences.{Offends, PartOffends, SetsOffend, Repeats, IsRepeated}
use Rattle.zf_typing.specs.Resolving.{resolved}
use Rattle.zf_typing.specs.Scopes.{Scope, Var}
use Rattle.zf_typing.specs.Typing.{IsOf, IsApart, declared}

-- the term is of this sort, which its place takes, and kept as it is resolved
pub record IsJudged (s : Scope) (n : Need) (e : Tree) (j : Judged) : Type 0 where
  pub is_of : IsOf s e (sort_of j.sort)
  pub met : Meets n (sort_of j.sort)
  pub term : resolved_of j.term ≡ resolved s e

-- the answer is what the term is, or an offence of it
unfoldable pub Judges : Scope → Need → Tree → Result Judged Refusal → Type 0
Judges s n e result = IfOk result (λ j. IsJudged s n e j) × IfErr result (λ r. IfFault r (λ o m. Offends s n e o m))

-- a conjunction, within brackets or without
abbrev pub is_conjunction : Tree → Bool
is_conjunction (bracket l e) = is_conjunction e
is_conjunction (binary l op a b) = is_and op
is_conjunction _ = false

-- ---- terms of one form

abbrev pub IsBinary : Term → Type 0
IsBinary t = (l : Span) × (op : Operator) × (a b : Term) × (t ≡ form.Binary l op a b)

abbrev pub IsChain : Term → Type 0
IsChain t = (l : Span) × (a : Term) × (ks : List Link) × (t ≡ form.Chain l a ks)

abbrev pub IsQuantified : Term → Type 0
IsQuantified t = (l : Span) × (q : Quantifier) × (ds : List VarDecl) × (p : Option Term) × (e : Term) × (t ≡ form.Quantified q l ds p e)

abbrev pub IsComprehension : Term → Type 0
IsComprehension t = (l : Span) × (ds : List VarDecl) × (p e : Option Term) × (t ≡ form.Comprehension l ds p e)

-- ---- members of tuples, displays and products

-- a term has another type than this: the offence, and its place
abbrev pub IsOther : Ty → List Tree → Tys → Offence → Span → Type 0
IsOther u [] us o m = ⊥
IsOther u (e ∷ es) no_types o m = ⊥
IsOther u (e ∷ es) (type v vs) o m = ((u ≡ v → ⊥) × (o ≡ mismatch (typed u) (typed v)) × (m ≡ span_of e)) ⊎ IsOther u es vs o m

-- another type than the first one; where there is none, the place is that of the whole
abbrev pub DiffersAt : Span → List Tree → Tys → Offence → Span → Type 0
DiffersAt l [] us o m = (us ≡ no_types) × (o ≡ no_members) × (m ≡ l)
DiffersAt l (e ∷ es) no_types o m = ⊥
DiffersAt l (e ∷ es) (type u us) o m = IsOther u es us o m

-- ---- parts that may be left out

-- the part is what its place takes, or it is left out
abbrev pub IsPart : Scope → Need → Perhaps → Option Judged → Type 0
IsPart s n absent None = Unit {0}
IsPart s n absent (Some j) = ⊥
IsPart s n (present e) None = ⊥
IsPart s n (present e) (Some j) = IsJudged s n e j

unfoldable pub JudgesPart : Scope → Need → Perhaps → Result (Option Judged) Refusal → Type 0
JudgesPart s n p result = IfOk result (λ j. IsPart s n p j) × IfErr result (λ r. IfFault r (λ o m. PartOffends s n p o m))

-- ---- bound variables

-- a variable has the name
abbrev pub IsBound : List ℕ → List Var → Type 0
IsBound x [] = ⊥
IsBound x (v ∷ vs) = (v.name ≡ x) ⊎ IsBound x vs

-- the names are apart, and no variable has one of them
abbrev pub AreNew : List Var → List Name → Type 0
AreNew vs [] = Unit {0}
AreNew vs (n ∷ ns) = (IsBound (spelling n) vs → ⊥) × IsApart n ns × AreNew vs ns

-- one of the names is declared again, among them or as a variable
abbrev pub AreRepeated : List Var → List Name → Offence → Span → Type 0
AreRepeated vs [] o m = ⊥
AreRepeated vs (n ∷ ns) o m = (IsBound (spelling n) vs × (o ≡ local_twice (spelling n)) × (m ≡ n.span)) ⊎ (IsRepeated n ns o m ⊎ AreRepeated vs ns o m)

-- no variables are bound by declarations with this offence
abbrev pub DeclarationsOffend : Scope → VarDecls → Offence → Span → Type 0
DeclarationsOffend s ds o m = Repeats (declared ds) o m ⊎ SetsOffend s ds o m

-- the type of a variable
abbrev pub var_type : Var → Ty
var_type v = v.type
