-- What is wrong with a term that has no sort, or not one that its place takes. It is defined apart from the checker, and has no order.
use Rattle.std.specs.Prelude.{◌≡◌, ◌⊎◌, List, [], ◌∷◌, None}
use Rattle.zf_typing.specs.Prelude.{Name, absent, binary, bracket, comprehension, chain, empty_set, left_need, span_of, link, Links, listed, named, need_of, no_decls, no_links, no_trees, Perhaps, present, quantified, relation_rule, right_need, rule_of, spelling, Tree, tree, unary, var_decl, VarDecls, Trees, IsSmall, local_twice, mismatch, no_members, not_declared, Offence, power, too_large, Ty, Tys, Need, Listed, Display, Disagreement, IsSmallSort, Meets, Sort, Takes, typed, UnaryTakes, Span}
use Rattle.zf_tree.specs.declared.operator.Need.TheVariants as need
use Rattle.zf_tree.specs.declared.operator.Rule.{Rule}
use Rattle.zf_tree.specs.declared.operator.Unary.{Unary}
use Rattle.zf_term.specs.declared.fault.Limit.TheVariants.{TypeNodes}
use Rattle.zf_term.specs.Faults as fault
use Rattle.zf_typing.specs.Scopes.{Scope, Var, with_variables, meaning}
use Rattle.zf_typing.specs.Typing.{IsOf, AreMembers, Makes, member_need, Binds, HasMemberType, declared}

-- the term has a sort that its place does not take
abbrev pub Misplaced : Scope → Need → Tree → Offence → Span → Type 0
Misplaced s n e o m = (x : Sort) × IsOf s e x × (Meets n x → ⊥) × (o ≡ fault.misplaced n x) × (m ≡ span_of e)

-- both operands are what their places need, but no rule takes them together: the place is that of the right one
abbrev pub Disagree : Scope → Rule → Tree → Tree → Offence → Span → Type 0
Disagree s rule a b o m =
    (x y : Sort) × IsOf s a x × IsOf s b y × Meets (left_need rule) x × Meets (right_need rule) y × ((z : Sort) → Takes rule x y z → ⊥)
    × Disagreement rule x y o × (m ≡ span_of b)

-- the type of what two operands make passes the limit
abbrev pub MakeTooLarge : Scope → Rule → Span → Tree → Tree → Offence → Span → Type 0
MakeTooLarge s rule l a b o m = (x y z : Sort) × IsOf s a x × IsOf s b y × Takes rule x y z × (IsSmallSort z → ⊥) × (o ≡ too_large TypeNodes) × (m ≡ l)

-- the operands are what their places need, and still make nothing
abbrev pub Clash : Scope → Rule → Span → Tree → Tree → Offence → Span → Type 0
Clash s rule l a b o m = Disagree s rule a b o m ⊎ MakeTooLarge s rule l a b o m

abbrev pub MakesTooLarge : Scope → Unary → Span → Tree → Offence → Span → Type 0
MakesTooLarge s op l a o m = (x z : Sort) × IsOf s a x × UnaryTakes op x z × (IsSmallSort z → ⊥) × (o ≡ too_large TypeNodes) × (m ≡ l)

-- the name is declared again among these
abbrev pub IsRepeated : Name → List Name → Offence → Span → Type 0
IsRepeated n [] o m = ⊥
IsRepeated n (p ∷ ps) o m = ((spelling n ≡ spelling p) × (o ≡ local_twice (spelling p)) × (m ≡ p.span)) ⊎ IsRepeated n ps o m

-- one of the names is
abbrev pub Repeats : List Name → Offence → Span → Type 0
Repeats [] o m = ⊥
Repeats (n ∷ ns) o m = IsRepeated n ns o m ⊎ Repeats ns o m

-- a member has another type than this
abbrev pub OneDiffers : Scope → Ty → Trees → Offence → Span → Type 0
OneDiffers s u no_trees o m = ⊥
OneDiffers s u (tree e es) o m = ((v : Ty) × IsOf s e (typed v) × (u ≡ v → ⊥) × (o ≡ mismatch (typed u) (typed v)) × (m ≡ span_of e)) ⊎ OneDiffers s u es o m

-- the members of a display have no type in common; those of a tuple or a product need none
abbrev pub Differ : Listed → Scope → Span → Trees → Offence → Span → Type 0
Differ Display s l no_trees o m = (o ≡ no_members) × (m ≡ l)
Differ Display s l (tree e es) o m = (u : Ty) × IsOf s e (typed u) × OneDiffers s u es o m
Differ _ s l es o m = ⊥

-- the type of what the members make passes the limit
abbrev pub ListedTooLarge : Listed → Scope → Span → Trees → Offence → Span → Type 0
ListedTooLarge form s l es o m = (us : Tys) × (u : Ty) × AreMembers form s es us × Makes form us u × (IsSmall u → ⊥) × (o ≡ too_large TypeNodes) × (m ≡ l)

abbrev pub BuildsTooLarge : Scope → List Var → Span → Perhaps → Offence → Span → Type 0
BuildsTooLarge s vs l e o m = (u : Ty) × HasMemberType s vs e u × (IsSmall (power u) → ⊥) × (o ≡ too_large TypeNodes) × (m ≡ l)

-- an offence of a term that stands where this is needed, with the place that it is reported at
abbrev mutual
  pub Offends : Scope → Need → Tree → Offence → Span → Type 0
  Offends s n (named x) o m = ((meaning s (spelling x) ≡ None) × (o ≡ not_declared (spelling x)) × (m ≡ x.span)) ⊎ Misplaced s n (named x) o m
  Offends s n (empty_set l e) o m = Offends s need.Set e o m ⊎ Misplaced s n (empty_set l e) o m
  Offends s n (bracket l e) o m = Offends s n e o m ⊎ Misplaced s n (bracket l e) o m
  Offends s n (listed l form es) o m =
      OneOffends s (member_need form) es o m ⊎ (Differ form s l es o m ⊎ (ListedTooLarge form s l es o m ⊎ Misplaced s n (listed l form es) o m))
  Offends s n (comprehension l ds p e) o m =
      Repeats (declared ds) o m
      ⊎ (SetsOffend s ds o m
      ⊎ (((vs : List Var) × Binds s ds vs × (PartOffends (with_variables s vs) need.Predicate p o m ⊎ (PartOffends (with_variables s vs) need.Expression e o m ⊎ BuildsTooLarge (with_variables s vs) vs l e o m)))
      ⊎ Misplaced s n (comprehension l ds p e) o m))
  Offends s n (unary l op e) o m = Offends s (need_of op) e o m ⊎ (MakesTooLarge s op l e o m ⊎ Misplaced s n (unary l op e) o m)
  Offends s n (binary l op a b) o m =
      Offends s (left_need (rule_of op)) a o m
      ⊎ (Offends s (right_need (rule_of op)) b o m ⊎ (Clash s (rule_of op) l a b o m ⊎ Misplaced s n (binary l op a b) o m))
  Offends s n (chain l e ks) o m = Offends s need.Expression e o m ⊎ (LinksOffend s e ks o m ⊎ Misplaced s n (chain l e ks) o m)
  Offends s n (quantified l q ds p e) o m =
      Repeats (declared ds) o m
      ⊎ (SetsOffend s ds o m
      ⊎ (((vs : List Var) × Binds s ds vs × (PartOffends (with_variables s vs) need.Predicate p o m ⊎ Offends (with_variables s vs) need.Predicate e o m))
      ⊎ Misplaced s n (quantified l q ds p e) o m))
  Offends s n e o m = Misplaced s n e o m

  -- of one of the terms, where each is to be this
  pub OneOffends : Scope → Need → Trees → Offence → Span → Type 0
  OneOffends s n no_trees o m = ⊥
  OneOffends s n (tree e es) o m = Offends s n e o m ⊎ OneOffends s n es o m

  -- of what is left of a chain, after its left operand
  pub LinksOffend : Scope → Tree → Links → Offence → Span → Type 0
  LinksOffend s left no_links o m = ⊥
  LinksOffend s left (link r e ks) o m =
      Misplaced s (left_need (relation_rule r)) left o m
      ⊎ (Offends s (right_need (relation_rule r)) e o m ⊎ (Disagree s (relation_rule r) left e o m ⊎ LinksOffend s e ks o m))

  -- a declared set is none
  pub SetsOffend : Scope → VarDecls → Offence → Span → Type 0
  SetsOffend s no_decls o m = ⊥
  SetsOffend s (var_decl ns e ds) o m = Offends s need.Set e o m ⊎ SetsOffend s ds o m

  pub PartOffends : Scope → Need → Perhaps → Offence → Span → Type 0
  PartOffends s n absent o m = ⊥
  PartOffends s n (present e) o m = Offends s n e o m
