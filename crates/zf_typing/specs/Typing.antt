-- The typing rules: a relation between what is in scope, a term, and a type, or that it is a predicate or a schema's name.
use Rattle.std.specs.Prelude.{◌≡◌, List, [], ◌∷◌, ◌++◌, Some, map}
use Rattle.zf_typing.specs.Prelude.{Name, Trees, IsSmall, no_types, power, Ty, type, types, Tys, Listed, Tuple, Display, Product, Need, Reference, a_schema, constant_sort, IsSmallSort, number_sort, predicate, set_sort, Sort, Takes, typed, UnaryTakes}
use Rattle.std.specs.List.{AllByRecursion}
use Rattle.zf_tree.specs.{absent, binary, bracket, comprehension, chain, constant, empty_set, link, Links, listed, named, no_decls, no_links, no_trees, numeral, Perhaps, present, quantified, relation_rule, rule_of, spelling, Tree, tree, unary, var_decl, VarDecls}
use Rattle.zf_tree.specs.declared.operator.Need.TheVariants as need
use Rattle.zf_term.specs.Types as t
use Rattle.zf_typing.specs.Scopes.{Scope, Var, with_variables, meaning}

-- the variables of names that are declared to be in a set
abbrev pub variables : List Name → Ty → List Var
variables ns u = map (λ n. record { name = spelling n; type = u }) ns

abbrev pub declared : VarDecls → List Name
declared no_decls = []
declared (var_decl ns t ds) = ns ++ declared ds

-- the name is spelled as none of these
abbrev pub IsApart : Name → List Name → Type 0
IsApart n ms = AllByRecursion (λ m. spelling n ≡ spelling m → ⊥) ms

-- no two are spelled alike
abbrev pub AreApart : List Name → Type 0
AreApart [] = Unit {0}
AreApart (n ∷ ns) = IsApart n ns × AreApart ns

abbrev pub types_of : List Var → Tys
types_of vs = types (map (λ v. v.type) vs)

-- what a comprehension without a term builds: the one variable, or the tuple of all
abbrev pub row_type : List Var → Ty
row_type (v ∷ []) = v.type
row_type vs = t.product (types_of vs)

-- ---- what stands in a tuple, a display or a product

-- what a member has to be
abbrev pub member_need : Listed → Need
member_need Product = need.Set
member_need _ = need.Expression

-- what a member is of which this type is said: of a product, a set of that type
abbrev pub member_sort : Listed → Ty → Sort
member_sort Product u = set_sort u
member_sort _ u = typed u

-- one type or more, all the same as this one
abbrev pub AreAll : Tys → Ty → Type 0
AreAll no_types u = ⊥
AreAll (type t no_types) u = t ≡ u
AreAll (type t (type v vs)) u = (t ≡ u) × AreAll (type v vs) u

-- the type of what members of these types make
abbrev pub Makes : Listed → Tys → Ty → Type 0
Makes Tuple us u = u ≡ t.product us
Makes Product us u = u ≡ power (t.product us)
Makes Display us u = (v : Ty) × AreAll us v × (u ≡ power v)

-- ---- the rules

abbrev mutual
  pub IsOf : Scope → Tree → Sort → Type 0
  IsOf s (named n) z = (r : Reference) × (meaning s (spelling n) ≡ Some (r, z))
  IsOf s (numeral l v) z = z ≡ number_sort
  IsOf s (constant l c) z = z ≡ constant_sort c
  IsOf s (empty_set l e) z = (u : Ty) × IsOf s e (set_sort u) × (z ≡ set_sort u)
  IsOf s (bracket l e) z = IsOf s e z × (z ≡ a_schema → ⊥)
  IsOf s (listed l form es) z = (us : Tys) × (u : Ty) × AreMembers form s es us × Makes form us u × IsSmall u × (z ≡ typed u)
  IsOf s (comprehension l ds p e) z = (vs : List Var) × (u : Ty) × AreApart (declared ds) × Declare s ds vs × PartIsPredicate (with_variables s vs) p × HasMemberType (with_variables s vs) vs e u × IsSmall (power u) × (z ≡ set_sort u)
  IsOf s (unary l op e) z = (x : Sort) × IsOf s e x × UnaryTakes op x z × IsSmallSort z
  IsOf s (binary l op a b) z = (x y : Sort) × IsOf s a x × IsOf s b y × Takes (rule_of op) x y z × IsSmallSort z
  IsOf s (chain l e ks) z = (u : Ty) × IsOf s e (typed u) × LinksAreTyped s (typed u) ks × (z ≡ predicate)
  IsOf s (quantified l q ds p e) z = (vs : List Var) × AreApart (declared ds) × Declare s ds vs × PartIsPredicate (with_variables s vs) p × IsOf (with_variables s vs) e predicate × (z ≡ predicate)

  -- the members are given by these types
  pub AreMembers : Listed → Scope → Trees → Tys → Type 0
  AreMembers form s no_trees us = us ≡ no_types
  AreMembers form s (tree e es) us = (v : Ty) × (vs : Tys) × IsOf s e (member_sort form v) × AreMembers form s es vs × (us ≡ type v vs)

  -- what is left of a chain, after an operand of this sort
  pub LinksAreTyped : Scope → Sort → Links → Type 0
  LinksAreTyped s x no_links = Unit {0}
  LinksAreTyped s x (link r e ks) = (y : Sort) × IsOf s e y × Takes (relation_rule r) x y predicate × LinksAreTyped s y ks

  -- the declarations declare these variables; their sets know nothing of them
  pub Declare : Scope → VarDecls → List Var → Type 0
  Declare s no_decls vs = vs ≡ []
  Declare s (var_decl ns e ds) vs = (u : Ty) × (us : List Var) × IsOf s e (set_sort u) × Declare s ds us × (vs ≡ variables ns u ++ us)

  pub PartIsPredicate : Scope → Perhaps → Type 0
  PartIsPredicate s absent = Unit {0}
  PartIsPredicate s (present e) = IsOf s e predicate

  -- the type of what a comprehension builds out of these variables
  pub HasMemberType : Scope → List Var → Perhaps → Ty → Type 0
  HasMemberType s vs absent u = u ≡ row_type vs
  HasMemberType s vs (present e) u = IsOf s e (typed u)

-- the declarations bind these variables, each once
abbrev pub Binds : Scope → VarDecls → List Var → Type 0
Binds s ds vs = AreApart (declared ds) × Declare s ds vs
