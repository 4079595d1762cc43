-- How a term is resolved depends on the names in scope alone, and not on the types of the bound variables.
use Rattle.zf_typing.proofs.Prelude.{if◌then◌else◌, ◌++◌, ◌+◌, ◌∙◌, ◌∷◌, ◌≡◌, [], ap, Bool, false, List, map, None, Option, refl, Some, sym, true, ℕ, map-append, bytes_eq, Local, spelling, Links, no_decls, no_trees, Perhaps, Tree, tree, Trees, var_decl, VarDecls, Name, Comp, Defined, first_named, later, int, Ty, bound, referent, resolved, resolved_all, resolved_links, resolved_part, resolved_ranges, Sort, last_named, meaning, Scope, Var, component_meaning, global_meaning, variable_meaning, with_variables, Declare, declared, variables, option_or}
use Rattle.zf_tree.specs.Trees as text
use Rattle.zf_reference.specs.declared.reference.Reference.{Reference}
use Rattle.zf_term.specs.{bracket, empty_set, listed, present, reference, unary}

abbrev pub names : List Var → List (List ℕ)
names vs = map (λ v. v.name) vs

-- two scopes that differ at most in the types of their bound variables
abbrev pub Alike : Scope → Scope → Type 0
Alike s r = (s.globals ≡ r.globals) × (s.comps ≡ r.comps) × (names s.locals ≡ names r.locals)

-- ---- the place of a name among the bound variables

abbrev place_of : Option (ℕ × Var) → Option ℕ
place_of None = None
place_of (Some p) = Some p.0

abbrev next_place : Option ℕ → Option ℕ
next_place None = None
next_place (Some n) = Some (n + 1)

-- the place of the last that is this name
abbrev last_place : List ℕ → List (List ℕ) → Option ℕ
last_place x [] = None
last_place x (n ∷ ns) = option_or (next_place (last_place x ns)) (if bytes_eq n x then Some 0 else None)

one_further : (v : Var) (found : Option (ℕ × Var)) (here : Bool) → place_of (option_or (later found) (if here then Some (0, v) else None))
    ≡ option_or (next_place (place_of found)) (if here then Some 0 else None)
one_further v (Some p) here = refl
one_further v None true = refl
one_further v None false = refl

by_names : (x : List ℕ) (vs : List Var) → place_of (last_named (λ v. v.name) x vs) ≡ last_place x (names vs)
by_names x [] = refl
by_names x (v ∷ vs) =
    one_further v (last_named (λ v. v.name) x vs) (bytes_eq v.name x)
    ∙ ap (λ p. option_or (next_place p) (if bytes_eq v.name x then Some 0 else None)) (by_names x vs)

-- ---- what a name refers to

abbrev at_place : Option ℕ → Reference → Reference
at_place None other = other
at_place (Some n) other = Local n

by_place : (found : Option (ℕ × Var)) (other : Option (Reference × Sort)) → referent (option_or (variable_meaning found) other) ≡ at_place (place_of found) (referent other)
by_place None other = refl
by_place (Some p) other = refl

-- what a name refers to where no variable is bound to it
abbrev outside : List Comp → List Defined → List ℕ → Option (Reference × Sort)
outside comps globals x = option_or (component_meaning (first_named (λ c. c.name) x comps)) (global_meaning (first_named (λ d. d.name) x globals))

by_names_alone : (s : Scope) (x : List ℕ) → referent (meaning s x) ≡ at_place (last_place x (names s.locals)) (referent (outside s.comps s.globals x))
by_names_alone s x =
    by_place (last_named (λ v. v.name) x s.locals) (outside s.comps s.globals x)
    ∙ ap (λ p. at_place p (referent (outside s.comps s.globals x))) (by_names x s.locals)

pub same_referent : (s r : Scope) (x : List ℕ) → Alike s r → referent (meaning s x) ≡ referent (meaning r x)
same_referent s r x alike =
    by_names_alone s x
    ∙ ap (λ ns. at_place (last_place x ns) (referent (outside s.comps s.globals x))) alike.2
    ∙ ap (λ cs. at_place (last_place x (names r.locals)) (referent (outside cs s.globals x))) alike.1
    ∙ ap (λ gs. at_place (last_place x (names r.locals)) (referent (outside r.comps gs x))) alike.0
    ∙ sym (by_names_alone r x)

-- ---- within declarations

pub alike_within : (s r : Scope) (vs us : List Var) → Alike s r → names vs ≡ names us → Alike (with_variables s vs) (with_variables r us)
alike_within s r vs us alike same = (
  alike.0,
  alike.1,
  map-append (λ v. v.name) s.locals vs
      ∙ ap (λ ns. ns ++ names vs) alike.2
      ∙ ap (λ ns. names r.locals ++ ns) same
      ∙ sym (map-append (λ v. v.name) r.locals us),
)

-- ---- resolved terms

mutual
  pub resolved_alike : (s r : Scope) (e : Tree) → Alike s r → resolved s e ≡ resolved r e
  resolved_alike s r (text.named n) alike = ap (reference n.span) (same_referent s r (spelling n) alike)
  resolved_alike s r (text.numeral l v) alike = refl
  resolved_alike s r (text.constant l c) alike = refl
  resolved_alike s r (text.empty_set l e) alike = ap (empty_set l) (resolved_alike s r e alike)
  resolved_alike s r (text.bracket l e) alike = ap (bracket l) (resolved_alike s r e alike)
  resolved_alike s r (text.listed l form es) alike = ap (listed l form) (all_alike s r es alike)
  resolved_alike s r (text.comprehension l ds p e) alike =
      let ranges = ranges_alike s r ds alike in
      let inner = alike_within s r (variables (declared ds) int) (variables (declared ds) int) alike refl in
      let condition = part_alike (bound s ds) (bound r ds) p inner in
      let built = part_alike (bound s ds) (bound r ds) e inner in
      (cc)
  resolved_alike s r (text.unary l op e) alike = ap (unary l op) (resolved_alike s r e alike)
  resolved_alike s r (text.binary l op a b) alike = let left = resolved_alike s r a alike in let right = resolved_alike s r b alike in (cc)
  resolved_alike s r (text.chain l e ks) alike = let first = resolved_alike s r e alike in let rest = links_alike s r ks alike in (cc)
  resolved_alike s r (text.quantified l q ds p e) alike =
      let ranges = ranges_alike s r ds alike in
      let inner = alike_within s r (variables (declared ds) int) (variables (declared ds) int) alike refl in
      let condition = part_alike (bound s ds) (bound r ds) p inner in
      let body = resolved_alike (bound s ds) (bound r ds) e inner in
      (cc)

  pub all_alike : (s r : Scope) (es : Trees) → Alike s r → resolved_all s es ≡ resolved_all r es
  all_alike s r no_trees alike = refl
  all_alike s r (tree e es) alike = let first = resolved_alike s r e alike in let rest = all_alike s r es alike in (cc)

  pub links_alike : (s r : Scope) (ks : Links) → Alike s r → resolved_links s ks ≡ resolved_links r ks
  links_alike s r text.no_links alike = refl
  links_alike s r (text.link op e ks) alike = let first = resolved_alike s r e alike in let rest = links_alike s r ks alike in (cc)

  pub ranges_alike : (s r : Scope) (ds : VarDecls) → Alike s r → resolved_ranges s ds ≡ resolved_ranges r ds
  ranges_alike s r no_decls alike = refl
  ranges_alike s r (var_decl ns e ds) alike = let first = resolved_alike s r e alike in let rest = ranges_alike s r ds alike in (cc)

  pub part_alike : (s r : Scope) (p : Perhaps) → Alike s r → resolved_part s p ≡ resolved_part r p
  part_alike s r text.absent alike = refl
  part_alike s r (text.present e) alike = ap present (resolved_alike s r e alike)

-- ---- declared variables have the declared names, in order

names_of_variables : (ns : List Name) (u : Ty) → names (variables ns u) ≡ map spelling ns
names_of_variables [] u = refl
names_of_variables (n ∷ ns) u = ap (λ rest. spelling n ∷ rest) (names_of_variables ns u)

pub names_declared : (s : Scope) (ds : VarDecls) (vs : List Var) → Declare s ds vs → names vs ≡ map spelling (declared ds)
names_declared s no_decls vs p = ap names p
names_declared s (var_decl ns e ds) vs p =
    ap names p.4
    ∙ map-append (λ v. v.name) (variables ns p.0) p.1
    ∙ ap (λ first. first ++ names p.1) (names_of_variables ns p.0)
    ∙ ap (λ rest. map spelling ns ++ rest) (names_declared s ds p.1 p.3)
    ∙ sym (map-append spelling ns (declared ds))

-- for names alone, the scope within declarations is that with the variables that they declare
pub alike_bound : (s : Scope) (ds : VarDecls) (vs : List Var) → Declare s ds vs → Alike (bound s ds) (with_variables s vs)
alike_bound s ds vs p =
    alike_within s s (variables (declared ds) int) vs (refl, refl, refl) (names_of_variables (declared ds) int ∙ sym (names_declared s ds vs p))

pub resolved_within : (s : Scope) (ds : VarDecls) (vs : List Var) (e : Tree) → Declare s ds vs → resolved (bound s ds) e ≡ resolved (with_variables s vs) e
resolved_within s ds vs e p = resolved_alike (bound s ds) (with_variables s vs) e (alike_bound s ds vs p)

pub part_within : (s : Scope) (ds : VarDecls) (vs : List Var) (e : Perhaps) → Declare s ds vs → resolved_part (bound s ds) e ≡ resolved_part (with_variables s vs) e
part_within s ds vs e p = part_alike (bound s ds) (with_variables s vs) e (alike_bound s ds vs p)
