-- The outcome of a well typed term is of its type, where each value that is bound is of its own.
use Rattle.law_sound.proofs.Prelude.{◌++◌, ◌∙◌, ◌∷◌, ◌≡◌, [], ap, arith, length, List, Option, refl, replicate, subst, sym, ℕ, ⊎_elim, pos, AreFrom, IsCross, IsDisplay, IsMember, Outcome, Is, Out, SetOf, Value, spelling, rule_of, no_decls, no_trees, Perhaps, Tree, tree, Trees, var_decl, VarDecls, Operator, Unary, Constant, Name, ResolvedPart, ResolvedTree, no_types, power, Ty, type, Tys, bound, referent, resolved, resolved_all, resolved_part, resolved_ranges, constant_sort, number_sort, predicate, set_sort, Sort, Takes, typed, UnaryTakes, Scope, Var, AreAll, AreMembers, Declare, IsOf, Makes, member_sort, row_type, types_of, variables, Context, Environment, outcome_in, within, HasOutcome, HaveOutcomes, HaveRanges, IsBuilt, IsBuiltBy, IsConstraint, row_value, OnBoth, one_more, one_out, one_undefined, OnOne, OnSeveral, repeated, Several, values, AreOfTypes, IsOfType, BinaryOutcome, ListedOutcome, UnaryOutcome, IsConstantOutcome, Nat, Nat1, Num}
use Rattle.zf_tree.specs.declared.symbol.Constant.TheVariants as constants
use Rattle.zf_tree.specs.Trees as text
use Rattle.zf_tree.specs.declared.operator.Listed.{Listed}
use Rattle.zf_tree.specs.declared.operator.Listed.TheVariants.{Tuple, Display, Product}
use Rattle.zf_term.specs.Types as t
use Rattle.zf_typing.specs.Scopes as scopes
use Rattle.zf_typing.specs.Typing as typing
use Rattle.zf_typing.proofs.ResolvedAlike.{part_within}
use Rattle.zf_value.specs.declared.plain.Value as value
use Rattle.zf_value.specs.declared.value.Truth.{Truth}
use Rattle.zf_meaning.specs.Meaning as meaning
use Rattle.law_sound.proofs.Names.{Fits, fits_within, named_typed}
use Rattle.law_sound.proofs.OfTypes.{members_of, a_set, a_number, cons_not_nil, first_of_types, is_value, nil_not_cons}
use Rattle.law_sound.proofs.Operations.{IsOfSort, sorted, binary, number_set, unary_made}

-- ---- outcomes that are values, by those of the operands

pub one : (o : Outcome) (P : Value → Outcome → Type 0) (v : Value) → OnOne o P (Is v) → (a : Value) × (o ≡ Is a) × P a (Is v)
one (Is a) P v h = (a, refl, h)
one o P v h = absurd (cc)

both : (o q : Outcome) (P : Value → Value → Outcome → Type 0) (v : Value) → OnBoth o q P (Is v) → (a b : Value) × (o ≡ Is a) × (q ≡ Is b) × P a b (Is v)
both (Is a) (Is b) P v h = (a, b, refl, refl, h)
both o Out P v h = absurd (cc)
both o q P v h = absurd (cc)

pub several : (s : Several) (P : List Value → Outcome → Type 0) (v : Value) → OnSeveral s P (Is v) → (vs : List Value) × (s ≡ values vs) × P vs (Is v)
several (values vs) P v h = (vs, refl, h)
several s P v h = absurd (cc)

pub all_values : (x : Outcome) (r : Several) (vs : List Value) → values vs ≡ one_more x r → (w : Value) × (ws : List Value) × (x ≡ Is w) × (r ≡ values ws) × (vs ≡ w ∷ ws)
all_values (Is w) (values ws) vs e = (w, ws, refl, refl, cc)
all_values x one_out vs e = absurd (cc)
all_values x r vs e = absurd (cc)

all_repeated : (n : ℕ) (x : Outcome) (r : Several) (vs : List Value) → values vs ≡ repeated n x r → (w : Value) × (ws : List Value) × (x ≡ Is w) × (r ≡ values ws) × (vs ≡ replicate n w ++ ws)
all_repeated n (Is w) (values ws) vs e = (w, ws, refl, refl, cc)
all_repeated n x one_out vs e = absurd (cc)
all_repeated n x r vs e = absurd (cc)

constant_typed : (e : Environment) (n : Option ℕ) (k : Constant) (v : Value) → IsConstantOutcome n k (Is v) → IsOfSort e (constant_sort k) v
constant_typed e n constants.True v h = absurd (cc)
constant_typed e n constants.False v h = absurd (cc)
constant_typed e n constants.Integers v h = number_set e n Num v h
constant_typed e n constants.Naturals v h = number_set e n Nat v h
constant_typed e n constants.Positives v h = number_set e n Nat1 v h

-- ---- rows of sets

-- the types of sets of these types
abbrev pub powers : Tys → Tys
powers no_types = no_types
powers (type u us) = type (power u) (powers us)

-- members of sets of the types are of the types
from_typed : (e : Environment) (us : Tys) (ss vs : List Value) → AreOfTypes e (powers us) ss → AreFrom vs ss → AreOfTypes e us vs
from_typed e no_types [] [] h k = refl
from_typed e no_types [] (v ∷ vs) h k = absurd k
from_typed e no_types (s ∷ ss) vs h k = cons_not_nil s ss h
from_typed e (type u us) [] vs h k = nil_not_cons h.0 h.1 h.2
from_typed e (type u us) (s ∷ ss) [] h k = absurd k
from_typed e (type u us) (s ∷ ss) (v ∷ vs) h k =
    let p = first_of_types e (power u) (powers us) s ss h in
    (v, vs, refl, (members_of e u s p.0).each v k.0, from_typed e us ss vs p.1 k.1)

declared_typed : (e : Environment) (ns : List Name) (u : Ty) (us : List Var) (s : Value) (ss : List Value) → IsOfType e (power u) s
    → AreOfTypes e (powers (types_of us)) ss → AreOfTypes e (powers (types_of (variables ns u ++ us))) (replicate (length ns) s ++ ss)
declared_typed e [] u us s ss h k = k
declared_typed e (n ∷ ns) u us s ss h k = (s, replicate (length ns) s ++ ss, refl, h, declared_typed e ns u us s ss h k)

row_typed : (e : Environment) (vs : List Var) (ws : List Value) → AreOfTypes e (types_of vs) ws → IsOfType e (row_type vs) (row_value ws)
row_typed e [] [] h = ([], refl, refl)
row_typed e [] (w ∷ ws) h = cons_not_nil w ws h
row_typed e (v ∷ vs) [] h = nil_not_cons h.0 h.1 h.2
row_typed e (v ∷ []) (w ∷ []) h = (first_of_types e v.type no_types w [] h).0
row_typed e (v ∷ []) (w ∷ x ∷ ws) h = cons_not_nil x ws (first_of_types e v.type no_types w (x ∷ ws) h).1
row_typed e (v ∷ u ∷ vs) (w ∷ []) h = let p = (first_of_types e v.type (types_of (u ∷ vs)) w [] h).1 in nil_not_cons p.0 p.1 p.2
row_typed e (v ∷ u ∷ vs) (w ∷ x ∷ ws) h = (w ∷ x ∷ ws, refl, h)

empty_typed : (e : Environment) (u : Ty) (v : Value) → Is v ≡ Is (SetOf []) → IsOfType e (power u) v
empty_typed e u v h = ([], is_value v (SetOf []) h, tt, omega arith, tt)

-- ---- displays, products and comprehensions

display_typed : (e : Environment) (u : Ty) (vs : List Value) (v : Value) → ((x : Value) → IsMember x vs → IsOfType e u x) → IsDisplay vs (Is v) → IsOfType e (power u) v
unfolding IsDisplay
display_typed e u vs v f h = a_set e u (λ z. IsMember z vs) v h f

pub cross_typed : (e : Environment) (us : Tys) (ss : List Value) (v : Value) → AreOfTypes e (powers us) ss → IsCross ss (Is v) → IsOfType e (power (t.product us)) v
unfolding IsCross
cross_typed e us ss v h k = a_set e (t.product us) (λ z. (vs : List Value) × (z ≡ value.Tuple vs) × AreFrom vs ss) v k (λ z p. (p.0, p.1, from_typed e us ss p.0 h p.2))

-- the types of members that these types tell
abbrev member_types : Listed → Tys → Tys
member_types Tuple us = us
member_types Display us = us
member_types Product us = powers us

none_told : (e : Environment) (form : Listed) → AreOfTypes e (member_types form no_types) []
none_told e Tuple = refl
none_told e _ = refl

one_told : (e : Environment) (form : Listed) (u : Ty) (us : Tys) (w : Value) (ws : List Value) → IsOfSort e (member_sort form u) w
    → AreOfTypes e (member_types form us) ws → AreOfTypes e (member_types form (type u us)) (w ∷ ws)
one_told e Tuple u us w ws h k = (w, ws, refl, h, k)
one_told e _ u us w ws h k = (w, ws, refl, h, k)

-- each of several that are all of one type
each_typed : (e : Environment) (us : Tys) (u : Ty) (vs : List Value) → AreAll us u → AreOfTypes e us vs → (x : Value) → IsMember x vs → IsOfType e u x
each_typed e no_types u vs a h x m = absurd a
each_typed e (type t no_types) u vs a h x m = ⊎_elim (λ k. subst (IsOfType e u) k (subst (λ v. IsOfType e v h.0) a h.3)) (λ k. absurd (subst (IsMember x) h.4 k)) (subst (IsMember x) h.2 m)
each_typed e (type t (type w ws)) u vs a h x m = ⊎_elim (λ k. subst (IsOfType e u) k (subst (λ v. IsOfType e v h.0) a.0 h.3))
    (λ k. each_typed e (type w ws) u h.1 a.1 h.4 x k) (subst (IsMember x) h.2 m)

-- what members make is of the type that their types make
listed_typed : (e : Environment) (form : Listed) (us : Tys) (u : Ty) (vs : List Value) (v : Value) → Makes form us u → AreOfTypes e (member_types form us) vs
    → ListedOutcome form vs (Is v) → IsOfType e u v
listed_typed e Tuple us u vs v m h p = subst (λ t. IsOfType e t v) (sym m) (vs, is_value v (value.Tuple vs) p, h)
listed_typed e Display us u vs v m h p = subst (λ t. IsOfType e t v) (sym m.2) (display_typed e m.0 vs v (each_typed e us m.0 vs m.1 h) p)
listed_typed e Product us u vs v m h p = subst (λ t. IsOfType e t v) (sym m) (cross_typed e us vs v h p)

built_typed :
    (e : Environment) (u : Ty) (vs : List Var) (s : Several) (F : List Value → Truth → Type 0) (T : List Value → Outcome → Type 0) (v : Value)
    → ((ss : List Value) → s ≡ values ss → AreOfTypes e (powers (types_of vs)) ss)
    → ((ws : List Value) (x : Value) → AreOfTypes e (types_of vs) ws → T ws (Is x) → IsOfType e u x)
    → IsBuilt s F T (Is v) → IsOfType e (power u) v
built_typed e u vs one_out F T v r g h = absurd (cc)
built_typed e u vs one_undefined F T v r g h = empty_typed e u v h
built_typed e u vs (values ss) F T v r g h = a_set e u (IsBuiltBy (λ ws. AreFrom ws ss) F T) v h.1 (λ x q. g q.0 x (from_typed e (types_of vs) ss q.0 (r ss refl) q.1) q.3)

-- ---- operands

module _ (e : Environment) (c : Context) where
  unary_typed : (op : Unary) (a : ResolvedTree) (x z : Sort) (v : Value) → UnaryTakes op x z → ((w : Value) → HasOutcome c a (Is w) → IsOfSort e x w)
      → (o : Outcome) → HasOutcome c a o → OnOne o (UnaryOutcome op) (Is v) → IsOfSort e z v
  unary_typed op a x z v k f o h p = let q = one o (UnaryOutcome op) v p in unary_made e op x z q.0 v k (f q.0 (subst (HasOutcome c a) q.1 h)) q.2

  binary_typed :
      (op : Operator) (a b : ResolvedTree) (x y z : Sort) (v : Value) → Takes (rule_of op) x y z
      → ((w : Value) → HasOutcome c a (Is w) → IsOfSort e x w) → ((w : Value) → HasOutcome c b (Is w) → IsOfSort e y w)
      → (o q : Outcome) → HasOutcome c a o → HasOutcome c b q → OnBoth o q (BinaryOutcome op) (Is v) → IsOfSort e z v
  binary_typed op a b x y z v k f g o q h i p =
      let r = both o q (BinaryOutcome op) v p in
      binary e op x y z r.0 r.1 v k (f r.0 (subst (HasOutcome c a) r.2 h)) (g r.1 (subst (HasOutcome c b) r.3 i)) r.4

-- ---- terms

mutual
  pub term_typed : (e : Environment) (s : Scope) (c : Context) (a : Tree) (z : Sort) (v : Value) → Fits e s c → IsOf s a z → HasOutcome c (resolved s a) (Is v) → IsOfSort e z v
  term_typed e s c (text.named n) z v f h p = named_typed e s c (spelling n) h.0 z v f h.1 (sym (p ∙ ap (λ o. outcome_in c (referent o)) h.1))
  term_typed e s c (text.numeral l n) z v f h p = sorted e number_sort z v (sym h) (a_number e (pos n) v p)
  term_typed e s c (text.constant l k) z v f h p = sorted e (constant_sort k) z v (sym h) (constant_typed e c.environment.numbers k v p)
  term_typed e s c (text.empty_set l a) z v f h p = sorted e (set_sort h.0) z v (sym h.2) (empty_typed e h.0 v p)
  term_typed e s c (text.bracket l a) z v f h p = term_typed e s c a z v f h.0 p
  term_typed e s c (text.listed l form es) z v f h p =
      let q = several p.0 (ListedOutcome form) v p.2 in
      sorted e (typed h.1) z v (sym h.5) (listed_typed e form h.0 h.1 q.0 v h.3 (members_typed e s c form es h.0 q.0 f h.2 (subst (HaveOutcomes c (resolved_all s es)) q.1 p.1)) q.2)
  term_typed e s c (text.comprehension l ds b a) z v f h p =
      sorted e (set_sort h.1) z v (sym h.7)
      (built_typed e h.1 h.0 p.0 (λ ws u. IsConstraint (within c ws) (resolved_part (bound s ds) b) u) (λ ws x. meaning.Builds (within c ws) ws (resolved_part (bound s ds) a) x) v
      (λ ss q. ranges_typed e s c ds h.0 ss f h.3 (subst (HaveRanges c (resolved_ranges s ds)) q p.1))
      (λ ws x k q. part_typed e (scopes.with_variables s h.0) (within c ws) a h.0 ws h.1 x (fits_within e s c h.0 ws f k) k h.5
      (subst (λ (r : ResolvedPart). meaning.Builds (within c ws) ws r (Is x)) (part_within s ds h.0 a h.3) q))
      p.2)
  term_typed e s c (text.unary l op a) z v f h p = unary_typed e c op (resolved s a) h.0 z v h.2 (λ w q. term_typed e s c a h.0 w f h.1 q) p.0 p.1 p.2
  term_typed e s c (text.binary l op a b) z v f h p = binary_typed e c op (resolved s a) (resolved s b) h.0 h.1 z v h.4
      (λ w q. term_typed e s c a h.0 w f h.2 q) (λ w q. term_typed e s c b h.1 w f h.3 q) p.0 p.1 p.2 p.3 p.4
  term_typed e s c (text.chain l a ks) z v f h p = sorted e predicate z v (sym h.3) tt
  term_typed e s c (text.quantified l q ds b a) z v f h p = sorted e predicate z v (sym h.5) tt

  members_typed : (e : Environment) (s : Scope) (c : Context) (form : Listed) (es : Trees) (us : Tys) (vs : List Value) → Fits e s c → AreMembers form s es us
      → HaveOutcomes c (resolved_all s es) (values vs) → AreOfTypes e (member_types form us) vs
  members_typed e s c form no_trees us vs f h p = subst (λ u. AreOfTypes e (member_types form u) vs) (sym h) (subst (AreOfTypes e (member_types form no_types)) (nothing vs p) (none_told e form))
    where
      nothing : (ws : List Value) → values ws ≡ values [] → [] ≡ ws
      nothing ws k = cc
  members_typed e s c form (tree a es) us vs f h p =
      let q = all_values p.0 p.1 vs p.4 in
      let first = term_typed e s c a (member_sort form h.0) q.0 f h.2 (subst (HasOutcome c (resolved s a)) q.2 p.2) in
      let rest = members_typed e s c form es h.1 q.1 f h.3 (subst (HaveOutcomes c (resolved_all s es)) q.3 p.3) in
      subst (λ u. AreOfTypes e (member_types form u) vs) (sym h.4) (subst (AreOfTypes e (member_types form (type h.0 h.1))) (sym q.4) (one_told e form h.0 h.1 q.0 q.1 first rest))

  ranges_typed : (e : Environment) (s : Scope) (c : Context) (ds : VarDecls) (vs : List Var) (ss : List Value) → Fits e s c → Declare s ds vs
      → HaveRanges c (resolved_ranges s ds) (values ss) → AreOfTypes e (powers (types_of vs)) ss
  ranges_typed e s c no_decls vs ss f h p = subst (λ us. AreOfTypes e (powers (types_of us)) ss) (sym h) (cc)
  ranges_typed e s c (var_decl ns a ds) vs ss f h p =
      let q = all_repeated (length ns) p.0 p.1 ss p.4 in
      let first = term_typed e s c a (set_sort h.0) q.0 f h.2 (subst (HasOutcome c (resolved s a)) q.2 p.2) in
      let rest = ranges_typed e s c ds h.1 q.1 f h.3 (subst (HaveRanges c (resolved_ranges s ds)) q.3 p.3) in
      subst (λ us. AreOfTypes e (powers (types_of us)) ss) (sym h.4) (subst (AreOfTypes e (powers (types_of (variables ns h.0 ++ h.1)))) (sym q.4) (declared_typed e ns h.0 h.1 q.0 q.1 first rest))

  part_typed : (e : Environment) (s : Scope) (c : Context) (a : Perhaps) (vs : List Var) (ws : List Value) (u : Ty) (x : Value) → Fits e s c
      → AreOfTypes e (types_of vs) ws → typing.HasMemberType s vs a u → meaning.Builds c ws (resolved_part s a) (Is x) → IsOfType e u x
  part_typed e s c text.absent vs ws u x f k h p = subst (λ r. IsOfType e r x) (sym h) (subst (IsOfType e (row_type vs)) (sym (is_value x (row_value ws) p)) (row_typed e vs ws k))
  part_typed e s c (text.present a) vs ws u x f k h p = term_typed e s c a (typed u) x f h p
