-- A term is of one sort at most, and what it declares or builds is one thing.
use Rattle.zf_typing.proofs.Prelude.{◌++◌, ◌∙◌, ◌≡◌, ap, List, subst, sym, same_Some, rule_of, absent, binary, bracket, comprehension, chain, constant, empty_set, listed, named, no_decls, no_trees, numeral, Perhaps, present, quantified, Tree, tree, Trees, unary, var_decl, VarDecls, Listed, Display, Product, Tuple, Rule, Sign, Unary, Prefix, Domain, Finset, Power, Range, Size, no_types, power, product, Ty, type, Tys, PrefixTakes, set_sort, SignTakes, Sort, Takes, typed, UnaryTakes, Scope, Var, with_variables, AreAll, AreMembers, HasMemberType, Declare, IsOf, Makes, member_sort, variables}
use Rattle.zf_tree.specs.declared.operator.Sign.TheVariants as sign
use Rattle.zf_tree.specs.declared.operator.Rule.TheVariants as rule
use Rattle.zf_tree.specs.declared.operator.Unary.TheVariants as symbol

-- ---- of two operands, and of one, the whole is one

pub one_whole : (r : Rule) (x y z w : Sort) → Takes r x y z → Takes r x y w → z ≡ w
one_whole rule.Arithmetic x y z w p q = (cc)
one_whole rule.Interval x y z w p q = (cc)
one_whole rule.Pairing x y z w p q = (cc)
one_whole rule.SetFunction x y z w p q = (cc)
one_whole rule.Overriding x y z w p q = (cc)
one_whole rule.Composing x y z w p q = (cc)
one_whole rule.DomainRestricting x y z w p q = (cc)
one_whole rule.RangeRestricting x y z w p q = (cc)
one_whole rule.Relating x y z w p q = (cc)
one_whole rule.Applying x y z w p q = (cc)
one_whole rule.Imaging x y z w p q = (cc)
one_whole rule.Equating x y z w p q = (cc)
one_whole rule.Belonging x y z w p q = (cc)
one_whole rule.Including x y z w p q = (cc)
one_whole rule.Comparing x y z w p q = (cc)
one_whole rule.Connecting x y z w p q = (cc)

one_prefixed : (op : Prefix) (x z w : Sort) → PrefixTakes op x z → PrefixTakes op x w → z ≡ w
one_prefixed Power x z w p q = (cc)
one_prefixed Finset x z w p q = (cc)
one_prefixed Size x z w p q = (cc)
one_prefixed Domain x z w p q = (cc)
one_prefixed Range x z w p q = (cc)

one_signed : (op : Sign) (x z w : Sort) → SignTakes op x z → SignTakes op x w → z ≡ w
one_signed sign.Minus x z w p q = (cc)
one_signed (sign.Symbol op) x z w p q = one_prefixed op x z w p q

pub one_unary : (op : Unary) (x z w : Sort) → UnaryTakes op x z → UnaryTakes op x w → z ≡ w
one_unary (symbol.Sign op) x z w p q = one_signed op x z w p q
one_unary symbol.Inverse x z w p q = (cc)
one_unary symbol.Not x z w p q = (cc)

-- equal operands make an equal whole
pub same_whole : (r : Rule) (x y z a b c : Sort) → x ≡ a → y ≡ b → Takes r x y z → Takes r a b c → z ≡ c
same_whole r x y z a b c left right p q = one_whole r a b z c (subst (λ v. Takes r a v z) right (subst (λ v. Takes r v y z) left p)) q

pub same_unary : (op : Unary) (x z a c : Sort) → x ≡ a → UnaryTakes op x z → UnaryTakes op a c → z ≡ c
same_unary op x z a c operand p q = one_unary op a z c (subst (λ v. UnaryTakes op v z) operand p) q

pub same_typed : (u v : Ty) → typed u ≡ typed v → u ≡ v
same_typed u v e = (cc)

pub same_set : (u v : Ty) → set_sort u ≡ set_sort v → u ≡ v
same_set u v e = (cc)

-- ---- of members too, and of what they make

told_once : (form : Listed) (u v : Ty) → member_sort form u ≡ member_sort form v → u ≡ v
told_once Tuple u v e = same_typed u v e
told_once Display u v e = same_typed u v e
told_once Product u v e = same_set u v e

pub first_of_all : (t : Ty) (ts : Tys) (u : Ty) → AreAll (type t ts) u → t ≡ u
first_of_all t no_types u p = p
first_of_all t (type v vs) u p = p.0

one_of_all : (us : Tys) (u v : Ty) → AreAll us u → AreAll us v → u ≡ v
one_of_all no_types u v p q = absurd p
one_of_all (type t ts) u v p q = sym (first_of_all t ts u p) ∙ first_of_all t ts v q

pub one_made : (form : Listed) (us vs : Tys) (u v : Ty) → us ≡ vs → Makes form us u → Makes form vs v → u ≡ v
one_made Tuple us vs u v e p q = p ∙ ap product e ∙ sym q
one_made Product us vs u v e p q = p ∙ ap (λ ts. power (product ts)) e ∙ sym q
one_made Display us vs u v e p q = p.2 ∙ ap power (one_of_all vs p.0 q.0 (subst (λ ts. AreAll ts p.0) e p.1) q.1) ∙ sym q.2

-- ---- of a term the sort is one

mutual
  pub one_sort : (s : Scope) (e : Tree) (x y : Sort) → IsOf s e x → IsOf s e y → x ≡ y
  one_sort s (named n) x y p q = ap (λ v. v.1) (same_Some (p.0, x) (q.0, y) (sym p.1 ∙ q.1))
  one_sort s (numeral l v) x y p q = p ∙ sym q
  one_sort s (constant l c) x y p q = p ∙ sym q
  one_sort s (empty_set l e) x y p q = p.2 ∙ one_sort s e (set_sort p.0) (set_sort q.0) p.1 q.1 ∙ sym q.2
  one_sort s (bracket l e) x y p q = one_sort s e x y p.0 q.0
  one_sort s (listed l form es) x y p q = p.5 ∙ ap typed (one_made form p.0 q.0 p.1 q.1 (one_row form s es p.0 q.0 p.2 q.2) p.3 q.3) ∙ sym q.5
  one_sort s (comprehension l ds c e) x y p q =
      let vs = one_declared s ds p.0 q.0 p.3 q.3 in
      let built = subst (λ v. HasMemberType (with_variables s v) v e p.1) vs p.5 in
      p.7 ∙ ap set_sort (one_built (with_variables s q.0) q.0 e p.1 q.1 built q.5) ∙ sym q.7
  one_sort s (unary l op e) x y p q = same_unary op p.0 x q.0 y (one_sort s e p.0 q.0 p.1 q.1) p.2 q.2
  one_sort s (binary l op a b) x y p q = same_whole (rule_of op) p.0 p.1 x q.0 q.1 y (one_sort s a p.0 q.0 p.2 q.2) (one_sort s b p.1 q.1 p.3 q.3) p.4 q.4
  one_sort s (chain l e ks) x y p q = p.3 ∙ sym q.3
  one_sort s (quantified l op ds c e) x y p q = p.5 ∙ sym q.5

  pub one_row : (form : Listed) (s : Scope) (es : Trees) (us vs : Tys) → AreMembers form s es us → AreMembers form s es vs → us ≡ vs
  one_row form s no_trees us vs p q = p ∙ sym q
  one_row form s (tree e es) us vs p q =
      let first = told_once form p.0 q.0 (one_sort s e (member_sort form p.0) (member_sort form q.0) p.2 q.2) in
      let rest = one_row form s es p.1 q.1 p.3 q.3 in
      (cc)

  pub one_declared : (s : Scope) (ds : VarDecls) (us vs : List Var) → Declare s ds us → Declare s ds vs → us ≡ vs
  one_declared s no_decls us vs p q = p ∙ sym q
  one_declared s (var_decl ns e ds) us vs p q =
      let set = same_set p.0 q.0 (one_sort s e (set_sort p.0) (set_sort q.0) p.2 q.2) in
      let rest = one_declared s ds p.1 q.1 p.3 q.3 in
      p.4 ∙ ap (λ u. variables ns u ++ p.1) set ∙ ap (λ rest. variables ns q.0 ++ rest) rest ∙ sym q.4

  pub one_built : (s : Scope) (ws : List Var) (e : Perhaps) (u v : Ty) → HasMemberType s ws e u → HasMemberType s ws e v → u ≡ v
  one_built s ws absent u v p q = p ∙ sym q
  one_built s ws (present e) u v p q = same_typed u v (one_sort s e (typed u) (typed v) p q)
