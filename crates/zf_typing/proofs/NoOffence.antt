-- A term that is well typed for its place has no offence there.
use Rattle.zf_typing.proofs.Prelude.{◌∙◌, ◌∷◌, [], inl, inr, List, refl, subst, sym, ⊎_elim, none-some, left_need, need_of, prefix_need, relation_rule, right_need, rule_of, sign_need, absent, binary, bracket, comprehension, chain, constant, empty_set, link, Links, listed, named, no_decls, no_links, no_trees, numeral, Perhaps, present, quantified, Tree, tree, Trees, unary, var_decl, VarDecls, Listed, Display, Product, Tuple, Need, Rule, Sign, Unary, Prefix, Domain, Finset, Power, Range, Size, Name, IsSmall, power, Ty, type, Tys, Offence, BuildsTooLarge, Clash, Differ, Disagree, IsRepeated, LinksOffend, ListedTooLarge, MakesTooLarge, MakeTooLarge, Misplaced, Offends, OneDiffers, OneOffends, PartOffends, Repeats, SetsOffend, IsSmallSort, Meets, predicate, PrefixTakes, set_sort, SignTakes, Sort, Takes, typed, UnaryTakes, Scope, Var, with_variables, AreAll, AreApart, LinksAreTyped, AreMembers, HasMemberType, PartIsPredicate, Declare, declared, IsApart, IsOf, Makes, member_need, member_sort, Span}
use Rattle.zf_tree.specs.declared.operator.Sign.TheVariants as sign
use Rattle.zf_tree.specs.declared.operator.Need.TheVariants as need
use Rattle.zf_tree.specs.declared.operator.Rule.TheVariants as rule
use Rattle.zf_tree.specs.declared.operator.Unary.TheVariants as symbol
use Rattle.zf_typing.proofs.OneSort.{same_whole, same_unary, same_typed, one_sort, one_row, one_made, first_of_all, one_declared, one_built}

-- ---- operands that a rule takes are what their places need

pub left_meets : (r : Rule) (x y z : Sort) → Takes r x y z → Meets (left_need r) x
left_meets rule.Arithmetic x y z p = p.0
left_meets rule.Interval x y z p = p.0
left_meets rule.Pairing x y z p = (p.0, p.2)
left_meets rule.SetFunction x y z p = (p.0, p.1)
left_meets rule.Overriding x y z p = (p.0, p.1, p.2)
left_meets rule.Composing x y z p = (p.0, p.1, p.3)
left_meets rule.DomainRestricting x y z p = (p.0, p.2)
left_meets rule.RangeRestricting x y z p = (p.0, p.1, p.2)
left_meets rule.Relating x y z p = (p.0, p.2)
left_meets rule.Applying x y z p = (p.0, p.1, p.2)
left_meets rule.Imaging x y z p = (p.0, p.1, p.2)
left_meets rule.Equating x y z p = (p.0, p.1)
left_meets rule.Belonging x y z p = (p.0, p.1)
left_meets rule.Including x y z p = (p.0, p.1)
left_meets rule.Comparing x y z p = p.0
left_meets rule.Connecting x y z p = p.0

pub right_meets : (r : Rule) (x y z : Sort) → Takes r x y z → Meets (right_need r) y
right_meets rule.Arithmetic x y z p = p.1
right_meets rule.Interval x y z p = p.1
right_meets rule.Pairing x y z p = (p.1, p.3)
right_meets rule.SetFunction x y z p = (p.0, p.2)
right_meets rule.Overriding x y z p = (p.0, p.1, p.3)
right_meets rule.Composing x y z p = (p.1, p.2, p.4)
right_meets rule.DomainRestricting x y z p = (p.0, p.1, p.3)
right_meets rule.RangeRestricting x y z p = (p.1, p.3)
right_meets rule.Relating x y z p = (p.1, p.3)
right_meets rule.Applying x y z p = (p.0, p.3)
right_meets rule.Imaging x y z p = (p.0, p.3)
right_meets rule.Equating x y z p = (p.0, p.2)
right_meets rule.Belonging x y z p = (p.0, p.2)
right_meets rule.Including x y z p = (p.0, p.2)
right_meets rule.Comparing x y z p = p.1
right_meets rule.Connecting x y z p = p.1

prefix_meets : (op : Prefix) (x z : Sort) → PrefixTakes op x z → Meets (prefix_need op) x
prefix_meets Power x z p = (p.0, p.1)
prefix_meets Finset x z p = (p.0, p.1)
prefix_meets Size x z p = (p.0, p.1)
prefix_meets Domain x z p = (p.0, p.1, p.2)
prefix_meets Range x z p = (p.0, p.1, p.2)

sign_meets : (op : Sign) (x z : Sort) → SignTakes op x z → Meets (sign_need op) x
sign_meets sign.Minus x z p = p.0
sign_meets (sign.Symbol op) x z p = prefix_meets op x z p

pub operand_meets : (op : Unary) (x z : Sort) → UnaryTakes op x z → Meets (need_of op) x
operand_meets (symbol.Sign op) x z p = sign_meets op x z p
operand_meets symbol.Inverse x z p = (p.0, p.1, p.2)
operand_meets symbol.Not x z p = p.0

pub member_meets : (form : Listed) (u : Ty) → Meets (member_need form) (member_sort form u)
member_meets Tuple u = (u, refl)
member_meets Display u = (u, refl)
member_meets Product u = (u, refl)

-- ---- what no part of a term has a share in

pub not_misplaced : (s : Scope) (n : Need) (e : Tree) (z : Sort) (k : Offence) (m : Span) → IsOf s e z → Meets n z → Misplaced s n e k m → ⊥
not_misplaced s n e z k m p meets o = o.2 (subst (Meets n) (one_sort s e z o.0 p o.1) meets)

pub no_disagreement : (s : Scope) (r : Rule) (a b : Tree) (x y z : Sort) (k : Offence) (m : Span) → IsOf s a x → IsOf s b y → Takes r x y z → Disagree s r a b k m → ⊥
no_disagreement s r a b x y z k m p q taken o =
    let left = subst (λ v. Takes r v y z) (one_sort s a x o.0 p o.2) taken in
    o.6 z (subst (λ v. Takes r o.0 v z) (one_sort s b y o.1 q o.3) left)

not_too_large : (s : Scope) (r : Rule) (l : Span) (a b : Tree) (x y z : Sort) (k : Offence) (m : Span) → IsOf s a x → IsOf s b y → Takes r x y z → IsSmallSort z → MakeTooLarge s r l a b k m → ⊥
not_too_large s r l a b x y z k m p q taken small o =
    o.6 (subst IsSmallSort (same_whole r x y z o.0 o.1 o.2 (one_sort s a x o.0 p o.3) (one_sort s b y o.1 q o.4) taken o.5) small)

pub no_clash : (s : Scope) (r : Rule) (l : Span) (a b : Tree) (x y z : Sort) (k : Offence) (m : Span) → IsOf s a x → IsOf s b y → Takes r x y z → IsSmallSort z → Clash s r l a b k m → ⊥
no_clash s r l a b x y z k m p q taken small (inl o) = no_disagreement s r a b x y z k m p q taken o
no_clash s r l a b x y z k m p q taken small (inr o) = not_too_large s r l a b x y z k m p q taken small o

pub unary_not_too_large : (s : Scope) (op : Unary) (l : Span) (a : Tree) (x z : Sort) (k : Offence) (m : Span) → IsOf s a x → UnaryTakes op x z → IsSmallSort z → MakesTooLarge s op l a k m → ⊥
unary_not_too_large s op l a x z k m p taken small o = o.4 (subst IsSmallSort (same_unary op x z o.0 o.1 (one_sort s a x o.0 p o.2) taken o.3) small)

pub built_not_too_large : (s : Scope) (vs : List Var) (l : Span) (e : Perhaps) (u : Ty) (k : Offence) (m : Span) → HasMemberType s vs e u → IsSmall (power u) → BuildsTooLarge s vs l e k m → ⊥
built_not_too_large s vs l e u k m p small o = o.2 (subst (λ v. IsSmall (power v)) (one_built s vs e u o.0 p o.1) small)

not_repeated : (n : Name) (ns : List Name) (k : Offence) (m : Span) → IsApart n ns → IsRepeated n ns k m → ⊥
not_repeated n [] k m apart o = o
not_repeated n (other ∷ ns) k m apart (inl o) = apart.0 o.0
not_repeated n (other ∷ ns) k m apart (inr o) = not_repeated n ns k m apart.1 o

pub no_repetition : (ns : List Name) (k : Offence) (m : Span) → AreApart ns → Repeats ns k m → ⊥
no_repetition [] k m apart o = o
no_repetition (n ∷ ns) k m apart (inl o) = not_repeated n ns k m apart.0 o
no_repetition (n ∷ ns) k m apart (inr o) = no_repetition ns k m apart.1 o

-- ---- what members make

listed_not_too_large : (form : Listed) (s : Scope) (l : Span) (es : Trees) (us : Tys) (u : Ty) (k : Offence) (m : Span)
    → AreMembers form s es us → Makes form us u → IsSmall u → ListedTooLarge form s l es k m → ⊥
listed_not_too_large form s l es us u k m p made small o = o.4 (subst IsSmall (one_made form us o.0 u o.1 (one_row form s es us o.0 p o.2) made o.3) small)

rest_of_all : (s : Scope) (e : Tree) (es : Trees) (t : Ty) (ts : Tys) (u : Ty) → AreMembers Display s (tree e es) ts → AreAll (type t ts) u → AreAll ts u
rest_of_all s e es t ts u p all = subst (λ vs. AreAll vs u) (sym p.4) (subst (λ vs. AreAll (type t vs) u) p.4 all).1

-- no member of a display has another type than all
none_differs : (s : Scope) (es : Trees) (us : Tys) (u : Ty) (k : Offence) (m : Span) → AreMembers Display s es us → AreAll us u → OneDiffers s u es k m → ⊥
none_differs s no_trees us u k m p all o = o
none_differs s (tree e es) us u k m p all (inl o) =
    o.2 (sym (first_of_all p.0 p.1 u (subst (λ vs. AreAll vs u) p.4 all)) ∙ same_typed p.0 o.0 (one_sort s e (typed p.0) (typed o.0) p.2 o.1))
none_differs s (tree e no_trees) us u k m p all (inr o) = o
none_differs s (tree e (tree f es)) us u k m p all (inr o) =
    none_differs s (tree f es) p.1 u k m p.3 (rest_of_all s f es p.0 p.1 u p.3 (subst (λ vs. AreAll vs u) p.4 all)) o

no_difference : (form : Listed) (s : Scope) (l : Span) (es : Trees) (us : Tys) (u : Ty) (k : Offence) (m : Span) → AreMembers form s es us → Makes form us u → Differ form s l es k m → ⊥
no_difference Tuple s l es us u k m p made o = o
no_difference Product s l es us u k m p made o = o
no_difference Display s l no_trees us u k m p made o = subst (λ vs. AreAll vs made.0) p made.1
no_difference Display s l (tree e es) us u k m p made o =
    let same = same_typed o.0 p.0 (one_sort s e (typed o.0) (typed p.0) o.1 p.2) ∙ first_of_all p.0 p.1 made.0 (subst (λ vs. AreAll vs made.0) p.4 made.1) in
    none_differs s (tree e es) us made.0 k m p made.1 (inr (subst (λ v. OneDiffers s v es k m) same o.2))

-- ---- a term has no offence

mutual
  pub no_offence : (s : Scope) (n : Need) (e : Tree) (z : Sort) (k : Offence) (m : Span) → IsOf s e z → Meets n z → Offends s n e k m → ⊥
  no_offence s n (named x) z k m p meets (inl o) = none-some (p.0, z) (sym o.0 ∙ p.1)
  no_offence s n (named x) z k m p meets (inr o) = not_misplaced s n (named x) z k m p meets o
  no_offence s n (numeral l v) z k m p meets o = not_misplaced s n (numeral l v) z k m p meets o
  no_offence s n (constant l c) z k m p meets o = not_misplaced s n (constant l c) z k m p meets o
  no_offence s n (empty_set l e) z k m p meets (inl o) = no_offence s need.Set e (set_sort p.0) k m p.1 (p.0, refl) o
  no_offence s n (empty_set l e) z k m p meets (inr o) = not_misplaced s n (empty_set l e) z k m p meets o
  no_offence s n (bracket l e) z k m p meets (inl o) = no_offence s n e z k m p.0 meets o
  no_offence s n (bracket l e) z k m p meets (inr o) = not_misplaced s n (bracket l e) z k m p meets o
  no_offence s n (listed l form es) z k m p meets (inl o) = no_member_offends form s es p.0 k m p.2 o
  no_offence s n (listed l form es) z k m p meets (inr (inl o)) = no_difference form s l es p.0 p.1 k m p.2 p.3 o
  no_offence s n (listed l form es) z k m p meets (inr (inr (inl o))) = listed_not_too_large form s l es p.0 p.1 k m p.2 p.3 p.4 o
  no_offence s n (listed l form es) z k m p meets (inr (inr (inr o))) = not_misplaced s n (listed l form es) z k m p meets o
  no_offence s n (comprehension l ds c e) z k m p meets (inl o) = no_repetition (declared ds) k m p.2 o
  no_offence s n (comprehension l ds c e) z k m p meets (inr (inl o)) = no_set_offends s ds p.0 k m p.3 o
  no_offence s n (comprehension l ds c e) z k m p meets (inr (inr (inl o))) =
      let vs = one_declared s ds p.0 o.0 p.3 o.1.1 in
      let condition = subst (λ v. PartIsPredicate (with_variables s v) c) vs p.4 in
      let built = subst (λ v. HasMemberType (with_variables s v) v e p.1) vs p.5 in
      ⊎_elim (no_condition_offends (with_variables s o.0) c k m condition)
      (⊎_elim (no_built_offends (with_variables s o.0) o.0 e p.1 k m built) (built_not_too_large (with_variables s o.0) o.0 l e p.1 k m built p.6)) o.2
  no_offence s n (comprehension l ds c e) z k m p meets (inr (inr (inr o))) = not_misplaced s n (comprehension l ds c e) z k m p meets o
  no_offence s n (unary l op e) z k m p meets (inl o) = no_offence s (need_of op) e p.0 k m p.1 (operand_meets op p.0 z p.2) o
  no_offence s n (unary l op e) z k m p meets (inr (inl o)) = unary_not_too_large s op l e p.0 z k m p.1 p.2 p.3 o
  no_offence s n (unary l op e) z k m p meets (inr (inr o)) = not_misplaced s n (unary l op e) z k m p meets o
  no_offence s n (binary l op a b) z k m p meets (inl o) = no_offence s (left_need (rule_of op)) a p.0 k m p.2 (left_meets (rule_of op) p.0 p.1 z p.4) o
  no_offence s n (binary l op a b) z k m p meets (inr (inl o)) = no_offence s (right_need (rule_of op)) b p.1 k m p.3 (right_meets (rule_of op) p.0 p.1 z p.4) o
  no_offence s n (binary l op a b) z k m p meets (inr (inr (inl o))) = no_clash s (rule_of op) l a b p.0 p.1 z k m p.2 p.3 p.4 p.5 o
  no_offence s n (binary l op a b) z k m p meets (inr (inr (inr o))) = not_misplaced s n (binary l op a b) z k m p meets o
  no_offence s n (chain l e ks) z k m p meets (inl o) = no_offence s need.Expression e (typed p.0) k m p.1 (p.0, refl) o
  no_offence s n (chain l e ks) z k m p meets (inr (inl o)) = no_link_offends s e (typed p.0) ks k m p.1 p.2 o
  no_offence s n (chain l e ks) z k m p meets (inr (inr o)) = not_misplaced s n (chain l e ks) z k m p meets o
  no_offence s n (quantified l op ds c e) z k m p meets (inl o) = no_repetition (declared ds) k m p.1 o
  no_offence s n (quantified l op ds c e) z k m p meets (inr (inl o)) = no_set_offends s ds p.0 k m p.2 o
  no_offence s n (quantified l op ds c e) z k m p meets (inr (inr (inl o))) =
      let vs = one_declared s ds p.0 o.0 p.2 o.1.1 in
      let condition = subst (λ v. PartIsPredicate (with_variables s v) c) vs p.3 in
      let body = subst (λ v. IsOf (with_variables s v) e predicate) vs p.4 in
      ⊎_elim (no_condition_offends (with_variables s o.0) c k m condition) (no_offence (with_variables s o.0) need.Predicate e predicate k m body refl) o.2
  no_offence s n (quantified l op ds c e) z k m p meets (inr (inr (inr o))) = not_misplaced s n (quantified l op ds c e) z k m p meets o

  pub no_member_offends : (form : Listed) (s : Scope) (es : Trees) (us : Tys) (k : Offence) (m : Span) → AreMembers form s es us → OneOffends s (member_need form) es k m → ⊥
  no_member_offends form s no_trees us k m p o = o
  no_member_offends form s (tree e es) us k m p (inl o) = no_offence s (member_need form) e (member_sort form p.0) k m p.2 (member_meets form p.0) o
  no_member_offends form s (tree e es) us k m p (inr o) = no_member_offends form s es p.1 k m p.3 o

  pub no_link_offends : (s : Scope) (left : Tree) (x : Sort) (ks : Links) (k : Offence) (m : Span) → IsOf s left x → LinksAreTyped s x ks → LinksOffend s left ks k m → ⊥
  no_link_offends s left x no_links k m p q o = o
  no_link_offends s left x (link r e ks) k m p q (inl o) =
      not_misplaced s (left_need (relation_rule r)) left x k m p (left_meets (relation_rule r) x q.0 predicate q.2) o
  no_link_offends s left x (link r e ks) k m p q (inr (inl o)) =
      no_offence s (right_need (relation_rule r)) e q.0 k m q.1 (right_meets (relation_rule r) x q.0 predicate q.2) o
  no_link_offends s left x (link r e ks) k m p q (inr (inr (inl o))) = no_disagreement s (relation_rule r) left e x q.0 predicate k m p q.1 q.2 o
  no_link_offends s left x (link r e ks) k m p q (inr (inr (inr o))) = no_link_offends s e q.0 ks k m q.1 q.3 o

  pub no_set_offends : (s : Scope) (ds : VarDecls) (vs : List Var) (k : Offence) (m : Span) → Declare s ds vs → SetsOffend s ds k m → ⊥
  no_set_offends s no_decls vs k m p o = o
  no_set_offends s (var_decl ns e ds) vs k m p (inl o) = no_offence s need.Set e (set_sort p.0) k m p.2 (p.0, refl) o
  no_set_offends s (var_decl ns e ds) vs k m p (inr o) = no_set_offends s ds p.1 k m p.3 o

  pub no_condition_offends : (s : Scope) (c : Perhaps) (k : Offence) (m : Span) → PartIsPredicate s c → PartOffends s need.Predicate c k m → ⊥
  no_condition_offends s absent k m p o = o
  no_condition_offends s (present e) k m p o = no_offence s need.Predicate e predicate k m p refl o

  pub no_built_offends : (s : Scope) (vs : List Var) (e : Perhaps) (u : Ty) (k : Offence) (m : Span) → HasMemberType s vs e u → PartOffends s need.Expression e k m → ⊥
  no_built_offends s vs absent u k m p o = o
  no_built_offends s vs (present e) u k m p o = no_offence s need.Expression e (typed u) k m p (u, refl) o
