-- A term has a sort that its place takes, or an offence there: its parts are judged first.
use Rattle.law_decided.proofs.Prelude.{◌++◌, ◌≡◌, ◌⊎◌, [], inl, inr, List, None, Option, refl, Some, subst, sym, ℕ, spelling, left_need, need_of, relation_rule, right_need, rule_of, absent, binary, bracket, comprehension, chain, constant, empty_set, span_of, link, Links, listed, named, no_decls, no_links, no_trees, numeral, Perhaps, present, quantified, Tree, tree, Trees, unary, var_decl, VarDecls, Need, Unary, Relation, Name, IsSmall, no_types, power, Ty, type, Tys, mismatch, no_members, not_declared, Offence, too_large, TypeNodes, Differ, LinksOffend, Misplaced, Offends, OneDiffers, OneOffends, PartOffends, Repeats, SetsOffend, a_schema, constant_sort, IsSmallSort, Meets, number_sort, predicate, set_sort, Sort, Takes, typed, UnaryTakes, AreAll, AreApart, LinksAreTyped, AreMembers, HasMemberType, PartIsPredicate, Declare, declared, IsOf, Makes, member_need, member_sort, row_type, variables, SomeOffence, Scope, Var, meaning, with_variables, Span}
use Rattle.zf_tree.specs.declared.symbol.Quantifier.{Quantifier}
use Rattle.zf_tree.specs.declared.operator.Need.TheVariants as need
use Rattle.zf_tree.specs.declared.operator.Listed.{Listed}
use Rattle.zf_tree.specs.declared.operator.Listed.TheVariants.{Tuple, Display, Product}
use Rattle.zf_tree.specs.declared.operator.Operator.{Operator}
use Rattle.zf_reference.specs.declared.reference.Reference.{Reference}
use Rattle.zf_term.specs.Faults as fault
use Rattle.zf_term.specs.Types as t
use Rattle.zf_typing.proofs.Chains.{compares}
use Rattle.law_decided.proofs.Combined.{AreCombined, combined, disagreement, made}
use Rattle.law_decided.proofs.Decided.{Decided, same_type, is_small, is_small_sort, meets, are_apart}

abbrev pub IsJudged : Scope → Need → Tree → Type 0
IsJudged s n e = ((x : Sort) × IsOf s e x × Meets n x) ⊎ SomeOffence (Offends s n e)

-- ---- a term whose sort is known: its place takes it, or it is misplaced

module _ (s : Scope) (n : Need) (e : Tree) where
  placed : (x : Sort) → IsOf s e x → ((k : Offence) (m : Span) → Misplaced s n e k m → Offends s n e k m) → IsJudged s n e
  placed x p offends = elim (meets n x) [
    | inl h ↦ inl (x, p, h)
    | inr h ↦ inr (fault.misplaced n x, span_of e, offends (fault.misplaced n x) (span_of e) (x, p, h, refl, refl))
  ]

-- ---- forms, from what is judged of their parts

of_name : (s : Scope) (n : Need) (x : Name) (o : Option (Reference × Sort)) → meaning s (spelling x) ≡ o → IsJudged s n (named x)
of_name s n x None e = inr (not_declared (spelling x), x.span, inl (e, refl, refl))
of_name s n x (Some r) e = placed s n (named x) r.1 (r.0, e) (λ k m o. inr o)

of_empty_set : (s : Scope) (n : Need) (l : Span) (e : Tree) → IsJudged s need.Set e → IsJudged s n (empty_set l e)
of_empty_set s n l e (inl p) = placed s n (empty_set l e) (set_sort p.2.0) (p.2.0, subst (IsOf s e) p.2.1 p.1, refl) (λ k m o. inr o)
of_empty_set s n l e (inr o) = inr (o.0, o.1, inl o.2)

not_a_schema : (n : Need) (x : Sort) → Meets n x → x ≡ a_schema → ⊥
not_a_schema need.Expression x p e = (cc)
not_a_schema _ x p e = (cc)

of_bracket : (s : Scope) (n : Need) (l : Span) (e : Tree) → IsJudged s n e → IsJudged s n (bracket l e)
of_bracket s n l e (inl p) = inl (p.0, (p.1, not_a_schema n p.0 p.2), p.2)
of_bracket s n l e (inr o) = inr (o.0, o.1, inl o.2)

-- what a member is that its place takes
told : (form : Listed) (x : Sort) → Meets (member_need form) x → (v : Ty) × (x ≡ member_sort form v)
told Tuple x p = p
told _ x p = p

-- the members have this type too, or one has another
alike : (s : Scope) (u : Ty) (es : Trees) (us : Tys) → AreMembers Display s es us → AreAll (type u us) u ⊎ SomeOffence (OneDiffers s u es)
alike s u no_trees us p = inl (subst (λ vs. AreAll (type u vs) u) (sym p) refl)
alike s u (tree e es) us p = by (same_type u p.0) (alike s u es p.1 p.3)
  where
    then : AreAll (type u p.1) u → u ≡ p.0 → AreAll (type u (type p.0 p.1)) u
    then all h = (refl, subst (λ v. AreAll (type v p.1) u) h all)

    by : Decided (u ≡ p.0) → AreAll (type u p.1) u ⊎ SomeOffence (OneDiffers s u es) → AreAll (type u us) u ⊎ SomeOffence (OneDiffers s u (tree e es))
    by (inl h) (inl all) = inl (subst (λ vs. AreAll (type u vs) u) (sym p.4) (then all h))
    by (inl h) (inr o) = inr (o.0, o.1, inr o.2)
    by (inr h) rest = inr (mismatch (typed u) (typed p.0), span_of e, inl (p.0, p.2, h, refl, refl))

-- members make something, or those of a display differ
makes : (form : Listed) (s : Scope) (l : Span) (es : Trees) (us : Tys) → AreMembers form s es us
    → ((u : Ty) × Makes form us u) ⊎ SomeOffence (Differ form s l es)
makes Tuple s l es us p = inl (t.product us, refl)
makes Product s l es us p = inl (power (t.product us), refl)
makes Display s l no_trees us p = inr (no_members, l, (refl, refl))
makes Display s l (tree e es) us p = elim (alike s p.0 es p.1 p.3) [
  | inl all ↦ inl (power p.0, (p.0, subst (λ vs. AreAll vs p.0) (sym p.4) all, refl))
  | inr o ↦ inr (o.0, o.1, (p.0, p.2, o.2))
]

of_listed : (s : Scope) (n : Need) (l : Span) (form : Listed) (es : Trees) → ((us : Tys) × AreMembers form s es us) ⊎ SomeOffence (OneOffends s (member_need form) es) → IsJudged s n (listed l form es)
of_listed s n l form es (inr o) = inr (o.0, o.1, inl o.2)
of_listed s n l form es (inl p) = by (makes form s l es p.0 p.1)
  where
    sized : (u : Ty) → Makes form p.0 u → Decided (IsSmall u) → IsJudged s n (listed l form es)
    sized u made (inl small) = placed s n (listed l form es) (typed u) (p.0, u, p.1, made, small, refl) (λ k m o. inr (inr (inr o)))
    sized u made (inr large) = inr (too_large TypeNodes, l, inr (inr (inl (p.0, u, p.1, made, large, refl, refl))))

    by : ((u : Ty) × Makes form p.0 u) ⊎ SomeOffence (Differ form s l es) → IsJudged s n (listed l form es)
    by (inl a) = sized a.0 a.1 (is_small a.0)
    by (inr o) = inr (o.0, o.1, inr (inl o.2))

of_unary : (s : Scope) (n : Need) (l : Span) (op : Unary) (a : Tree) → IsJudged s (need_of op) a → IsJudged s n (unary l op a)
of_unary s n l op a (inr o) = inr (o.0, o.1, inl o.2)
of_unary s n l op a (inl p) = by (made op p.0 p.2)
  where
    sized : (z : Sort) → UnaryTakes op p.0 z → Decided (IsSmallSort z) → IsJudged s n (unary l op a)
    sized z w (inl small) = placed s n (unary l op a) z (p.0, p.1, w, small) (λ k m o. inr (inr o))
    sized z w (inr large) = inr (too_large TypeNodes, l, inr (inl (p.0, z, p.1, w, large, refl, refl)))

    by : (z : Sort) × UnaryTakes op p.0 z → IsJudged s n (unary l op a)
    by w = sized w.0 w.1 (is_small_sort w.0)

of_binary :
    (s : Scope) (n : Need) (l : Span) (op : Operator) (a b : Tree) → IsJudged s (left_need (rule_of op)) a → IsJudged s (right_need (rule_of op)) b → IsJudged s n (binary l op a b)
of_binary s n l op a b (inr o) right = inr (o.0, o.1, inl o.2)
of_binary s n l op a b (inl p) (inr o) = inr (o.0, o.1, inr (inl o.2))
of_binary s n l op a b (inl p) (inl q) = by (combined (rule_of op) p.0 q.0 p.2 q.2)
  where
    sized : (z : Sort) → Takes (rule_of op) p.0 q.0 z → Decided (IsSmallSort z) → IsJudged s n (binary l op a b)
    sized z w (inl small) = placed s n (binary l op a b) z (p.0, q.0, p.1, q.1, w, small) (λ k m o. inr (inr (inr o)))
    sized z w (inr large) = inr (too_large TypeNodes, l, inr (inr (inl (inr (p.0, q.0, z, p.1, q.1, w, large, refl, refl)))))

    by : AreCombined (rule_of op) p.0 q.0 → IsJudged s n (binary l op a b)
    by (inl w) = sized w.0 w.1 (is_small_sort w.0)
    by (inr none) =
        let is = disagreement (rule_of op) p.0 q.0 p.2 q.2 in
        inr (is.0, span_of b, inr (inr (inl (inl (p.0, q.0, p.1, q.1, p.2, q.2, none, is.1, refl)))))

-- a chain after an operand
module _ (s : Scope) (left : Tree) (x : Sort) (r : Relation) (e : Tree) (ks : Links) where
  of_link :
      IsOf s left x → Decided (Meets (left_need (relation_rule r)) x) → IsJudged s (right_need (relation_rule r)) e
      → ((y : Sort) → IsOf s e y → LinksAreTyped s y ks ⊎ SomeOffence (LinksOffend s e ks))
      → LinksAreTyped s x (link r e ks) ⊎ SomeOffence (LinksOffend s left (link r e ks))
  of_link p (inr h) right rest = inr (fault.misplaced (left_need (relation_rule r)) x, span_of left, inl (x, p, h, refl, refl))
  of_link p (inl h) (inr o) rest = inr (o.0, o.1, inr (inl o.2))
  of_link p (inl h) (inl q) rest = by (combined (relation_rule r) x q.0 h q.2)
    where
      linked : (z : Sort) → Takes (relation_rule r) x q.0 z → LinksAreTyped s q.0 ks ⊎ SomeOffence (LinksOffend s e ks)
          → LinksAreTyped s x (link r e ks) ⊎ SomeOffence (LinksOffend s left (link r e ks))
      linked z w (inl links) = inl (q.0, q.1, compares r x q.0 z w, links)
      linked z w (inr o) = inr (o.0, o.1, inr (inr (inr o.2)))

      by : AreCombined (relation_rule r) x q.0 → LinksAreTyped s x (link r e ks) ⊎ SomeOffence (LinksOffend s left (link r e ks))
      by (inl w) = linked w.0 w.1 (rest q.0 q.1)
      by (inr none) =
          let is = disagreement (relation_rule r) x q.0 h q.2 in
          inr (is.0, span_of e, inr (inr (inl (x, q.0, p, q.1, h, q.2, none, is.1, refl))))

of_chain :
    (s : Scope) (n : Need) (l : Span) (e : Tree) (ks : Links) → IsJudged s need.Expression e
    → ((x : Sort) → IsOf s e x → LinksAreTyped s x ks ⊎ SomeOffence (LinksOffend s e ks)) → IsJudged s n (chain l e ks)
of_chain s n l e ks (inr o) rest = inr (o.0, o.1, inl o.2)
of_chain s n l e ks (inl p) rest = let is = subst (IsOf s e) p.2.1 p.1 in by is (rest (typed p.2.0) is)
  where
    by : IsOf s e (typed p.2.0) → LinksAreTyped s (typed p.2.0) ks ⊎ SomeOffence (LinksOffend s e ks) → IsJudged s n (chain l e ks)
    by is (inl links) = placed s n (chain l e ks) predicate (p.2.0, is, links, refl) (λ k m o. inr (inr o))
    by is (inr o) = inr (o.0, o.1, inr (inl o.2))

-- what binds variables: a comprehension
module _ (s : Scope) (n : Need) (l : Span) (ds : VarDecls) (p e : Perhaps) where
  of_comprehension :
      AreApart (declared ds) ⊎ SomeOffence (Repeats (declared ds)) → ((vs : List Var) × Declare s ds vs) ⊎ SomeOffence (SetsOffend s ds)
      → ((w : Scope) → PartIsPredicate w p ⊎ SomeOffence (PartOffends w need.Predicate p))
      → ((w : Scope) (vs : List Var) → ((u : Ty) × HasMemberType w vs e u) ⊎ SomeOffence (PartOffends w need.Expression e))
      → IsJudged s n (comprehension l ds p e)
  of_comprehension (inr o) sets constraint term = inr (o.0, o.1, inl o.2)
  of_comprehension (inl apart) (inr o) constraint term = inr (o.0, o.1, inr (inl o.2))
  of_comprehension (inl apart) (inl d) constraint term = by (constraint (with_variables s d.0)) (term (with_variables s d.0) d.0)
    where
      sized : PartIsPredicate (with_variables s d.0) p → (u : Ty) → HasMemberType (with_variables s d.0) d.0 e u → Decided (IsSmall (power u)) → IsJudged s n (comprehension l ds p e)
      sized c u b (inl small) = placed s n (comprehension l ds p e) (set_sort u) (d.0, u, apart, d.1, c, b, small, refl) (λ k m o. inr (inr (inr o)))
      sized c u b (inr large) = inr (too_large TypeNodes, l, inr (inr (inl (d.0, (apart, d.1), inr (inr (u, b, large, refl, refl))))))

      by : PartIsPredicate (with_variables s d.0) p ⊎ SomeOffence (PartOffends (with_variables s d.0) need.Predicate p)
          → ((u : Ty) × HasMemberType (with_variables s d.0) d.0 e u) ⊎ SomeOffence (PartOffends (with_variables s d.0) need.Expression e)
          → IsJudged s n (comprehension l ds p e)
      by (inr o) term = inr (o.0, o.1, inr (inr (inl (d.0, (apart, d.1), inl o.2))))
      by (inl c) (inr o) = inr (o.0, o.1, inr (inr (inl (d.0, (apart, d.1), inr (inl o.2)))))
      by (inl c) (inl b) = sized c b.0 b.1 (is_small (power b.0))

-- a quantifier
module _ (s : Scope) (n : Need) (l : Span) (q : Quantifier) (ds : VarDecls) (p : Perhaps) (e : Tree) where
  of_quantifier :
      AreApart (declared ds) ⊎ SomeOffence (Repeats (declared ds)) → ((vs : List Var) × Declare s ds vs) ⊎ SomeOffence (SetsOffend s ds)
      → ((w : Scope) → PartIsPredicate w p ⊎ SomeOffence (PartOffends w need.Predicate p))
      → ((w : Scope) → IsJudged w need.Predicate e)
      → IsJudged s n (quantified l q ds p e)
  of_quantifier (inr o) sets constraint body = inr (o.0, o.1, inl o.2)
  of_quantifier (inl apart) (inr o) constraint body = inr (o.0, o.1, inr (inl o.2))
  of_quantifier (inl apart) (inl d) constraint body = by (constraint (with_variables s d.0)) (body (with_variables s d.0))
    where
      by : PartIsPredicate (with_variables s d.0) p ⊎ SomeOffence (PartOffends (with_variables s d.0) need.Predicate p)
          → IsJudged (with_variables s d.0) need.Predicate e → IsJudged s n (quantified l q ds p e)
      by (inr o) body = inr (o.0, o.1, inr (inr (inl (d.0, (apart, d.1), inl o.2))))
      by (inl c) (inr o) = inr (o.0, o.1, inr (inr (inl (d.0, (apart, d.1), inr o.2))))
      by (inl c) (inl b) = placed s n (quantified l q ds p e) predicate (d.0, apart, d.1, c, subst (IsOf (with_variables s d.0) e) b.2 b.1, refl) (λ k m o. inr (inr (inr o)))

-- ---- lists of parts, from what is judged of the first and of the rest

first_of_members :
    (form : Listed) (s : Scope) (e : Tree) (es : Trees) → IsJudged s (member_need form) e → ((us : Tys) × AreMembers form s es us) ⊎ SomeOffence (OneOffends s (member_need form) es)
    → ((us : Tys) × AreMembers form s (tree e es) us) ⊎ SomeOffence (OneOffends s (member_need form) (tree e es))
first_of_members form s e es (inr o) rest = inr (o.0, o.1, inl o.2)
first_of_members form s e es (inl p) (inr o) = inr (o.0, o.1, inr o.2)
first_of_members form s e es (inl p) (inl q) = let v = told form p.0 p.2 in inl (type v.0 q.0, (v.0, q.0, subst (IsOf s e) v.1 p.1, q.1, refl))

first_declared :
    (s : Scope) (ns : List Name) (e : Tree) (ds : VarDecls) → IsJudged s need.Set e → ((vs : List Var) × Declare s ds vs) ⊎ SomeOffence (SetsOffend s ds)
    → ((vs : List Var) × Declare s (var_decl ns e ds) vs) ⊎ SomeOffence (SetsOffend s (var_decl ns e ds))
first_declared s ns e ds (inr o) rest = inr (o.0, o.1, inl o.2)
first_declared s ns e ds (inl p) (inr o) = inr (o.0, o.1, inr o.2)
first_declared s ns e ds (inl p) (inl q) = inl (variables ns p.2.0 ++ q.0, (p.2.0, q.0, subst (IsOf s e) p.2.1 p.1, q.1, refl))

of_constraint : (s : Scope) (e : Tree) → IsJudged s need.Predicate e → PartIsPredicate s (present e) ⊎ SomeOffence (PartOffends s need.Predicate (present e))
of_constraint s e (inl p) = inl (subst (IsOf s e) p.2 p.1)
of_constraint s e (inr o) = inr o

of_built : (s : Scope) (vs : List Var) (e : Tree) → IsJudged s need.Expression e → ((u : Ty) × HasMemberType s vs (present e) u) ⊎ SomeOffence (PartOffends s need.Expression (present e))
of_built s vs e (inl p) = inl (p.2.0, subst (IsOf s e) p.2.1 p.1)
of_built s vs e (inr o) = inr o

-- ---- every term

mutual
  pub judged : (s : Scope) (n : Need) (e : Tree) → IsJudged s n e
  judged s n (named x) = of_name s n x (meaning s (spelling x)) refl
  judged s n (numeral l v) = placed s n (numeral l v) number_sort refl (λ k m o. o)
  judged s n (constant l c) = placed s n (constant l c) (constant_sort c) refl (λ k m o. o)
  judged s n (empty_set l e) = of_empty_set s n l e (judged s need.Set e)
  judged s n (bracket l e) = of_bracket s n l e (judged s n e)
  judged s n (listed l form es) = of_listed s n l form es (members_judged form s es)
  judged s n (comprehension l ds p e) = of_comprehension s n l ds p e (are_apart (declared ds)) (sets_judged s ds) (λ w. constraint_judged w p) (λ w vs. built_judged w vs e)
  judged s n (unary l op e) = of_unary s n l op e (judged s (need_of op) e)
  judged s n (binary l op a b) = of_binary s n l op a b (judged s (left_need (rule_of op)) a) (judged s (right_need (rule_of op)) b)
  judged s n (chain l e ks) = of_chain s n l e ks (judged s need.Expression e) (λ x p. links_judged s e x ks p)
  judged s n (quantified l q ds p e) = of_quantifier s n l q ds p e (are_apart (declared ds)) (sets_judged s ds) (λ w. constraint_judged w p) (λ w. judged w need.Predicate e)

  members_judged : (form : Listed) (s : Scope) (es : Trees) → ((us : Tys) × AreMembers form s es us) ⊎ SomeOffence (OneOffends s (member_need form) es)
  members_judged form s no_trees = inl (no_types, refl)
  members_judged form s (tree e es) = first_of_members form s e es (judged s (member_need form) e) (members_judged form s es)

  links_judged : (s : Scope) (left : Tree) (x : Sort) (ks : Links) → IsOf s left x → LinksAreTyped s x ks ⊎ SomeOffence (LinksOffend s left ks)
  links_judged s left x no_links p = inl tt
  links_judged s left x (link r e ks) p = of_link s left x r e ks p (meets (left_need (relation_rule r)) x) (judged s (right_need (relation_rule r)) e) (λ y q. links_judged s e y ks q)

  sets_judged : (s : Scope) (ds : VarDecls) → ((vs : List Var) × Declare s ds vs) ⊎ SomeOffence (SetsOffend s ds)
  sets_judged s no_decls = inl ([], refl)
  sets_judged s (var_decl ns e ds) = first_declared s ns e ds (judged s need.Set e) (sets_judged s ds)

  constraint_judged : (s : Scope) (p : Perhaps) → PartIsPredicate s p ⊎ SomeOffence (PartOffends s need.Predicate p)
  constraint_judged s absent = inl tt
  constraint_judged s (present e) = of_constraint s e (judged s need.Predicate e)

  built_judged : (s : Scope) (vs : List Var) (e : Perhaps) → ((u : Ty) × HasMemberType s vs e u) ⊎ SomeOffence (PartOffends s need.Expression e)
  built_judged s vs absent = inl (row_type vs, refl)
  built_judged s vs (present e) = of_built s vs e (judged s need.Expression e)
