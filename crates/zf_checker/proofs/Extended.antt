-- What is asked of a well typed term has the same answer where more is defined after.
use Rattle.zf_checker.proofs.Prelude.{if◌then◌else◌, ◌&&◌, ◌++◌, ◌∙◌, ◌≡◌, ap, Bool, drop, List, None, Option, refl, slice_get, Some, subst, sym, take, ℕ, take-append-drop, none-some, spelling, Links, no_decls, no_trees, Perhaps, Tree, tree, Trees, var_decl, VarDecls, abbreviation, Comp, Defined, first_named, ResolvedTree, Ty, Tys, bound, referent, resolved, resolved_all, resolved_links, resolved_part, resolved_ranges, predicate, set_sort, Sort, typed, outside, ExtentsKept, option_or, AreMembers, component_meaning, Declare, global_meaning, HasMemberType, IsOf, last_named, LinksAreTyped, meaning, member_sort, PartIsPredicate, Scope, Var, variable_meaning, with_variables, named_there}
use Rattle.zf_tree.specs.declared.symbol.Relation.{Relation}
use Rattle.zf_tree.specs.declared.operator.Listed.{Listed}
use Rattle.zf_tree.specs.Trees as text
use Rattle.zf_reference.specs.declared.reference.Reference.{Reference}
use Rattle.zf_extent.specs.{all_offending, direct, extent_by, extent_found, extent_named, extent_of, extent_set, is_last, is_membership, links_offending, name_offenders, offending, part_offending, ranges_offending, tested, unless}
use Rattle.zf_typing.proofs.ResolvedAlike.{resolved_within}
use Rattle.zf_checker.proofs.Fronts.{in_front}
use Rattle.zf_checker.proofs.WellTyped.{globals_well_typed}

-- what is asked has the same answer with more after these globals
abbrev pub Same : {A : Type 0} → List Defined → List Defined → (List Defined → A) → Type 0
Same g more asked = asked (g ++ more) ≡ asked g

-- the infinite set that the term is, and what offends in it
abbrev pub IsSame : List Defined → List Defined → ResolvedTree → Type 0
IsSame g more t = Same g more (λ h. direct h t) × Same g more (λ h. offending h t)

-- ---- what a name stands for

name_same : (s : Scope) (x : List ℕ) (r : Reference) (z : Sort) (more : List Defined) → meaning s x ≡ Some (r, z) → Same s.globals more (λ g. extent_named g (referent (meaning s x)))
name_same s x r z more e =
    by (last_named (λ v. v.name) x s.locals) (first_named (λ c. c.name) x s.comps) (first_named (λ d. d.name) x s.globals) (λ p found. (named_there (λ d. d.name) x s.globals p found).0) e
  where
    by :
        (l : Option (ℕ × Var)) (c : Option (ℕ × Comp)) (d : Option (ℕ × Defined)) → ((p : ℕ × Defined) → d ≡ Some p → slice_get s.globals p.0 ≡ Some p.1)
        → option_or (variable_meaning l) (option_or (component_meaning c) (global_meaning d)) ≡ Some (r, z)
        → Same s.globals more (λ g. extent_named g (referent (option_or (variable_meaning l) (option_or (component_meaning c) (global_meaning d)))))
    by (Some v) c d there e = refl
    by None (Some c) d there e = refl
    by None None (Some p) there e = let at = there p refl in ap extent_found (in_front s.globals more p.0 p.1 at ∙ sym at)
    by None None None there e = absurd (none-some (r, z) e)

-- ---- terms

both : {A : Type 0} (a b c d : List A) → a ≡ b → c ≡ d → a ++ c ≡ b ++ d
both a b c d left right = (cc)

three : {A : Type 0} (a b c d e f : List A) → a ≡ b → c ≡ d → e ≡ f → a ++ c ++ e ≡ b ++ d ++ f
three a b c d e f first second third = (cc)

tested_same :
    (g more : List Defined) (op : Relation) (last : Bool) (t : ResolvedTree) → IsSame g more t
    → Same g more (λ h. unless (tested h op last t) (offending h t))
tested_same g more op last t same =
    ap (λ o. unless (if is_membership op && last then o else None) (offending (g ++ more) t)) same.0
    ∙ ap (unless (tested g op last t)) same.1

-- what is within declarations is resolved as within the variables that they declare
bound_same :
    (s : Scope) (ds : VarDecls) (vs : List Var) (e : Tree) (more : List Defined) → Declare s ds vs
    → IsSame s.globals more (resolved (with_variables s vs) e) → IsSame s.globals more (resolved (bound s ds) e)
bound_same s ds vs e more p same = subst (IsSame s.globals more) (sym (resolved_within s ds vs e p)) same

mutual
  pub term_same : (s : Scope) (e : Tree) (z : Sort) (more : List Defined) → IsOf s e z → IsSame s.globals more (resolved s e)
  term_same s (text.named n) z more p = let same = name_same s (spelling n) p.0 z more p.1 in (ap extent_set same, ap (name_offenders n.span (referent (meaning s (spelling n)))) same)
  term_same s (text.numeral l v) z more p = (refl, refl)
  term_same s (text.constant l c) z more p = (refl, refl)
  term_same s (text.empty_set l e) z more p = (refl, refl)
  term_same s (text.bracket l e) z more p = term_same s e z more p.0
  term_same s (text.listed l form es) z more p = (refl, members_same s form es p.0 more p.2)
  term_same s (text.comprehension l ds c e) z more p =
      (refl, three _ _ _ _ _ _ (ranges_same s ds p.0 more p.3) (condition_same s ds p.0 c more p.3 p.4) (built_same s ds p.0 e p.1 more p.3 p.5))
  term_same s (text.unary l op e) z more p = (refl, (term_same s e p.0 more p.1).1)
  term_same s (text.binary l op a b) z more p = (refl, both _ _ _ _ (term_same s a p.0 more p.2).1 (term_same s b p.1 more p.3).1)
  term_same s (text.chain l e ks) z more p = (refl, both _ _ _ _ (term_same s e (typed p.0) more p.1).1 (links_same s (typed p.0) ks more p.2))
  term_same s (text.quantified l q ds c e) z more p =
      let body = bound_same s ds p.0 e more p.2 (term_same (with_variables s p.0) e predicate more p.4) in
      (refl, three _ _ _ _ _ _ (ranges_same s ds p.0 more p.2) (condition_same s ds p.0 c more p.2 p.3) body.1)

  members_same : (s : Scope) (form : Listed) (es : Trees) (us : Tys) (more : List Defined) → AreMembers form s es us → Same s.globals more (λ g. all_offending g (resolved_all s es))
  members_same s form no_trees us more p = refl
  members_same s form (tree e es) us more p = both _ _ _ _ (term_same s e (member_sort form p.0) more p.2).1 (members_same s form es p.1 more p.3)

  links_same : (s : Scope) (x : Sort) (ks : Links) (more : List Defined) → LinksAreTyped s x ks → Same s.globals more (λ g. links_offending g (resolved_links s ks))
  links_same s x text.no_links more p = refl
  links_same s x (text.link op e ks) more p =
      let right = tested_same s.globals more op (is_last (resolved_links s ks)) (resolved s e) (term_same s e p.0 more p.1) in
      both _ _ _ _ right (links_same s p.0 ks more p.3)

  ranges_same : (s : Scope) (ds : VarDecls) (vs : List Var) (more : List Defined) → Declare s ds vs → Same s.globals more (λ g. ranges_offending g (resolved_ranges s ds))
  ranges_same s no_decls vs more p = refl
  ranges_same s (var_decl ns e ds) vs more p = both _ _ _ _ (term_same s e (set_sort p.0) more p.2).1 (ranges_same s ds p.1 more p.3)

  condition_same :
      (s : Scope) (ds : VarDecls) (vs : List Var) (c : Perhaps) (more : List Defined) → Declare s ds vs → PartIsPredicate (with_variables s vs) c
      → Same s.globals more (λ g. part_offending g (resolved_part (bound s ds) c))
  condition_same s ds vs text.absent more d p = refl
  condition_same s ds vs (text.present e) more d p = (bound_same s ds vs e more d (term_same (with_variables s vs) e predicate more p)).1

  built_same :
      (s : Scope) (ds : VarDecls) (vs : List Var) (e : Perhaps) (u : Ty) (more : List Defined) → Declare s ds vs → HasMemberType (with_variables s vs) vs e u
      → Same s.globals more (λ g. part_offending g (resolved_part (bound s ds) e))
  built_same s ds vs text.absent u more d p = refl
  built_same s ds vs (text.present e) u more d p = (bound_same s ds vs e more d (term_same (with_variables s vs) e (typed u) more p)).1

-- ---- the extent

pub extent_same : (s : Scope) (e : Tree) (z : Sort) (more : List Defined) → IsOf s e z → Same s.globals more (λ g. extent_of g (resolved s e))
extent_same s e z more p =
    let same = term_same s e z more p in
    ap (λ o. extent_by o (offending (s.globals ++ more) (resolved s e))) same.0 ∙ ap (extent_by (direct s.globals (resolved s e))) same.1

pub extents_kept : ExtentsKept
extents_kept boxes g faults i name t r x checked at =
    let made = globals_well_typed boxes g faults checked i (record { name = name; definition = abbreviation t r x }) at in
    made.3
    ∙ ap (extent_of (take i g)) made.2
    ∙ sym (extent_same (outside (take i g)) made.0 (typed t) (drop i g) made.1)
    ∙ ap (λ h. extent_of h (resolved (outside (take i g)) made.0)) (take-append-drop i g)
    ∙ ap (extent_of g) (sym made.2)
