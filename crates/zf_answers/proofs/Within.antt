-- The conjuncts of a schema name its own components alone.
use Rattle.zf_answers.proofs.Prelude.{[], AllByRecursion, ◌∙◌, if◌then◌else◌, ◌++◌, ◌+◌, ◌<◌, ◌∷◌, ◌≡◌, ◌≤◌, ap, arith, Bool, false, length, List, map, None, Option, refl, Some, subst, sym, true, ℕ, Component, Global, Local, spelling, Links, no_decls, no_trees, Perhaps, Tree, tree, Trees, var_decl, VarDecls, onto_behind, Comp, Defined, first_named, binary, bracket, comprehension, chain, constant, empty_set, listed, quantified, ResolvedTree, unary, conjuncts, is_and, is_conjunction, moved, references, bound, referent, resolved, resolved_all, resolved_links, resolved_part, resolved_ranges, due, greatest_place, place_named, option_or, all_onto, links_onto, onto, part_onto, ranges_onto, component_meaning, global_meaning, last_named, meaning, Scope, Var, variable_meaning}
use Rattle.std.specs.Prelude.{max}
use Rattle.zf_tree.specs.Trees as text
use Rattle.zf_reference.specs.declared.reference.Reference.{Reference}
use Rattle.zf_reference.specs.{renumbered}
use Rattle.zf_term.proofs.MovedReferences.{moved_keeps_variables}
use Rattle.zf_calculus.proofs.Merging.{known_is}
use Rattle.zf_answers.proofs.Lists.{all_joined, all_weaker}

-- ---- places

greatest_joined : (rs qs : List Reference) → greatest_place (rs ++ qs) ≡ max (greatest_place rs) (greatest_place qs)
greatest_joined [] qs = omega arith
greatest_joined (r ∷ rs) qs = omega (arith, greatest_joined rs qs)

-- what a term names after others
pub greatest_onto : (rs : List Reference) (t : ResolvedTree) → greatest_place (onto rs t) ≡ max (greatest_place rs) (due t)
greatest_onto rs t = ap greatest_place (onto_behind rs t) ∙ greatest_joined rs (references t)

pub due_both : (a b : ResolvedTree) → greatest_place (onto (onto [] a) b) ≡ max (due a) (due b)
due_both a b = greatest_onto (references a) b

-- ---- names

named_within : (n : ℕ) (s : Scope) (x : List ℕ) → length s.comps ≤ n → place_named (referent (meaning s x)) ≤ n
named_within n s x h = local (last_named (λ v. v.name) x s.locals)
  where
    global : (o : Option (ℕ × Defined)) → place_named (referent (global_meaning o)) ≤ n
    global None = omega arith
    global (Some p) = omega arith

    component : (o : Option (ℕ × Comp)) → ((p : ℕ × Comp) → o ≡ Some p → p.0 < length s.comps)
        → place_named (referent (option_or (component_meaning o) (global_meaning (first_named (λ d. d.name) x s.globals)))) ≤ n
    component None k = global (first_named (λ d. d.name) x s.globals)
    component (Some p) k = let l = k p refl in omega (arith, l, h)

    local : (o : Option (ℕ × Var)) → place_named (referent (option_or (variable_meaning o)
        (option_or (component_meaning (first_named (λ c. c.name) x s.comps)) (global_meaning (first_named (λ d. d.name) x s.globals))))) ≤ n
    local None = component (first_named (λ c. c.name) x s.comps) (λ p e. (known_is x s.comps p.1 p.0 e).0)
    local (Some p) = omega arith

-- ---- terms of a text

mutual
  pub term_within : (n : ℕ) (s : Scope) (rs : List Reference) (e : Tree) → length s.comps ≤ n → greatest_place rs ≤ n → greatest_place (onto rs (resolved s e)) ≤ n
  term_within n s rs (text.named m) h k =
      let r = referent (meaning s (spelling m)) in let here = named_within n s (spelling m) h in let all = greatest_joined rs (r ∷ []) in omega (arith, k, here, all)
  term_within n s rs (text.numeral l v) h k = k
  term_within n s rs (text.constant l c) h k = k
  term_within n s rs (text.empty_set l e) h k = term_within n s rs e h k
  term_within n s rs (text.bracket l e) h k = term_within n s rs e h k
  term_within n s rs (text.listed l form es) h k = all_within n s rs es h k
  term_within n s rs (text.comprehension l ds p e) h k =
      part_within n (bound s ds) (part_onto (ranges_onto rs (resolved_ranges s ds)) (resolved_part (bound s ds) p)) e h
      (part_within n (bound s ds) (ranges_onto rs (resolved_ranges s ds)) p h (ranges_within n s rs ds h k))
  term_within n s rs (text.unary l op e) h k = term_within n s rs e h k
  term_within n s rs (text.binary l op a b) h k = term_within n s (onto rs (resolved s a)) b h (term_within n s rs a h k)
  term_within n s rs (text.chain l e ks) h k = links_within n s (onto rs (resolved s e)) ks h (term_within n s rs e h k)
  term_within n s rs (text.quantified l q ds p e) h k =
      term_within n (bound s ds) (part_onto (ranges_onto rs (resolved_ranges s ds)) (resolved_part (bound s ds) p)) e h
      (part_within n (bound s ds) (ranges_onto rs (resolved_ranges s ds)) p h (ranges_within n s rs ds h k))

  pub all_within : (n : ℕ) (s : Scope) (rs : List Reference) (es : Trees) → length s.comps ≤ n → greatest_place rs ≤ n → greatest_place (all_onto rs (resolved_all s es)) ≤ n
  all_within n s rs no_trees h k = k
  all_within n s rs (tree e es) h k = all_within n s (onto rs (resolved s e)) es h (term_within n s rs e h k)

  pub links_within : (n : ℕ) (s : Scope) (rs : List Reference) (ks : Links) → length s.comps ≤ n → greatest_place rs ≤ n → greatest_place (links_onto rs (resolved_links s ks)) ≤ n
  links_within n s rs text.no_links h k = k
  links_within n s rs (text.link r e ks) h k = links_within n s (onto rs (resolved s e)) ks h (term_within n s rs e h k)

  pub ranges_within : (n : ℕ) (s : Scope) (rs : List Reference) (ds : VarDecls) → length s.comps ≤ n → greatest_place rs ≤ n → greatest_place (ranges_onto rs (resolved_ranges s ds)) ≤ n
  ranges_within n s rs no_decls h k = k
  ranges_within n s rs (var_decl ns e ds) h k = ranges_within n s (onto rs (resolved s e)) ds h (term_within n s rs e h k)

  pub part_within : (n : ℕ) (s : Scope) (rs : List Reference) (p : Perhaps) → length s.comps ≤ n → greatest_place rs ≤ n → greatest_place (part_onto rs (resolved_part s p)) ≤ n
  part_within n s rs text.absent h k = k
  part_within n s rs (text.present e) h k = term_within n s rs e h k

pub resolved_within : (s : Scope) (e : Tree) → due (resolved s e) ≤ length s.comps
resolved_within s e = term_within (length s.comps) s [] e (omega arith) (omega arith)

-- ---- conjuncts

-- each names components among the first n alone
abbrev pub AreDue : ℕ → List ResolvedTree → Type 0
AreDue n ts = AllByRecursion (λ t. due t ≤ n) ts

pub due_joined : (n : ℕ) (ts us : List ResolvedTree) → AreDue n ts → AreDue n us → AreDue n (ts ++ us)
due_joined n ts us h k = all_joined (λ t. due t ≤ n) ts us h k

pub due_longer : (n m : ℕ) (ts : List ResolvedTree) → n ≤ m → AreDue n ts → AreDue m ts
due_longer n m ts l h = all_weaker (λ t. due t ≤ n) (λ t. due t ≤ m) (λ t k. omega (arith, k, l)) ts h

pub conjuncts_due : (n : ℕ) (t : ResolvedTree) → due t ≤ n → AreDue n (conjuncts t)
conjuncts_due n (bracket l t) h = go (is_conjunction t) (conjuncts_due n t h)
  where
    go : (b : Bool) → AreDue n (conjuncts t) → AreDue n (if b then conjuncts t else bracket l t ∷ [])
    go true k = k
    go false k = (h, tt)
conjuncts_due n (binary l op a b) h =
    let both = due_both a b in go (is_and op) (conjuncts_due n a (omega (arith, h, both))) (conjuncts_due n b (omega (arith, h, both)))
  where
    go : (c : Bool) → AreDue n (conjuncts a) → AreDue n (conjuncts b) → AreDue n (if c then conjuncts a ++ conjuncts b else binary l op a b ∷ [])
    go true k m = due_joined n (conjuncts a) (conjuncts b) k m
    go false k m = (h, tt)
conjuncts_due n t h = (h, tt)

-- ---- components numbered anew

pub renumbered_within : (m n : ℕ) (f : ℕ → ℕ) (rs : List Reference) → ((i : ℕ) → i < m → f i < n) → greatest_place rs ≤ m → greatest_place (map (renumbered f) rs) ≤ n
renumbered_within m n f [] h k = omega arith
renumbered_within m n f (Component i ∷ rs) h k = let a = h i (omega (arith, k)) in let ih = renumbered_within m n f rs h (omega (arith, k)) in omega (arith, a, ih)
renumbered_within m n f (Local i ∷ rs) h k = let ih = renumbered_within m n f rs h (omega (arith, k)) in omega (arith, ih)
renumbered_within m n f (Global i ∷ rs) h k = let ih = renumbered_within m n f rs h (omega (arith, k)) in omega (arith, ih)

pub moved_due : (m n : ℕ) (f : ℕ → ℕ) (t : ResolvedTree) → ((i : ℕ) → i < m → f i < n) → due t ≤ m → due (moved f t) ≤ n
moved_due m n f t h k = subst (λ rs. greatest_place rs ≤ n) (sym (moved_keeps_variables f t)) (renumbered_within m n f (references t) h k)
