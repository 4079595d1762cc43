-- Terms in which closed parts are names of what they come to, which stand after all others. Public clauses rest on `is_liftable` alone.
use Rattle.std.specs.Prelude.{◌≡◌, ◌+◌, ◌≤◌, ℕ, Bool, true, false, ◌&&◌, is_some, length, List, [], Option}
use Rattle.zf_lift.specs.Prelude.{constant_set, binary, bracket, comprehension, chain, constant, empty_set, listed, no_ranges, number, quantified, range, Ranges, reference, ResolvedLinks, ResolvedPart, ResolvedTree, unary, ResolvedTrees, Value, Context, Environment}
use Rattle.zf_tree.specs.declared.operator.Operator.TheVariants as operator
use Rattle.zf_tree.specs.declared.operator.Unary.TheVariants as the_unary
use Rattle.zf_lift.specs.Lifted.{IsLonger}
use Rattle.zf_lift.specs.Needs.{need, all_need, links_need, ranges_need, part_need}
use Rattle.zf_lift.specs.Same.{IsSame, AreSame, AreSameRanges, AreSameLinks, IsSamePart}

abbrev pub at : Environment → List Value → List Value → Context
at e row locals = record { environment = e; row = row; locals = locals }

-- in each environment longer than f as in e, after n bound variables, whatever is bound
abbrev pub Wherever : (n : ℕ) → Environment → Environment → (Context → Context → Type 0) → Type 0
Wherever n f e P = (g : Environment) → IsLonger f g → (row locals : List Value) → length locals ≡ n → P (at g row locals) (at e row locals)

-- how many variables ranges bind
abbrev pub variables_of : Ranges → ℕ
variables_of no_ranges = 0
variables_of (range n t rs) = n + variables_of rs

-- whichever components are bound as if none is
abbrev pub Whichever : Environment → (Context → Context → Type 0) → Type 0
Whichever e P = (row locals : List Value) → P (at e [] locals) (at e row locals)

-- it needs no more, and what is asked holds
pub record Keeps (m n : ℕ) (P : Type 0) : Type 0 where
  pub needs : m ≤ n
  pub same : P

-- it needs no more and what is asked holds; and where it is closed, what is asked of that
pub record Lifts (c : Bool) (m n : ℕ) (P Q : Type 0) : Type 0 where
  pub needs : m ≤ n
  pub same : P
  pub closed : c ≡ true → Q

unfoldable pub IsLift : (n : ℕ) → Environment → Environment → Bool → ResolvedTree → ResolvedTree → Type 0
IsLift n f e c t u = Lifts c (need t) (need u) (Wherever n f e (λ x y. IsSame x t y u)) (Whichever e (λ x y. IsSame x u y u))

unfoldable pub AreLifts : (n : ℕ) → Environment → Environment → Bool → ResolvedTrees → ResolvedTrees → Type 0
AreLifts n f e c ts us = Lifts c (all_need ts) (all_need us) (Wherever n f e (λ x y. AreSame x ts y us)) (Whichever e (λ x y. AreSame x us y us))

unfoldable pub AreRangeLifts : (n : ℕ) → Environment → Environment → Bool → Ranges → Ranges → Type 0
AreRangeLifts n f e c rs ss = Lifts c (ranges_need rs) (ranges_need ss) (Wherever n f e (λ x y. AreSameRanges x rs y ss)) (Whichever e (λ x y. AreSameRanges x ss y ss))

unfoldable pub AreLinkLifts : (n : ℕ) → Environment → Environment → Bool → ResolvedLinks → ResolvedLinks → Type 0
AreLinkLifts n f e c ks ls = Lifts c (links_need ks) (links_need ls) (Wherever n f e (λ x y. AreSameLinks x ks y ls)) (Whichever e (λ x y. AreSameLinks x ls y ls))

unfoldable pub IsPartLift : (n : ℕ) → Environment → Environment → Bool → ResolvedPart → ResolvedPart → Type 0
IsPartLift n f e c p q = Lifts c (part_need p) (part_need q) (Wherever n f e (λ x y. IsSamePart x p y q)) (Whichever e (λ x y. IsSamePart x q y q))

unfoldable pub IsClosed : Environment → ResolvedTree → Type 0
IsClosed e t = Whichever e (λ x y. IsSame x t y t)

-- a form that builds a value, where these are the numbers: it is no predicate, and no infinite set
abbrev pub is_liftable : (numbers : Option ℕ) → ResolvedTree → Bool
is_liftable n (reference l r) = false
is_liftable n (number l v) = false
is_liftable n (constant l k) = is_some n && is_some (constant_set k)
is_liftable n (empty_set l t) = true
is_liftable n (bracket l t) = is_liftable n t
is_liftable n (listed l form ts) = true
is_liftable n (comprehension l rs p t) = true
is_liftable n (unary l the_unary.Not t) = false
is_liftable n (unary l (the_unary.Sign s) t) = true
is_liftable n (unary l the_unary.Inverse t) = true
is_liftable n (binary l (operator.Connective k) a b) = false
is_liftable n (binary l (operator.Function k) a b) = true
is_liftable n (binary l (operator.Generic k) a b) = true
is_liftable n (binary l operator.Application a b) = true
is_liftable n (binary l operator.Image a b) = true
is_liftable n (chain l t ks) = false
is_liftable n (quantified l q rs p t) = false
