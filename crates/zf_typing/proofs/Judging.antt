-- From the answers about the parts of a term to the answer about the term.
use Rattle.zf_typing.proofs.Prelude.{◌∙◌, ◌≡◌, ap, Err, inr, Ok, refl, subst, sym, true≢false, IfErr, IfOk, IsErr, IsErrAnd, Result, need_of, binary, bracket, comprehension, chain, constant, empty_set, listed, named, numeral, quantified, Tree, tree_of, unary, Need, Unary, Domain, Finset, Power, Range, Size, Term, pair_type, power, Offence, IsJudged, Judges, Misplaced, Offends, IfFault, IsRefusal, IsStill, offence_of, a_schema, Meets, number_sort, predicate, set_sort, Sort, UnaryTakes, Scope, Refusal, Fault, OutOfMemory, Judged, Operator, Span}
use Rattle.zf_tree.specs.declared.operator.Sign.TheVariants as sign
use Rattle.zf_tree.specs.declared.tree.Term.TheVariants as form
use Rattle.zf_tree.proofs.TermSeen as seen
use Rattle.zf_tree.specs.declared.operator.Need.TheVariants as need
use Rattle.zf_tree.specs.declared.operator.Unary.TheVariants.{Sign, Inverse, Not}

-- ---- faults

-- what follows of each kind and place follows of the fault
pub if_fault : (r : Refusal) (P Q : Offence → Span → Type 0) → ((k : Offence) (m : Span) → P k m → Q k m) → IfFault r P → IfFault r Q
if_fault (Fault f) P Q step h = step (offence_of f.offence) f.span h
if_fault OutOfMemory P Q step h = tt

-- what holds of the offence that a refusal tells holds of its fault
pub told : (r : Refusal) (o : Offence) (m : Span) (P : Offence → Span → Type 0) → IsRefusal r o m → P o m → IfFault r P
told (Fault f) o m P h p = subst (λ q. P q f.span) (sym h.0) (subst (λ l. P o l) (sym h.1) p)
told OutOfMemory o m P h p = tt

-- what holds of a fault holds of it with a hint
pub still : (old new : Refusal) (P : Offence → Span → Type 0) → IsStill old new → IfFault old P → IfFault new P
still (Fault f) new P same h = told new (offence_of f.offence) f.span P same h
still OutOfMemory new P same h = subst (λ r. IfFault r P) (sym same) tt

-- a fault is passed on as it is
abbrev pub Passes : {T : Type 0} → Result T Refusal → Refusal → Type 0
Passes r x = IsErr r × IsErrAnd r (λ y. y ≡ x)

-- what follows of each kind and place of a fault follows of it when it is passed on
pub fault_from :
    {T : Type 0} (x : Refusal) (P Q : Offence → Span → Type 0) (r : Result T Refusal)
    → ((k : Offence) (m : Span) → P k m → Q k m) → IfFault x P → Passes r x → IfErr r (λ y. IfFault y Q)
fault_from x P Q (Ok j) step h p = absurd (true≢false (sym p.0))
fault_from x P Q (Err y) step h p = subst (λ z. IfFault z Q) (sym p.1) (if_fault x P Q step h)

-- ---- answers

pub judged_of : (s : Scope) (n : Need) (e : Tree) (j : Judged) → Judges s n e (Ok j) → IsJudged s n e j
unfolding Judges
judged_of s n e j h = h.0

pub fault_of : (s : Scope) (n : Need) (e : Tree) (r : Refusal) → Judges s n e (Err r) → IfFault r (λ k m. Offends s n e k m)
unfolding Judges
fault_of s n e r h = h.1

pub judges_ok : (s : Scope) (n : Need) (e : Tree) (j : Judged) → IsJudged s n e j → Judges s n e (Ok j)
unfolding Judges
judges_ok s n e j h = (h, tt)

pub judges_err : (s : Scope) (n : Need) (e : Tree) (r : Refusal) → IfFault r (λ k m. Offends s n e k m) → Judges s n e (Err r)
unfolding Judges
judges_err s n e r h = (tt, h)

-- the same term, and its fault with a hint
pub still_judged : (s : Scope) (n : Need) (e : Tree) (old new : Refusal) → IsStill old new → Judges s n e (Err old) → Judges s n e (Err new)
still_judged s n e old new same h = judges_err s n e new (still old new (λ k m. Offends s n e k m) same (fault_of s n e old h))

pub from_offence :
    (s : Scope) (n : Need) (e : Tree) (x : Refusal) (P : Offence → Span → Type 0) (r : Result Judged Refusal)
    → ((k : Offence) (m : Span) → P k m → Offends s n e k m) → IfFault x P → Passes r x → Judges s n e r
from_offence s n e x P (Ok j) step h p = absurd (true≢false (sym p.0))
from_offence s n e x P (Err y) step h p =
    subst (λ z. Judges s n e (Err z)) (sym p.1) (judges_err s n e x (if_fault x P (λ k m. Offends s n e k m) step h))

pub from_memory : (s : Scope) (n : Need) (e : Tree) (r : Result Judged Refusal) → IsErr r → IsErrAnd r (λ x. x ≡ OutOfMemory) → Judges s n e r
from_memory s n e r p g = from_offence s n e OutOfMemory (λ k m. Offends s n e k m) r (λ k m o. o) tt (p, g)

-- what a symbol between two terms is seen as
pub of_binary : (t : Term) (l : Span) (op : Operator) (a b x y : Term) → t ≡ form.Binary l op a b → x ≡ a → y ≡ b
    → tree_of t ≡ binary l op (tree_of x) (tree_of y)
of_binary t l op a b x y is left right =
    ap tree_of is ∙ seen.of-Binary l op a b ∙ ap (λ z. binary l op (tree_of z) (tree_of b)) (sym left) ∙ ap (λ z. binary l op (tree_of x) (tree_of z)) (sym right)

-- the same scope and need, and a term that stands in a box
pub judged_as : (s t : Scope) (n m : Need) (e f : Term) (r : Result Judged Refusal) → t ≡ s → m ≡ n → f ≡ e → Judges t m (tree_of f) r → Judges s n (tree_of e) r
judged_as s t n m e f r scope need is h = subst (λ z. Judges z n (tree_of e) r) scope (subst (λ o. Judges t o (tree_of e) r) need (subst (λ x. Judges t m (tree_of x) r) is h))

pub judged_in : (s : Scope) {t : Scope} (n : Need) {m : Need} (e : Term) {f : Term} (j : Judged) → t ≡ s → m ≡ n → f ≡ e
    → Judges t m (tree_of f) (Ok j) → IsJudged s n (tree_of e) j
judged_in s n e j scope need is h = judged_of s n (tree_of e) j (judged_as s _ n _ e _ (Ok j) scope need is h)

-- what offends of a part offends of the whole
pub from_part :
    (s : Scope) {t : Scope} (n : Need) {m : Need} (e : Term) {f : Term} (d : Need) (whole : Tree) (x : Refusal) (r : Result Judged Refusal)
    → t ≡ s → m ≡ n → f ≡ e → Judges t m (tree_of f) (Err x)
    → ((k : Offence) (l : Span) → Offends s n (tree_of e) k l → Offends s d whole k l) → Passes r x → Judges s d whole r
from_part s n e d whole x r scope need is h step p =
    from_offence s d whole x (λ k l. Offends s n (tree_of e) k l) r step (fault_of s n (tree_of e) x (judged_as s _ n _ e _ (Err x) scope need is h)) p

-- or is what is reported of several
pub part_wrong :
    {T : Type 0} (s : Scope) {t : Scope} (n : Need) {m : Need} (e : Term) {f : Term} (P : Offence → Span → Type 0) (x : Refusal) (r : Result T Refusal)
    → t ≡ s → m ≡ n → f ≡ e → Judges t m (tree_of f) (Err x)
    → ((k : Offence) (l : Span) → Offends s n (tree_of e) k l → P k l) → Passes r x → IfErr r (λ y. IfFault y P)
part_wrong s n e P x r scope need is h step p =
    fault_from x (λ k l. Offends s n (tree_of e) k l) P r step (fault_of s n (tree_of e) x (judged_as s _ n _ e _ (Err x) scope need is h)) p

pub misplaced : (s : Scope) (n : Need) (e : Tree) (k : Offence) (m : Span) → Misplaced s n e k m → Offends s n e k m
misplaced s n (named x) k m h = inr h
misplaced s n (numeral l v) k m h = h
misplaced s n (constant l c) k m h = h
misplaced s n (empty_set l e) k m h = inr h
misplaced s n (bracket l e) k m h = inr h
misplaced s n (listed l form es) k m h = inr (inr (inr h))
misplaced s n (comprehension l ds p e) k m h = inr (inr (inr h))
misplaced s n (unary l op e) k m h = inr (inr h)
misplaced s n (binary l op a b) k m h = inr (inr (inr h))
misplaced s n (chain l e ks) k m h = inr (inr h)
misplaced s n (quantified l q ds p e) k m h = inr (inr (inr h))

-- a schema's name meets no need
pub no_schema : (n : Need) (x : Sort) → Meets n x → x ≡ a_schema → ⊥
no_schema need.Expression x h e = (cc)
no_schema need.Number x h e = (cc)
no_schema need.Set x h e = (cc)
no_schema need.Relation x h e = (cc)
no_schema need.Predicate x h e = (cc)

-- ---- one operand

-- what meets the need of a symbol is taken by it
pub unary_taken : (op : Unary) (x : Sort) → Meets (need_of op) x → (z : Sort) × UnaryTakes op x z
unary_taken (Sign sign.Minus) x h = (number_sort, (h, refl))
unary_taken (Sign (sign.Symbol Power)) x h = (set_sort (power h.0), (h.0, h.1, refl))
unary_taken (Sign (sign.Symbol Finset)) x h = (set_sort (power h.0), (h.0, h.1, refl))
unary_taken (Sign (sign.Symbol Size)) x h = (number_sort, (h.0, h.1, refl))
unary_taken (Sign (sign.Symbol Domain)) x h = (set_sort h.0, (h.0, h.1, h.2, refl))
unary_taken (Sign (sign.Symbol Range)) x h = (set_sort h.1, (h.0, h.1, h.2, refl))
unary_taken Inverse x h = (set_sort (pair_type h.1 h.0), (h.0, h.1, h.2, refl))
unary_taken Not x h = (predicate, (h, refl))

-- ---- the clauses of the public call

pub opened : (s : Scope) (n : Need) (e : Tree) (r : Result Judged Refusal) → Judges s n e r
    → IfOk r (IsJudged s n e) × IfErr r (λ x. IfFault x (λ k m. Offends s n e k m))
unfolding Judges
opened s n e r h = h
