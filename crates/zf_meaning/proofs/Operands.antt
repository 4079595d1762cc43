-- What is described by the values of operands is what the symbol makes of them.
use Rattle.zf_meaning.proofs.Prelude.{◌∙◌, ◌≡◌, ◌⊎◌, ap, of-Binary, resolved_of, Resolved, subst, sym, ℕ, ⊎_elim, IfOk-weaker, Result, IfOk, AllocError, number_of, OnNumbers, IsInterval, IsCross, IsPower, members, Outcome, Is, Value, Listed, Operator, Function, Generic, Symbol, Unary, Sign, Arrow, UpTo, binary, listed, ResolvedTree, ResolvedTrees, unary, Describes, Context, HasOutcome, HaveOutcomes, OnBoth, OnOne, OnSeveral, Several, BinaryOutcome, ListedOutcome, UnaryOutcome, Described, Arrows, Span}
use Rattle.zf_tree.specs.declared.symbol.Prefix.TheVariants as prefix
use Rattle.zf_tree.specs.declared.operator.Listed.TheVariants as several
use Rattle.zf_term.specs.declared.resolved.Resolved.TheVariants as form

-- what a symbol between two terms is seen as
pub both-seen : (t : Resolved) (l : Span) (op : Operator) (a b x y : Resolved) → t ≡ form.Binary l op a b → x ≡ a → y ≡ b → binary l op (resolved_of x) (resolved_of y) ≡ resolved_of t
both-seen t l op a b x y is left right =
    ap (λ z. binary l op (resolved_of z) (resolved_of y)) left ∙ ap (λ z. binary l op (resolved_of a) (resolved_of z)) right ∙ sym (ap resolved_of is ∙ of-Binary l op a b)

-- the sign makes a power set
abbrev pub IsPowerSign : Unary → Type 0
IsPowerSign op = (op ≡ Sign (Symbol prefix.Power)) ⊎ (op ≡ Sign (Symbol prefix.Finset))

power-made : (op : Unary) (x o : Outcome) → IsPowerSign op → OnOne x (λ v. IsPower (members v)) o → OnOne x (UnaryOutcome op) o
power-made op x o e h = ⊎_elim (λ p. subst (λ s. OnOne x (UnaryOutcome s) o) (sym p) h) (λ p. subst (λ s. OnOne x (UnaryOutcome s) o) (sym p) h) e

power-one : (c : Context) (l : Span) (op : Unary) (t : ResolvedTree) (x : Outcome) (d : Described) → IsPowerSign op → HasOutcome c t x
    → Describes (OnOne x (λ v. IsPower (members v))) d → Describes (HasOutcome c (unary l op t)) d
unfolding Describes
power-one c l op t x d e h f o q = (x, h, power-made op x o e (f o q))

pub power-told : (c : Context) (l : Span) (op : Unary) (t : ResolvedTree) (x : Outcome) (r : Result Described AllocError) → IsPowerSign op → HasOutcome c t x
    → IfOk r (Describes (OnOne x (λ v. IsPower (members v)))) → IfOk r (Describes (HasOutcome c (unary l op t)))
power-told c l op t x r e h k = IfOk-weaker r (Describes (OnOne x (λ v. IsPower (members v)))) (Describes (HasOutcome c (unary l op t))) (λ d f. power-one c l op t x d e h f) k

-- of two values
pub both-told : (c : Context) (l : Span) (op : Operator) (a b : ResolvedTree) (x y : Outcome) (v w : Value) (d : Described) → HasOutcome c a x → HasOutcome c b y
    → x ≡ Is v → y ≡ Is w → Describes (BinaryOutcome op v w) d → Describes (HasOutcome c (binary l op a b)) d
unfolding Describes
both-told c l op a b x y v w d h k e f g o q =
    (x, y, h, k, subst (λ z. OnBoth z y (BinaryOutcome op) o) (sym e) (subst (λ z. OnBoth (Is v) z (BinaryOutcome op) o) (sym f) (g o q)))

pub arrows-told : (op : Operator) (kind : Arrow) (v w s t : Value) → op ≡ Generic kind → s ≡ v → t ≡ w → Describes (BinaryOutcome op v w) (Arrows kind s t)
unfolding Describes
arrows-told op kind v w s t e f g o q =
    subst (λ p. BinaryOutcome p v w o) (sym e) (subst (λ z. BinaryOutcome (Generic kind) z w o) f (subst (λ z. BinaryOutcome (Generic kind) s z o) g q))

pub interval-told : (op : Operator) (v w : Value) (d : Described) → op ≡ Function UpTo → Describes (OnNumbers (number_of v) (number_of w) IsInterval) d → Describes (BinaryOutcome op v w) d
unfolding Describes
interval-told op v w d e f o q = subst (λ p. BinaryOutcome p v w o) (sym e) (f o q)

-- of several
product-one : (c : Context) (l : Span) (f : Listed) (ts : ResolvedTrees) (s : Several) (d : Described) → f ≡ several.Product → HaveOutcomes c ts s
    → Describes (OnSeveral s IsCross) d → Describes (HasOutcome c (listed l f ts)) d
unfolding Describes
product-one c l f ts s d e h k o q = (s, h, subst (λ z. OnSeveral s (ListedOutcome z) o) (sym e) (k o q))

pub product-told : (c : Context) (l : Span) (f : Listed) (ts : ResolvedTrees) (s : Several) (r : Result Described AllocError) → f ≡ several.Product
    → HaveOutcomes c ts s → IfOk r (Describes (OnSeveral s IsCross)) → IfOk r (Describes (HasOutcome c (listed l f ts)))
product-told c l f ts s r e h k = IfOk-weaker r (Describes (OnSeveral s IsCross)) (Describes (HasOutcome c (listed l f ts))) (λ d p. product-one c l f ts s d e h p) k
