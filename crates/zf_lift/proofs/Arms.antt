-- What is made of a term's parts is a lift of the term.
use Rattle.zf_lift.proofs.Prelude.{◌++◌, ◌+◌, ◌<◌, ◌∙◌, ◌∷◌, ◌≡◌, ◌≤◌, [], ap, arith, Bool, get_or, length, List, map, None, Option, refl, Some, subst, sym, take, true, ℕ, Reference, Global, Listed, Operator, Unary, Constant, Quantifier, Relation, link-seen, new_link, new_range, of-Binary, of-Bracket, of-Comprehension, of-Chain, of-Constant, of-EmptySet, of-link, of-Listed, of-Name, of-Number, of-Quantified, of-range, of-Unary, range-seen, links, part_of, range_of, ranges, reference, resolved_link_of, resolved_of, ResolvedTree, terms, Environment, AreEach, IsLonger, is_liftable, IsNamed, Outcome, AreLifts, AreLinkLifts, AreRangeLifts, IsClosed, IsLift, IsPartLift, IsLinkLift, IsRangeLift, need, add-one, SomeIff, suc, zero, Err, IfOk, IfSome, Ok, Result, IsBehind, variables_of, Span}
use Rattle.zf_term.specs.declared.resolved.Range.{Range}
use Rattle.zf_term.specs.declared.resolved.Resolved.{Resolved}
use Rattle.zf_term.specs.declared.resolved.Resolved.TheVariants as v
use Rattle.zf_term.specs.declared.resolved.ResolvedLink.{ResolvedLink}
use Rattle.std.specs.Result.{result_unwrap_or}
use Rattle.zf_lift.proofs.Each.{each_more, each_also, each_done, whole}
use Rattle.zf_lift.proofs.Wherever as made

across : (b : ℕ) (f e : Environment) (c : Bool) (t t' u u' : ResolvedTree) → t' ≡ t → u' ≡ u → IsLift b f e c t u → IsLift b f e c t' u'
across b f e c t t' u u' p q h = subst (λ x. IsLift b f e c x u') (sym p) (subst (λ y. IsLift b f e c t y) (sym q) h)

-- a part by what it was taken from and what it is put in
pub boxed : (b : ℕ) (f e : Environment) (c : Bool) (inner got part box : Resolved) → got ≡ inner → box ≡ part → IsLift b f e c (resolved_of part) (resolved_of got)
    → IsLift b f e c (resolved_of box) (resolved_of inner)
boxed b f e c inner got part box p q h = across b f e c (resolved_of part) (resolved_of box) (resolved_of got) (resolved_of inner) (ap resolved_of q) (ap resolved_of (sym p)) h

-- ---- forms without parts

pub name : (b : ℕ) (f e : Environment) (c : Bool) (l : Span) (r : Reference) (whole : Resolved) → whole ≡ v.Name l r → ((i : ℕ) → r ≡ Global i → i < length e.outcomes)
    → IsLonger e f → (c ≡ true → IsClosed e (reference l r)) → IsLift b f e c (resolved_of (v.Name l r)) (resolved_of whole)
name b f e c l r whole is known h closed = across b f e c _ _ _ _ (of-Name l r) (ap resolved_of is ∙ of-Name l r) (made.name_lift b e f c l r known h closed)

pub number : (b : ℕ) (f e : Environment) (c : Bool) (l : Span) (n : ℕ) (whole : Resolved) → whole ≡ v.Number l n → IsLift b f e c (resolved_of (v.Number l n)) (resolved_of whole)
number b f e c l n whole is = across b f e c _ _ _ _ (of-Number l n) (ap resolved_of is ∙ of-Number l n) (made.number_lift b f e c l n)

pub constant : (b : ℕ) (f e : Environment) (c : Bool) (l : Span) (k : Constant) (whole : Resolved) → whole ≡ v.Constant l k → IsLonger e f
    → IsLift b f e c (resolved_of (v.Constant l k)) (resolved_of whole)
constant b f e c l k whole is h = across b f e c _ _ _ _ (of-Constant l k) (ap resolved_of is ∙ of-Constant l k) (made.constant_lift b f e c l k h)

pub empty_set : (b : ℕ) (f e : Environment) (c : Bool) (l : Span) (of got copied t whole : Resolved) → whole ≡ v.EmptySet l of → got ≡ of → copied ≡ got → t ≡ copied
    → IsLift b f e c (resolved_of (v.EmptySet l t)) (resolved_of whole)
empty_set b f e c l of got copied t whole is p q r =
    let same : need (resolved_of t) ≤ need (resolved_of of) = subst (λ x. need (resolved_of x) ≤ need (resolved_of of)) (sym (r ∙ q ∙ p)) (omega arith) in
    across b f e c _ _ _ _ (of-EmptySet l t) (ap resolved_of is ∙ of-EmptySet l of) (made.empty_set_lift b f e c l (resolved_of t) (resolved_of of) same)

-- ---- forms with operands

-- without its brackets
pub bare : (b : ℕ) (f e : Environment) (c : Bool) (l : Span) (inner got part whole : Resolved) → whole ≡ v.Bracket l inner → got ≡ inner
    → IsLift b f e c (resolved_of part) (resolved_of got) → IsLift b f e c (resolved_of part) (resolved_of whole)
bare b f e c l inner got part whole is p h =
    across b f e c _ _ _ _ refl (ap resolved_of is ∙ of-Bracket l inner) (made.inner_lift b f e c l (resolved_of part) (resolved_of inner) (boxed b f e c inner got part part p refl h))

pub signed : (b : ℕ) (f e : Environment) (c : Bool) (l : Span) (op : Unary) (of part whole : Resolved) → whole ≡ v.Unary l op of
    → IsLift b f e c (resolved_of part) (resolved_of of) → IsLift b f e c (resolved_of (v.Unary l op part)) (resolved_of whole)
signed b f e c l op of part whole is h = across b f e c _ _ _ _ (of-Unary l op part) (ap resolved_of is ∙ of-Unary l op of) (made.unary_lift b f e c l op _ _ h)

pub many : (b : ℕ) (f e : Environment) (c : Bool) (l : Span) (form : Listed) (items parts : List Resolved) (whole : Resolved) → whole ≡ v.Listed l form items
    → AreLifts b f e c (terms (map resolved_of parts)) (terms (map resolved_of items)) → IsLift b f e c (resolved_of (v.Listed l form parts)) (resolved_of whole)
many b f e c l form items parts whole is h =
    across b f e c _ _ _ _ (of-Listed l form parts) (ap resolved_of is ∙ of-Listed l form items) (made.listed_lift b f e c l form _ _ h)

pub combined : (b : ℕ) (f e : Environment) (c : Bool) (l : Span) (op : Operator) (left part_left right part_right whole : Resolved) → whole ≡ v.Binary l op left right
    → IsLift b f e c (resolved_of part_left) (resolved_of left) → IsLift b f e c (resolved_of part_right) (resolved_of right)
    → IsLift b f e c (resolved_of (v.Binary l op part_left part_right)) (resolved_of whole)
combined b f e c l op x px y py whole is h k = across b f e c _ _ _ _ (of-Binary l op px py) (ap resolved_of is ∙ of-Binary l op x y) (made.binary_lift b f e c l op _ _ _ _ h k)

pub chained : (b : ℕ) (f e : Environment) (c : Bool) (l : Span) (first part : Resolved) (further parts : List ResolvedLink) (whole : Resolved) → whole ≡ v.Chain l first further
    → IsLift b f e c (resolved_of part) (resolved_of first) → AreLinkLifts b f e c (links (map resolved_link_of parts)) (links (map resolved_link_of further))
    → IsLift b f e c (resolved_of (v.Chain l part parts)) (resolved_of whole)
chained b f e c l first part further parts whole is h k =
    across b f e c _ _ _ _ (of-Chain l part parts) (ap resolved_of is ∙ of-Chain l first further) (made.chain_lift b f e c l _ _ _ _ h k)

-- ---- forms that bind

within_ranges : (b m : ℕ) (got ss : List Range) → got ≡ ss → m ≡ b + variables_of (ranges (map range_of got)) → m ≡ b + variables_of (ranges (map range_of ss))
within_ranges b m got ss seen h = subst (λ rs. m ≡ b + variables_of (ranges (map range_of rs))) seen h

pub built : (b m : ℕ) (f e : Environment) (c : Bool) (l : Span) (rs ss got : List Range) (p q t u : Option Resolved) (whole : Resolved) → whole ≡ v.Comprehension l ss q u
    → got ≡ ss → m ≡ b + variables_of (ranges (map range_of got)) → AreRangeLifts b f e c (ranges (map range_of rs)) (ranges (map range_of ss))
    → IsPartLift m f e c (part_of p) (part_of q) → IsPartLift m f e c (part_of t) (part_of u)
    → IsLift b f e c (resolved_of (v.Comprehension l rs p t)) (resolved_of whole)
built b m f e c l rs ss got p q t u whole is seen bound g h k =
    let inside = within_ranges b m got ss seen bound in
    across b f e c _ _ _ _ (of-Comprehension l rs p t) (ap resolved_of is ∙ of-Comprehension l ss q u) (made.comprehension_lift b f e c l _ _ _ _ _ _ g
    (subst (λ n. IsPartLift n f e c (part_of p) (part_of q)) inside h) (subst (λ n. IsPartLift n f e c (part_of t) (part_of u)) inside k))

pub bound : (b m : ℕ) (f e : Environment) (c : Bool) (l : Span) (n : Quantifier) (rs ss got : List Range) (p q : Option Resolved) (body part whole : Resolved)
    → whole ≡ v.Quantified n l ss q body → got ≡ ss → m ≡ b + variables_of (ranges (map range_of got))
    → AreRangeLifts b f e c (ranges (map range_of rs)) (ranges (map range_of ss)) → IsPartLift m f e c (part_of p) (part_of q)
    → IsLift m f e c (resolved_of part) (resolved_of body) → IsLift b f e c (resolved_of (v.Quantified n l rs p part)) (resolved_of whole)
bound b m f e c l n rs ss got p q body part whole is seen counted g h k =
    let inside = within_ranges b m got ss seen counted in
    across b f e c _ _ _ _ (of-Quantified l n rs p part) (ap resolved_of is ∙ of-Quantified l n ss q body)
    (made.quantified_lift b f e c l n _ _ _ _ (resolved_of part) (resolved_of body) g
    (subst (λ i. IsPartLift i f e c (part_of p) (part_of q)) inside h) (subst (λ i. IsLift i f e c (resolved_of part) (resolved_of body)) inside k))

-- ---- parts

pub no_part : (b : ℕ) (f e : Environment) (c : Bool) (field whole : Option Resolved) → whole ≡ None → field ≡ None → IsPartLift b f e c (part_of field) (part_of whole)
no_part b f e c field whole is made_is = subst (λ p. IsPartLift b f e c (part_of p) (part_of whole)) (sym made_is)
    (subst (λ q. IsPartLift b f e c (part_of None) (part_of q)) (sym is) (made.absent_lift b f e c))

pub some_part : (b : ℕ) (f e : Environment) (c : Bool) (t inner : Resolved) (field whole : Option Resolved) → whole ≡ Some t → field ≡ Some inner
    → IsLift b f e c (resolved_of inner) (resolved_of t) → IsPartLift b f e c (part_of field) (part_of whole)
some_part b f e c t inner field whole is made_is h =
    subst (λ x. IsPartLift b f e c (part_of x) (part_of whole)) (sym made_is)
    (subst (λ y. IsPartLift b f e c (part_of (Some inner)) (part_of y)) (sym is) (made.present_lift b f e c (resolved_of inner) (resolved_of t) h))

pub one_link : (b : ℕ) (f e : Environment) (c : Bool) (k : ResolvedLink) (t : Resolved) → IsLift b f e c (resolved_of t) (resolved_of k.right)
    → IsLinkLift b f e c (resolved_link_of (new_link k.relation t)) (resolved_link_of k)
one_link b f e c k t h = subst (λ p. IsLinkLift b f e c p (resolved_link_of k)) (sym (of-link k.relation t))
    (subst (λ (q : Relation × ResolvedTree). IsLinkLift b f e c (k.relation, resolved_of t) q) (sym (link-seen k)) (refl, h))

pub one_range : (b : ℕ) (f e : Environment) (c : Bool) (r : Range) (t : Resolved) → IsLift b f e c (resolved_of t) (resolved_of r.set)
    → IsRangeLift b f e c (range_of (new_range r.variables t)) (range_of r)
one_range b f e c r t h = subst (λ p. IsRangeLift b f e c p (range_of r)) (sym (of-range r.variables t))
    (subst (λ (q : ℕ × ResolvedTree). IsRangeLift b f e c (r.variables, resolved_of t) q) (sym (range-seen r)) (refl, h))

-- ---- lists

pub none_yet : {A B : Type 0} → (g : B → A) (R : A → A → Type 0) (ps : List B) → ps ≡ [] → AreEach R (map g ps) []
none_yet g R ps is = subst (λ qs. AreEach R (map g qs) []) (sym is) tt

pub one_more : {A B : Type 0} → (g : B → A) (R S : A → A → Type 0) (ps xs new : List B) (i : ℕ) (x p : B) → x ≡ get_or xs i x → i < length xs
    → new ≡ ps ++ p ∷ [] → ((y z : A) → R y z → S y z) → AreEach R (map g ps) (map g (take i xs)) → S (g p) (g x)
    → AreEach S (map g new) (map g (take (i + 1) xs))
one_more g R S ps xs new i x p at l is f h s = subst (λ qs. AreEach S (map g qs) (map g (take (i + 1) xs))) (sym is) (each_more g S ps xs i x p at l (each_also R S _ _ f h) s)

pub all_done : {A B : Type 0} → (g : B → A) (R : A → A → Type 0) (ps part xs items : List B) (i : ℕ) → part ≡ ps → xs ≡ items → length xs ≤ i
    → AreEach R (map g ps) (map g (take i xs)) → AreEach R (map g part) (map g items)
all_done g R ps part xs items i p q l h = subst (λ zs. AreEach R (map g zs) (map g items)) (sym p) (subst (λ ys. AreEach R (map g ps) (map g ys)) q (each_done g R _ xs i l h))

-- ---- names of globals

pub same_place : (r : Reference) (i j : ℕ) → r ≡ Global i → r ≡ Global j → i ≡ j
same_place r i j p q = (cc)

-- what is worked out of a part that gets a name
pub all_told : {E : Type 0} → (b : ℕ) (e f : Environment) (p t : ResolvedTree) (r : Result (Option Outcome) E) (o : Option Outcome) → is_liftable e.numbers t ≡ true
    → length f.globals ≤ length f.outcomes → IfOk r (λ x. IfSome x (IsBehind f [] b p)) → o ≡ result_unwrap_or r None → IfSome o (IsNamed b e f p t)
all_told b e f p t (Ok None) o l g h is = subst (λ y. IfSome y (IsNamed b e f p t)) (sym is) tt
all_told b e f p t (Ok (Some x)) o l g h is = subst (λ y. IfSome y (IsNamed b e f p t)) (sym is) (l, g, h)
all_told b e f p t (Err x) o l g h is = subst (λ y. IfSome y (IsNamed b e f p t)) (sym is) tt

-- ---- variables

variables_more : (xs : List Range) (i : ℕ) (x : Range) → x ≡ get_or xs i x → i < length xs
    → variables_of (ranges (map range_of (take (suc i) xs))) ≡ variables_of (ranges (map range_of (take i xs))) + x.variables
variables_more [] i x at l = absurd (omega arith)
variables_more (y ∷ ys) zero x at l = omega (arith, ap (λ p. p.0) (range-seen y), ap (λ (r : Range). r.variables) at)
variables_more (y ∷ ys) (suc i) x at l = omega (arith, variables_more ys i x at (omega (arith, l)))

told_sum : (r : Option ℕ) (P : Type 0) (more sum : ℕ) → SomeIff r P sum → r ≡ Some more → more ≡ sum
told_sum None P more sum h e = absurd (cc)
told_sum (Some x) P more sum h e = let same : x ≡ more = (cc) in sym same ∙ h.1

pub bound_more : (b : ℕ) (xs : List Range) (i bound more : ℕ) (x : Range) (r : Option ℕ) (P : Type 0) → x ≡ get_or xs i x → i < length xs
    → bound ≡ b + variables_of (ranges (map range_of (take i xs))) → SomeIff r P (bound + x.variables) → r ≡ Some more
    → more ≡ b + variables_of (ranges (map range_of (take (i + 1) xs)))
bound_more b xs i bound more x r P at l h k e = rw add-one (omega (arith, variables_more xs i x at l, h, told_sum r P more (bound + x.variables) k e))

pub bound_all : (b : ℕ) (xs : List Range) (i bound : ℕ) → length xs ≤ i → bound ≡ b + variables_of (ranges (map range_of (take i xs)))
    → bound ≡ b + variables_of (ranges (map range_of xs))
bound_all b xs i bound l h = subst (λ ys. bound ≡ b + variables_of (ranges (map range_of ys))) (whole xs i l) h
