-- Parts of a binder that tell that rows do not count.
use Rattle.zf_meaning.proofs.Prelude.{◌++◌, ◌+◌, ◌<◌, ◌↔◌, ◌∙◌, ◌∷◌, ◌≡◌, ◌≤◌, ◌⊎◌, [], ap, arith, Bool, false, get_or, inl, inr, length, List, map, None, Option, refl, Some, slice_get, subst, suc, sym, take, true, zero, ℕ, ⊎_elim, take_all, false≢true, All-push, All, Bor, IfSome, AreFrom, Is, Out, Outcome, Undefined, Truth, False, Value, And, Quantifier, Exists, ExistsOne, ForAll, Local, Reference, link-seen, of-Binary, of-Bracket, of-Comprehension, of-Chain, of-Name, of-Quantified, chain, link, links, no_links, part_of, reference, resolved_link_of, resolved_of, ResolvedTree, Range, Resolved, ResolvedLink, size-Resolved, IsEarlier, seen, AreNeutral, AreNeutralIf, IsBound, IsEquation, IsOther, IsPart, IsPiece, IsVariable, IsWanted, neutral, PassesBy, ArePassed, Falsifies, IsNeutral, Refutes, Wants, Context, value_or, within, HasOutcome, IsConstraint, IsTruth, need, part_need, NeedsFront, Front, IsPassed, Passing, Holds, IsAtom, IsTold, Frame, Wanted, same_Some, Equal, Span}
use Rattle.zf_tree.specs.declared.operator.Operator.TheVariants.{Connective}
use Rattle.zf_term.specs.declared.resolved.Resolved.TheVariants as v
use Rattle.zf_meaning.specs.declared.evaluate.early.Piece.{Piece}
use Rattle.zf_meaning.proofs.SameLocals.{same-row, same-row-outcome, same-row-told}
use Rattle.zf_meaning.proofs.Walking.{MayPass}

-- ---- rows that do not count

pub neutral-told : (d : Resolved) (q : Quantifier) (l : Span) (rs : List Range) (p : Option Resolved) (e : Resolved) (c : Context) → d ≡ v.Quantified q l rs p e
    → IsNeutral (resolved_of d) c → IsTold q (λ a. IsConstraint c (part_of p) a) (λ b. IsTruth c (resolved_of e) b) (neutral q)
unfolding IsNeutral
neutral-told d q l rs p e c i h = subst (λ t. IsNeutral t c) (ap resolved_of i ∙ of-Quantified l q rs p e) h

pub neutral-built : (d : Resolved) (l : Span) (rs : List Range) (p e : Option Resolved) (c : Context) → d ≡ v.Comprehension l rs p e → IsNeutral (resolved_of d) c → IsConstraint c (part_of p) False
unfolding IsNeutral
neutral-built d l rs p e c i h = subst (λ t. IsNeutral t c) (ap resolved_of i ∙ of-Comprehension l rs p e) h

-- ---- what a binder has as parts

constraint_false : (q : Quantifier) (P Q : Truth → Type 0) → P False → IsTold q P Q (neutral q)
constraint_false ForAll P Q h = inl h
constraint_false Exists P Q h = inl h
constraint_false ExistsOne P Q h = inl h

pub constraint-refutes : (d : Resolved) (q : Quantifier) (l : Span) (rs : List Range) (p : Option Resolved) (e x : Resolved) → d ≡ v.Quantified q l rs p e
    → p ≡ Some x → Refutes (resolved_of x) (resolved_of d)
unfolding Refutes IsNeutral
constraint-refutes d q l rs p e x i h =
    λ c f. subst (λ t. IsNeutral t c) (sym (ap resolved_of (i ∙ ap (λ z. v.Quantified q l rs z e) h) ∙ of-Quantified l q rs (Some x) e))
    (constraint_false q (λ a. IsTruth c (resolved_of x) a) (λ b. IsTruth c (resolved_of e) b) f)

pub filter-refutes : (d : Resolved) (l : Span) (rs : List Range) (p e : Option Resolved) (x : Resolved) → d ≡ v.Comprehension l rs p e → p ≡ Some x → Refutes (resolved_of x) (resolved_of d)
unfolding Refutes IsNeutral
filter-refutes d l rs p e x i h = λ c f. subst (λ t. IsNeutral t c) (sym (ap resolved_of (i ∙ ap (λ z. v.Comprehension l rs z e) h) ∙ of-Comprehension l rs (Some x) e)) f

pub exists-refutes : (d : Resolved) (l : Span) (rs : List Range) (p : Option Resolved) (e : Resolved) → d ≡ v.Quantified Exists l rs p e → Refutes (resolved_of e) (resolved_of d)
unfolding Refutes IsNeutral
exists-refutes d l rs p e i = λ c h. subst (λ t. IsNeutral t c) (sym (ap resolved_of i ∙ of-Quantified l Exists rs p e)) (inr h)

pub exists-one-refutes : (d : Resolved) (l : Span) (rs : List Range) (p : Option Resolved) (e : Resolved) → d ≡ v.Quantified ExistsOne l rs p e → Refutes (resolved_of e) (resolved_of d)
unfolding Refutes IsNeutral
exists-one-refutes d l rs p e i = λ c h. subst (λ t. IsNeutral t c) (sym (ap resolved_of i ∙ of-Quantified l ExistsOne rs p e)) (inr h)

pub inner-falsifies : (d : Resolved) (l : Span) (x : Resolved) → d ≡ v.Bracket l x → Falsifies (resolved_of x) (resolved_of d)
unfolding Falsifies
inner-falsifies d l x i = λ c h. subst (λ t. IsTruth c t False) (sym (ap resolved_of i ∙ of-Bracket l x)) h

pub left-falsifies : (d : Resolved) (l : Span) (a b : Resolved) → d ≡ v.Binary l (Connective And) a b → Falsifies (resolved_of a) (resolved_of d)
unfolding Falsifies
left-falsifies d l a b i = λ c h. subst (λ t. IsTruth c t False) (sym (ap resolved_of i ∙ of-Binary l (Connective And) a b)) (inl h)

pub right-falsifies : (d : Resolved) (l : Span) (a b : Resolved) → d ≡ v.Binary l (Connective And) a b → Falsifies (resolved_of b) (resolved_of d)
unfolding Falsifies
right-falsifies d l a b i = λ c h. subst (λ t. IsTruth c t False) (sym (ap resolved_of i ∙ of-Binary l (Connective And) a b)) (inr h)

-- a conjunct of a part is one
pub conjunct-part : (whole d x : Resolved) → Falsifies (resolved_of x) (resolved_of d) → size-Resolved x < size-Resolved d → IsPart whole d → IsPart whole x
unfolding Refutes Falsifies
conjunct-part whole d x f s h = record { refutes = λ c k. h.refutes c (f c k); smaller = omega (arith, s, h.smaller) }

pub found-part : (whole : Resolved) (part : Option (Bor Resolved)) → IfSome part (λ x. Refutes (resolved_of x.now) (resolved_of whole))
    → IfSome part (λ x. size-Resolved x.now < size-Resolved whole) → IfSome part (λ x. IsPart whole x.now)
found-part whole None r s = tt
found-part whole (Some x) r s = record { refutes = r; smaller = s }

pub one-piece-more : (whole : Resolved) (frame : Frame) (piece : Piece) (old new : List Piece) → new ≡ old ++ piece ∷ [] → IsPiece whole frame piece
    → All (IsPiece whole frame) old → All (IsPiece whole frame) new
one-piece-more whole frame piece old new e p h = subst (All (IsPiece whole frame)) (sym e) (All-push (IsPiece whole frame) old piece h p)

-- ---- what a variable has to equal

other_left : (v : Option Value) (o : Outcome) → IsOther o v → IsAtom (value_or v) o (Holds Equal) False
other_left None (Is w) h = refl
other_left None Undefined h = refl
other_left None Out h = absurd h
other_left (Some v) (Is w) h = λ e. h (ap Some e)
other_left (Some v) Undefined h = refl
other_left (Some v) Out h = absurd h

other_right : (v : Option Value) (o : Outcome) → IsOther o v → IsAtom o (value_or v) (Holds Equal) False
other_right None (Is w) h = refl
other_right None Undefined h = refl
other_right None Out h = absurd h
other_right (Some v) (Is w) h = λ e. h (ap Some (sym e))
other_right (Some v) Undefined h = refl
other_right (Some v) Out h = absurd h

variable_outcome : (c : Context) (place : ℕ) (v : ResolvedTree) → IsVariable place v → HasOutcome c v (value_or (slice_get c.locals place))
variable_outcome c place v h = subst (λ t. HasOutcome c t (value_or (slice_get c.locals place))) (sym h.1) refl

pub wants-right : (v e t : ResolvedTree) (place : ℕ) → IsVariable place v → IsEquation v e t → Wants t place e
unfolding Wants
wants-right v e t place v-is t-is =
    λ c o h k. subst (λ x. IsTruth c x False) (sym t-is.1) (value_or (slice_get c.locals place), variable_outcome c place v v-is, (o, h, inl (other_left (slice_get c.locals place) o k)))

pub wants-left : (v e t : ResolvedTree) (place : ℕ) → IsVariable place v → IsEquation e v t → Wants t place e
unfolding Wants
wants-left v e t place v-is t-is =
    λ c o h k. subst (λ x. IsTruth c x False) (sym t-is.1) (o, h, (value_or (slice_get c.locals place), variable_outcome c place v v-is, inl (other_right (slice_get c.locals place) o k)))

pub variable-of : (t : Resolved) (l : Span) (r : Reference) (o : Option ℕ) → t ≡ v.Name l r → IfSome o (λ place. r ≡ Local place) → IfSome o (λ place. IsVariable place (resolved_of t))
variable-of t l r None i h = tt
variable-of t l r (Some place) i h = (l, ap resolved_of i ∙ of-Name l r ∙ ap (reference l) h)

-- a chain of one link that is an equation
pub one-equation : (t : Resolved) (l : Span) (a b : Resolved) (ks : List ResolvedLink) (k : ResolvedLink) → t ≡ v.Chain l a ks → ks ≡ k ∷ [] → k.relation ≡ Equal
    → k.right ≡ b → IsEquation (resolved_of a) (resolved_of b) (resolved_of t)
one-equation t l a b ks k i one equal right = (
  l,
  ap resolved_of i ∙ of-Chain l a ks ∙ ap (λ xs. chain l (resolved_of a) (links (map resolved_link_of xs))) one
      ∙ ap (λ x. chain l (resolved_of a) (link x.0 x.1 no_links)) (link-seen k)
      ∙ ap (λ r. chain l (resolved_of a) (link r (resolved_of k.right) no_links)) equal
      ∙ ap (λ x. chain l (resolved_of a) (link Equal (resolved_of x) no_links)) right,
)

pub wanted-right : (term left right : Resolved) (frame : Frame) (wanted : Option Wanted) → IsEquation (resolved_of left) (resolved_of right) (resolved_of term) → size-Resolved right < size-Resolved term
    → IfSome wanted (λ w. IsVariable w.local (resolved_of left)) → IfSome wanted (λ w. w.term.now ≡ right) → IfSome wanted (IsEarlier frame) → IfSome wanted (IsWanted term frame)
wanted-right term left right frame None e s variable is earlier = tt
wanted-right term left right frame (Some w) e s variable is earlier = record {
  wants = wants-right (resolved_of left) (resolved_of w.term.now) (resolved_of term) w.local variable (subst (λ x. IsEquation (resolved_of left) (resolved_of x) (resolved_of term)) (sym is) e);
  smaller = subst (λ x. size-Resolved x < size-Resolved term) (sym is) s;
  earlier = earlier;
}

pub wanted-left : (term left right : Resolved) (frame : Frame) (wanted : Option Wanted) → IsEquation (resolved_of left) (resolved_of right) (resolved_of term) → size-Resolved left < size-Resolved term
    → IfSome wanted (λ w. IsVariable w.local (resolved_of right)) → IfSome wanted (λ w. w.term.now ≡ left) → IfSome wanted (IsEarlier frame) → IfSome wanted (IsWanted term frame)
wanted-left term left right frame None e s variable is earlier = tt
wanted-left term left right frame (Some w) e s variable is earlier = record {
  wants = wants-left (resolved_of right) (resolved_of w.term.now) (resolved_of term) w.local variable (subst (λ x. IsEquation (resolved_of x) (resolved_of right) (resolved_of term)) (sym is) e);
  smaller = subst (λ x. size-Resolved x < size-Resolved term) (sym is) s;
  earlier = earlier;
}

pub only-one : {A : Type 0} (xs : List A) (x : A) → length xs ≡ 1 → x ≡ get_or xs 0 x → xs ≡ x ∷ []
only-one [] x l e = absurd (omega (arith, l))
only-one (y ∷ []) x l e = ap (λ z. z ∷ []) (sym e)
only-one (y ∷ z ∷ xs) x l e = absurd (omega (arith, l))

-- what is bound at the place
pub bound-at : (bound : List (Bor Value)) (place : ℕ) (x : Bor Value) (w : Value) (told : Bool) → place < length bound → x ≡ get_or bound place x
    → (told ≡ true) ↔ (x.now ≡ w) → (told ≡ true) ↔ (slice_get (seen bound) place ≡ Some w)
bound-at [] place x w told l e h = absurd (omega (arith, l))
bound-at (y ∷ bound) zero x w told l e h = (λ t. ap Some (ap (λ z. z.now) (sym e) ∙ h.0 t), λ s. h.1 (ap (λ z. z.now) e ∙ same_Some y.now w s))
bound-at (y ∷ bound) (suc place) x w told l e h = bound-at bound place x w told (omega (arith, l)) e h

pub not-bound : (bound : List (Bor Value)) (place : ℕ) (w : Value) → length bound ≤ place → (false ≡ true) ↔ (slice_get (seen bound) place ≡ Some w)
not-bound [] place w l = (λ t. absurd (false≢true t), λ s. let d : None ≡ Some w = s in absurd (cc))
not-bound (y ∷ bound) zero w l = absurd (omega (arith, l))
not-bound (y ∷ bound) (suc place) w l = not-bound bound place w (omega (arith, l))

-- ---- rows that begin with the same values

-- a part that is false here
pub neutral-by : (whole : Resolved) (frame : Frame) (piece : Piece) (here c : Context) (row : List Value) → IsPiece whole frame piece → IsBound frame here c row
    → IsTruth here (resolved_of piece.term.now) False → AreNeutral (resolved_of whole) c row (Front piece.front)
unfolding ArePassed Refutes
neutral-by whole frame piece here c row p b h =
    let false = subst (λ k. IsTruth k (resolved_of piece.term.now) False) b.is h in
    record {
      here = p.part.refutes (within c row) false;
      passed = λ vs l e. inr (p.part.refutes (within c vs)
          (same-row c piece.front row vs (resolved_of piece.term.now) False (sym l) (sym e)
          (subst (λ n. need n (resolved_of piece.term.now) ≤ length c.locals + piece.front) (sym b.whole ∙ ap (λ n. length c.locals + n) (sym l))
          (subst (λ n. need frame.whole (resolved_of piece.term.now) ≤ n + piece.front) (sym b.outside) p.needs))
          false));
    }

value_behind : (ls vs : List Value) (place : ℕ) → slice_get (ls ++ vs) (length ls + place) ≡ slice_get vs place
value_behind [] vs place = let same : 0 + place ≡ place = omega arith in ap (slice_get vs) same
value_behind (x ∷ ls) vs place = let next : length (x ∷ ls) + place ≡ suc (length ls + place) = omega arith in ap (slice_get (x ∷ ls ++ vs)) next ∙ value_behind ls vs place

same_before : (o : Outcome) (row vs : List Value) (place : ℕ) (p : Passing) → PassesBy o place p → IsPassed p row vs → take place vs ≡ take place row
same_before (Is w) row vs place p b h = (subst (λ q. IsPassed q row vs) b h).0
same_before Undefined row vs place p b h = subst (λ q. IsPassed q row vs) b h
same_before Out row vs place p b h = absurd b

other_there : (o : Outcome) (row vs : List Value) (place : ℕ) (p : Passing) → PassesBy o place p → IsOther o (slice_get row place) → IsPassed p row vs → IsOther o (slice_get vs place)
other_there (Is w) row vs place p b n h = λ e. ⊎_elim (λ same. n (sym same ∙ e)) (λ other. other e) (subst (λ q. IsPassed q row vs) b h).1
other_there Undefined row vs place p b n h = tt
other_there Out row vs place p b n h = absurd b

-- a variable that has another value than it has to
pub neutral-other : (whole : Resolved) (frame : Frame) (term : Resolved) (wanted : Wanted) (here c : Context) (row : List Value) (o : Outcome) (place : ℕ)
    (p : Passing) → IsPart whole term → IsWanted term frame wanted → IsBound frame here c row → HasOutcome here (resolved_of wanted.term.now) o
    → IsOther o (slice_get here.locals wanted.local) → frame.outside + place ≡ wanted.local → PassesBy o place p
    → AreNeutral (resolved_of whole) c row p
unfolding ArePassed Refutes Wants
neutral-other whole frame term wanted here c row o place p part w b h n at by =
    let e = resolved_of wanted.term.now in
    let outcome = subst (λ k. HasOutcome k e o) b.is h in
    let other = subst (λ k. IsOther o (slice_get k.locals wanted.local)) b.is n in
    let local : length c.locals + place ≡ wanted.local = ap (λ m. m + place) b.outside ∙ at in
    let here-other = subst (IsOther o) (value_behind c.locals row place) (subst (λ i. IsOther o (slice_get (c.locals ++ row) i)) (sym local) other) in
    record {
      here = part.refutes (within c row) (w.wants (within c row) o outcome other);
      passed = λ vs l i. inr (part.refutes (within c vs) (w.wants (within c vs) o
          (same-row-outcome c place row vs e o (sym l) (sym (same_before o row vs place p by i))
          (subst (λ m. need m e ≤ length c.locals + place) (sym b.whole ∙ ap (λ m. length c.locals + m) (sym l)) (subst (λ m. need frame.whole e ≤ m) (sym local) w.earlier.needs))
          outcome)
          (subst (λ j. IsOther o (slice_get (c.locals ++ vs) j)) local (subst (IsOther o) (sym (value_behind c.locals vs place)) (other_there o row vs place p by here-other i)))));
    }

pub neutral-other-if : (whole : Resolved) (frame : Frame) (term : Resolved) (wanted : Wanted) (here c : Context) (row : List Value) (o : Outcome)
    (p : Option Passing) → IsPart whole term → IsWanted term frame wanted → IsBound frame here c row → HasOutcome here (resolved_of wanted.term.now) o
    → IfSome p (λ x. IsOther o (slice_get here.locals wanted.local))
    → IfSome p (λ x. (place : ℕ) × (frame.outside + place ≡ wanted.local) × PassesBy o place x) → AreNeutralIf (resolved_of whole) c row p
neutral-other-if whole frame term wanted here c row o None part w b h n by = tt
neutral-other-if whole frame term wanted here c row o (Some p) part w b h n by = neutral-other whole frame term wanted here c row o by.0 p part w b h n by.1 by.2

-- where the row does not count, none does that begins with the values which the quantifier needs
pub neutral-front : (d : Resolved) (q : Quantifier) (l : Span) (rs : List Range) (p : Option Resolved) (e : Resolved) (frame : Frame) (front : ℕ) (here c : Context)
    (row : List Value) → d ≡ v.Quantified q l rs p e → IsBound frame here c row
    → NeedsFront frame front (part_of p) (resolved_of e) → IsTold q (λ a. IsConstraint here (part_of p) a) (λ b. IsTruth here (resolved_of e) b) (neutral q)
    → ArePassed (resolved_of d) c row (Front front)
unfolding ArePassed IsNeutral
neutral-front d q l rs p e frame front here c row is b needs told =
    λ vs m i.
    let whole : length c.locals + length vs ≡ frame.whole = omega (arith, b.whole, m) in
    let part : part_need (length c.locals + length vs) (part_of p) ≤ length c.locals + front = subst (λ n. part_need n (part_of p) ≤ length c.locals + front)
    (sym whole) (omega (arith, needs, b.outside)) in
    let body : need (length c.locals + length vs) (resolved_of e) ≤ length c.locals + front = subst (λ n. need n (resolved_of e) ≤ length c.locals + front)
    (sym whole) (omega (arith, needs, b.outside)) in
    let here = subst (λ k. IsTold q (λ a. IsConstraint k (part_of p) a) (λ x. IsTruth k (resolved_of e) x) (neutral q)) b.is told in
    inr (subst (λ t. IsNeutral t (within c vs)) (sym (ap resolved_of is ∙ of-Quantified l q rs p e))
    (same-row-told c front row vs q (part_of p) (resolved_of e) (neutral q) (sym m) (sym i) part body here))

-- only this row begins with all its values
pub itself-passed : (whole : ResolvedTree) (frame : Frame) (here c : Context) (row : List Value) → IsBound frame here c row → ArePassed whole c row (Front frame.whole)
unfolding ArePassed
itself-passed whole frame here c row b =
    λ vs l e. inl (sym (take_all frame.whole vs (omega (arith, l, b.whole))) ∙ e ∙ take_all frame.whole row (omega (arith, b.whole)))

-- the rows that are passed after one that is bound
pub passed-after : (d : Resolved) (q : Quantifier) (l : Span) (rs : List Range) (p : Option Resolved) (e : Resolved) (frame : Frame) (front : ℕ) (here c : Context)
    (row : List Value) (w : Truth) (passing : Passing) → d ≡ v.Quantified q l rs p e → IsBound frame here c row
    → NeedsFront frame front (part_of p) (resolved_of e) → IsTold q (λ a. IsConstraint here (part_of p) a) (λ b. IsTruth here (resolved_of e) b) w
    → (passing ≡ Front frame.whole) ⊎ ((w ≡ neutral q) × (passing ≡ Front front)) → ArePassed (resolved_of d) c row passing
passed-after d q l rs p e frame front here c row w passing is b needs told (inl whole) = subst (ArePassed (resolved_of d) c row) (sym whole) (itself-passed (resolved_of d) frame here c row b)
passed-after d q l rs p e frame front here c row w passing is b needs told (inr (none, same)) =
    subst (ArePassed (resolved_of d) c row) (sym same)
    (neutral-front d q l rs p e frame front here c row is b needs (subst (λ u. IsTold q (λ a. IsConstraint here (part_of p) a) (λ x. IsTruth here (resolved_of e) x) u) none told))

pub from_length : (ss vs : List Value) → AreFrom vs ss → length vs ≡ length ss
from_length [] [] h = refl
from_length [] (v ∷ vs) h = absurd h
from_length (s ∷ ss) [] h = absurd h
from_length (s ∷ ss) (v ∷ vs) h = ap suc (from_length ss vs h.1)

pub may-pass : (whole : ResolvedTree) (c : Context) (ss row : List Value) (passing : Passing) → AreFrom row ss → ArePassed whole c row passing
    → MayPass (λ vs. IsNeutral whole (within c vs)) ss row passing
unfolding ArePassed
may-pass whole c ss row passing r h = λ vs k e. h vs (from_length ss vs k ∙ sym (from_length ss row r)) e
