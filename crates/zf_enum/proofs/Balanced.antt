-- Relations between sums: with a value for which the difference of the sides lies elsewhere they are False.
use Rattle.zf_enum.proofs.Prelude.{◌++◌, ◌+◌, ◌-◌, ◌<◌, ◌∙◌, ◌∷◌, ◌≡◌, ◌≤◌, [], ap, ap₂, arith, Bool, cases_lt, Contains, false, get_or, inl, length, Less, List, refl, slice_get, Some, subst, suc, sym, true, zero, ℕ, ⊎_elim, AllPairs, AreWithin, binary, Component, Environment, HasOutcome, in_row, Is, IsRowOf, IsTruth, Leaves, link, chain, length-picked, no_links, number, of-Binary, of-Name, of-Unary, picked, Reference, reference, Resolved, resolved_of, unary, value_or, property, ResolvedTree, StaysIn, Value, value_order, follows_outcome, uses, ℤ, pos, ◌+ℤ◌, ◌-ℤ◌, ◌*ℤ◌, ◌≤ℤ◌, ◌<ℤ◌, neg_ℤ, negsuc, FitsSigned, if◌then◌else◌, None, w32, w64, ints, Relation, Unary, Operator, Int, out-Value, get_or_default, cmp_is, is_Int, number_of-Int, same_number, InfixOutcome, SignOutcome, Holds, Context, Interval, IsSmall, Spans, IsIntervalOf, IsIntervalAhead, IsDifferenceOf, IsRuledOut, AreRuledOut, int_ranked, int_cmp, Greater, Infix, Function, IsLink, infinite_in, infinite_right, of-Number, Span}
use Rattle.zf_extent.specs.{is_membership}
use Rattle.zf_tree.specs.declared.symbol.Infix.TheVariants as infixes
use Rattle.zf_tree.specs.declared.operator.Sign.TheVariants.{Minus}
use Rattle.zf_tree.specs.declared.operator.Sign.{Sign}
use Rattle.zf_tree.specs.declared.operator.Unary.TheVariants as unaries
use Rattle.zf_value.specs.declared.plain.Value.TheVariants.{outs-Int}
use Rattle.zf_value.specs.declared.plain.Value.TheOpen.{Value-F}
use Rattle.zf_value.specs.declared.value.Truth.TheVariants as truth
use Rattle.zf_value.specs.{IsDifference, IsNegation, IsProduct, IsSum, level_order, number_at}
use Rattle.zf_value.proofs.Compared.{compared_numbers}
use Rattle.zf_term.specs.declared.resolved.Resolved.TheVariants as form
use Rattle.zf_enum.proofs.Fixed.{truth_at, get_front, get_next}
use Rattle.zf_enum.proofs.Spanning.{spans_fit}

-- ---- ranges of numbers

never : (v : Value) (x : Value-F Value) (b : ℤ) → out-Value v ≡ x → value_order v (Int b) ≡ Less → level_order value_order x (Value-F.Int b) ≡ Greater → ⊥
never v x b e h g =
    let other : value_order v (Int b) ≡ Greater = cmp_is v (Int b) ∙ ap (λ z. level_order value_order z (out-Value (Int b))) e ∙ ap (level_order value_order x) (outs-Int b) ∙ g in
    cc

below_form : (v : Value) (x : Value-F Value) (b : ℤ) → out-Value v ≡ x → value_order v (Int b) ≡ Less → (n : ℤ) × (v ≡ Int n) × (n <ℤ b)
below_form v (Value-F.Int n) b e h =
    let is : v ≡ Int n = is_Int v n (sym (ap number_at e)) in
    let told : int_cmp n b ≡ Less = sym (compared_numbers n b) ∙ ap (λ u. value_order u (Int b)) (sym is) ∙ h in
    (n, is, int_ranked n b Less (sym told))
below_form v (Value-F.Elem t i) b e h = absurd (never v (Value-F.Elem t i) b e h refl)
below_form v (Value-F.Tuple xs) b e h = absurd (never v (Value-F.Tuple xs) b e h refl)
below_form v (Value-F.SetOf xs) b e h = absurd (never v (Value-F.SetOf xs) b e h refl)

-- what comes before a number is a lesser one
below : (v : Value) (b : ℤ) → value_order v (Int b) ≡ Less → (n : ℤ) × (v ≡ Int n) × (n <ℤ b)
below v b h = below_form v (out-Value v) b refl h

-- what comes after a number, and is one, is a greater one
above : (a n : ℤ) → value_order (Int a) (Int n) ≡ Less → a <ℤ n
above a n h = int_ranked a n Less (sym (sym (compared_numbers a n) ∙ h))

pub over : (range : List Value) (w first last : Value) (a b : ℤ) → AllPairs (λ u v. value_order u v ≡ Less) range → 0 < length range
    → first ≡ get_or range 0 first → last ≡ get_or range (length range - 1) last → first ≡ Int a → last ≡ Int b → Contains range w
    → (m : ℤ) × (w ≡ Int m) × (a ≤ℤ m) × (m ≤ℤ b)
over range w first last a b rises some at_first at_last is_a is_b (k, l, here) =
    let end = length range - 1 in
    let up : (m : ℤ) × (w ≡ Int m) × (m ≤ℤ b) =
    ⊎_elim
    (λ less.
    let before : value_order w (Int b) ≡ Less =
    ap₂ value_order (sym here) (sym is_b ∙ at_last ∙ get_or_default range end last w (omega (arith, some))) ∙ rises k end w less (omega (arith, some)) in
    let r = below w b before in (r.0, r.1, omega (arith, ints, r.2)))
    (λ more.
    let same : k ≡ end = omega (arith, l, more) in
    (b, sym here ∙ ap (λ (n : ℕ). get_or range n w) same ∙ get_or_default range end w last (omega (arith, some)) ∙ sym at_last ∙ is_b, omega (arith, ints)))
    (cases_lt k end) in (
      up.0,
      up.1,
      ⊎_elim
          (λ less.
          let after : value_order (Int a) (Int up.0) ≡ Less =
          ap₂ value_order (sym is_a ∙ at_first ∙ get_or_default range 0 first w some) (sym up.1 ∙ sym here) ∙ rises 0 k w less l in
          let r = above a up.0 after in omega (arith, ints, r))
          (λ more.
          let same : k ≡ 0 = omega (arith, more) in
          let one : Int a ≡ Int up.0 = sym is_a ∙ at_first ∙ get_or_default range 0 first w some ∙ ap (λ (n : ℕ). get_or range n w) (sym same) ∙ here ∙ up.1 in
          let r = same_number a up.0 one in omega (arith, ints, r))
          (cases_lt 0 k),
      up.2,
    )

-- ---- what operations make of numbers

pub sum_outcome : (m n : ℤ) → FitsSigned w64 (m +ℤ n) → InfixOutcome infixes.Plus (Int m) (Int n) (Is (Int (m +ℤ n)))
unfolding IsSum
sum_outcome m n f = rw (number_of-Int m, number_of-Int n) (refl, f)

pub difference_outcome : (m n : ℤ) → FitsSigned w64 (m -ℤ n) → InfixOutcome infixes.Minus (Int m) (Int n) (Is (Int (m -ℤ n)))
unfolding IsDifference
difference_outcome m n f = rw (number_of-Int m, number_of-Int n) (refl, f)

pub product_outcome : (m n : ℤ) → FitsSigned w64 (m *ℤ n) → InfixOutcome infixes.Times (Int m) (Int n) (Is (Int (m *ℤ n)))
unfolding IsProduct
product_outcome m n f = rw (number_of-Int m, number_of-Int n) (refl, f)

pub negation_outcome : (m : ℤ) → FitsSigned w64 (neg_ℤ m) → SignOutcome Minus (Int m) (Is (Int (neg_ℤ m)))
unfolding IsNegation
negation_outcome m f = rw (number_of-Int m) (refl, f)

-- ---- the values that are left

link_false : (c : Context) (r : Relation) (t : ResolvedTree) (a b : ℤ) → is_membership r ≡ false → (Holds r (Int a) (Int b) → ⊥) → IsLink (infinite_right c r t) r (Is (Int a)) (Is (Int b)) truth.False
link_false c r t a b e never = subst (λ (q : Bool). IsLink (if q then infinite_in c.environment t else None) r (Is (Int a)) (Is (Int b)) truth.False) (sym e) never

pub balanced : (e : Environment) (ts : List ResolvedTree) (leaf : ℕ) (span : Span) (left right : ResolvedTree) (r : Relation) (s : Interval) (ranges : List (List Value))
    (places found : List ℕ) → slice_get ts leaf ≡ Some (chain span left (link r right no_links))
    → IsDifferenceOf e left right ranges places s → AreRuledOut r s (get_or ranges (length places) []) found → Leaves (property e ts) leaf ranges places found
balanced e ts leaf span left right r s ranges places found at differ out i v more there apart is =
    let ruled = out i v there apart in
    let n = ruled.0 in
    let p = chain span left (link r right no_links) in
    let d = differ n more ruled.3 (subst (λ (u : Value). IsRowOf ranges (picked ranges places ++ u ∷ more)) ruled.2 is) in
    let row = picked ranges places ++ Int n ∷ more in
    truth_at e (picked ranges places ++ v ∷ more) ts leaf p at
    (subst (λ (u : Value). IsTruth (in_row e (picked ranges places ++ u ∷ more)) p truth.False) (sym ruled.2)
    (Is (Int d.0), d.2, (Is (Int d.1), d.3, inl (link_false (in_row e row) r right d.0 d.1 ruled.1 (ruled.4 d.0 d.1 d.4)))))

-- ---- what terms come to

beyond : (xs : List Value) (k : ℕ) → length xs ≤ k → slice_get xs k ≡ None
beyond [] k l = refl
beyond (x ∷ xs) zero l = absurd (omega arith)
beyond (x ∷ xs) (suc k) l = beyond xs k (omega arith)

row_length : (ranges : List (List Value)) (row : List Value) → IsRowOf ranges row → length row ≡ length ranges
row_length [] [] m = refl
row_length [] (v ∷ row) m = absurd m
row_length (r ∷ ranges) [] m = absurd m
row_length (r ∷ ranges) (v ∷ row) m = ap suc (row_length ranges row m.1)

fits_wide : (n : ℕ) → FitsSigned w32 (pos n) → FitsSigned w64 (pos n)
fits_wide n f = record { sfits = omega (arith, ints, f.sfits) }

module _ (e : Environment) (ranges : List (List Value)) (places : List ℕ) where
  pub number_interval : (l : Span) (n : ℕ) (s : Interval) → FitsSigned w32 (pos n) → ((v : ℤ) → Spans s v (pos n)) → IsIntervalOf e (number l n) ranges places s
  number_interval l n s f p v more g is = (pos n, (refl, fits_wide n f), p v)

  pub ahead_interval : (l : Span) (place : ℕ) (s : Interval) → AreWithin ranges places → IsIntervalAhead ranges (length places) place s → IsIntervalOf e (reference l (Component place)) ranges places s
  ahead_interval l place s within p v more g is =
      let front = picked ranges places in
      let r = p (front ++ Int v ∷ more) v is (get_next front more (Int v) (length places) (sym (length-picked ranges places within))) in
      (r.0, sym (ap value_or r.1), r.2)

  pub value_interval : (t : ResolvedTree) (s : Interval) (n : ℤ) → AreWithin ranges places → ((k : ℕ) → k < length ranges → uses t k ≡ true → k < length places)
      → HasOutcome (in_row e (picked ranges places)) t (Is (Int n)) → ((v : ℤ) → Spans s v n) → IsIntervalOf e t ranges places s
  value_interval t s n within first here p v more g is =
      let front = picked ranges places in
      let row = front ++ Int v ∷ more in
      let long = length-picked ranges places within in
      let few = within.few in (
        n,
        follows_outcome e front row t (Is (Int n))
            (λ k u.
            ⊎_elim (λ less. get_front front (Int v ∷ more) k (let b = first k less u in omega (arith, b, long)))
            (λ past. beyond front k (omega (arith, long, few, past)) ∙ sym (beyond row k (let l = row_length ranges row is in omega (arith, l, past))))
            (cases_lt k (length ranges)))
            here,
        p v,
      )

  pub negated_interval : (l : Span) (t : ResolvedTree) (s u : Interval) → IsSmall u → ((v n : ℤ) → Spans s v n → Spans u v (negsuc 0 *ℤ n)) → IsIntervalOf e t ranges places s
      → IsIntervalOf e (unary l (unaries.Sign Minus) t) ranges places u
  negated_interval l t s u small op h v more g is =
      let r = h v more g is in
      let p = op v r.0 r.2 in
      let same : negsuc 0 *ℤ r.0 ≡ neg_ℤ r.0 = omega (arith, ints) in
      (neg_ℤ r.0, (Is (Int r.0), r.1, negation_outcome r.0 (subst (FitsSigned w64) same (spans_fit u v (negsuc 0 *ℤ r.0) small g p))), subst (λ (k : ℤ). Spans u v k) same p)

  pub combined_interval : (l : Span) (op : Infix) (a b : ResolvedTree) (s t u : Interval)
      → ((v m n : ℤ) → FitsSigned w32 v → Spans s v m → Spans t v n → (k : ℤ) × InfixOutcome op (Int m) (Int n) (Is (Int k)) × Spans u v k)
      → IsIntervalOf e a ranges places s → IsIntervalOf e b ranges places t → IsIntervalOf e (binary l (Function op) a b) ranges places u
  combined_interval l op a b s t u h p q v more g is =
      let x = p v more g is in
      let y = q v more g is in
      let r = h v x.0 y.0 g x.2 y.2 in
      (r.0, (Is (Int x.0), Is (Int y.0), x.1, y.1, r.1), r.2)

  pub difference_interval : (a b : ResolvedTree) (s t u : Interval) → ((v m n : ℤ) → Spans s v m → Spans t v n → Spans u v (m -ℤ n))
      → IsIntervalOf e a ranges places s → IsIntervalOf e b ranges places t → IsDifferenceOf e a b ranges places u
  difference_interval a b s t u h p q v more g is =
      let x = p v more g is in
      let y = q v more g is in
      (x.0, y.0, x.1, y.1, h v x.0 y.0 x.2 y.2)

-- ---- terms as they are seen

pub name_is : (t : Resolved) (l : Span) (k : ℕ) (r : Reference) → t ≡ form.Name l r → r ≡ Component k → resolved_of t ≡ reference l (Component k)
name_is t l k r is of = ap resolved_of is ∙ of-Name l r ∙ ap (λ q. reference l q) of

pub number_is : (t : Resolved) (l : Span) (n : ℕ) → t ≡ form.Number l n → resolved_of t ≡ number l n
number_is t l n is = ap resolved_of is ∙ of-Number l n

pub minus_is : (t x inner : Resolved) (l : Span) (op : Unary) (s : Sign) → t ≡ form.Unary l op inner → x ≡ inner → op ≡ unaries.Sign s → s ≡ Minus
    → resolved_of t ≡ unary l (unaries.Sign Minus) (resolved_of x)
minus_is t x inner l op s is here of minus =
    ap resolved_of is ∙ of-Unary l op inner ∙ ap (λ u. unary l op (resolved_of u)) (sym here) ∙ ap (λ (o : Unary). unary l o (resolved_of x)) (of ∙ ap unaries.Sign minus)

pub function_is : (t x y a b : Resolved) (l : Span) (op : Operator) (f : Infix) → t ≡ form.Binary l op a b → x ≡ a → y ≡ b → op ≡ Function f
    → resolved_of t ≡ binary l (Function f) (resolved_of x) (resolved_of y)
function_is t x y a b l op f is first second of =
    ap resolved_of is ∙ of-Binary l op a b ∙ ap₂ (λ (u v : Resolved). binary l op (resolved_of u) (resolved_of v)) (sym first) (sym second)
    ∙ ap (λ (o : Operator). binary l o (resolved_of x) (resolved_of y)) of

-- ---- what was tried

item_is : (range : List Value) (i : ℕ) (v x : Value) → slice_get range i ≡ Some v → x ≡ get_or range i x → (i < length range) × (x ≡ v)
item_is [] i v x at is = absurd (cc)
item_is (y ∷ ys) zero v x at is = (omega arith, (cc))
item_is (y ∷ ys) (suc i) v x at is = let r = item_is ys i v x at is in (omega (arith, r.0), r.1)

within_range : (range : List Value) (i : ℕ) (v : Value) → slice_get range i ≡ Some v → i < length range
within_range [] i v at = absurd (cc)
within_range (y ∷ ys) zero v at = omega arith
within_range (y ∷ ys) (suc i) v at = let r = within_range ys i v at in omega (arith, r)

module _ (r : Relation) (s : Interval) (range : List Value) where
  -- each of the first n values stands at one of these places, or is ruled out
  abbrev pub RuledUpTo : ℕ → List ℕ → Type 0
  RuledUpTo n places = (i : ℕ) (v : Value) → i < n → slice_get range i ≡ Some v → (Contains places i → ⊥) → IsRuledOut r s v

  pub ruled_next : (n : ℕ) (x : Value) (xs ys : List ℕ) → x ≡ get_or range n x → StaysIn xs ys → RuledUpTo n xs → ((Contains ys n → ⊥) → IsRuledOut r s x) → RuledUpTo (n + 1) ys
  ruled_next n x xs ys is stay before this i v l at apart =
      ⊎_elim (λ less. before i v less at (λ m. apart (stay i m)))
      (λ more.
      let same : i ≡ n = omega (arith, l, more) in
      let t = item_is range n v x (subst (λ (k : ℕ). slice_get range k ≡ Some v) same at) is in
      subst (λ (u : Value). IsRuledOut r s u) t.1 (this (λ m. apart (subst (λ (k : ℕ). Contains ys k) (sym same) m))))
      (cases_lt i n)

  pub ruled_all : (n : ℕ) (ys : List ℕ) → length range ≤ n → RuledUpTo n ys → AreRuledOut r s range ys
  ruled_all n ys l h i v at apart = h i v (let k = within_range range i v at in omega (arith, k, l)) at apart
