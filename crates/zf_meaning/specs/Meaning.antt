-- The outcome of an expression and the truth of a predicate, as relations. What typing rules out is undefined, or false.
use Rattle.std.specs.Prelude.{◌≡◌, ◌⊎◌, ℕ, pos, if◌then◌else◌, List, [], ◌∷◌, Option, None}
use Rattle.zf_meaning.specs.Prelude.{Relation, Infinite, Num, Nat, Nat1, Connective, is_membership, absent, binary, bracket, comprehension, chain, constant, empty_set, link, listed, no_links, no_ranges, no_terms, number, present, quantified, range, Ranges, reference, ResolvedLinks, ResolvedPart, ResolvedTree, term, unary, ResolvedTrees, Value, Tuple, Outcome, Is, Undefined, Out, Truth, AreFrom, IsEmptySet, IsNumber, IsSetOf, BinaryOutcome, IsConjunction, IsConnected, IsLink, IsQuantified, IsTold, ListedOutcome, OnBoth, one_more, one_out, one_undefined, OnOne, OnSeveral, opposite, repeated, Several, UnaryOutcome, values}
use Rattle.zf_tree.specs.declared.symbol.Constant.{Constant}
use Rattle.zf_tree.specs.declared.symbol.Constant.TheVariants as constants
use Rattle.zf_tree.specs.declared.operator.Unary.TheVariants.{Not}
use Rattle.zf_value.specs.declared.value.Truth.TheVariants as truth
use Rattle.zf_meaning.specs.Environments.{Context, within, outcome_in}
use Rattle.zf_meaning.specs.NumberSets.{IsNumberSet, infinite_in}

-- where these are the numbers
abbrev pub IsConstantOutcome : (numbers : Option ℕ) → Constant → Outcome → Type 0
IsConstantOutcome n constants.Integers o = IsNumberSet n Num o
IsConstantOutcome n constants.Naturals o = IsNumberSet n Nat o
IsConstantOutcome n constants.Positives o = IsNumberSet n Nat1 o
IsConstantOutcome n _ o = o ≡ Undefined

abbrev pub constant_truth : Constant → Truth
constant_truth constants.True = truth.True
constant_truth _ = truth.False

-- ---- links of a chain

-- the infinite set that a link tests for, if the whole right side of a membership is one
abbrev pub infinite_right : Context → Relation → ResolvedTree → Option Infinite
infinite_right c r t = if is_membership r then infinite_in c.environment t else None

-- ---- comprehensions, over the rows that `rows` admits, where `filter` and `outcome` say the truth of a row's filter and the outcome of its term

-- what a comprehension without a term builds: the one variable, or the tuple of all
abbrev pub row_value : List Value → Value
row_value (v ∷ []) = v
row_value vs = Tuple vs

-- the value is that of the term in a row where the filter is true
abbrev pub IsBuiltBy : (List Value → Type 0) → (List Value → Truth → Type 0) → (List Value → Outcome → Type 0) → Value → Type 0
IsBuiltBy rows filter outcome z = (vs : List Value) × rows vs × filter vs truth.True × outcome vs (Is z)

-- the filter is false, or it is true and the term is not out
abbrev pub IsWithinBounds : (List Value → Truth → Type 0) → (List Value → Outcome → Type 0) → List Value → Type 0
IsWithinBounds filter outcome vs = filter vs truth.False ⊎ (filter vs truth.True × (outcome vs Undefined ⊎ ((z : Value) × outcome vs (Is z))))

-- the filter is out, or it is true and the term is out
abbrev pub IsOutOfBounds : (List Value → Truth → Type 0) → (List Value → Outcome → Type 0) → List Value → Type 0
IsOutOfBounds filter outcome vs = filter vs truth.Out ⊎ (filter vs truth.True × outcome vs Out)

abbrev pub IsBuiltOver : (List Value → Type 0) → (List Value → Truth → Type 0) → (List Value → Outcome → Type 0) → Outcome → Type 0
IsBuiltOver rows filter outcome (Is v) = ((vs : List Value) → rows vs → IsWithinBounds filter outcome vs) × IsSetOf (IsBuiltBy rows filter outcome) (Is v)
IsBuiltOver rows filter outcome Undefined = ⊥
IsBuiltOver rows filter outcome Out = ((vs : List Value) × rows vs × IsOutOfBounds filter outcome vs) ⊎ IsSetOf (IsBuiltBy rows filter outcome) Out

-- out where a range is out, else over no row where one is undefined
abbrev pub IsBuilt : Several → (List Value → Truth → Type 0) → (List Value → Outcome → Type 0) → Outcome → Type 0
IsBuilt one_out filter outcome o = o ≡ Out
IsBuilt one_undefined filter outcome o = IsEmptySet o
IsBuilt (values ss) filter outcome o = IsBuiltOver (λ vs. AreFrom vs ss) filter outcome o

-- ---- terms

abbrev mutual
  pub HasOutcome : Context → ResolvedTree → Outcome → Type 0
  HasOutcome c (reference l r) o = o ≡ outcome_in c r
  HasOutcome c (number l n) o = IsNumber (pos n) o
  HasOutcome c (constant l k) o = IsConstantOutcome c.environment.numbers k o
  HasOutcome c (empty_set l t) o = IsEmptySet o
  HasOutcome c (bracket l t) o = HasOutcome c t o
  HasOutcome c (listed l form ts) o = (s : Several) × HaveOutcomes c ts s × OnSeveral s (ListedOutcome form) o
  HasOutcome c (comprehension l rs p t) o = (s : Several) × HaveRanges c rs s × IsBuilt s (λ vs u. IsConstraint (within c vs) p u) (λ vs x. Builds (within c vs) vs t x) o
  HasOutcome c (unary l op t) o = (x : Outcome) × HasOutcome c t x × OnOne x (UnaryOutcome op) o
  HasOutcome c (binary l op a b) o = (x y : Outcome) × HasOutcome c a x × HasOutcome c b y × OnBoth x y (BinaryOutcome op) o
  HasOutcome c _ o = o ≡ Undefined

  pub HaveOutcomes : Context → ResolvedTrees → Several → Type 0
  HaveOutcomes c no_terms s = s ≡ values []
  HaveOutcomes c (term t ts) s = (x : Outcome) × (r : Several) × HasOutcome c t x × HaveOutcomes c ts r × (s ≡ one_more x r)

  -- the declared sets have these values, one for each variable
  pub HaveRanges : Context → Ranges → Several → Type 0
  HaveRanges c no_ranges s = s ≡ values []
  HaveRanges c (range n t rs) s = (x : Outcome) × (r : Several) × HasOutcome c t x × HaveRanges c rs r × (s ≡ repeated n x r)

  -- the outcome of the term of a comprehension, in the row of its variables
  pub Builds : Context → List Value → ResolvedPart → Outcome → Type 0
  Builds c vs absent o = o ≡ Is (row_value vs)
  Builds c vs (present t) o = HasOutcome c t o

  -- u is the truth of a filter or constraint
  pub IsConstraint : Context → ResolvedPart → Truth → Type 0
  IsConstraint c absent u = u ≡ truth.True
  IsConstraint c (present t) u = IsTruth c t u

  pub IsTruth : Context → ResolvedTree → Truth → Type 0
  IsTruth c (constant l k) u = u ≡ constant_truth k
  IsTruth c (bracket l t) u = IsTruth c t u
  IsTruth c (unary l Not t) u = IsTruth c t (opposite u)
  IsTruth c (binary l (Connective k) a b) u = IsConnected k (λ p. IsTruth c a p) (λ q. IsTruth c b q) u
  IsTruth c (chain l t ks) u = (x : Outcome) × HasOutcome c t x × AreLinked c x ks u
  IsTruth c (quantified l q rs p t) u = (s : Several) × HaveRanges c rs s × IsQuantified q s (λ vs w. IsTold q (λ a. IsConstraint (within c vs) p a) (λ b. IsTruth (within c vs) t b) w) u
  IsTruth c _ u = u ≡ truth.False

  -- u is the truth of what is left of a chain, after an operand of this outcome: the conjunction of its links
  pub AreLinked : Context → Outcome → ResolvedLinks → Truth → Type 0
  AreLinked c x no_links u = u ≡ truth.True
  AreLinked c x (link r t ks) u = (y : Outcome) × HasOutcome c t y × IsConjunction (λ p. IsLink (infinite_right c r t) r x y p) (λ q. AreLinked c y ks q) u
