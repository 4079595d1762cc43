-- Infinite sets in terms: `\num`, `\nat`, `\nat_1`, and each name that is defined as one of them.
-- One may stand as the whole right side of a chain's last link, if that is `\in` or `\notin`, and anywhere in the parameter of an empty set.
use Rattle.std.specs.Prelude.{ℕ, Bool, true, false, ◌&&◌, if◌then◌else◌, List, [], ◌∷◌, ◌++◌, Option, Some, None, slice_get}
use Rattle.std.specs.Option.{option_map_or}
use Rattle.zf_tree.specs.declared.span.Span.{Span}
use Rattle.zf_tree.specs.declared.symbol.Constant.{Constant}
use Rattle.zf_tree.specs.declared.symbol.Constant.TheVariants.{Integers, Naturals, Positives}
use Rattle.zf_tree.specs.declared.symbol.Relation.{Relation}
use Rattle.zf_tree.specs.declared.symbol.Relation.TheVariants.{Member, NotMember}
use Rattle.zf_term.specs.declared.extent.Extent.{Extent}
use Rattle.zf_term.specs.declared.extent.Extent.TheVariants as extent
use Rattle.zf_term.specs.declared.extent.Infinite.{Infinite}
use Rattle.zf_term.specs.declared.extent.Infinite.TheVariants.{Num, Nat, Nat1}
use Rattle.zf_reference.specs.declared.reference.Reference.{Reference}
use Rattle.zf_reference.specs.declared.reference.Reference.TheVariants.{Global}
use Rattle.zf_extent.specs.declared.offender.Offender.{Offender}
use Rattle.zf_extent.specs.declared.offender.Offender.TheVariants.{Name, Symbol}
use Rattle.zf_term.specs.{abbreviation, absent, binary, bracket, comprehension, chain, constant, Defined, Definition, link, listed, no_links, no_ranges, no_terms, present, quantified, range, Ranges, reference, ResolvedLinks, ResolvedPart, ResolvedTree, term, unary}
use Rattle.zf_term.specs.ResolvedTrees.{ResolvedTrees}

-- ---- the infinite set that a term is

abbrev pub constant_set : Constant → Option Infinite
constant_set Integers = Some Num
constant_set Naturals = Some Nat
constant_set Positives = Some Nat1
constant_set _ = None

abbrev pub definition_extent : Definition → Extent
definition_extent (abbreviation t r x) = x
definition_extent _ = extent.Closed

abbrev pub extent_found : Option Defined → Extent
extent_found found = option_map_or (λ d. definition_extent d.definition) found extent.Closed

abbrev pub extent_named : List Defined → Reference → Extent
extent_named g (Global i) = extent_found (slice_get g i)
extent_named g _ = extent.Closed

abbrev pub extent_set : Extent → Option Infinite
extent_set (extent.Infinite s) = Some s
extent_set _ = None

-- the infinite set that the term is, within brackets or without
abbrev pub direct : List Defined → ResolvedTree → Option Infinite
direct g (reference l r) = extent_set (extent_named g r)
direct g (constant l c) = constant_set c
direct g (bracket l t) = direct g t
direct g _ = None

-- ---- what offends

abbrev pub is_membership : Relation → Bool
is_membership Member = true
is_membership NotMember = true
is_membership _ = false

abbrev pub is_last : ResolvedLinks → Bool
is_last no_links = true
is_last (link r t ks) = false

-- the infinite set that a link tests for: its whole right side, where that may be one
abbrev pub tested : List Defined → Relation → (last : Bool) → ResolvedTree → Option Infinite
tested g r last t = if is_membership r && last then direct g t else None

-- where a term may be an infinite set as a whole, that is no offence
abbrev pub unless : {A : Type 0} → Option A → List Offender → List Offender
unless None offenders = offenders
unless (Some s) offenders = []

-- the name of a global of this extent, if it offends
abbrev pub global_offenders : Span → (place : ℕ) → Extent → List Offender
global_offenders l i extent.Closed = []
global_offenders l i _ = Name l i ∷ []

abbrev pub name_offenders : Span → Reference → Extent → List Offender
name_offenders l (Global i) x = global_offenders l i x
name_offenders l _ x = []

abbrev pub constant_offenders : Span → Constant → Option Infinite → List Offender
constant_offenders l c None = []
constant_offenders l c (Some s) = Symbol l c ∷ []

abbrev pub offender_span : Offender → Span
offender_span (Name l i) = l
offender_span (Symbol l c) = l

-- what offends in a term, from left to right: an infinite set where none may stand, or a name whose term has one there
abbrev mutual
  pub offending : List Defined → ResolvedTree → List Offender
  offending g (reference l r) = name_offenders l r (extent_named g r)
  offending g (constant l c) = constant_offenders l c (constant_set c)
  offending g (bracket l t) = offending g t
  offending g (listed l form ts) = all_offending g ts
  offending g (comprehension l rs p t) = ranges_offending g rs ++ part_offending g p ++ part_offending g t
  offending g (unary l op t) = offending g t
  offending g (binary l op a b) = offending g a ++ offending g b
  offending g (chain l t ks) = offending g t ++ links_offending g ks
  offending g (quantified l q rs p t) = ranges_offending g rs ++ part_offending g p ++ offending g t
  offending g _ = []

  pub all_offending : List Defined → ResolvedTrees → List Offender
  all_offending g no_terms = []
  all_offending g (term t ts) = offending g t ++ all_offending g ts

  pub links_offending : List Defined → ResolvedLinks → List Offender
  links_offending g no_links = []
  links_offending g (link r t ks) = unless (tested g r (is_last ks) t) (offending g t) ++ links_offending g ks

  pub ranges_offending : List Defined → Ranges → List Offender
  ranges_offending g no_ranges = []
  ranges_offending g (range n t rs) = offending g t ++ ranges_offending g rs

  pub part_offending : List Defined → ResolvedPart → List Offender
  part_offending g absent = []
  part_offending g (present t) = offending g t

-- where a term that is an infinite set as a whole does not offend
abbrev pub offending_within : List Defined → ResolvedTree → List Offender
offending_within g t = unless (direct g t) (offending g t)

abbrev pub first : {A : Type 0} → List A → Option A
first [] = None
first (x ∷ xs) = Some x

-- ---- what a name has that is defined as a term

abbrev pub extent_by : Option Infinite → List Offender → Extent
extent_by (Some s) offenders = extent.Infinite s
extent_by None [] = extent.Closed
extent_by None (o ∷ os) = extent.Open

abbrev pub extent_of : List Defined → ResolvedTree → Extent
extent_of g t = extent_by (direct g t) (offending g t)
