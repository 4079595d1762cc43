use Rattle.zf_meaning.proofs.Prelude.{◌≡◌, drop, length, List, map, Option, ℕ, Truth, Value, Quantifier, links, part_of, resolved_link_of, resolved_of, Range, Resolved, conjunction, found_outcome, AreLinked, seen, spread, ahead, scope_of, Span}
use Rattle.zf_term.specs.declared.resolved.Resolved.TheVariants as form
use Rattle.zf_meaning.proofs.Builds.{HasBuilt}
use Rattle.zf_meaning.proofs.Gathering.{GathersTo, RangesTo}
use Rattle.zf_meaning.proofs.Told.{IsTallied}
use Rattle.zf_meaning.proofs.Walking.{WalksOver, FilterIn, TermIn, ToldIn, NeutralIn}
use Rattle.zf_meaning.proofs.evaluate.+meaning.Given as goal

abbrev pub invariant-binders::built_over-walk : goal.invariant-binders::built_over-walk
invariant-binders::built_over-walk g l =
    (done : List (List Value)) × WalksOver (NeutralIn l.term (scope_of l.env (g.R.Row.values l.row) l.locals)) l.rows (seen l.locals) (spread l.sets) done
    × ((n : Span) (rs : List Range) (p e : Option Resolved) → l.term ≡ form.Comprehension n rs p e
    → HasBuilt (FilterIn (scope_of l.env (g.R.Row.values l.row) l.locals) (part_of p))
    (TermIn (scope_of l.env (g.R.Row.values l.row) l.locals) (part_of e)) done l.built.items)

abbrev pub decreases-binders::built_over-walk : goal.decreases-binders::built_over-walk
decreases-binders::built_over-walk g l = length (ahead l.rows)

abbrev pub invariant-binders::over_rows-walk : goal.invariant-binders::over_rows-walk
invariant-binders::over_rows-walk g l =
    (done : List (List Value)) × WalksOver (NeutralIn l.term (scope_of l.env (g.R.Row.values l.row) l.locals)) l.rows (seen l.locals) (spread l.sets) done
    × ((q : Quantifier) (n : Span) (rs : List Range) (p : Option Resolved) (e : Resolved) → l.term ≡ form.Quantified q n rs p e
    → IsTallied (ToldIn (scope_of l.env (g.R.Row.values l.row) l.locals) q (part_of p) (resolved_of e)) done l.tally)

abbrev pub decreases-binders::over_rows-walk : goal.decreases-binders::over_rows-walk
decreases-binders::over_rows-walk g l = length (ahead l.rows)

abbrev pub invariant-chains::linked-loop-place : goal.invariant-chains::linked-loop-place
invariant-chains::linked-loop-place g l =
    (u : Truth) → AreLinked (scope_of l.env (g.R.Row.values l.row) l.locals) (found_outcome l.left) (links (map resolved_link_of (drop l.place l.links))) u
    → AreLinked (scope_of l.env (g.R.Row.values l.row) l.locals) (found_outcome l.initial.left) (links (map resolved_link_of l.links)) (conjunction l.truth u)

abbrev pub invariant-operands::gather-loop-term : goal.invariant-operands::gather-loop-term
invariant-operands::gather-loop-term g l =
    GathersTo (scope_of l.env (g.R.Row.values l.row) l.locals) l.terms (drop l.term-index l.terms) l.gathered.lack l.gathered.values.items

abbrev pub invariant-ranges::declared_sets-loop-range : goal.invariant-ranges::declared_sets-loop-range
invariant-ranges::declared_sets-loop-range g l =
    RangesTo (scope_of l.env (g.R.Row.values l.row) l.locals) l.ranges (drop l.range-index l.ranges) l.declared.lack (spread l.declared.sets.items)
