-- Which form a term has. No public clause rests on this.
use Rattle.std.specs.Prelude.{◌≡◌, ℕ, List, Option}
use Rattle.zf_meaning.specs.Prelude.{Quantifier, Resolved, Span}
use Rattle.zf_tree.specs.declared.operator.Operator.{Operator}
use Rattle.zf_term.specs.declared.resolved.Resolved.TheVariants as form
use Rattle.zf_term.specs.declared.resolved.ResolvedLink.{ResolvedLink}
use Rattle.zf_term.specs.declared.resolved.Range.{Range}

abbrev pub IsBinary : Resolved → Type 0
IsBinary t = (l : Span) × (op : Operator) × (a b : Resolved) × (t ≡ form.Binary l op a b)

abbrev pub IsChain : Resolved → Type 0
IsChain t = (l : Span) × (a : Resolved) × (ks : List ResolvedLink) × (t ≡ form.Chain l a ks)

abbrev pub IsQuantified : Resolved → Type 0
IsQuantified t = (q : Quantifier) × (l : Span) × (rs : List Range) × (p : Option Resolved) × (e : Resolved) × (t ≡ form.Quantified q l rs p e)

abbrev pub IsComprehension : Resolved → Type 0
IsComprehension t = (l : Span) × (rs : List Range) × (p e : Option Resolved) × (t ≡ form.Comprehension l rs p e)
