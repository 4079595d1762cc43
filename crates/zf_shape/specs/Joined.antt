-- How high terms are that are joined. For private contracts alone.
use Rattle.std.specs.Prelude.{ℕ, ◌+◌, ◌-◌, ◌≤◌, min, List, [], ◌∷◌}
use Rattle.zf_tree.specs.declared.span.Span.{Span}
use Rattle.zf_term.specs.{height, ResolvedTree}

-- a place: where terms stand that are joined makes no difference to their shape
abbrev pub anywhere : Span
anywhere = record { start = 0; stop = 0 }

-- none of the terms is too high, where each stands as much deeper as terms are ahead, itself among them, and at most so deep
abbrev pub AreLow : (highest deepest ahead : ℕ) → List ResolvedTree → Type 0
AreLow n d a [] = Unit {0}
AreLow n d a (t ∷ ts) = (height t + min a d ≤ n) × AreLow n d (a - 1) ts
