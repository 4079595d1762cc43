-- A name as contracts see it: its base, its strokes as spelled, and where it stands. An identifier is a name without its place.
use Rattle.std.specs.Prelude.{ℕ, List, ◌++◌}
use Rattle.zf_tree.specs.declared.span.Span.{Span}

pub record Name : Type 0 where
  pub base : List ℕ
  pub strokes : List ℕ
  pub span : Span

-- two names are the same name where their spellings are equal
abbrev pub spelling : Name → List ℕ
spelling n = n.base ++ n.strokes
