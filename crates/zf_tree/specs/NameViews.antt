-- Identifiers: names without their places, as the program keeps them.
use Rattle.std.specs.Prelude.{ℕ, Bool, true, false, List, [], ◌∷◌}
use Rattle.zf_tree.specs.Names.{Name}
use Rattle.zf_tree.specs.declared.span.Span.{Span}

pub record Ident : Type 0 where
  pub base : List ℕ
  pub strokes : List ℕ

abbrev pub ident_of : Name → Ident
ident_of n = record { base = n.base; strokes = n.strokes }

abbrev pub name_at : Span → Ident → Name
name_at s i = record { base = i.base; strokes = i.strokes; span = s }

-- it has no strokes
abbrev pub is_bare : List ℕ → Bool
is_bare [] = true
is_bare (s ∷ ss) = false
