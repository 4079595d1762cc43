-- Searches of several schemas. No public clause rests on this file, but those of the machine.
use Rattle.std.specs.Prelude.{List, [], ◌∷◌}
use Rattle.zf_steps.specs.Prelude.{Schema, Environment}

module _ {S : Type 0} (IsFor : S → Environment → Schema → Type 0) (e : Environment) where
  -- a search for each schema, in their order
  abbrev pub AreFor : List Schema → List S → Type 0
  AreFor [] [] = Unit {0}
  AreFor [] (s ∷ ss) = ⊥
  AreFor (a ∷ schemas) [] = ⊥
  AreFor (a ∷ schemas) (s ∷ ss) = IsFor s e a × AreFor schemas ss
