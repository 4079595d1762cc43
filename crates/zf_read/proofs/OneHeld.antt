-- A line of some components holds one list of values.
use Rattle.zf_read.proofs.Prelude.{◌+◌, ◌∙◌, ◌∷◌, ◌≡◌, [], List, nothing_of, Option, Some, sym, ℕ, Value, Comp, Environment, AreClear, HaveClearNames, HoldNext, Spelling, OneHeldLine}
use Rattle.std.specs.Prelude.{set}
use Rattle.zf_read.proofs.HeldSoFar.{ends_more, one_part, some_part}

module _ (ss : List Spelling) (e : Environment) (cs : List Comp) (clear : AreClear ss e.sizes) (names : HaveClearNames cs) where
  one_next : (n : ℕ) (bytes : List ℕ) (before : List (Option Value)) (ps qs : List (ℕ × Value)) (xs ys : List (Option Value))
      → HoldNext ss e cs n bytes before ps xs → HoldNext ss e cs n bytes before qs ys → xs ≡ ys
  one_next n bytes before [] [] xs ys h g = h.1 ∙ sym g.1
  one_next n bytes before [] (q ∷ qs) xs ys h (more, part, g) = absurd (some_part ss e cs n bytes before q.0 q.1 more part h.0)
  one_next n bytes before (p ∷ ps) [] xs ys (rest, part, h) g = absurd (some_part ss e cs n bytes before p.0 p.1 rest part g.0)
  one_next n bytes before (p ∷ ps) (q ∷ qs) xs ys (rest, part, h) (more, other, g) =
      let one = one_part ss e cs clear names n bytes before p.0 q.0 p.1 q.1 rest more part other (ends_more ss e cs part.comp n rest (set before p.0 (Some p.1)) ps xs h)
      (λ c. ends_more ss e cs c n more (set before q.0 (Some q.1)) qs ys g) in
      one_next (n + 1) rest (set before p.0 (Some p.1)) ps qs xs ys h (rw (sym one.0, sym one.1, sym one.2) at g)

pub one_held_line : OneHeldLine
one_held_line ss e cs text held other clear names h k = one_next ss e cs clear names 0 text (nothing_of cs) h.0 k.0 held other h.1 k.1
