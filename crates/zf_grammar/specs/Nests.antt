-- Function values that read terms and schema expressions. No public clause rests on this file.
use Rattle.std.specs.Prelude.{ℕ, ◌≤◌, List, Result, IfOk}
use Rattle.zf_grammar.specs.Prelude.{TextFault, SchemaExp, Term, Symbol}
use Rattle.std.specs.declared.alloc.Global.{Global}
use Rattle.std.specs.contracts.impls.GlobalAllocator.TheImpl.{ghosts}
use Rattle.bumpalo.specs.declared.bump.Bump.{Bump}
use denote.Bor.{Bor}
use denote.Ref.{MutBor}
use Rattle.zf_grammar.specs.declared.tall.Tall.{Tall}
use Rattle.zf_grammar.specs.BoxReading.{read_schema}
use Rattle.zf_grammar.specs.TermReading.{read_term, Gives}

abbrev Arena : Type 0
Arena = Bor (Bump Global ghosts)

-- the function reads terms of at most this height
pub record Nests (below : ℕ) (pre : Arena → MutBor (List Symbol) → ℕ → ℕ → Type 0)
    (post : Arena → MutBor (List Symbol) → ℕ → ℕ → Result (Tall Term) TextFault → MutBor (List Symbol) → Type 0) : Type 0 where
  pub small : below ≤ 999
  pub callable : (arena : Arena) (old : MutBor (List Symbol)) (least : ℕ) → pre arena old below least
  pub reads : (arena : Arena) (old new : MutBor (List Symbol)) (least : ℕ) (r : Result (Tall Term) TextFault) → post arena old below least r new
      → Gives (read_term below least old.now) r new.now
  pub low : (arena : Arena) (old new : MutBor (List Symbol)) (least : ℕ) (r : Result (Tall Term) TextFault) → post arena old below least r new
      → IfOk r (λ x. x.height ≤ below)

-- the function reads schema expressions of at most this height
pub record SchemaNests (below : ℕ) (pre : Arena → MutBor (List Symbol) → ℕ → Type 0)
    (post : Arena → MutBor (List Symbol) → ℕ → Result (Tall SchemaExp) TextFault → MutBor (List Symbol) → Type 0) : Type 0 where
  pub small : below ≤ 999
  pub callable : (arena : Arena) (old : MutBor (List Symbol)) → pre arena old below
  pub reads : (arena : Arena) (old new : MutBor (List Symbol)) (r : Result (Tall SchemaExp) TextFault) → post arena old below r new → Gives (read_schema below old.now) r new.now
  pub low : (arena : Arena) (old new : MutBor (List Symbol)) (r : Result (Tall SchemaExp) TextFault) → post arena old below r new → IfOk r (λ x. x.height ≤ below)
