-- What is written of the parts that a search has, by what is written of those that are kept.
use Rattle.zf_parts.proofs.Prelude.{inr, List, Option, ℕ, Value, Err, IfOk, Ok, OnErr, Result, Appends, Status, Wording, Environment, Schema, Stage, AreCollected, StopsKept, StopsParts, WritesKept, WritesParts}
use Rattle.zf_lines.specs.declared.fault.RunFault.{RunFault}
use Rattle.zf_parts.proofs.Keeping.{Entry}

module _ (w : Wording Value) (limit : Option ℕ) (e : Environment) (a : Schema) (b : Stage Value) (places : List ℕ) (after : Option (List Value)) (entries : List Entry) (old new : Option (List ℕ))
    (collected : AreCollected e a b places after entries) where
  pub all_written : (r : Result Status RunFault) → IfOk r (λ status. WritesKept w limit entries status old new)
      → IfOk r (λ status. (text : List ℕ) × WritesParts w limit e a b places after text status × Appends old new text)
  all_written (Err f) h = tt
  all_written (Ok status) h =
      let (parts, found, kept) = collected in
      let (text, written, appends) = h parts kept in
      (text, record { parts = parts; found = found; written = written }, appends)

  pub front_written : (r : Result Status RunFault) → OnErr r (StopsKept w limit entries old new) → OnErr r (StopsParts w limit e a b places after old new)
  front_written (Ok status) h = tt
  front_written (Err f) h =
      let (parts, found, kept) = collected in
      let (text, status, written, front) = h parts kept in
      inr (text, status, record { parts = parts; found = found; written = written }, front)
