-- How the lines of a search end. No public clause rests on this file.
use Rattle.std.specs.Prelude.{◌≡◌, ℕ, List, ◌∷◌, [], ◌++◌, length, Option, Some, None}
use Rattle.zf_lines.specs.Prelude.{Appends, Schema, Value, Out, Event, Stage, Environment}
use Rattle.zf_lines.specs.declared.ending.Ending as ending
use Rattle.zf_lines.specs.declared.ending.Ending.TheVariants as endings
use Rattle.zf_lines.specs.declared.fault.Status.{Status}
use Rattle.zf_lines.specs.declared.fault.Status.TheVariants.{Done, PastBounds}
use Rattle.zf_lines.specs.Searches.{Hold, IsBelow, lines, Wording}
use Rattle.zf_lines.specs.Shown.{FindsEvents}

abbrev pub ending_status : ending.Ending → Status
ending_status endings.More = Done
ending_status endings.Out = PastBounds
ending_status endings.End = Done

abbrev pub last_text : Wording Value → ending.Ending → List Value → List ℕ
last_text w endings.More row = w.more
last_text w endings.Out row = w.out row
last_text w endings.End row = w.end

-- the events up to the last one, of which these are written
abbrev pub IsEnd : (limit : Option ℕ) → (events held : List (Event Value)) → (last : Option (List Value)) → ending.Ending → Type 0
IsEnd limit events held last endings.More = (front : List (Event Value)) × (e : Event Value) × (events ≡ front ++ e ∷ []) × (last ≡ Some e.row) × Hold events × (limit ≡ Some (length events)) × (held ≡ events)
IsEnd limit events held last endings.Out = (e : Event Value) × (events ≡ held ++ e ∷ []) × (last ≡ Some e.row) × Hold held × (e.truth ≡ Out) × IsBelow limit (length held)
IsEnd limit events held last endings.End = (last ≡ None) × Hold events × IsBelow limit (length events) × (held ≡ events)

-- the lines of a search that began here are written, which ends where it stands now
pub record EndsBy (w : Wording Value) (limit : Option ℕ) (e : Environment) (a : Schema) (b : Stage Value) (by : ending.Ending) (c : Stage Value) (old new : Option (List ℕ)) : Type 0 where
  pub events : List (Event Value)
  pub held : List (Event Value)
  pub listed : FindsEvents e a b c.last events
  pub ended : IsEnd limit events held c.last by
  pub written : Appends old new (lines w held)
