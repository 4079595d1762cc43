use Rattle.law_sound.proofs.Rows.{rows_typed, events_typed, events_of_texts_typed}
use Rattle.law_sound.proofs.laws.rows_typed.Goals as goal

pub returns-clause-rows : goal.returns-clause-rows
returns-clause-rows c = rows_typed

pub returns-clause-events : goal.returns-clause-events
returns-clause-events c = events_typed

pub returns-clause-texts : goal.returns-clause-texts
returns-clause-texts c = events_of_texts_typed
