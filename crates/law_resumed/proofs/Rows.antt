-- The text of each event of a search is the line of a row of the schema's types.
use Rattle.std.proofs.Common.{refl}
use Rattle.zf_term.specs.{schema}
use Rattle.law_sound.proofs.Rows.{events_of_texts_typed}
use Rattle.zf_answers.specs.{numbers_of, stated}
use Rattle.zf_schema.proofs.Named.{named_there}
use Rattle.law_resumed.specs.{LinesAreRows}
use Rattle.law_resumed.proofs.Held.{held_typed}

pub lines_are_rows : LinesAreRows
lines_are_rows r source globals a e p last events x search has member =
    let asked = search.asked in
    let named = asked.has_schema.named in
    let checks = asked.has_schema.checks in (
      events_of_texts_typed checks.boxes globals _ (stated globals r.setting) (numbers_of r.setting) e named.0 r.name a p.held has.ranges p.after x checks.judged asked.environment
          (named_there (λ d. d.name) r.name globals (named.0, record { name = r.name; definition = schema a }) named.1).0
          (held_typed e a.comps r.held p.held search.held) has.of_components ((has.listed.members x).0 member).0,
      refl,
    )
