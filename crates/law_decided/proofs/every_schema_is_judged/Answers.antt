use Rattle.law_decided.proofs.Schemas.{text_judged, schema_judged}
use Rattle.law_decided.proofs.every_schema_is_judged.Goals as goal

pub returns : goal.returns
returns c = record { texts = text_judged; expressions = schema_judged }
