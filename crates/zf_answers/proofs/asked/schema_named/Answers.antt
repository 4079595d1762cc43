use Rattle.zf_answers.proofs.Prelude.{◌∙◌, ◌∷◌, [], ap, globals_of, no_schema_message}
use Rattle.zf_answers.proofs.Refusing.{weaker}
use Rattle.zf_answers.proofs.asked.schema_named.Goals as goal

pub returns-in_default-clause-stop : goal.returns-in_default-clause-stop
returns-in_default-clause-stop c =
    weaker c.told.result (λ told status is. record {
      none = λ a named. (rw c.as_str.ensures at c.in_default.ensures) named.0 a named.1;
      message = is.0 ∙ ap (λ m. m ∷ []) (c.in_ok-message.ensures ∙ ap (no_schema_message c.args.details (globals_of c.args.globals.now)) c.as_bytes.ensures);
      bad = is.1;
    }) c.told.ensures

pub returns-clause-named : goal.returns-clause-named
returns-clause-named c = rw c.as_str.ensures at c.in-Some.ensures
