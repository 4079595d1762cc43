-- What `why` finds is the answer of its request.
use Rattle.zf_answers.proofs.Prelude.{◌++◌, ◌∙◌, ◌≡◌, ap, Bool, Err, IfOk, List, None, Ok, Option, refl, Result, subst, sym, ℕ, codes, spellings, Value, Schema, Environment, portion, Status, WhyAnswer, AreHeld, IsAsked, IsNamedRow, Request, RequestAnswer, AnswersRequest, IfAnswered, TellsOut, Stop, OnOk, IsNoneOut, Done, CanBeSearched, cause_lines, environment_in, HasNone, no_binding_line, schema_in, TellsNone, TellsOf, TellsWhy, told_lines, Subject}
use Rattle.std.proofs.Common.{Global, Vec}
use Rattle.zf_command.specs.{IsBare}
use Rattle.zf_why.specs.{Explains, Split, split_at}
use Rattle.zf_why.specs.declared.cause.Cause.{Cause}
use Rattle.zf_why.specs.declared.cause.Cause.TheVariants.{Alone, Empty, Together}
use Rattle.zf_why.specs.declared.told.Told.{Told}
use Rattle.zf_answers.specs.Subjects.{IsOfSchema}
use Rattle.zf_answers.proofs.Refusing.{after_all, all_shown, out_answers}

-- no row is named where none is asked for
pub none_named : (r : Request) (e : Environment) (a : Schema) → IsBare r → IsNamedRow e a.comps r.after None
none_named r e a plain = subst (λ t. IsNamedRow e a.comps t None) (sym plain.0) refl

module _ (r : Request) (file source : List ℕ) (a : Schema) (e : Environment) (held : List (Option Value)) (plain : IsBare r)
    (is : IsAsked r source e.globals a e) (are : AreHeld e a.comps r.held held) where
  pub why_told : (text : List ℕ) (status : Status) → IsNoneOut e a.comps
      → TellsWhy r.format r.details file source e.globals a e (portion None held) text status → WhyAnswer r file source text status
  why_told text status none_out told =
      RequestAnswer.granted e.globals a e (portion None held) (record {
        asked = is;
        shown = a.comps;
        after = None;
        are_shown = all_shown r e a.comps plain.1;
        named = none_named r e a plain;
        begins = after_all r e a.comps plain.1 None;
        held = are;
        none_out = none_out;
      }) told

  pub why_found : {E : Type 0} (result : Result (Vec ℕ Global × Status) E) (details : Bool) → details ≡ r.details → OnOk result (IsNoneOut e a.comps)
      → IfOk result (λ p. TellsWhy r.format details file source e.globals a e (portion None held) p.0.items p.1) → IfOk result (λ p. WhyAnswer r file source p.0.items p.1)
  why_found (Ok (text, status)) details same none_out told = why_told text.items status none_out
      (subst (λ (d : Bool). TellsWhy r.format d file source e.globals a e (portion None held) text.items status) same told)
  why_found (Err stop) details same none_out told = tt

  pub why_out : (stop : Stop) → IfAnswered stop (TellsOut e a.comps) → AnswersRequest r source stop
  why_out stop h = out_answers r source e.globals a e is a.comps None held (all_shown r e a.comps plain.1) (none_named r e a plain) are stop h

-- a cause of empty ranges speaks of each component
pub of_schema : (e : Environment) (a : Schema) (held : List (Option Value)) (details : Bool) (splits : ℕ → Split) (cause : Cause)
    → Explains e a held details splits cause → IsOfSchema a cause
of_schema e a held details splits (Empty empty) h = h.0.each
of_schema e a held details splits (Alone told) h = tt
of_schema e a held details splits (Together told) h = tt

module _ (s : Subject) (details : Bool) (file source : List ℕ) where
  -- the lines of a cause say why
  pub why_none : {E : Type 0} (result : Result (Vec ℕ Global) E) (cause : Cause) → Explains (environment_in s) (schema_in s) s.held.now details (split_at s.schema.now.conjuncts) cause
      → IfOk result (λ v. v.items ≡ cause_lines s.style.now.format details file source s.style.now.elements.now (schema_in s) cause)
      → IfOk result (λ v. TellsNone s details file source v.items)
  why_none (Ok text) cause explains told = (cause, explains, told)
  why_none (Err e) cause explains told = tt

  spelled : CanBeSearched s → (told : List Told) (ending text : List ℕ)
      → text ≡ told_lines s.style.now.format details file source (schema_in s).comps s.style.now.elements.now told ++ ending
      → text ≡ told_lines s.style.now.format details file source (schema_in s).comps (spellings (environment_in s).globals) told ++ ending
  spelled can told ending text is = is ∙ ap (λ ss. told_lines s.style.now.format details file source (schema_in s).comps ss told ++ ending) can.spelled

  -- a schema without an event, and why
  pub none_told : CanBeSearched s → (text : List ℕ) → HasNone s → TellsNone s details file source text → TellsOf s details file source text Done
  none_told can text none (Empty empty, explains, told) = TellsWhy.emptied empty.items none.events explains told refl
  none_told can text none (Alone tellings, (alone, refuted, are), told) =
      TellsWhy.refuted alone none.events refuted
      (split_at s.schema.now.conjuncts, tellings.items, are, spelled can tellings.items (no_binding_line s.style.now.format (codes "each alone")) text told) refl
  none_told can text none (Together tellings, (core, refuted, are), told) =
      TellsWhy.refuted_together core none.events refuted
      (split_at s.schema.now.conjuncts, tellings.items, are, spelled can tellings.items (no_binding_line s.style.now.format (codes "only together")) text told) refl
