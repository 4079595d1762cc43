-- The answers of `job_of`, from what `clap` ensures of its matches and its errors.
use Rattle.zf_command.proofs.Prelude.{◌∙◌, inl, inr, map, sym, DisplayHelp, DisplayVersion}
use Rattle.zf_command.proofs.Refusals.{among_kinds, answered, are_matches}
use Rattle.zf_command.proofs.asked.job_of.Goals as goal

pub returns-in-DisplayHelp-clause-asked : goal.returns-in-DisplayHelp-clause-asked
returns-in-DisplayHelp-clause-asked g c =
    inl (among_kinds _ _ c.in-Err.error DisplayHelp c.in_ok-command.ensures.0 (sym c.kind.ensures ∙ c.in-DisplayHelp.is) (λ e. cc) c.in-Err.ensures.kinds)

pub returns-in-DisplayVersion-clause-asked : goal.returns-in-DisplayVersion-clause-asked
returns-in-DisplayVersion-clause-asked g c =
    inr (among_kinds _ _ c.in-Err.error DisplayVersion c.in_ok-command.ensures.0 (sym c.kind.ensures ∙ c.in-DisplayVersion.is) (λ e. cc) c.in-Err.ensures.kinds)

pub returns-in-Some-clause-asked : goal.returns-in-Some-clause-asked
returns-in-Some-clause-asked g c =
    answered (map g.S.AsStr.text c.args.words.now) _ _ _ (are_matches _ (map g.S.AsStr.text c.args.words.now) c.in-Ok.matches _ _ c.in_ok-command.ensures.0
    c.in-Ok.ensures.matches c.in-Ok.ensures.kinds c.in-Some.ensures.name c.in-Some.ensures.rows) c.work_in.ensures.asked

pub returns-in-Some-clause-refused : goal.returns-in-Some-clause-refused
returns-in-Some-clause-refused g c = λ e. inr (
  _,
  _,
  are_matches _ (map g.S.AsStr.text c.args.words.now) c.in-Ok.matches _ _ c.in_ok-command.ensures.0
      c.in-Ok.ensures.matches c.in-Ok.ensures.kinds c.in-Some.ensures.name c.in-Some.ensures.rows,
  c.work_in.ensures.refused e,
)

pub returns : goal.returns
returns g c = record {
  asked = tt;
  refused = λ _. inl (
    c.kind.result,
    among_kinds _ _ c.in-Err.error c.kind.result c.in_ok-command.ensures.0 (sym c.kind.ensures) (λ e. c.in_default.not-OutOfMemory e) c.in-Err.ensures.kinds,
    λ e. c.in_default.not-OutOfMemory e,
    λ e. c.in_default.not-DisplayHelp e,
    λ e. c.in_default.not-DisplayVersion e,
  );
}
