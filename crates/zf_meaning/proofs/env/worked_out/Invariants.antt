use Rattle.zf_meaning.proofs.Prelude.{◌≡◌, globals_of, environment_of}
use Rattle.zf_meaning.proofs.WorkedOut.{AreWorkedOutTo}
use Rattle.zf_meaning.proofs.env.worked_out.Given as goal

abbrev pub invariant-loop-place : goal.invariant-loop-place
invariant-loop-place l = record {
  globals : globals_of l.env.globals.now ≡ globals_of l.globals;
  sizes : l.env.sizes.items ≡ l.initial.env.sizes.items;
  numbers : l.env.numbers ≡ l.initial.env.numbers;
  outcomes : AreWorkedOutTo l.place (environment_of l.env);
}
