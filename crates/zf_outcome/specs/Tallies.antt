-- Which truths a quantifier has met, and what they settle. No public clause rests on this.
use Rattle.std.specs.Prelude.{Bool, true, false, if◌then◌else◌}
use Rattle.zf_outcome.specs.Prelude.{Quantifier, ForAll, Exists, ExistsOne, Truth, True, False, Out}
use Rattle.zf_outcome.specs.declared.tally.Tally.{Tally}

abbrev pub none : Tally
none = record { has_true = false; has_two = false; has_false = false; has_out = false }

abbrev pub with : Tally → Truth → Tally
with t True = record { has_true = true; has_two = t.has_true; has_false = t.has_false; has_out = t.has_out }
with t False = record { has_true = t.has_true; has_two = t.has_two; has_false = true; has_out = t.has_out }
with t Out = record { has_true = t.has_true; has_two = t.has_two; has_false = t.has_false; has_out = true }

abbrev pub is_settled : Quantifier → Tally → Bool
is_settled ForAll t = t.has_false
is_settled Exists t = t.has_true
is_settled ExistsOne t = t.has_two

abbrev pub when_settled : Quantifier → Truth
when_settled ForAll = False
when_settled Exists = True
when_settled ExistsOne = False

abbrev pub when_over : Quantifier → Bool → Truth
when_over ForAll b = True
when_over Exists b = False
when_over ExistsOne true = True
when_over ExistsOne false = False

abbrev pub truth_by : Quantifier → Tally → Truth
truth_by q t = if is_settled q t then when_settled q else (if t.has_out then Out else when_over q t.has_true)
