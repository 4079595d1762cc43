use Rattle.law_answered.proofs.Shown.{each_binding_is_shown, events_are_shown, is_shown_in_one_way}
use Rattle.law_answered.proofs.each_binding_is_shown.Goals as goal

pub returns : goal.returns
returns c = record { bindings = each_binding_is_shown; events = events_are_shown; one = is_shown_in_one_way }
