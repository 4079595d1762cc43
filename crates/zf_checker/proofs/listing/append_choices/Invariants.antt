-- The text has grown by the names so far.
use Rattle.zf_checker.proofs.Prelude.{◌++◌, ◌≡◌, take, choices_text}
use Rattle.zf_checker.proofs.listing.append_choices.Given as goal

abbrev pub invariant-loop-i : goal.invariant-loop-i
invariant-loop-i l = l.text.items ≡ l.initial.text.items ++ choices_text (take l.i l.names)
