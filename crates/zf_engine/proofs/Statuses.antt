-- The status of words that are refused.
use Rattle.zf_engine.proofs.Prelude.{inl, inr, List, ℕ, IsStatus, IsStatusOfRefused}
use Rattle.zf_command.proofs.Excluded.{refused_ask_no_work}

pub status_of_refused : (words : List (List ℕ)) (n : ℕ) → IsStatus words n → IsStatusOfRefused words n
status_of_refused words n (IsStatus.refused bad two) refused untold = inl two
status_of_refused words n (IsStatus.told text asked is) refused untold = absurd (untold asked)
status_of_refused words n (IsStatus.worked file job work is) refused untold = absurd (refused_ask_no_work words file job refused work)
status_of_refused words n (IsStatus.unread four) refused untold = inr four
