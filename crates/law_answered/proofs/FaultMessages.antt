-- Messages of faults, each with something beside it: there are some, of no faults there are none, and without details they are plain.
use Rattle.law_answered.proofs.Prelude.{◌∙◌, ◌∷◌, ◌≡◌, [], ap, Bool, List, refl, sym, ℕ, Fault, AreFaultMessages, map, Message, nothing, plain_message, PlainMessages, Reported}
use mathlib.Core.List.{map-map}

abbrev bare : Fault → Reported
bare fault = record { fault = fault; aside = nothing }

faults_of_bare : (faults : List Fault) → map (λ (r : Reported). r.fault) (map bare faults) ≡ faults
faults_of_bare [] = refl
faults_of_bare (fault ∷ faults) = ap (λ fs. fault ∷ fs) (faults_of_bare faults)

pub some_messages : (details : Bool) (source : List ℕ) (faults : List Fault) → (told : List Message) × AreFaultMessages details source faults told
some_messages details source faults = (_, (map bare faults, faults_of_bare faults, refl))

pub messages_of_none : (details : Bool) (source : List ℕ) (told : List Message) → AreFaultMessages details source [] told → told ≡ []
messages_of_none details source told ([], same, is) = is
messages_of_none details source told (r ∷ rs, same, is) = cc

pub plain_messages : PlainMessages
plain_messages source faults told (rs, same, is) =
    is ∙ sym (map-map (plain_message source) (λ (r : Reported). r.fault) rs) ∙ ap (map (plain_message source)) same
