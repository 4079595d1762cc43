-- Two answers of one job on one source have one status, and one text but for what is left open.
use Rattle.law_answered.proofs.Prelude.{◌++◌, ◌∙◌, ◌∷◌, ◌≡◌, [], ap, Bool, inl, inr, List, None, Option, Some, subst, sym, ℕ, Defined, Schema, Fault, Environment, IsEnvironment, Portion, Job, Check, Reach, Show, Why, Status, Answer, check_status, CheckAnswer, Checks, HasSchema, RefusesSource, RequestAnswer, TellsShown, TellsWhy, TextFault, JobAnswer, Request, stated, UnreadAnswer, wants_details, AreAlike, AreFaultsAlike, AreMessagesAlike, AreOfSame, Format, format_of, Message, messages_text, OneStatus, OneText, AreFaultMessages, listed, numbers_of, AreClear, spellings, ◌⊎◌, AreMessages, TellsFaults, TellsMachine}
use Rattle.law_answered.proofs.Explorations.{one_told_of}
use Rattle.law_answered.proofs.Explorations as explorations
use Rattle.law_answered.proofs.OneSource.{one_checked, one_refused, unread}
use Rattle.law_answered.proofs.OneSearch.{clear_at, one_shown}
use Rattle.law_answered.proofs.OneParts.{one_shown_parts}
use Rattle.law_answered.proofs.Stages.{AtSchema, both_answers, staged, Telling}
use Rattle.law_answered.proofs.Refusals.{IfRefused}
use Rattle.law_answered.proofs.Reasons.{AreOneReason, one_told}
use Rattle.law_answered.proofs.FaultMessages.{messages_of_none}

-- one status, and texts that are alike
abbrev IsOne : Format → (details : Bool) → (file source one two : List ℕ) → (s t : Status) → Type 0
IsOne f details file source one two s t = (s ≡ t) × AreAlike f details file source one two

-- so it is where both are refused
refused_alike : (f : Format) (details : Bool) (file source one two : List ℕ) (s t : Status)
    → IfRefused f details file source one two s t (IsOne f details file source one two s t)
refused_alike f details file source one two s t first second alike is also = (alike.0, AreAlike.messages first second alike.2 is also)

-- two lists of messages in a format
in_format : (f : Format) (details : Bool) (file source one two : List ℕ) (first second : List Message) (s t : Status)
    → one ≡ messages_text f file first → two ≡ messages_text f file second → (s ≡ t) × AreMessagesAlike details source first second → IsOne f details file source one two s t
in_format f details file source one two first second s t is also alike = (alike.0, AreAlike.messages first second alike.1 is also)

-- ---- answers of `check`

alike_faults : (f : Format) (details : Bool) (file source : List ℕ) (g : List Defined) (es fs : List Fault) (ones twos : List Message) (listing one two : List ℕ)
    (s t : Status) → Checks source g es → Checks source g fs → AreOfSame es fs → AreFaultMessages details source es ones → AreFaultMessages details source fs twos
    → one ≡ messages_text f file ones ++ listing → two ≡ messages_text f file twos ++ listing → s ≡ check_status es → t ≡ check_status fs → IsOne f details file source one two s t
alike_faults f details file source g [] [] ones twos listing one two s t p q same are also_are told also_told done also_done =
    let none = messages_of_none details source ones are ∙ sym (messages_of_none details source twos also_are) in
    (done ∙ sym also_done, AreAlike.same (told ∙ ap (λ ms. messages_text f file ms ++ listing) none ∙ sym also_told))
alike_faults f details file source g [] (d ∷ fs) ones twos listing one two s t p q same are also_are told also_told done also_done = absurd same
alike_faults f details file source g (e ∷ es) [] ones twos listing one two s t p q same are also_are told also_told done also_done = absurd same
alike_faults f details file source g (e ∷ es) (d ∷ fs) ones twos listing one two s t p q same are also_are told also_told done also_done =
    let alike : AreFaultsAlike details source ones twos =
    record { globals = g; first = e ∷ es; second = d ∷ fs; checks = p; also_checks = q; some = λ none. cc; same = same; messages = are; also_messages = also_are }
    in
    (done ∙ sym also_done, AreAlike.listed ones twos listing alike told also_told)

one_check_answer : (types details : Bool) (f : Format) (file source one two : List ℕ) (s t : Status)
    → CheckAnswer types details f file source one s → CheckAnswer types details f file source two t → IsOne f details file source one two s t
one_check_answer types details f file source one two s t (g, es, p, (ones, are, told), done) (h, fs, q, (twos, also_are, also_told), also_done) =
    let c = one_checked source g h es fs p q in
    alike_faults f details file source h es fs ones twos (listed types h) one two s t (subst (λ h. Checks source h es) c.0 p) q c.1 are also_are
    (told ∙ ap (λ h. messages_text f file ones ++ listed types h) c.0) also_told done also_done

-- ---- answers of a job

-- what is judged is read, so it is not refused
judged : (f : Format) (details : Bool) (file source text : List ℕ) (status : Status) (Goes : List Defined → Type 0) (fault : TextFault)
    → RefusesSource source fault
    → AreMessages f file (TellsFaults details source) text status ⊎ ((g : List Defined) × Checks source g [] × Goes g) → ⊥
judged f details file source text status Goes fault refused (inl x) = let checks = x.1.checks in unread source fault checks.boxes refused checks.reads
judged f details file source text status Goes fault refused (inr x) = let checks = x.1 in unread source fault checks.boxes refused checks.reads

read_request : (Tells : Telling) (r : Request) (file source text : List ℕ) (status : Status) (fault : TextFault) → RefusesSource source fault
    → RequestAnswer Tells r file source text status → ⊥
read_request Tells r file source text status fault refused answer =
    judged r.format r.details file source text status (AtSchema Tells r file source text status) fault refused (staged Tells r file source text status answer)

read_unread : (job : Job) (file source : List ℕ) (one : List Message) (two : List ℕ) (s t : Status)
    → UnreadAnswer (wants_details job) source one s → JobAnswer job file source two t → ⊥
read_unread (Check types details format) file source one two s t (fault, about, refused, told, bad) (g, es, p, are, done) =
    unread source fault p.boxes refused p.reads
read_unread (Show r) file source one two s t (fault, about, refused, told, bad) answer = read_request (TellsShown r.only r) r file source two t fault refused answer
read_unread (Reach x) file source one two s t (fault, about, refused, told, bad) answer =
    let Tells = TellsMachine x.sought x in
    judged x.format x.details file source two t (explorations.AtSchemas Tells x file source two t) fault refused
    (explorations.staged x file source two t answer)
read_unread (Why r) file source one two s t (fault, about, refused, told, bad) answer = read_request (TellsWhy r.format r.details file source) r file source two t fault refused answer

one_unread : (details : Bool) (source : List ℕ) (one two : List Message) (s t : Status) → UnreadAnswer details source one s → UnreadAnswer details source two t
    → (s ≡ t) × AreMessagesAlike details source one two
one_unread details source one two s t (e, x, refused, told, bad) (f, y, other_refused, other_told, other_bad) =
    (bad ∙ sym other_bad, one_refused details source one two e f x y refused other_refused told other_told)

one_reason : (r : Request) (file source one two : List ℕ) (g : List Defined) (a : Schema) (e : Environment) (p : Portion) → HasSchema source r.name g a
    → IsEnvironment g (stated g r.setting) (numbers_of r.setting) e
    → AreOneReason r.format r.details file source g a e p one two → AreAlike r.format r.details file source one two
one_reason r file source one two g a e p has is (inl same) = AreAlike.same same
one_reason r file source one two g a e p has is (inr (inl (alone, x, told, other_told))) = AreAlike.sides r.name g a (stated g r.setting) (numbers_of r.setting) e p.held alone has is x told other_told
one_reason r file source one two g a e p has is (inr (inr (first, second, x, y, told, other_told))) = AreAlike.reasons r.name g a (stated g r.setting)
    (numbers_of r.setting) e p.held first second has is x y told other_told

-- what is shown is one text
one_shown_told : (only : Option (List ℕ)) (r : Request) (file source one two : List ℕ) (s t : Status) (g : List Defined) (a : Schema) (e : Environment)
    (p : Portion) → AreClear (spellings e.globals) e.sizes
    → TellsShown only r g a e p one s → TellsShown only r g a e p two t → IsOne r.format r.details file source one two s t
one_shown_told None r file source one two s t g a e p clear u v = let same = one_shown r g a e p one two s t u v in (same.1, AreAlike.same same.0)
one_shown_told (Some names) r file source one two s t g a e p clear u v =
    let same = one_shown_parts names r g a e p one two s t clear u v in (same.1, AreAlike.same same.0)

one_job_answer : (job : Job) (file source one two : List ℕ) (s t : Status) → JobAnswer job file source one s → JobAnswer job file source two t
    → IsOne (format_of job) (wants_details job) file source one two s t
one_job_answer (Check types details format) file source one two s t x y = one_check_answer types details format file source one two s t x y
one_job_answer (Show r) file source one two s t x y =
    both_answers (TellsShown r.only r) (TellsShown r.only r) r file source one two s t (refused_alike r.format r.details file source one two s t)
    (λ g a e p has complete is.
    one_shown_told r.only r file source one two s t g a e p
    (clear_at source g [] (stated g r.setting) (numbers_of r.setting) e has.checks complete is)) x y
one_job_answer (Reach x) file source one two s t u v =
    explorations.both_answers (TellsMachine x.sought x) (TellsMachine x.sought x) x file source one two s t
    (refused_alike x.format x.details file source one two s t)
    (λ g p e told also. let same = one_told_of x.sought x g p e one two s t told also in (same.0, AreAlike.same same.1))
    (explorations.staged x file source one s u) (explorations.staged x file source two t v)
one_job_answer (Why r) file source one two s t x y =
    both_answers (TellsWhy r.format r.details file source) (TellsWhy r.format r.details file source) r file source one two s t
    (refused_alike r.format r.details file source one two s t)
    (λ g a e p has complete is u v.
    let told = one_told r.format r.details file source g a e p one two s t u v in
    (told.statuses, one_reason r file source one two g a e p has is told.reasons)) x y

pub one_answer : (job : Job) (file source one two : List ℕ) (s t : Status) → Answer job file source one s → Answer job file source two t
    → IsOne (format_of job) (wants_details job) file source one two s t
one_answer job file source one two s t (inl (first, x, is)) (inl (second, y, also)) =
    in_format (format_of job) (wants_details job) file source one two first second s t is also (one_unread (wants_details job) source first second s t x y)
one_answer job file source one two s t (inl (first, x, is)) (inr y) = absurd (read_unread job file source first two s t x y)
one_answer job file source one two s t (inr x) (inl (second, y, also)) = absurd (read_unread job file source second one t s y x)
one_answer job file source one two s t (inr x) (inr y) = one_job_answer job file source one two s t x y

pub one_status : OneStatus
one_status job file source one two s t x y = (one_answer job file source one two s t x y).0

pub one_text : OneText
one_text job file source one two s t x y = (one_answer job file source one two s t x y).1
