-- Two refusals of one kind have one status, that of no success, and texts that are alike; and each excludes what it says is not so.
use Rattle.law_answered.proofs.Prelude.{◌∙◌, ◌≡◌, ap, List, Option, subst, sym, ℕ, ◌≢◌, same_Some, slice_get, AreComplete, AreMessagesAlike, BadRequest, BadSpec, Checks, Comp, declared_out, Defined, Done, Environment, Format, given_sets, is_mended, IsFinite, IsNoneOut, Message, messages_text, NotFinite, not_finite_message, PastBounds, Schema, Size, size_fault_messages, Status, TellsFaults, TellsInfinite, TellsMisfit, TellsNoSchema, TellsNumbers, TellsOut, [], ◌∷◌, Bool}
use Rattle.law_answered.proofs.OneRefusal.{none_refused, one_refusal}
use Rattle.law_answered.proofs.OneSearch.{not_infinite, one_first_out}
use Rattle.law_answered.proofs.OneSource.{one_checked, some_and_none}

-- ---- two of one kind

abbrev pub AreRefusedAlike : (details : Bool) → (source : List ℕ) → (one two : List Message) → (s t : Status) → Type 0
AreRefusedAlike details source one two s t = (s ≡ t) × (t ≢ Done) × AreMessagesAlike details source one two

-- what follows of two refusals
abbrev pub IfRefused : Format → (details : Bool) → (file source one two : List ℕ) → (s t : Status) → Type 0 → Type 0
IfRefused f details file source one two s t C =
    (first second : List Message) → AreRefusedAlike details source first second s t → one ≡ messages_text f file first → two ≡ messages_text f file second → C

-- this does not hold, as the message says with some place of a text
abbrev pub TellsPlace : {A : Type 0} → Type 0 → (message : A → Message) → (told : List Message) → Status → Type 0
TellsPlace {A} Fails message told status = Fails × (place : A) × (told ≡ message place ∷ []) × (status ≡ BadRequest)

module _ (details : Bool) (source : List ℕ) (one two : List Message) (s t : Status) where
  abbrev Alike : Type 0
  Alike = AreRefusedAlike details source one two s t

  by_status : (refusal : Status) → refusal ≢ Done → s ≡ refusal → t ≡ refusal → AreMessagesAlike details source one two → Alike
  by_status refusal other is also alike = (is ∙ sym also, (λ done. other (sym also ∙ done)), alike)

  pub bad_request : s ≡ BadRequest → t ≡ BadRequest → AreMessagesAlike details source one two → Alike
  bad_request is also alike = by_status BadRequest (λ q. cc) is also alike

  bad_spec : s ≡ BadSpec → t ≡ BadSpec → AreMessagesAlike details source one two → Alike
  bad_spec is also alike = by_status BadSpec (λ q. cc) is also alike

  pub one_out : (e : Environment) (comps : List Comp) → TellsOut e comps one s → TellsOut e comps two t → Alike
  one_out e comps (i, out, (c, here, told, past)) (j, also_out, (d, also_here, also_told, also_past)) =
      let place = one_first_out e comps i j out also_out in
      let component = same_Some c d (sym here ∙ ap (slice_get comps) place ∙ also_here) in
      by_status PastBounds (λ q. cc) past also_past (AreMessagesAlike.same (told ∙ ap (λ (c : Comp). declared_out c.name ∷ []) component ∙ sym also_told))

  pub one_infinite : (numbers : Option ℕ) (g : List Defined) (a : Schema)
      → TellsInfinite numbers g a details source one s → TellsInfinite numbers g a details source two t → Alike
  one_infinite numbers g a u v =
      let mended = is_mended numbers g a in
      let told = u.4 ∙ ap (λ (c : NotFinite). not_finite_message details source g c u.1 mended ∷ []) (same_Some u.0 v.0 (sym u.2 ∙ v.2)) in
      bad_spec u.5 v.5 (AreMessagesAlike.infinite g v.0 mended u.1 v.1 told v.4)

  pub one_misfit : (g : List Defined) (sizes : List Size) → TellsMisfit details g sizes one s → TellsMisfit details g sizes two t → Alike
  one_misfit g sizes u v =
      let fault = one_refusal (given_sets g) sizes u.0 v.0 u.2.0 v.2.0 u.1 v.1 in
      bad_request u.2.2 v.2.2 (AreMessagesAlike.same (u.2.1 ∙ ap (size_fault_messages details g sizes) fault ∙ sym v.2.1))

  pub one_large : (numbers : Option ℕ) → TellsNumbers numbers one s → TellsNumbers numbers two t → Alike
  one_large numbers u v = bad_request u.2 v.2 (AreMessagesAlike.same (u.1 ∙ sym v.1))

  pub one_no_schema : (g : List Defined) (name : List ℕ) → TellsNoSchema details g one s name → TellsNoSchema details g two t name → Alike
  one_no_schema g name u v = bad_request u.bad v.bad (AreMessagesAlike.same (u.message ∙ sym v.message))

  pub one_ill : TellsFaults details source one s → TellsFaults details source two t → Alike
  one_ill u v =
      let c = one_checked source u.globals v.globals u.faults v.faults u.checks v.checks in
      bad_spec u.bad v.bad (AreMessagesAlike.types (record {
        globals = v.globals;
        first = u.faults;
        second = v.faults;
        checks = subst (λ h. Checks source h u.faults) c.0 u.checks;
        also_checks = v.checks;
        some = u.some;
        same = c.1;
        messages = u.messages;
        also_messages = v.messages;
      }))

  -- the place may be another
  pub one_failure : {A : Type 0} (Fails : Type 0) (message : A → Message)
      → ((i j : A) → one ≡ message i ∷ [] → two ≡ message j ∷ [] → AreMessagesAlike details source one two)
      → TellsPlace Fails message one s → TellsPlace Fails message two t → Alike
  one_failure Fails message alike (none, i, told, bad) (also_none, j, also_told, also_bad) = bad_request bad also_bad (alike i j told also_told)

-- ---- what they exclude

module _ (told : List Message) (status : Status) where
  pub not_out : (e : Environment) (comps : List Comp) → TellsOut e comps told status → IsNoneOut e comps → ⊥
  not_out e comps out none = none out.0 out.1.here

  pub is_finite : (numbers : Option ℕ) (g : List Defined) (a : Schema) (details : Bool) (source : List ℕ)
      → TellsInfinite numbers g a details source told status → IsFinite numbers g a → ⊥
  is_finite numbers g a details source infinite finite = not_infinite numbers g a infinite.0 finite infinite.2

  pub no_misfit : (details : Bool) (g : List Defined) (sizes : List Size) → TellsMisfit details g sizes told status → AreComplete (given_sets g) sizes → ⊥
  no_misfit details g sizes bad complete = none_refused (given_sets g) sizes bad.0 complete bad.2.0 bad.1

  pub well_typed : (details : Bool) (source : List ℕ) (g : List Defined) → TellsFaults details source told status → Checks source g [] → ⊥
  well_typed details source g ill checks = some_and_none ill.faults ill.some (one_checked source ill.globals g ill.faults [] ill.checks checks).1
