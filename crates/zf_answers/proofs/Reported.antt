-- The messages of faults, one fault after another.
use Rattle.zf_answers.proofs.Prelude.{◌++◌, ◌+◌, ◌<◌, ◌∙◌, ◌∷◌, ◌≡◌, [], ap, Bool, get_or, length, List, map, subst, sym, take, ℕ, fault_of, AreFaultMessages, type_fault_message, map-append, take_more, Fault, Aside, Reported, Message}
use Rattle.zf_sorts.specs.declared.fault.TypeFault.{TypeFault}

module _ (details : Bool) (source : List ℕ) where
  more_told : (faults : List Fault) (fault : Fault) (aside : Aside) (told : List Message) → AreFaultMessages details source faults told
      → AreFaultMessages details source (faults ++ fault ∷ []) (told ++ type_fault_message details source fault aside ∷ [])
  more_told faults fault aside told (rs, same, is) =
      let one : Reported = record { fault = fault; aside = aside } in (
        rs ++ one ∷ [],
        map-append (λ (r : Reported). r.fault) rs (one ∷ []) ∙ ap (λ fs. fs ++ fault ∷ []) same,
        ap (λ ms. ms ++ type_fault_message details source fault aside ∷ []) is
            ∙ sym (map-append (λ (r : Reported). type_fault_message details source r.fault r.aside) rs (one ∷ [])),
      )

  -- the same of the next of the program's faults
  pub one_more : (faults : List TypeFault) (i : ℕ) (fault : TypeFault) (aside : Aside) (told new : List Message) (message : Message)
      → fault ≡ get_or faults i fault → i < length faults
      → AreFaultMessages details source (map fault_of (take i faults)) told → message ≡ type_fault_message details source (fault_of fault) aside
      → new ≡ told ++ message ∷ [] → AreFaultMessages details source (map fault_of (take (i + 1) faults)) new
  one_more faults i fault aside told new message is within before made pushed =
      let whole : take (i + 1) faults ≡ take i faults ++ fault ∷ [] = take_more faults i fault within ∙ ap (λ f. take i faults ++ f ∷ []) (sym is) in
      subst (AreFaultMessages details source (map fault_of (take (i + 1) faults))) (sym (pushed ∙ ap (λ m. told ++ m ∷ []) made))
      (subst (λ fs. AreFaultMessages details source fs (told ++ type_fault_message details source (fault_of fault) aside ∷ []))
      (sym (ap (map fault_of) whole ∙ map-append fault_of (take i faults) (fault ∷ [])))
      (more_told (map fault_of (take i faults)) (fault_of fault) aside told before))
