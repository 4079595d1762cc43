-- How far a check of a text has come, for private contracts alone.
use Rattle.std.specs.Prelude.{◌≡◌, List, [], ◌∷◌, ◌++◌, map, Result, Ok, Err}
use Rattle.zf_term.specs.{globals_of}
use Rattle.zf_sorts.specs.declared.fault.Refusal.{Refusal}
use Rattle.zf_sorts.specs.declared.fault.Refusal.TheVariants.{Fault, OutOfMemory}
use Rattle.zf_sorts.specs.declared.fault.TypeFault.{TypeFault}
use Rattle.zf_sorts.specs.{fault_of}
use Rattle.zf_term.specs.Faults as fault
use Rattle.zf_checker.specs.declared.checker.Checked.{Checked}
use Rattle.zf_schema.specs.{ChecksAll, ChecksOne, Item}

-- the fault, if there is one, is put after those that were there
abbrev pub Notes : {A : Type 0} → Result A Refusal → List TypeFault → List TypeFault → Type 0
Notes (Ok a) es fs = fs ≡ es
Notes (Err (Fault f)) es fs = fs ≡ es ++ f ∷ []
Notes (Err OutOfMemory) es fs = ⊥

-- one more item is checked
unfoldable pub RunsOne : Checked → Item → Checked → Type 0
RunsOne a item b = (more : List fault.Fault) × ChecksOne (globals_of a.globals) item (globals_of b.globals) more × (map fault_of b.faults ≡ map fault_of a.faults ++ more)

-- more items are
unfoldable pub Runs : Checked → List Item → Checked → Type 0
Runs a items b = (more : List fault.Fault) × ChecksAll (globals_of a.globals) items (globals_of b.globals) more × (map fault_of b.faults ≡ map fault_of a.faults ++ more)
