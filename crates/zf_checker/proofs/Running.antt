-- Items that are checked, one after another.
use Rattle.zf_checker.proofs.Prelude.{◌++◌, ◌∙◌, ◌∷◌, ◌≡◌, [], ap, Err, IfErr, inl, inr, List, Ok, OnErr, OnOk, refl, Result, subst, sym, append-nil, append_assoc, BoxTree, map, map-append, Defined, globals_of, IfFault, Fault, Refusal, fault_of, offence_of, ChecksAll, Defines, IsChecked, Item, items, OffendsItem, Notes, Runs, RunsOne, Checked}
use Rattle.zf_sorts.specs.declared.fault.Refusal.TheVariants as refusal
use Rattle.zf_checker.proofs.OneDefinition.{no_item_offence}

-- what an item defines, or its fault that is noted
pub noted :
    {A : Type 0} (a b : Checked) (item : Item) (result : Result A Refusal)
    → OnOk result (Defines (globals_of a.globals) item (globals_of b.globals))
    → IfErr result (λ e. IfFault e (λ k m. OffendsItem (globals_of a.globals) item k m))
    → OnErr result (globals_of b.globals ≡ globals_of a.globals)
    → Notes result a.faults b.faults
    → RunsOne a item b
unfolding RunsOne
noted a b item (Ok u) ok bad kept notes = ([], inl (ok, refl), ap (map fault_of) notes ∙ sym (append-nil (map fault_of a.faults)))
noted a b item (Err (refusal.Fault f)) ok bad kept notes = (
  fault_of f ∷ [],
  inr (λ other d. no_item_offence (globals_of a.globals) item other (offence_of f.offence) f.span d bad, kept, (fault_of f, bad, refl)),
  ap (map fault_of) notes ∙ map-append fault_of a.faults (f ∷ []),
)
noted a b item (Err refusal.OutOfMemory) ok bad kept notes = absurd notes

pub run_none : (a : Checked) → Runs a [] a
unfolding Runs
run_none a = ([], (refl, refl), sym (append-nil (map fault_of a.faults)))

pub run_step : (a mid b : Checked) (item : Item) (rest : List Item) → RunsOne a item mid → Runs mid rest b → Runs a (item ∷ rest) b
unfolding RunsOne Runs
run_step a mid b item rest p q =
    (p.0 ++ q.0, (globals_of mid.globals, p.0, q.0, p.1, q.1, refl), q.2 ∙ ap (λ fs. fs ++ q.0) p.2 ∙ append_assoc (map fault_of a.faults) p.0 q.0)

pub run_one : (a b : Checked) (item : Item) → RunsOne a item b → Runs a (item ∷ []) b
run_one a b item p = run_step a b b item [] p (run_none b)

checks_on :
    (g h i : List Defined) (xs ys : List Item) (es fs : List Fault)
    → ChecksAll g xs h es → ChecksAll h ys i fs → ChecksAll g (xs ++ ys) i (es ++ fs)
checks_on g h i [] ys es fs p q =
    subst (λ v. ChecksAll v ys i (es ++ fs)) p.0 (subst (λ v. ChecksAll h ys i (v ++ fs)) (sym p.1) q)
checks_on g h i (x ∷ xs) ys es fs p q =
    (p.0, p.1, p.2 ++ fs, p.3, checks_on p.0 h i xs ys p.2 fs p.4 q, ap (λ v. v ++ fs) p.5 ∙ append_assoc p.1 p.2 fs)

pub run_on : (a mid b : Checked) (xs ys : List Item) → Runs a xs mid → Runs mid ys b → Runs a (xs ++ ys) b
unfolding Runs
run_on a mid b xs ys p q = (
  p.0 ++ q.0,
  checks_on (globals_of a.globals) (globals_of mid.globals) (globals_of b.globals) xs ys p.0 q.0 p.1 q.1,
  q.2 ∙ ap (λ fs. fs ++ q.0) p.2 ∙ append_assoc (map fault_of a.faults) p.0 q.0,
)

-- all items of a text, from no globals and no faults on
pub run_all :
    (a b : Checked) (boxes : List BoxTree) → globals_of a.globals ≡ [] → a.faults ≡ []
    → Runs a (items boxes) b → IsChecked boxes (globals_of b.globals) (map fault_of b.faults)
unfolding Runs
run_all a b boxes empty none p =
    let faults = p.2 ∙ ap (λ fs. map fault_of fs ++ p.0) none in
    subst (λ fs. ChecksAll [] (items boxes) (globals_of b.globals) fs) (sym faults)
    (subst (λ g. ChecksAll g (items boxes) (globals_of b.globals) p.0) empty p.1)
