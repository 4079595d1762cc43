-- Why values can't be listed, for a fact that follows from another.
use Rattle.zf_ranges.proofs.Prelude.{◌≡◌, Err, Ok, Result, subst, sym, IfErr, IsErrAnd, Tells}
use Rattle.zf_ranges.specs.declared.lack.Lack.{Lack}
use Rattle.zf_ranges.specs.declared.lack.Lack.TheVariants.{Out, OutOfMemory}

tells : (l : Lack) (P Q : Type 0) → (P → Q) → Tells l P → Tells l Q
tells Out P Q f h = f h
tells OutOfMemory P Q f h = tt

pub told : {X : Type 0} (r : Result X Lack) (P Q : Type 0) → (P → Q) → IfErr r (λ l. Tells l P) → IfErr r (λ l. Tells l Q)
told (Ok x) P Q f h = tt
told (Err l) P Q f h = tells l P Q f h

-- the same of a fault that is passed on
pub passed : {X : Type 0} (l : Lack) (r : Result X Lack) (P Q : Type 0) → IsErrAnd r (λ m. m ≡ l) → (P → Q) → Tells l P → IfErr r (λ m. Tells m Q)
passed l (Ok x) P Q is f h = tt
passed l (Err m) P Q is f h = subst (λ k. Tells k Q) (sym is) (tells l P Q f h)
