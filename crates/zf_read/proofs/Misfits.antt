-- What a misfit tells, where it is passed on.
use Rattle.zf_read.proofs.Prelude.{◌≡◌, Err, IfErr, Ok, Result, subst, sym, IsErrAnd, IfMisfit}
use Rattle.zf_read.specs.declared.fault.AfterFault.{AfterFault}
use Rattle.zf_read.specs.declared.fault.AfterFault.TheVariants.{NotABinding, OutOfMemory}

tells : {P Q : Type 0} (x : AfterFault) → (P → Q) → IfMisfit P x → IfMisfit Q x
tells (NotABinding place expected) f h = f h
tells OutOfMemory f h = tt

-- of a fault that is passed on by `?`
pub passed : {X P Q : Type 0} (x : AfterFault) (r : Result X AfterFault) → IsErrAnd r (λ y. y ≡ x) → (P → Q) → IfMisfit P x → IfErr r (IfMisfit Q)
passed x (Ok v) is f h = tt
passed {Q = Q} x (Err y) is f h = subst (IfMisfit Q) (sym is) (tells x f h)

-- of an answer that is passed on
pub answered : {X P Q : Type 0} (r : Result X AfterFault) → (P → Q) → IfErr r (IfMisfit P) → IfErr r (IfMisfit Q)
answered (Ok v) f h = tt
answered (Err y) f h = tells y f h

-- of a fault that is made
pub made : {P : Type 0} (x : AfterFault) → P → IfMisfit P x
made (NotABinding place expected) h = h
made OutOfMemory h = tt
