-- What stops a step says why.
use Rattle.zf_calculus.proofs.Prelude.{◌<◌, ◌∷◌, ◌≡◌, [], arith, Err, get_or, IfErr, inl, inr, length, List, map, Ok, Result, subst, suc, zero, ℕ, Comp, comp_of, Component, Offence, IfStopped, Clashes, OneClashes}
use Rattle.zf_calculus.specs.declared.stop.Stop.{Stop}
use Rattle.zf_calculus.specs.declared.stop.Stop.TheVariants.{Clash, TooLarge, OutOfMemory}

pub weaker : (e : Stop) (P Q : Offence → Type 0) → ((k : Offence) → P k → Q k) → IfStopped e P → IfStopped e Q
weaker (Clash c) P Q f h = f _ h
weaker (TooLarge l) P Q f h = f _ h
weaker OutOfMemory P Q f h = tt

pub stopped : {T : Type 0} (r : Result T Stop) (P Q : Offence → Type 0) → ((k : Offence) → P k → Q k) → IfErr r (λ e. IfStopped e P) → IfErr r (λ e. IfStopped e Q)
stopped (Ok x) P Q f h = tt
stopped (Err e) P Q f h = weaker e P Q f h

-- what clashes is one of all
pub one_clashes : (cs : List Comp) (ds : List Component) (i : ℕ) (d : Component) → i < length ds → d ≡ get_or ds i d → (k : Offence) → Clashes cs (comp_of d) k → OneClashes cs (map comp_of ds) k
one_clashes cs [] i d l e k h = absurd (omega arith)
one_clashes cs (x ∷ ds) zero d l e k h = inl (subst (λ (y : Component). Clashes cs (comp_of y) k) e h)
one_clashes cs (x ∷ ds) (suc i) d l e k h = inr (one_clashes cs ds i d (omega (arith, l)) e k h)
