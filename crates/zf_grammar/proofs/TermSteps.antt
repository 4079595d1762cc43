-- What an outcome of a reading says of its steps.
use Rattle.zf_grammar.proofs.Prelude.{◌≡◌, ap, Bool, Err, false, Fault, List, Ok, refl, true, if◌then◌else◌, Symbol, and_then, Outcome, Parser}

pub ok_pair : {A : Type 0} (p q : A × List Symbol) → ◌≡◌ {A = Outcome A} (Ok p) (Ok q) → p ≡ q
ok_pair p q e = cc

pub ok_value : {A : Type 0} (a b : A) (us vs : List Symbol) → ◌≡◌ {A = Outcome A} (Ok (a, us)) (Ok (b, vs)) → a ≡ b
ok_value a b us vs e = ap (λ p. p.0) (ok_pair (a, us) (b, vs) e)

pub ok_rest : {A : Type 0} (a b : A) (us vs : List Symbol) → ◌≡◌ {A = Outcome A} (Ok (a, us)) (Ok (b, vs)) → us ≡ vs
ok_rest a b us vs e = ap (λ p. p.1) (ok_pair (a, us) (b, vs) e)

pub bind_ok : {A B : Type 0} (r : Outcome A) (f : A → Parser B) (y : B × List Symbol) → and_then r f ≡ Ok y → (a : A) × (us : List Symbol) × (r ≡ Ok (a, us)) × (f a us ≡ Ok y)
bind_ok (Ok p) f y e = (p.0, p.1, refl, e)
bind_ok (Err x) f y e = absurd (cc)

-- a test whose other outcome is no answer
pub if_ok : {A : Type 0} (b : Bool) (o : Outcome A) (y : A × List Symbol) (f : Fault) → (if b then o else Err f) ≡ Ok y → (b ≡ true) × (o ≡ Ok y)
if_ok true o y f e = (refl, e)
if_ok false o y f e = absurd (cc)

pub if_cases : {A : Type 0} {C : Type 0} (b : Bool) (o p : Outcome A) (y : A × List Symbol) → (if b then o else p) ≡ Ok y → (b ≡ true → o ≡ Ok y → C) → (b ≡ false → p ≡ Ok y → C) → C
if_cases true o p y e on off = on refl e
if_cases false o p y e on off = off refl e
