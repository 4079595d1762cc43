-- What a call ensures of its result, passed on.
use Rattle.zf_parts.proofs.Prelude.{◌≡◌, Err, IfOk, Ok, OnErr, OnOk, Result}

pub weaker_on_err : {T E : Type 0} (r : Result T E) {P Q : Type 0} → (P → Q) → OnErr r P → OnErr r Q
weaker_on_err (Ok x) f h = tt
weaker_on_err (Err e) f h = f h

-- of one that is known where there is one
pub known_if_ok : {T E : Type 0} (r : Result T E) {P : Type 0} {Q : T → Type 0} (known : T) → ((x : T) → x ≡ known → P → Q x) → OnOk r P → IfOk r (λ x. x ≡ known) → IfOk r Q
known_if_ok (Ok x) known f h is = f x is h
known_if_ok (Err e) known f h is = tt

-- two facts of a result that is Ok
pub both_ok : {T E : Type 0} (r : Result T E) {A B C : Type 0} → (A → B → C) → OnOk r A → OnOk r B → OnOk r C
both_ok (Ok x) f h k = f h k
both_ok (Err e) f h k = tt
