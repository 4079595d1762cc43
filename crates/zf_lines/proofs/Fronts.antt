-- Texts that are written one after the other, and fronts of them.
use Rattle.zf_lines.proofs.Prelude.{◌++◌, ◌∙◌, [], ap, append-nil, append_assoc, Err, List, Ok, OnErr, OnOk, Option, Result, sym, ℕ, Appends-trans, Appends, AppendsFront}

pub always_on_err : {T E : Type 0} (r : Result T E) {Q : Type 0} → Q → OnErr r Q
always_on_err (Ok x) q = tt
always_on_err (Err e) q = q

pub weaker_on_ok : {T E : Type 0} (r : Result T E) {P Q : Type 0} → (P → Q) → OnOk r P → OnOk r Q
weaker_on_ok (Ok x) f h = f h
weaker_on_ok (Err e) f h = tt

-- a text was written, and then a front of another
pub front_behind : (a b c : Option (List ℕ)) (text more : List ℕ) → Appends a b text → AppendsFront b c more → AppendsFront a c (text ++ more)
front_behind a b c text more written (f, (rest, split), then_front) =
    (text ++ f, (rest, ap (λ l. text ++ l) split ∙ sym (append_assoc text f rest)), Appends-trans a b c text f written then_front)

-- a front of a front
pub front_longer : (a b : Option (List ℕ)) (text more : List ℕ) → AppendsFront a b text → AppendsFront a b (text ++ more)
front_longer a b text more (f, (rest, split), written) = (f, (rest ++ more, ap (λ l. l ++ more) split ∙ append_assoc f rest more), written)

-- all of a text
pub front_whole : (a b : Option (List ℕ)) (text : List ℕ) → Appends a b text → AppendsFront a b text
front_whole a b text written = (text, ([], sym (append-nil text)), written)
