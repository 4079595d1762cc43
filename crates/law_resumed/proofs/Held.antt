-- The values that a line of some components holds are of their types.
use Rattle.std.proofs.Common.{◌≡◌, ◌+◌, ℕ, zero, suc, List, [], ◌∷◌, Option, Some, None, ap, sym, subst}
use Rattle.std.specs.Prelude.{set, slice_get}
use Rattle.std.proofs.lemmas.Option.{same_Some}
use Rattle.zf_term.specs.{Comp}
use Rattle.zf_value.specs.declared.plain.Value.{Value}
use Rattle.zf_meaning.specs.{Environment, IsOfType}
use Rattle.zf_print.specs.declared.spelling.Spelling.{Spelling}
use Rattle.zf_read.specs.{HoldNext, nothing_of}
use Rattle.law_sound.specs.{AreHeldTyped}
use Rattle.zf_answers.specs.{AreHeld}

none_typed : (e : Environment) (cs : List Comp) → AreHeldTyped e cs []
none_typed e [] = tt
none_typed e (c ∷ cs) = (tt, none_typed e cs)

nothing_typed : (e : Environment) (cs : List Comp) → AreHeldTyped e cs (nothing_of cs)
nothing_typed e [] = tt
nothing_typed e (c ∷ cs) = (tt, nothing_typed e cs)

-- with a value of its type at a place they stay so
set_typed : (e : Environment) (cs : List Comp) (held : List (Option Value)) (place : ℕ) (c : Comp) (v : Value) → slice_get cs place ≡ Some c → IsOfType e c.type v
    → AreHeldTyped e cs held → AreHeldTyped e cs (set held place (Some v))
set_typed e [] held place c v there of_type typed = tt
set_typed e (d ∷ cs) [] place c v there of_type typed = typed
set_typed e (d ∷ cs) (h ∷ held) zero c v there of_type typed = (subst (λ (x : Comp). IsOfType e x.type v) (sym (same_Some d c there)) of_type, typed.1)
set_typed e (d ∷ cs) (h ∷ held) (suc place) c v there of_type typed = (typed.0, set_typed e cs held place c v there of_type typed.1)

next_typed : (ss : List Spelling) (e : Environment) (cs : List Comp) (n : ℕ) (bytes : List ℕ) (before : List (Option Value)) (parts : List (ℕ × Value)) (held : List (Option Value))
    → HoldNext ss e cs n bytes before parts held → AreHeldTyped e cs before → AreHeldTyped e cs held
next_typed ss e cs n bytes before [] held h typed = subst (AreHeldTyped e cs) (sym h.1) typed
next_typed ss e cs n bytes before (p ∷ parts) held (rest, part, h) typed =
    next_typed ss e cs (n + 1) rest (set before p.0 (Some p.1)) parts held h (set_typed e cs before p.0 part.comp p.1 part.there part.of_type typed)

pub held_typed : (e : Environment) (cs : List Comp) (text : Option (List ℕ)) (held : List (Option Value)) → AreHeld e cs text held → AreHeldTyped e cs held
held_typed e cs None held h = subst (AreHeldTyped e cs) (sym h) (none_typed e cs)
held_typed e cs (Some text) held h = next_typed _ e cs 0 text (nothing_of cs) h.0 held h.1 (nothing_typed e cs)
