-- A schema that a well typed text defines can be searched: each conjunct needs the components of the schema alone.
use Rattle.zf_answers.proofs.Prelude.{[], ◌<◌, ◌∷◌, ◌≡◌, ◌≤◌, arith, length, List, Some, suc, take, zero, ℕ, none-some, AreDueWithin, Defined, Schema, schema, ResolvedTree, AreWellTyped, Environment, due_of, property, IsNamed, slice_get}
use Rattle.zf_schema.proofs.Named.{named_there}
use Rattle.zf_answers.proofs.Within.{AreDue}
use Rattle.zf_answers.proofs.OwnComponents.{IsOwn, AreOwn, own_schema}

in_front : (i j : ℕ) (g : List Defined) (d : Defined) → slice_get (take i g) j ≡ Some d → (j < i) × (slice_get g j ≡ Some d)
in_front zero j g d e = absurd (none-some d e)
in_front (suc i) j [] d e = absurd (none-some d e)
in_front (suc i) zero (x ∷ g) d e = (omega arith, e)
in_front (suc i) (suc j) (x ∷ g) d e = let ih = in_front i j g d e in let l = ih.0 in (omega (arith, l), ih.1)

own_below : (g : List Defined) → AreWellTyped g → (n i : ℕ) (name : List ℕ) (a : Schema) → i < n → slice_get g i ≡ Some (record { name = name; definition = schema a }) → IsOwn a
own_below g well zero i name a l e = absurd (omega (arith, l))
own_below g well (suc n) i name a l e =
    let made = well i (record { name = name; definition = schema a }) e in
    own_schema (take i g) made.0 a
    (λ j m b f. let k = in_front i j g (record { name = m; definition = schema b }) f in let before = k.0 in own_below g well n j m b (omega (arith, l, before)) k.1)
    made.1

pub all_own : (g : List Defined) → AreWellTyped g → AreOwn g
all_own g well i name a e = own_below g well (suc i) i name a (omega arith) e

each_due : (n : ℕ) (ts : List ResolvedTree) (c : ℕ) → AreDue n ts → due_of (slice_get ts c) ≤ n
each_due n [] c h = omega arith
each_due n (t ∷ ts) zero h = h.0
each_due n (t ∷ ts) (suc c) h = each_due n ts c h.1

pub due_within : (e : Environment) (g : List Defined) (name : List ℕ) (a : Schema) → AreWellTyped g → IsNamed g name a → AreDueWithin (property e a.conjuncts) (length a.comps)
due_within e g name a well (place, found) c l =
    each_due (length a.comps) a.conjuncts c ((all_own g well place name a (named_there (λ d. d.name) name g (place, record { name = name; definition = schema a }) found).0).0)
