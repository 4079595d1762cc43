-- What is made of two schemas has the components of the first one first, in order.
use Rattle.zf_checker.proofs.Prelude.{if◌then◌else◌, ◌++◌, ◌∙◌, ◌∷◌, ◌≡◌, [], ap, Bool, false, List, refl, sym, true, ℕ, append-nil, append_assoc, bytes_eq, Comp, Ty, comp, decorated, prime, with_comp, with_comps, CompsOfEither, FirstKept, signature}
use Rattle.zf_checker.proofs.Decoration.{through}

-- what more components add to the signature
abbrev pub Extends : List Comp → List Comp → Type 0
Extends cs ds = (more : List (List ℕ × Ty)) × (signature ds ≡ signature cs ++ more)

pub one_more : (cs : List Comp) (c : Comp) → Extends cs (with_comp cs c)
one_more [] c = (signature (c ∷ []), refl)
one_more (d ∷ ds) c = by (bytes_eq d.name c.name) (one_more ds c)
  where
    by : (b : Bool) → Extends ds (with_comp ds c) → Extends (d ∷ ds) (if b then comp d.name d.type (d.sets ++ c.sets) ∷ ds else d ∷ with_comp ds c)
    by true rest = ([], ap (λ v. (d.name, d.type) ∷ v) (sym (append-nil (signature ds))))
    by false rest = (rest.0, ap (λ v. (d.name, d.type) ∷ v) rest.1)

pub more : (cs ds : List Comp) → Extends cs (with_comps cs ds)
more cs [] = ([], sym (append-nil (signature cs)))
more cs (d ∷ ds) =
    let first = one_more cs d in
    let rest = more (with_comp cs d) ds in
    (first.0 ++ rest.0, rest.1 ∙ ap (λ v. v ++ rest.0) first.1 ∙ append_assoc (signature cs) first.0 rest.0)

pub comps_of_either : CompsOfEither
comps_of_either l a b = through _ (λ c. (c.name, c.type)) (with_comps a.comps b.comps)

pub first_kept : FirstKept
first_kept l a b =
    let both = more a.comps b.comps in
    let primed = more a.comps (decorated prime a).comps in
    (both, primed, primed, (both.0, through _ (λ c. (c.name, c.type)) (with_comps a.comps b.comps) ∙ both.1))
