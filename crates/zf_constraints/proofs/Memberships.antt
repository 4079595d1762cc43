-- That components are members of their declared sets.
use Rattle.zf_constraints.proofs.Prelude.{◌++◌, ◌∙◌, ◌∷◌, ◌≡◌, [], all_of, ap, append-nil, append_assoc, arith, batch_of, Batch, conjunct_of, Conjunct, DeclaredSet, Domain, is_member, length, List, map, map-append, membership, moved, numbering, of-Carrier, of-Either, of-Plain, Option, Resolved, resolved_of, ResolvedTree, set_of, sym, ZType, ℕ}
use Rattle.std.proofs.Common.{◌+◌, ◌<◌, add-one, get_or, suc, take, zero}
use Rattle.std.proofs.lemmas.List.Concat.{flat_map-append}
use Rattle.zf_term.specs.declared.schema.Domain.TheVariants as domains

pub pushed : (i : ℕ) (d : Domain) (s : Resolved) (c : Conjunct) (old new : List Conjunct) → d ≡ domains.Plain s → conjunct_of c ≡ is_member i (resolved_of s)
    → new ≡ old ++ c ∷ [] → map conjunct_of new ≡ map conjunct_of old ++ membership i (set_of d)
pushed i d s c old new e f h =
    ap (map conjunct_of) h
    ∙ map-append conjunct_of old (c ∷ [])
    ∙ ap (λ (u : ResolvedTree). map conjunct_of old ++ u ∷ []) f
    ∙ ap (λ (x : DeclaredSet). map conjunct_of old ++ membership i x) (sym (ap set_of e ∙ of-Plain s))

pub none_of_carrier : (i : ℕ) (d : Domain) (t : ZType) (old : List Conjunct) → d ≡ domains.Carrier t → map conjunct_of old ≡ map conjunct_of old ++ membership i (set_of d)
none_of_carrier i d t old e = sym (ap (λ (x : DeclaredSet). map conjunct_of old ++ membership i x) (ap set_of e ∙ of-Carrier t) ∙ append-nil (map conjunct_of old))

pub none_of_sides : (i : ℕ) (d : Domain) (left right : List Domain) (old : List Conjunct) → d ≡ domains.Either left right → map conjunct_of old ≡ map conjunct_of old ++ membership i (set_of d)
none_of_sides i d left right old e = sym (ap (λ (x : DeclaredSet). map conjunct_of old ++ membership i x) (ap set_of e ∙ of-Either left right) ∙ append-nil (map conjunct_of old))

-- ---- batches

abbrev pub numbered_anew : Option (List ℕ) → List Conjunct → List ResolvedTree
numbered_anew ps cs = map (moved (numbering ps)) (map conjunct_of cs)

pub all_append : (bs ds : List Batch) → all_of (map batch_of (bs ++ ds)) ≡ all_of (map batch_of bs) ++ all_of (map batch_of ds)
all_append bs ds = ap all_of (map-append batch_of bs ds) ∙ flat_map-append (λ (ts : List ResolvedTree). ts) (map batch_of bs) (map batch_of ds)

pub batch_pushed : (ps : Option (List ℕ)) (cs : List Conjunct) (b : Batch) (old new : List Batch) → batch_of b ≡ numbered_anew ps cs → new ≡ old ++ b ∷ []
    → all_of (map batch_of new) ≡ all_of (map batch_of old) ++ numbered_anew ps cs
batch_pushed ps cs b old new is made =
    ap (λ (bs : List Batch). all_of (map batch_of bs)) made
    ∙ all_append old (b ∷ [])
    ∙ ap (λ (ts : List ResolvedTree). all_of (map batch_of old) ++ ts) (append-nil (batch_of b) ∙ is)

pub numbered_append : (ps : Option (List ℕ)) (cs ds : List Conjunct) → numbered_anew ps (cs ++ ds) ≡ numbered_anew ps cs ++ numbered_anew ps ds
numbered_append ps cs ds = ap (map (moved (numbering ps))) (map-append conjunct_of cs ds) ∙ map-append (moved (numbering ps)) (map conjunct_of cs) (map conjunct_of ds)

all_more_from : (xs : List (List Conjunct)) (i : ℕ) (x : List Conjunct) → x ≡ get_or xs i x → i < length xs → all_of (take i xs) ++ x ≡ all_of (take (suc i) xs)
all_more_from [] i x at l = absurd (omega arith)
all_more_from (y ∷ ys) zero x at l = at ∙ sym (append-nil y)
all_more_from (y ∷ ys) (suc i) x at l = append_assoc y (all_of (take i ys)) x ∙ ap (λ (zs : List Conjunct). y ++ zs) (all_more_from ys i x at (omega arith))

all_more : (xs : List (List Conjunct)) (i : ℕ) (x : List Conjunct) → x ≡ get_or xs i x → i < length xs → all_of (take i xs) ++ x ≡ all_of (take (i + 1) xs)
all_more xs i x at l = rw add-one (all_more_from xs i x at l)

-- one piece further
pub pieces_step :
    (ps : Option (List ℕ)) (xs : List (List Conjunct)) (i : ℕ) (x y : List Conjunct) (whole old new : List ResolvedTree) → x ≡ get_or xs i x → i < length xs → y ≡ x
    → old ≡ whole ++ numbered_anew ps (all_of (take i xs)) → new ≡ old ++ numbered_anew ps y
    → new ≡ whole ++ numbered_anew ps (all_of (take (i + 1) xs))
pieces_step ps xs i x y whole old new at l same before step =
    let here = all_of (take i xs) in
    step
    ∙ ap (λ (ts : List ResolvedTree). ts ++ numbered_anew ps y) before
    ∙ append_assoc whole (numbered_anew ps here) (numbered_anew ps y)
    ∙ ap (λ (zs : List Conjunct). whole ++ (numbered_anew ps here ++ numbered_anew ps zs)) same
    ∙ ap (λ (ts : List ResolvedTree). whole ++ ts) (sym (numbered_append ps here x))
    ∙ ap (λ (zs : List Conjunct). whole ++ numbered_anew ps zs) (all_more xs i x at l)

-- the memberships, and then the conjuncts
pub constraints_made :
    (ps : Option (List ℕ)) (made cs own : List Conjunct) (pieces : List (List Conjunct)) (members : List ResolvedTree) (first second third : List ResolvedTree)
    → map conjunct_of made ≡ members → own ≡ made → all_of pieces ≡ cs
    → first ≡ [] → second ≡ first ++ numbered_anew ps own → third ≡ second ++ numbered_anew ps (all_of pieces)
    → third ≡ map (moved (numbering ps)) (members ++ map conjunct_of cs)
constraints_made ps made cs own pieces members first second third listed same all none one two =
    two
    ∙ ap (λ (zs : List Conjunct). second ++ numbered_anew ps zs) all
    ∙ ap (λ (ts : List ResolvedTree). ts ++ numbered_anew ps cs) (one ∙ ap (λ (ts : List ResolvedTree). ts ++ numbered_anew ps own) none
    ∙ ap (numbered_anew ps) same ∙ ap (map (moved (numbering ps))) listed)
    ∙ sym (map-append (moved (numbering ps)) members (map conjunct_of cs))
