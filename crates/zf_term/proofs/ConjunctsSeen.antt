-- What each form of conjunct is seen as.
use Rattle.zf_term.proofs.Prelude.{◌∙◌, ◌≡◌, all_of, ap, batch_of, batch_step, conjunct_of, conjunct_step, is_member, List, map, moved, None, numbering, one_holds, Option, Resolved, resolved_of, ResolvedTree, sides_span, sym, ℕ}
use Rattle.zf_term.proofs.Places.{numbered_again, unmoved}
use Rattle.zf_term.specs.declared.conjunct.Batch.{Batch}
use Rattle.zf_term.specs.declared.conjunct.Conjunct.{Conjunct}
use Rattle.zf_term.specs.declared.conjunct.Sides.{Sides}
use Rattle.zf_term.specs.declared.conjunct.Conjunct.TheFolds.{fold-roll-Batch, fold-roll-Conjunct, map-Conjunct}
use Rattle.zf_term.specs.declared.conjunct.Conjunct.TheOpen.{Conjunct-F}
use Rattle.zf_term.specs.declared.conjunct.Conjunct.TheVariants as v
use Rattle.zf_term.specs.declared.conjunct.Conjunct.TheViews.{roll-Batch, roll-Conjunct}

rolled : (x : Conjunct-F Conjunct Batch) → conjunct_of (roll-Conjunct x) ≡ conjunct_step (map-Conjunct Conjunct Batch ResolvedTree (List ResolvedTree) conjunct_of batch_of x)
unfolding conjunct_of batch_of
rolled x = fold-roll-Conjunct ResolvedTree (List ResolvedTree) conjunct_step batch_step x

pub of-Term : (t : Resolved) (ps : Option (List ℕ)) → conjunct_of (v.Term t ps) ≡ moved (numbering ps) (resolved_of t)
of-Term t ps = ap conjunct_of (sym (v.rolls-Term t ps)) ∙ rolled (Conjunct-F.Term t ps)

pub of-Member : (i : ℕ) (t : Resolved) (ps : Option (List ℕ)) → conjunct_of (v.Member i t ps) ≡ moved (numbering ps) (is_member i (resolved_of t))
of-Member i t ps = ap conjunct_of (sym (v.rolls-Member i t ps)) ∙ rolled (Conjunct-F.Member i t ps)

pub of-Either : (l : Sides) (left right : List Batch) (ps : Option (List ℕ))
    → conjunct_of (v.Either l left right ps) ≡ moved (numbering ps) (one_holds (sides_span l) (all_of (map batch_of left)) (all_of (map batch_of right)))
of-Either l left right ps = ap conjunct_of (sym (v.rolls-Either l left right ps)) ∙ rolled (Conjunct-F.Either l left right ps)

pub ruleset seen = (of-Term, of-Member, of-Either)

abbrev pub new_batch : List Conjunct → Option (List ℕ) → Batch
new_batch cs ps = roll-Batch (record { conjuncts = cs; places = ps })

pub of-batch : (cs : List Conjunct) (ps : Option (List ℕ)) → batch_of (new_batch cs ps) ≡ map (moved (numbering ps)) (map conjunct_of cs)
unfolding conjunct_of batch_of
of-batch cs ps = fold-roll-Batch ResolvedTree (List ResolvedTree) conjunct_step batch_step (record { conjuncts = cs; places = ps })

pub batch-seen : (b : Batch) → batch_of b ≡ map (moved (numbering b.places)) (map conjunct_of b.conjuncts)
batch-seen b = of-batch b.conjuncts b.places

pub ruleset batches_seen = (batch-seen)

-- ---- where each component has its own place

pub own_term : (t : Resolved) → conjunct_of (v.Term t None) ≡ resolved_of t
own_term t = of-Term t None ∙ unmoved (resolved_of t)

pub own_member : (i : ℕ) (t : Resolved) → conjunct_of (v.Member i t None) ≡ is_member i (resolved_of t)
own_member i t = of-Member i t None ∙ unmoved (is_member i (resolved_of t))

pub own_either : (l : Sides) (left right : List Batch) → conjunct_of (v.Either l left right None) ≡ one_holds (sides_span l) (all_of (map batch_of left)) (all_of (map batch_of right))
own_either l left right = of-Either l left right None ∙ unmoved (one_holds (sides_span l) (all_of (map batch_of left)) (all_of (map batch_of right)))

pub ruleset own = (own_term, own_member, own_either)

-- ---- numbered anew

pub moved_term : (own ps : Option (List ℕ)) (g : ℕ → ℕ) (t u : Resolved) (whole : Conjunct) → whole ≡ v.Term t own → u ≡ t
    → numbering ps ≡ (λ (i : ℕ). g (numbering own i)) → conjunct_of (v.Term u ps) ≡ moved g (conjunct_of whole)
moved_term own ps g t u whole is same e =
    of-Term u ps
    ∙ ap (λ (s : Resolved). moved (numbering ps) (resolved_of s)) same
    ∙ numbered_again own ps g (conjunct_of whole) (resolved_of t) (ap conjunct_of is ∙ of-Term t own) e

pub moved_member : (own ps : Option (List ℕ)) (g : ℕ → ℕ) (n : ℕ) (t u : Resolved) (whole : Conjunct) → whole ≡ v.Member n t own → u ≡ t
    → numbering ps ≡ (λ (i : ℕ). g (numbering own i)) → conjunct_of (v.Member n u ps) ≡ moved g (conjunct_of whole)
moved_member own ps g n t u whole is same e =
    of-Member n u ps
    ∙ ap (λ (s : Resolved). moved (numbering ps) (is_member n (resolved_of s))) same
    ∙ numbered_again own ps g (conjunct_of whole) (is_member n (resolved_of t)) (ap conjunct_of is ∙ of-Member n t own) e

abbrev sides : Sides → List Batch → List Batch → ResolvedTree
sides l bs ds = one_holds (sides_span l) (all_of (map batch_of bs)) (all_of (map batch_of ds))

pub moved_either :
    (own ps : Option (List ℕ)) (g : ℕ → ℕ) (l : Sides) (left right bs ds : List Batch) (whole : Conjunct)
    → whole ≡ v.Either l left right own → bs ≡ left → ds ≡ right → numbering ps ≡ (λ (i : ℕ). g (numbering own i))
    → conjunct_of (v.Either l bs ds ps) ≡ moved g (conjunct_of whole)
moved_either own ps g l left right bs ds whole is one other e =
    of-Either l bs ds ps
    ∙ ap (λ (xs : List Batch). moved (numbering ps) (sides l xs ds)) one
    ∙ ap (λ (xs : List Batch). moved (numbering ps) (sides l left xs)) other
    ∙ numbered_again own ps g (conjunct_of whole) (sides l left right) (ap conjunct_of is ∙ of-Either l left right own) e
