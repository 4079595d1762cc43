use Rattle.zf_constraints.proofs.Prelude.{◌∙◌, ◌≡◌, ◌++◌, ap, IfOk-weaker, List, map, all_of, batch_of, Batch, comp_of, conjunct_of, Conjunct, Component, moved, numbering, schema_of, memberships}
use Rattle.zf_constraints.specs.{constraints}
use Rattle.zf_constraints.proofs.Memberships.{constraints_made}
use Rattle.zf_constraints.proofs.batches.constraints.Goals as goal

pub returns : goal.returns
returns c =
    let ps = c.args.places.now in
    let components = c.args.flat.now.components in
    let whole = map (moved (numbering ps)) (constraints (schema_of c.args.flat.now)) in
    let listed : map conjunct_of c.push_all_memberships.new.made ≡ memberships 0 (map comp_of components) =
    c.in_ok-push_all_memberships.ensures
    ∙ ap (λ (cs : List Conjunct). map conjunct_of cs ++ memberships 0 (map comp_of c.as_slice.result.now)) c.new-memberships.ensures
    ∙ ap (λ (es : List Component). memberships 0 (map comp_of es)) c.as_slice.ensures
    in
    let made : all_of (map batch_of c.push_batches.new.batches) ≡ whole =
    constraints_made ps c.push_all_memberships.new.made c.args.flat.now.conjuncts c.in_ok-new.field-0 c.as_slice-2.result.now
    (memberships 0 (map comp_of components)) (all_of (map batch_of c.in_ok-batches.batches)) (all_of (map batch_of c.push_batch.new.batches))
    (all_of (map batch_of c.push_batches.new.batches))
    listed c.in_ok-new.ensures (ap all_of c.as_slice-2.ensures ∙ c.in_ok-pieces.ensures)
    (ap (λ (bs : List Batch). all_of (map batch_of bs)) c.in_ok-batches.ensures) c.in_ok-push_batch.ensures c.in_ok-push_batches.ensures
    in
    IfOk-weaker c.new-2.result (λ bs. bs ≡ c.push_batches.new.batches) (λ bs. all_of (map batch_of bs) ≡ whole) (λ bs e. ap (λ (ds : List Batch). all_of (map batch_of ds)) e ∙ made) c.new-2.ensures
