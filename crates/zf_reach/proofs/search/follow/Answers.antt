use Rattle.zf_reach.proofs.Prelude.{◌∙◌, ◌≡◌, ap, None, slice_get, Some, subst, sym}
use Rattle.zf_reach.proofs.Seeks.{brings_known, brings_new, new_there}
use Rattle.zf_reach.specs.declared.finding.Finding.TheVariants as findings
use Rattle.zf_reach.proofs.search.follow.Goals as goal

pub returns-then-not-is_new-clause-brings : goal.returns-then-not-is_new-clause-brings
returns-then-not-is_new-clause-brings g c =
    let n = c.in_ok-number.ensures in
    brings_known (g.M.Machine.explored c.args.machine.now) (g.M.Machine.sought c.args.machine.now) c.args.limit _
    (g.met.M.Machine.same_nodes c.args.machine.now) _ _ _ _ n.added n.keys c.if-not-is_new.true
    (g.M.Machine.stop c.count.new.run.cursor) c.args.search.now.run.place _ _ c.args.label (ap (λ m. m.keys) c.count.ensures.same.0)

pub returns-in-Sought-clause-brings : goal.returns-in-Sought-clause-brings
returns-in-Sought-clause-brings g c =
    let n = c.in_ok-number.ensures in
    let kept = c.count.ensures.same in
    let there = new_there (g.M.Machine.explored c.args.machine.now) (g.M.Machine.sought c.args.machine.now) c.args.limit _
    (g.met.M.Machine.same_nodes c.args.machine.now) _ _ c.args.to _ _ n.added n.index n.keys c.if-not-is_new.false in
    let seen = (rw c.in-Sought.is at c.in_ok-look_at.ensures.sees) c.args.to (subst (λ m. slice_get m.keys c.in_ok-number.number ≡ Some c.args.to) (sym kept.0) there) in
    brings_new (g.M.Machine.explored c.args.machine.now) (g.M.Machine.sought c.args.machine.now) c.args.limit _
    (g.met.M.Machine.same_nodes c.args.machine.now) _ _ _ _ _ n.added n.index n.keys c.if-not-is_new.false
    (g.M.Machine.stop c.look_at.new.run.cursor) (Some findings.Found) c.args.search.now.run.place _ _ _ _ c.args.label kept.2
    (ap (λ m. m.keys) (c.in_ok-look_at.ensures.same.0 ∙ kept.0)) c.in_ok-push.ensures.items seen

pub returns-in-Untold-clause-brings : goal.returns-in-Untold-clause-brings
returns-in-Untold-clause-brings g c =
    let n = c.in_ok-number.ensures in
    let kept = c.count.ensures.same in
    let there = new_there (g.M.Machine.explored c.args.machine.now) (g.M.Machine.sought c.args.machine.now) c.args.limit _
    (g.met.M.Machine.same_nodes c.args.machine.now) _ _ c.args.to _ _ n.added n.index n.keys c.if-not-is_new.false in
    let seen = (rw c.in-Untold.is at c.in_ok-look_at.ensures.sees) c.args.to (subst (λ m. slice_get m.keys c.in_ok-number.number ≡ Some c.args.to) (sym kept.0) there) in
    brings_new (g.M.Machine.explored c.args.machine.now) (g.M.Machine.sought c.args.machine.now) c.args.limit _
    (g.met.M.Machine.same_nodes c.args.machine.now) _ _ _ _ _ n.added n.index n.keys c.if-not-is_new.false
    (g.M.Machine.stop c.look_at.new.run.cursor) (Some findings.Untold) c.args.search.now.run.place _ _ _ _ c.args.label kept.2
    (ap (λ m. m.keys) (c.in_ok-look_at.ensures.same.0 ∙ kept.0)) c.in_ok-push.ensures.items seen

pub returns-in-Other-clause-brings : goal.returns-in-Other-clause-brings
returns-in-Other-clause-brings g c =
    let n = c.in_ok-number.ensures in
    let kept = c.count.ensures.same in
    let there = new_there (g.M.Machine.explored c.args.machine.now) (g.M.Machine.sought c.args.machine.now) c.args.limit _
    (g.met.M.Machine.same_nodes c.args.machine.now) _ _ c.args.to _ _ n.added n.index n.keys c.if-not-is_new.false in
    let seen = (rw c.in-Other.is at c.in_ok-look_at.ensures.sees) c.args.to (subst (λ m. slice_get m.keys c.in_ok-number.number ≡ Some c.args.to) (sym kept.0) there) in
    brings_new (g.M.Machine.explored c.args.machine.now) (g.M.Machine.sought c.args.machine.now) c.args.limit _
    (g.met.M.Machine.same_nodes c.args.machine.now) _ _ _ _ _ n.added n.index n.keys c.if-not-is_new.false
    (g.M.Machine.stop c.look_at.new.run.cursor) (Some findings.OpenEnded) c.args.search.now.run.place _ _ _ _ c.args.label kept.2
    (ap (λ m. m.keys) (c.in_ok-look_at.ensures.same.0 ∙ kept.0)) c.in_ok-push.ensures.items (seen, c.if-number-limit.true)

pub returns-in-Other-2-clause-brings : goal.returns-in-Other-2-clause-brings
returns-in-Other-2-clause-brings g c =
    let n = c.in_ok-number.ensures in
    let kept = c.count.ensures.same in
    let there = new_there (g.M.Machine.explored c.args.machine.now) (g.M.Machine.sought c.args.machine.now) c.args.limit _
    (g.met.M.Machine.same_nodes c.args.machine.now) _ _ c.args.to _ _ n.added n.index n.keys c.if-not-is_new.false in
    let seen = (rw c.in-Other.is at c.in_ok-look_at.ensures.sees) c.args.to (subst (λ m. slice_get m.keys c.in_ok-number.number ≡ Some c.args.to) (sym kept.0) there) in
    brings_new (g.M.Machine.explored c.args.machine.now) (g.M.Machine.sought c.args.machine.now) c.args.limit _
    (g.met.M.Machine.same_nodes c.args.machine.now) _ _ _ _ _ n.added n.index n.keys c.if-not-is_new.false
    (g.M.Machine.stop c.look_at.new.run.cursor) None c.args.search.now.run.place _ _ _ _ c.args.label kept.2
    (ap (λ m. m.keys) (c.in_ok-look_at.ensures.same.0 ∙ kept.0)) c.in_ok-push.ensures.items (seen, c.if-number-limit.false)
