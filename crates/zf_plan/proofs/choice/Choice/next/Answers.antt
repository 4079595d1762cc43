use Rattle.zf_plan.proofs.Prelude.{◌∙◌, ap, cond, List, None, Some, subst, sym, ℕ, IsNextChoice, Bool, passing}
use Rattle.zf_plan.proofs.choice.Choice.next.Goals as goal

pub returns-then-self-2 : goal.returns-then-self-2
returns-then-self-2 c =
    let i = c.self.inside in
    let next : IsNextChoice (Some (passing 0 c.deref.result.now)) c.args.from c.first_passing.result = record { up = c.first_passing.ensures.up; skipped = c.first_passing.ensures.skipped } in
    subst (λ h. IsNextChoice h c.args.from c.first_passing.result)
    (ap (λ (ps : List Bool). Some (passing 0 ps)) c.deref.ensures.value ∙ sym (ap (λ b. Some (cond b (passing 0 i.passes.items) i.places.items)) c.if-self-2.true)
    ∙ sym (ap (λ b. cond b None (Some (cond i.marked (passing 0 i.passes.items) i.places.items))) c.if-self.false) ∙ c.self.view_is) next

pub returns-else-self-2 : goal.returns-else-self-2
returns-else-self-2 c =
    let i = c.self.inside in
    let next : IsNextChoice (Some c.deref-else-self-2.result.now) c.args.from c.least_from.result = record { up = c.least_from.ensures.up; skipped = c.least_from.ensures.skipped } in
    subst (λ h. IsNextChoice h c.args.from c.least_from.result)
    (ap (λ (ps : List ℕ). Some ps) c.deref-else-self-2.ensures.value ∙ sym (ap (λ b. Some (cond b (passing 0 i.passes.items) i.places.items)) c.if-self-2.false)
    ∙ sym (ap (λ b. cond b None (Some (cond i.marked (passing 0 i.passes.items) i.places.items))) c.if-self.false) ∙ c.self.view_is) next
