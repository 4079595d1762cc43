use Rattle.zf_walk.proofs.Prelude.{◌*◌, ◌++◌, ◌+◌, ◌<◌, ◌∙◌, ◌∷◌, ◌≡◌, [], ap, arith, get_or, Global, length, List, refl, subst, sym, Vec, ℕ, AreUsed, combinations, Table, Used, le-div_iff_mul-le}
use Rattle.zf_walk.proofs.Picks.{range-is}
use Rattle.zf_walk.proofs.Telling.{used-none, used-more, used-skip, combinations-more, table-new}
use Rattle.zf_walk.proofs.tables.table_of.Goals as goal
use Rattle.zf_walk.proofs.tables.table_of.Goals.{then-uses+else-count-eq0+else-combinations-room+in_ok-push, else-uses+then-count-gt1, else-uses+else-count-gt1}

pub loop-component-init : goal.loop-component-init
loop-component-init g c =
    let uses = g.J.Judge.is_used c.args.judge.now c.args.conjunct in
    record {
      used = subst (λ (us : List Used). AreUsed c.args.ranges.now uses 0 us) (sym c.new-used.ensures.items) (used-none c.args.ranges.now uses);
      product = ap combinations c.new-used.ensures.items;
      small = omega arith;
    }

pub loop-component-preserved : goal.loop-component-preserved
loop-component-preserved g c =
    let uses = g.J.Judge.is_used c.args.judge.now c.args.conjunct in
    let ranges = c.args.ranges.now in
    let n = c.loop-component.component in
    let us = c.loop-component.used.items in
    let u : Used = record { component = n; count = c.len-count.result } in
    let near : n < length ranges = omega (arith, c.loop-component-test.true, c.loop-component.auto.component-end, c.due-due.ensures, c.requires.due) in
    let inside = range-is ranges n c.index-ranges-component.result near c.index-ranges-component.is in
    let count : u.count ≡ length (get_or ranges n []) = omega (arith, c.len-count.ensures, c.range.inside.values.ok.0, ap length c.range.view_is, ap length inside) in
    elim c.if-uses.branch [
      | then-uses+else-count-eq0+else-combinations-room+in_ok-push w ↦
          let items : c.if-uses.used.items ≡ us ++ u ∷ [] = ap (λ (v : Vec Used Global). v.items) w.used-is ∙ w.in_ok-push.ensures.items in
          record {
            used = subst (λ (vs : List Used). AreUsed ranges uses (n + 1) vs) (sym items) (used-more ranges uses n us u refl count c.loop-component.invariant.used);
            product = ap combinations items ∙ combinations-more us u ∙ ap (λ (m : ℕ). m * u.count) c.loop-component.invariant.product ∙ sym w.combinations-is;
            small = omega (
              arith,
              w.combinations-is,
              (le-div_iff_mul-le {k = u.count} {x = c.loop-component.combinations} {y = c.args.room.now} (omega (arith, w.if-count-eq0.false))).0
                  (omega (arith, w.if-combinations-room.false)),
            );
          }
      | else-uses+then-count-gt1 w ↦
          let items : c.if-uses.used.items ≡ us = ap (λ (v : Vec Used Global). v.items) w.used-is in
          record {
            used = subst (λ (vs : List Used). AreUsed ranges uses (n + 1) vs) (sym items) (used-skip ranges uses n us (sym c.uses.ensures ∙ w.if-uses.false) c.loop-component.invariant.used);
            product = ap combinations items ∙ c.loop-component.invariant.product ∙ sym w.combinations-is;
            small = omega (arith, w.combinations-is, c.loop-component.invariant.small);
          }
      | else-uses+else-count-gt1 w ↦
          let items : c.if-uses.used.items ≡ us = ap (λ (v : Vec Used Global). v.items) w.used-is in
          record {
            used = subst (λ (vs : List Used). AreUsed ranges uses (n + 1) vs) (sym items) (used-skip ranges uses n us (sym c.uses.ensures ∙ w.if-uses.false) c.loop-component.invariant.used);
            product = ap combinations items ∙ c.loop-component.invariant.product ∙ sym w.combinations-is;
            small = omega (arith, w.combinations-is, c.loop-component.invariant.small);
          }
    ]

pub returns : goal.returns
returns g c =
    let uses = g.J.Judge.is_used c.args.judge.now in
    let t : Table = record { used = c.loop-component.used; entries = c.in_ok-entries.entries; width = c.width_of-width.result; seen = c.new-seen.result } in
    let all : c.loop-component.component ≡ (g.J.Judge.conjuncts c.args.judge.now).due c.args.conjunct = omega (arith, c.due-due.ensures) in
    table-new t
    (subst (λ (n : ℕ). AreUsed c.args.ranges.now (uses c.args.conjunct) n c.loop-component.used.items) all c.loop-component.invariant.used)
    (omega (arith, c.loop-component.invariant.product)) c.in_ok-entries.ensures.items c.new-seen.ensures.items
