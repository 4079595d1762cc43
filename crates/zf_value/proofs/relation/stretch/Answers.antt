use Rattle.zf_value.proofs.Prelude.{◌∙◌, ◌≡◌, ap, arith, false, rules, true, sym, IsPartitionPoint-from_clause, is_le, is_lt, place_beside, AllWithin-more, at_read}
use Rattle.zf_value.proofs.Stretches.{parted_before, from_start, end_here, end_of_all, in_order, related_between}
use Rattle.zf_value.proofs.relation.stretch.Goals as goal

pub loop-end-init : goal.loop-end-init
loop-end-init c =
    let start = IsPartitionPoint-from_clause (λ z. is_lt (place_beside c.args.x.now z)) _ _ c.partition_point-start.ensures.partitioned
    (parted_before c.args.x.now c.args.r.now c.requires) (λ a r q k. search rules) in
    (start, from_start c.args.x.now c.args.r.now _ start, c.partition_point-start.ensures.bound)

pub loop-end-preserved : goal.loop-end-preserved
loop-end-preserved c =
    let i = c.loop-end.invariant in
    let at = at_read c.args.r.now (λ z. is_le (place_beside c.args.x.now z) ≡ true) c.loop-end.end _ c.loop-end-test.true c.index-r-end.is
    (sym (c.is_le.ensures ∙ ap is_le c.place_beside.ensures) ∙ c.if-is_le.true) in
    (i.0, AllWithin-more (λ z. is_le (place_beside c.args.x.now z) ≡ true) c.args.r.now 0 c.loop-end.end i.1 at, omega (arith, c.loop-end-test.true))

pub returns-else-is_le : goal.returns-else-is_le
returns-else-is_le c =
    let i = c.loop-end.invariant in
    let at = at_read c.args.r.now (λ z. is_le (place_beside c.args.x.now z) ≡ false) c.loop-end.end _ c.loop-end-test.true c.index-r-end.is
    (sym (c.is_le.ensures ∙ ap is_le c.place_beside.ensures) ∙ c.if-is_le.false) in
    let end = end_here c.args.x.now c.args.r.now c.loop-end.end c.requires i.1 at in
    record {
      order = in_order _ _ _ _ i.0 end c.partition_point-start.ensures.bound;
      bound = i.2;
      related = related_between _ _ _ _ c.requires i.0 end i.2;
    }

pub returns-after-loop-end : goal.returns-after-loop-end
returns-after-loop-end c =
    let i = c.loop-end.invariant in
    let end = end_of_all c.args.x.now c.args.r.now c.loop-end.end i.1 (omega (arith, c.loop-end-test.false)) in
    record {
      order = in_order _ _ _ _ i.0 end c.partition_point-start.ensures.bound;
      bound = i.2;
      related = related_between _ _ _ _ c.requires i.0 end i.2;
    }
