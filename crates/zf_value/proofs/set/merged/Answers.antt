use Rattle.zf_value.proofs.Prelude.{◌++◌, ◌∙◌, ◌≤◌, ◌⊎◌, ap, inl, inr, length, take_rest}
use Rattle.zf_value.proofs.Merged.{merging_none, merging_less, merging_equal, merging_greater, merged_all}
use Rattle.zf_value.proofs.set.merged.Goals as goal
use Rattle.zf_value.proofs.set.merged.Goals.{then-loop-i-test+else-j-b, else-loop-i-test}

pub loop-i-init : goal.loop-i-init
loop-i-init c = merging_none _ _ _ c.in_ok-values.ensures.items c.requires.a c.requires.b

pub loop-i-preserved-in-Less : goal.loop-i-preserved-in-Less
loop-i-preserved-in-Less c =
    merging_less _ _ _ _ _ _ _ _ _ c.index-a-i.is c.loop-i-test.true c.index-b-j.is c.if-j-b.true c.in-Less.ensures c.in_ok-copy-in-Less.ensures c.in_ok-push-in-Less.ensures.items c.loop-i.invariant

pub loop-i-preserved-in-Equal : goal.loop-i-preserved-in-Equal
loop-i-preserved-in-Equal c =
    merging_equal _ _ _ _ _ _ _ _ _ c.index-a-i.is c.loop-i-test.true c.index-b-j.is c.if-j-b.true c.in-Equal.ensures c.in_ok-copy-in-Equal.ensures
    c.in_ok-push-in-Equal.ensures.items c.loop-i.invariant

pub loop-i-preserved : goal.loop-i-preserved
loop-i-preserved c =
    merging_greater _ _ _ _ _ _ _ _ _ c.index-a-i.is c.loop-i-test.true c.index-b-j.is c.if-j-b.true c.in-Greater.ensures c.in_ok-copy-in-Greater.ensures
    c.in_ok-push-in-Greater.ensures.items c.loop-i.invariant

pub returns : goal.returns
returns c =
    let ended : (length c.args.a.now ≤ c.loop-i.i) ⊎ (length c.args.b.now ≤ c.loop-i.j) = elim c.loop-i-test.branch
    [ then-loop-i-test+else-j-b w ↦ inr w.if-j-b.false | else-loop-i-test w ↦ inl w.loop-i-test.false ] in
    let both = merged_all _ _ _ _ _ _ _ ended c.loop-i.invariant (c.in_ok-copy_onto.ensures
    ∙ ap (λ us. c.loop-i.values.items ++ us) (take_rest c.args.a.now c.loop-i.i))
    (c.in_ok-copy_onto-2.ensures ∙ ap (λ us. c.copy_onto.new.values.items ++ us) (take_rest c.args.b.now c.loop-i.j)) in
    record { ascending = both.0; joined = both.1 }
