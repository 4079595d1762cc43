use Rattle.zf_plan.proofs.Prelude.{◌∙◌, ◌≡◌, [], ap, arith, false≢true, length, subst, sym, true, None, Err, Ok, OnErr, Result, IsChosen, OnOk, IsGreatest}
use Rattle.zf_plan.proofs.Results.{on-err}
use Rattle.zf_plan.proofs.steps.choose_at.Goals as goal

on-ok : {T E : Type 0} (r : Result T E) (P Q : Type 0) → (P → Q) → OnOk r P → OnOk r Q
on-ok (Ok x) P Q f h = f h
on-ok (Err e) P Q f h = tt

err-so : {T E : Type 0} (r : Result T E) (P Q : Type 0) → (P → Q) → OnErr r P → OnErr r Q
err-so (Ok x) P Q f h = tt
err-so (Err e) P Q f h = f h

some-ok : {T E : Type 0} (r : Result T E) (P : Type 0) → P → OnOk r P
some-ok (Ok x) P p = p
some-ok (Err e) P p = tt

pub returns-then-len-eq0-clause-choice : goal.returns-then-len-eq0-clause-choice
returns-then-len-eq0-clause-choice g c = λ others w e first i v more at out is. absurd (out (subst (λ ch. IsChosen ch i) (sym (c.requires.waits c.if-again.true)) tt))

pub returns-then-again-clause-all : goal.returns-then-again-clause-all
returns-then-again-clause-all g c =
    let conjuncts = c.layer-layer.result.now.sifting.conjuncts in
    some-ok c.sift.result (c.args.problem.now.plan.now.is_plain ≡ true → c.sift.new.choice ≡ None)
    (λ plain. absurd (omega (arith, ap length (c.layer-layer.ensures.bare plain).unsifted, conjuncts.ok.0, c.if-len-eq0.false)))

pub returns-then-again-clause-granted : goal.returns-then-again-clause-granted
returns-then-again-clause-granted g c =
    let conjuncts = c.layer-layer.result.now.sifting.conjuncts in
    on-err c.sift.result (c.args.problem.now.plan.now.is_plain ≡ true → ⊥)
    (λ plain. omega (arith, ap length (c.layer-layer.ensures.bare plain).unsifted, conjuncts.ok.0, c.if-len-eq0.false))

pub returns-then-again-clause-refused : goal.returns-then-again-clause-refused
returns-then-again-clause-refused g c =
    err-so c.sift.result (c.args.choice.now ≡ None → c.sift.new.choice ≡ None) (c.args.again ≡ true → c.sift.new.choice ≡ None) (λ h e. h (c.requires.waits e)) c.sift.ensures.refused

pub returns-then-len-gt0-clause-few : goal.returns-then-len-gt0-clause-few
returns-then-len-gt0-clause-few g c =
    let k = length c.args.places.now in
    c.greatest.ensures.least k (subst (λ ns. IsGreatest ns k) (sym c.deref.ensures.value) (λ i h. (c.layer-layer.ensures.layer.sifting.lasts.each i h).0))

pub returns-then-len-gt0-clause-choice : goal.returns-then-len-gt0-clause-choice
returns-then-len-gt0-clause-choice g c = λ others w e first i v more at out is. absurd (out tt)

pub returns-clause-all : goal.returns-clause-all
returns-clause-all g c =
    on-ok c.choose.result (c.layer-layer.result.now.narrowing.conjuncts.items ≡ [] → c.choose.new.choice ≡ None)
    (c.args.problem.now.plan.now.is_plain ≡ true → c.choose.new.choice ≡ None) (λ h plain. h (c.layer-layer.ensures.bare plain).unnarrowed) c.choose.ensures.all

pub returns-clause-granted : goal.returns-clause-granted
returns-clause-granted g c =
    err-so c.choose.result (c.layer-layer.result.now.narrowing.conjuncts.items ≡ [] → ⊥) (c.args.problem.now.plan.now.is_plain ≡ true → ⊥)
    (λ h plain. h (c.layer-layer.ensures.bare plain).unnarrowed) c.choose.ensures.granted

pub returns-clause-refused : goal.returns-clause-refused
returns-clause-refused g c = on-err c.choose.result (c.args.again ≡ true → c.choose.new.choice ≡ None) (λ e. absurd (false≢true (sym c.if-again.false ∙ e)))
