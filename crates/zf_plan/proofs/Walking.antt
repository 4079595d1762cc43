-- A search over a flat forest is a walk over its leaves.
use Rattle.zf_plan.proofs.Prelude.{◌<◌, Bool, Err, List, Ok, Result, subst, sym, Conjuncts, IfOk, IsTrue, IsTreeTruth, OnErr, Ordering, planted, Stage, Step, Tree, Advances, OnOk, Stays, IsFlat, SayTheSame}
use Rattle.zf_plan.proofs.Alike.{advances, same_ahead}

pub flat-alike : {V : Type 0} (l : Conjuncts V) (trees : List Tree) → IsFlat l.number trees → SayTheSame (planted l trees) l
flat-alike l trees f = record {
  number = f.number;
  says = λ c m row t.
      let is = f.leaves c (subst (λ n. c < n) f.number m) in
      ((λ h. subst (λ tree. IsTreeTruth l tree row t) is h), (λ h. subst (λ tree. IsTreeTruth l tree row t) (sym is) h));
}

module _ {V E : Type 0} (cmp : V → V → Ordering) (l : Conjuncts V) (trees : List Tree) (flat : IsFlat l.number trees) (old new : Stage V) where
  pub advances-ok : (r : Result Step E) → IfOk r (λ step. Advances cmp (planted l trees) step old new) → IfOk r (λ step. Advances cmp l step old new)
  advances-ok (Ok step) h = advances cmp (planted l trees) l (flat-alike l trees flat) step old new h
  advances-ok (Err e) h = tt

  pub stays-err : (r : Result Step E) → OnErr r (Stays cmp (planted l trees) old new) → OnErr r (Stays cmp l old new)
  stays-err (Ok step) h = tt
  stays-err (Err e) h = (same_ahead cmp (planted l trees) l (flat-alike l trees flat) old.ranges old.after old.ahead new.ahead h.0, h.1)

pub under-ok : {T E : Type 0} (r : Result T E) (b : Bool) (P : Type 0) → IsTrue b → OnOk r (IsTrue b → P) → OnOk r P
under-ok (Ok x) b P yes' h = h yes'
under-ok (Err e) b P yes' h = tt
