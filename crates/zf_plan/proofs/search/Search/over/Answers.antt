use Rattle.zf_plan.proofs.Prelude.{[], false, List, IsRowOf, option_copied, picked, planted, ◌∙◌, ◌≡◌, ap, arith, length, refl, replicate, rules, subst, false≢true, picked-nil, trees_of, Place, AreKeyed, AreNew, IsNew, unseen}
use Rattle.zf_plan.proofs.Stepping.{ahead-first, stands-first}
use Rattle.zf_plan.proofs.Counting.{basis-of, counted-first}
use Rattle.zf_plan.proofs.Seeing.{unseen-first}
use Rattle.zf_plan.proofs.search.Search.over.Goals as goal

pub invariant_of-result : goal.invariant_of-result
invariant_of-result g c =
    let l = g.J.Judge.conjuncts c.args.judge in
    let uses = g.J.Judge.is_used c.args.judge in
    let ranges = c.args.ranges.items in
    let p : Place = record { places = c.in_ok-places.places; found = c.in_ok-found.found; marks = c.in_ok-marks.marks; seen = c.in_ok-seen.seen; depth = 0; fresh = c.may_begin.result } in
    let memo = c.in_ok-memo.memo in
    let choices = c.in_ok-choices.choices.items in
    let places : length c.in_ok-places.places.items ≡ length ranges = search rules in
    let found : length c.in_ok-found.found.items ≡ length ranges = search rules in
    let seen : length c.in_ok-seen.seen.items ≡ length ranges = search rules in
    let nothing : c.in_ok-seen.seen.items ≡ replicate (length ranges) unseen = search rules in
    let new : IsNew l uses ranges memo = subst (λ rs. IsNew l uses rs memo) c.deref.ensures.value c.in_ok-memo.ensures in
    let marks : AreNew (length ranges) c.in_ok-marks.marks = subst (λ n. AreNew n c.in_ok-marks.marks) (omega (arith, c.len-4.ensures, c.args.ranges.ok.0)) c.in_ok-marks.ensures in
    record {
      sound = c.requires.sound;
      keys = subst (λ rs. AreKeyed l (g.J.Guide.is_key c.args.judge) rs c.in_ok-keys.keys.items) c.deref-2.ensures.value c.in_ok-keys.ensures;
      stands = stands-first l uses (trees_of c.args.forest) ranges p memo choices refl places found seen marks new (c.in_ok-choices.ensures.all ∙ (omega (arith, c.len-2.ensures, c.args.ranges.ok.0)));
      whole = λ e. absurd (false≢true e);
      plain = c.requires.plain;
      counts = λ plain. counted-first (basis-of g.met.V.Ord.total (g.met.J.Judge.one_truth c.args.judge) (g.met.J.Judge.kept c.args.judge) c.requires.sound) p
          memo.tests choices refl (c.may_begin.ensures.plain plain) new.tests c.in_ok-choices.ensures.none
          (unseen-first c.in_ok-seen.seen.items (length ranges) nothing);
    }

pub returns-clause-events : goal.returns-clause-events
returns-clause-events g c =
    let ranges = c.args.ranges.items in
    ahead-first g.V.Ord.cmp (planted (g.J.Judge.conjuncts c.args.judge) (trees_of c.args.forest)) ranges (option_copied c.args.after) (picked ranges []) c.may_begin.result (picked-nil ranges)
    (subst (λ rs. c.may_begin.result ≡ false → (row : List g.row.V.Denot) → IsRowOf rs row → ⊥) c.deref-3.ensures.value c.may_begin.ensures.none)

pub returns-clause-begun : goal.returns-clause-begun
returns-clause-begun g c = λ plain.
    ap (λ r. record { path = r; here = c.may_begin.result }) (picked-nil c.args.ranges.items) ∙ ap (λ b. record { path = []; here = b }) (c.may_begin.ensures.plain plain)
