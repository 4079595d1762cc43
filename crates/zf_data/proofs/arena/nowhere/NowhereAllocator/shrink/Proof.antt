-- It answers `Err`, and the block stays as it was.
use Rattle.zf_data.proofs.Prelude.{◌∷◌, ◌≤◌, [], Err, false, refl, w64, Ptr-Good, Answer, Answer-err, Answer-typed, answer_val, proved, block_with_items, FitsBlock, flft, Fml, ftrue, id⊢, ◌⊑◌, fact, RefOf, usize, yes, bounded, param, uint_Tells, uint_vals, owns, RattleType, RawPtr, rawptr_Tells, rawptr_vals, shr_vals, plain, Slot, types_at, heard, nothing, Ended, ends_at, Goes-dropped, stay_dropped, Stays, walk_of, inst_fn, a_type, dnil, alloc_all, free_all, get, look_at, pass_all, sets, ◌$◌, ◌∵◌, ◌⊛◌, !, ‵, done, fjoin, join, keep, move, qed, raw, split, suffices, use0, use1, agg, and_then, enter, lit, no_more, returns}
use Rattle.zf_data.specs.contracts.arena.nowhere.Nowhere as nowhere
use Rattle.zf_data.specs.contracts.arena.nowhere.NowhereAllocator.shrink as f
use Rattle.zf_data.proofs.arena.nowhere.NowhereAllocator.shrink.Statement.{statement}
use Rattle.zf_data.proofs.arena.nowhere.NowhereAllocator.shrink.Code as code

abbrev handle : Slot 2
handle = RefOf (0 ∷ []) tt (plain (λ _. nowhere.the_row)) (λ _. tt)

abbrev stayed : (X : RattleType) → Stays (f.ended X).signature.params (f.ended X).kept
stayed X = (
  stay_dropped handle yes,
  (
    stay_dropped (plain (λ _. RawPtr)) yes,
    (stay_dropped (plain (λ _. usize)) yes, (stay_dropped (plain (λ _. usize)) yes, (stay_dropped (plain (λ _. usize)) yes, tt))),
  ),
)

pub shrink_spec : {M : Type 1} → statement M
shrink_spec 𝓤 𝓛 𝓜 𝓡 wired X laws =
    let E : Ended = f.ended X in let hs = stayed X in let c = f.clauses X 𝓛 𝓜.mem 𝓡.returns in let W = walk_of 𝓛 E hs c in
    let inst = bounded (a_type ∷ []) (X, tt) dnil in
    let number = Goes-dropped 𝓛 2 (plain (λ _. usize)) yes (λ κs x w. refl) in
    proved 𝓛 E hs c 𝓜 𝓡 (Goes-dropped 𝓛 2 handle yes (λ κs x w. refl), (Goes-dropped 𝓛 2 (plain (λ _. RawPtr)) yes (λ κs x w. refl), (number, (number, (number, tt)))))
    (f.Key.name inst) (inst_fn inst code.function) (code.unfolded 𝓤 𝓛.H 𝓜 𝓡 wired (X, tt))
    (λ κs. (shr_vals, (rawptr_vals, (uint_vals w64, (uint_vals w64, (uint_vals w64, tt))))))
    (λ κs. ((λ r vs s. s.0), (rawptr_Tells, (uint_Tells w64, (uint_Tells w64, (uint_Tells w64, tt)))))) (λ κs qs bounds a xs are.
    let len = a.1.1.0 in let old = a.1.1.1.0 in let new = a.1.1.1.1.0 in
    let y : W.Ghost = ((κs, qs, bounds, a, (shr_vals a.0, (rawptr_vals a.1.0, (uint_vals w64 len, (uint_vals w64 old, (uint_vals w64 new, tt)))))), xs) in
    let Lives : Type 0 = κs.1.0 ⊑ X.lives in
    let Sizes : Type 0 = (len ≤ new) × (new ≤ old) × FitsBlock (param 0 X) old in
    let block : Fml = block_with_items (λ τ p. ftrue) (param 0 X) a.1.0 len old xs in
    qed 𝓛 (((‵ (flft κs.0 qs.0) ⊛ ‵ (flft κs.1.0 qs.1.0) ⊛ ‵ ftrue) ⊛ ‵ (owns (types_at E.signature.params κs) a y.0.4)) ∷ raw ((c κs a).requires xs) ∷ []) ∵
    move ! (1 ∷ []) $ use1 𝓛 (raw (fact 𝓤 Lives) ⊛ raw (fact 𝓤 Sizes) ⊛ ‵ block) (id⊢ 𝓤 _) $ split ! $ heard ! Lives (λ _. split ! $ heard ! Sizes (λ _.
    -- [the block; the tokens with what the parameters own]
    move ! (1 ∷ []) $ split ! $ keep ! (0 ∷ 2 ∷ []) $
    enter ! _ _ _ _ _ $ alloc_all ! (λ l. pass_all ! refl (
      (tt, tt),
      (
        Ptr-Good a.1.0,
        ((tt, record { fits = are.1.1.0.1 }), ((tt, record { fits = are.1.1.1.0.1 }), ((tt, record { fits = are.1.1.1.1.0.1 }), tt))),
      ),
    ) $
    sets ! (agg ! (no_more !)) refl (tt, tt) $
    sets ! (agg ! (and_then ! (lit ! tt) (and_then ! (get ! refl) (no_more !)))) refl (Answer-typed false 0 0) $
    returns ! (look_at ! 0 refl) $ free_all ! refl $
    suffices ! _ (ends_at 𝓛 E hs c y (answer_val false 0 0) (Err (record {})) (tt, (tt, (tt, (tt, (tt, tt))))) (tt, (tt, (tt, (tt, (tt, tt)))))) $
    use0 𝓛 (‵ (Answer.own_val (Err (record {})) (answer_val false 0 0 ∷ []))) (Answer-err 𝓛) $
    nothing ! $ nothing ! $ fjoin ! $ nothing ! $ fjoin ! $ nothing ! $ fjoin ! $ nothing ! $ fjoin ! $ nothing ! $ fjoin ! $ join ! $
    move ! (1 ∷ 0 ∷ []) $ join ! $ done !))))
