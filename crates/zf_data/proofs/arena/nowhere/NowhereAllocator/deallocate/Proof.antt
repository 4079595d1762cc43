-- It does nothing, and the right to free the block is let go.
use Rattle.zf_data.proofs.Prelude.{◌∷◌, [], List, refl, w64, Ptr-Good, proved, flft, ftrue, RefOf, usize, yes, uint_Tells, uint_vals, owns, RawPtr, rawptr_Tells, rawptr_vals, shr_vals, plain, Slot, types_at, nothing, ends_at, Goes-dropped, stay_dropped, Stays, walk_of, Val, vunit, alloc_all, free_all, look_at, pass_all, sets, ◌$◌, ◌∵◌, ◌⊛◌, !, ‵, done, feq_i, fjoin, join, keep, move, qed, raw, split, suffices, enter, of_opd, returns, unit_lit}
use Rattle.zf_data.specs.contracts.arena.nowhere.Nowhere as nowhere
use Rattle.zf_data.specs.contracts.arena.nowhere.NowhereAllocator.deallocate as f
use Rattle.zf_data.proofs.arena.nowhere.NowhereAllocator.deallocate.Statement.{statement}
use Rattle.zf_data.proofs.arena.nowhere.NowhereAllocator.deallocate.Code as code

abbrev handle : Slot 1
handle = RefOf (0 ∷ []) tt (plain (λ _. nowhere.the_row)) (λ _. tt)

abbrev stayed : Stays f.ended.signature.params f.ended.kept
stayed = (stay_dropped handle yes, (stay_dropped (plain (λ _. RawPtr)) yes, (stay_dropped (plain (λ _. usize)) yes, (stay_dropped (plain (λ _. usize)) yes, tt))))

pub deallocate_spec : {M : Type 1} → statement M
deallocate_spec 𝓤 𝓛 𝓜 𝓡 wired =
    let c = f.clauses 𝓛 𝓜.mem 𝓡.returns in let W = walk_of 𝓛 f.ended stayed c in
    let number = Goes-dropped 𝓛 1 (plain (λ _. usize)) yes (λ κs x w. refl) in
    proved 𝓛 f.ended stayed c 𝓜 𝓡 (Goes-dropped 𝓛 1 handle yes (λ κs x w. refl), (Goes-dropped 𝓛 1 (plain (λ _. RawPtr)) yes (λ κs x w. refl), (number, (number, tt))))
    f.Key.name code.function (code.unfolded 𝓤 𝓛.H 𝓜 𝓡 wired)
    (λ κs. (shr_vals, (rawptr_vals, (uint_vals w64, (uint_vals w64, tt))))) (λ κs. ((λ r vs s. s.0), (rawptr_Tells, (uint_Tells w64, (uint_Tells w64, tt))))) (λ κs qs bounds a ty are.
    let y : W.Ghost = ((κs, qs, bounds, a, (shr_vals a.0, (rawptr_vals a.1.0, (uint_vals w64 a.1.1.0, (uint_vals w64 a.1.1.1.0, tt))))), ty) in
    qed 𝓛 (((‵ (flft κs.0 qs.0) ⊛ ‵ ftrue) ⊛ ‵ (owns (types_at f.ended.signature.params κs) a y.0.4)) ∷ raw ((c κs a).requires ty) ∷ []) ∵
    split ! $ keep ! (0 ∷ []) $
    enter ! _ _ _ _ _ $ alloc_all ! (λ l. pass_all ! refl ((tt, tt), (Ptr-Good a.1.0, ((tt, record { fits = are.1.1.0.1 }), ((tt, record { fits = are.1.1.1.0.1 }), tt)))) $
    sets ! (of_opd ! (unit_lit !)) refl (tt, tt) $
    returns ! (look_at ! 0 refl) $ free_all ! refl $
    suffices ! _ (ends_at 𝓛 f.ended stayed c y vunit tt (tt, (tt, (tt, (tt, tt)))) (tt, (tt, (tt, (tt, tt))))) $
    -- [the tokens]
    nothing ! $ feq_i ! (List Val) (vunit ∷ []) (vunit ∷ []) refl $
    nothing ! $ nothing ! $ fjoin ! $ nothing ! $ fjoin ! $ nothing ! $ fjoin ! $ nothing ! $ fjoin ! $ join ! $
    move ! (2 ∷ []) $ join ! $ done !))
