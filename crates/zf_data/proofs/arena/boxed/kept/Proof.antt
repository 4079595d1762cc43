-- The pointer that `into_raw` gives goes to `from_raw`, and the right to free the block is let go.
use Rattle.zf_data.proofs.Prelude.{◌++◌, ◌∙◌, ◌∷◌, ◌≡◌, [], ap, List, refl, subst, sym, T, Al, Goes-blank, token, leaves, proved_at, flft, fsep, ftrue, emp, ent, fst∗, id⊢, never, SProp, ◌⊑◌, ⊑_static, fact, fact_i, no, arg, bounded, layout, RattleType, block_ptr, in_a_block, null_ptr, Ptr, ptr_val, plain, heard, nothing, only, Lasts, lasts, stay_dropped, Stays, walk_of, inst_fn, a_type, dcons, Dict, dnil, impl, tcons, tnil, Ty, ty_struct, has_ty, Val, vnil, vptr, vstruct, WT, alloc_all, env, free_all, get, is, lands_as, lands_last, look_at, pass_all, sets, ◌$◌, ◌∵◌, ◌⊛◌, !, ‵, at_ret, await, by, drop, feq_i, feq_l, fjoin, fjoin3, fsplit, Item, join, keep, later, move, pick, qed, raw, some, split, split3, suffices, use0, use1, agg, and_then, blocks, enter, exec, first, no_more, of_opd, returns}
use Rattle.std.proofs.BoxSteps.Form as box
use Rattle.std.proofs.BoxSteps.Steps.{box_out, box_in}
use Rattle.std.proofs.VecSteps.Shapes.{after}
use Rattle.std.specs.Box.Ownership.{box_owns}
use seplogic.Ra.Ura.{Ura}
use mir.Raw.{raw as bare}
use prog.Wp.{WpFn}
use types.Logic.{Logic, sem}
use contract.Running.{tables, tables_of}
use denote.Builtin.{RawPtr}
use denote.Param.Laws.{Laws, arg_laws}
use denote.Param.NoDrop.{glues}
use denote.Struct.Declared as Declared
use denote.Struct.Struct.{Struct-Makes}
use denote.Triple.Call.{calls_at, calls_at_last}
use denote.Triple.Spec.{triple_of}
use denote.Triple.Table.{framed}
use Rattle.std.specs.contracts.boxed.Box.into_raw as into_raw
use Rattle.std.proofs.boxed.Box.into_raw.Met as into_raw-met
use Rattle.std.specs.contracts.boxed.Box.from_raw as from_raw
use Rattle.std.proofs.boxed.Box.from_raw.Met as from_raw-met
use Rattle.zf_data.specs.contracts.arena.nowhere.Nowhere as nowhere
use Rattle.zf_data.specs.contracts.arena.nowhere.NowhereAllocator.TheImpl as allocator
use Rattle.zf_data.proofs.arena.nowhere.Nowhere.TheLaws.{the_row_laws}
use Rattle.zf_data.proofs.arena.nowhere.NowhereAllocator.TheImpl.Met as allocator-met
use Rattle.zf_data.proofs.Destruct++none.drop.Code.{code as drop_code}
use Rattle.zf_data.specs.contracts.arena.boxed.kept as f
use Rattle.zf_data.proofs.arena.boxed.kept.Statement.{statement}
use Rattle.zf_data.proofs.arena.boxed.kept.Code as code

-- the allocator as a call passes it
abbrev passed : Ty
passed = ty_struct [] tnil

abbrev Nowhere : RattleType
Nowhere = arg passed no nowhere.the_row

nowhere_laws : Laws Nowhere
nowhere_laws = arg_laws passed no nowhere.the_row the_row_laws refl

abbrev undropped : Dict
undropped = impl ("zf_data::Destruct++none::drop" ∷ []) (tcons passed tnil) dnil

abbrev freed_nowhere : Al
freed_nowhere = record { row = Nowhere; laws = nowhere_laws; g = allocator.ghosts; d = allocator.dict; drops = undropped }

handle_made : {M : Type 1} {𝓤 : Ura M} (𝓛 : Logic 𝓤) → ent 𝓤 (emp 𝓤) (sem 𝓛 (nowhere.the_row.own_val (record {}) (vstruct vnil ∷ [])))
handle_made 𝓛 = Struct-Makes 𝓛 (Declared.shape nowhere.the_type) tt tt (vstruct vnil ∷ []) (tt, (refl, tt))

pub kept_spec : {M : Type 1} → statement M
unfolding tables_of drop_code
kept_spec {M} 𝓤 𝓛 𝓜 𝓡 wired X A L LA g d dx dd allocates glue glued =
    let H = 𝓛.H in let 𝓣 = tables 𝓤 H 𝓜 𝓡 𝓡.env in let fm = framed 𝓤 H 𝓜 𝓣 in
    let E : box.Bx = record { row = X; laws = L; al = record { row = A; laws = LA; g = g; d = d; drops = dd } } in
    let N : box.Bx = record { row = X; laws = L; al = freed_nowhere } in
    let R : RattleType = box.R E in
    let En = f.ended X A g d dx dd in let c = f.clauses X A g d dx dd 𝓛 𝓜.mem 𝓡.returns in
    let inst = bounded (a_type ∷ a_type ∷ []) (X, (A, tt)) (dcons d (dcons dx (dcons dd dnil))) in let fn = inst_fn inst code.function in
    let Into = triple_of 𝓛 (into_raw.signature X A g d dd dx) (into_raw.spec X A g d dd dx 𝓛 𝓜.mem 𝓡.returns) in
    let into_known = into_raw-met.met 𝓤 𝓛 𝓜 𝓡 (code.calls-std_alloc::boxed::Box::into_raw 𝓡.env wired) X A L LA g d dd dx allocates glued glue in
    let From = triple_of 𝓛 (from_raw.signature X Nowhere allocator.ghosts allocator.dict undropped) (from_raw.spec X Nowhere allocator.ghosts allocator.dict undropped 𝓛 𝓜.mem 𝓡.returns) in
    let never_allocates = allocator-met.passed 𝓡.env
    (code.calls-zf_data::arena::nowhere::NowhereAllocator::allocate 𝓡.env wired) (code.calls-zf_data::arena::nowhere::NowhereAllocator::deallocate 𝓡.env wired)
    (code.calls-zf_data::arena::nowhere::NowhereAllocator::grow 𝓡.env wired) (code.calls-zf_data::arena::nowhere::NowhereAllocator::shrink 𝓡.env wired) M 𝓤 𝓛 𝓜 𝓡 in
    let never_drops = glues "zf_data::Destruct++none::drop" 𝓡.env (code.calls-zf_data::Destruct++none::drop 𝓡.env wired) Nowhere nowhere_laws M 𝓤 𝓛 𝓜 𝓡 in
    let from_known = from_raw-met.met 𝓤 𝓛 𝓜 𝓡 (code.calls-std_alloc::boxed::Box::from_raw 𝓡.env wired) X Nowhere L nowhere_laws allocator.ghosts allocator.dict undropped never_allocates never_drops in
    let hs : Stays En.signature.params En.kept = (stay_dropped (plain (λ _. box.B E)) no, tt) in
    proved_at 𝓛 En hs c 𝓜 𝓡 (Goes-blank 𝓛 2 (plain (λ _. box.B E)) no (λ κs x w. tt), tt) (f.Key.name inst) fn (code.unfolded 𝓤 H 𝓜 𝓡 wired (X, (A, tt)) d dx dd) (λ z are.
    let κs = z.0.0 in let qs = z.0.1 in let v = z.0.3.0 in let a = v.alloc in let x = v.value in
    let Post : Val → SProp 𝓤 = (walk_of 𝓛 En hs c).post z in let Run : List Val → SProp 𝓤 = λ ws. WpFn 𝓤 H 𝓣.C 𝓣.Λ fn ws Post in
    let tokens : Item 𝓤 = ‵ (flft κs.0 qs.0) ⊛ ‵ (flft κs.1.0 qs.1.0) ⊛ ‵ ftrue in
    let InX : Type 0 = κs.0 ⊑ X.lives in let InA : Type 0 = κs.1.0 ⊑ A.lives in let InN : Type 0 = κs.1.0 ⊑ Nowhere.lives in
    qed 𝓛 ((tokens ⊛ ‵ (fsep ((box.B E).own_val v z.0.4.0) ftrue)) ∷ raw (fact 𝓤 InX) ∷ raw (fact 𝓤 InA) ∷ ‵ ftrue ∷ []) ∵
    move ! (1 ∷ 2 ∷ []) $ heard ! InX (λ in_x. heard ! InA (λ in_a. split ! $ move ! (1 ∷ []) $ fsplit ! $
    box_out E ! v z.0.4.0 (λ b o hv e ws fits. box_in E ! v b o x e refl $ keep ! (0 ∷ 2 ∷ []) $
    let w : Val = box.word E hv b o in let typed = box.box_typed E hv b o fits in let y : Into.Ghost = ((κs, qs, tt, (v, tt), (w ∷ [], tt)), tt) in
    suffices ! (Run (w ∷ [])) (subst (λ (us : List Val). ent 𝓤 (Run (w ∷ [])) (Run us)) (sym (λ i. ws i ++ [])) (id⊢ 𝓤 (Run (w ∷ [])))) $
    enter ! 𝓣.C 𝓣.Λ fn (w ∷ []) Post $ alloc_all ! (λ l. pass_all ! refl (typed, tt) $ sets ! (of_opd ! (get ! refl)) refl typed $
    -- [the box; the tokens]
    nothing ! $ move ! (1 ∷ 0 ∷ []) $ fjoin ! $ move ! (1 ∷ 0 ∷ []) $ join ! $
    nothing ! $ use0 𝓛 (raw (fact 𝓤 InA)) (fact_i 𝓤 InA (emp 𝓤) in_a) $ join ! $ use0 𝓛 (raw (fact 𝓤 InX)) (fact_i 𝓤 InX (emp 𝓤) in_x) $ join ! $ move !
    (1 ∷ 0 ∷ []) $ join ! $ use1 𝓛 (raw (Into.pre y)) (id⊢ 𝓤 _) $
    calls_at ! fm Into into_known y (and_then ! (get ! refl) (no_more !)) (λ u.
    let Ended = into_raw.ended X A g d dd dx in
    use1 𝓛 (later (some (λ (p : Ptr). (tokens ⊛ ‵ (RawPtr.own_val p (u ∷ []))) ⊛ some
    (λ (ls : Lasts Ended κs (v, tt)). ‵ (lasts Ended κs (v, tt) ls) ⊛ ‵ (box_owns (token E.al a) R p x))))) (id⊢ 𝓤 _) $
    await ! tt $ pick ! (λ p. split ! $ move ! (1 ∷ []) $ pick ! (λ _. split ! $ drop ! $
    in_a_block ! p (λ q. box_owns (token E.al a) R q x) (fst∗ 𝓤 (never 𝓤) (sem 𝓛 (token E.al a (bare (layout X)) null_ptr))) (λ b' o' e'.
    fsplit ! $ move ! (1 ∷ []) $ drop ! $ move ! (1 ∷ []) $ split ! $ move ! (1 ∷ []) $ feq_l ! (λ eu.
    -- [the tokens; the value]
    lands_as ! (ap only eu ∙ ap ptr_val e') refl (tt, tt) $ first ! $ blocks ! $ sets ! (agg ! (no_more !)) refl (tt, tt) $
    let at : Ptr = block_ptr b' o' in let y' : From.Ghost = ((κs, qs, tt, (record {}, (at, tt)), (vstruct vnil ∷ [], (vptr b' o' ∷ [], tt))), x) in
    nothing ! $ move ! (2 ∷ 0 ∷ []) $ fjoin ! $
    use0 𝓛 (raw (fact 𝓤 InN)) (fact_i 𝓤 InN (emp 𝓤) (⊑_static κs.1.0)) $ join ! $ use0 𝓛 (raw (fact 𝓤 InX)) (fact_i 𝓤 InX (emp 𝓤) in_x) $ join ! $
    nothing ! $ feq_i ! (List Val) (vptr b' o' ∷ []) (vptr b' o' ∷ []) refl $ use0 𝓛 (‵ (Nowhere.own_val (record {}) (vstruct vnil ∷ []))) (handle_made 𝓛) $ fjoin3 ! $
    move ! (2 ∷ 0 ∷ []) $ join ! $ join ! $ use1 𝓛 (raw (From.pre y')) (id⊢ 𝓤 _) $
    calls_at_last ! fm From from_known y' (and_then ! (get ! refl) (and_then ! (get ! refl) (no_more !))) (λ u'.
    let Ended' = from_raw.ended X Nowhere allocator.ghosts allocator.dict undropped in
    use1 𝓛 (later (some (λ (r : box.D N). (tokens ⊛ ‵ ((box.B N).own_val r (u' ∷ []))) ⊛ some
    (λ (ls : Lasts Ended' κs y'.0.3). ‵ (lasts Ended' κs y'.0.3 ls) ⊛ (raw (fact 𝓤 (r.value ≡ x)) ⊛ raw (fact 𝓤 (r.alloc ≡ record {})))))))
    (id⊢ 𝓤 (From.post y' u')) $
    await ! tt $ pick ! (λ r. split ! $ move ! (1 ∷ []) $ pick ! (λ _. split3 ! $ drop ! $ move ! (1 ∷ []) $ drop ! $ heard ! (r.value ≡ x) (λ same. split ! $ move ! (1 ∷ []) $
    box_out N ! r (u' ∷ []) (λ b'' o'' hv' e'' us fits'. box_in N ! r b'' o'' r.value e'' refl $
    let w' : Val = box.word N hv' b'' o'' in let typed' = box.box_typed N hv' b'' o'' fits' in let is_word : u' ≡ w' = ap only us in let Ev = env fn.locals l in
    lands_last ! refl (subst (λ (s : Val). T (has_ty (box.box_ty N) s) × WT s) (sym is_word) typed') $ exec ! 𝓣.C 𝓣.Λ Ev (after 3 fn.body) (at_ret Ev Post) $
    sets ! (is ! (of_opd ! (get ! refl)) is_word) refl typed' $
    -- [the new box; the tokens]
    use0 𝓛 (raw (fact 𝓤 (r.value ≡ x))) (fact_i 𝓤 (r.value ≡ x) (emp 𝓤) same) $ nothing ! $ nothing ! $ fjoin ! $
    returns ! (look_at ! 0 refl) $ free_all ! refl $ keep ! (3 ∷ 0 ∷ 2 ∷ 1 ∷ []) $ by ! (leaves 𝓛 En hs c z w' r ((tt, (tt, tt)), tt) (tt, tt)))))))))))))))))
