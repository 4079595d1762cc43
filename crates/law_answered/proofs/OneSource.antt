-- A source is read by one tree or refused, and defines one list of globals.
use Rattle.law_answered.proofs.Prelude.{◌++◌, ◌∙◌, ◌∷◌, ◌≡◌, [], ap, Bool, inl, inr, List, refl, subst, sym, ℕ, ◌≢◌, BoxTree, TextFault, Token, only_one, IsGrammarFault, ReadsLow, ReadsSource, RefusesTokens, RefusesSource, Defined, Schema, Fault, Checks, IsNamed, Cited, Message, Span, text_fault_message, AreMessagesAlike, AreOfSame}
use Rattle.zf_scan.specs.declared.fault.TextFaultKind.{TextFaultKind}
use Rattle.zf_scan.specs.declared.fault.TextFaultKind.TheVariants as fault
use Rattle.zf_scan.proofs.Laws.{is_cut_once, is_not_both, faults_once}
use Rattle.zf_schema.specs.Checking as check
use Rattle.zf_schema.specs.{ChecksOne, IsChecked, Item, items}
use Rattle.zf_checker.proofs.OneCheck.{one_step}
use Rattle.zf_schema.proofs.OneSchema.{one_base}

-- ---- the text

-- a source is read by one tree
pub one_tree : (source : List ℕ) (a b : List BoxTree) → ReadsSource a source → ReadsSource b source → a ≡ b
one_tree source a b p q =
    let tokens = (is_cut_once source p.0 q.0 p.1 q.1).1 in
    only_one a b q.0 (subst (λ ts. ReadsLow a ts) tokens p.2).reads q.2.reads

-- no tree that is low enough reads what is refused with a fault of the grammar
none_reads : (kind : TextFaultKind) (span : Span) (tokens : List Token) (boxes : List BoxTree)
    → IsGrammarFault kind → RefusesTokens kind span tokens → ReadsLow boxes tokens → ⊥
none_reads fault.Unexpected span tokens boxes g r low = r boxes low.reads
none_reads fault.NotInProfile span tokens boxes g r low = r boxes low.reads
none_reads fault.TooDeep span tokens boxes g r low = r boxes low
none_reads _ span tokens boxes g r low = absurd g

-- a source that is read is not refused
pub unread : (source : List ℕ) (fault : TextFault) (boxes : List BoxTree) → RefusesSource source fault → ReadsSource boxes source → ⊥
unread source fault boxes (inl f) r = is_not_both source r.0 fault r.1 f
unread source fault boxes (inr f) r =
    let tokens = (is_cut_once source r.0 f.0 r.1 f.1).1 in
    none_reads fault.kind fault.span f.0 boxes f.3 f.2 (subst (λ ts. ReadsLow boxes ts) tokens r.2)

-- a source is refused with one fault, or with faults of the grammar
pub one_refused : (details : Bool) (source : List ℕ) (one two : List Message) (e f : TextFault) (x y : Cited) → RefusesSource source e → RefusesSource source f
    → one ≡ text_fault_message details source e x ∷ [] → two ≡ text_fault_message details source f y ∷ [] → AreMessagesAlike details source one two
one_refused details source one two e f x y (inl p) (inl q) told other_told =
    AreMessagesAlike.symbols f x y (inl q)
    (told ∙ ap (λ (fault : TextFault). text_fault_message details source fault x ∷ []) (faults_once source e f p q)) other_told
one_refused details source one two e f x y (inl p) (inr q) told other_told = absurd (is_not_both source q.0 e q.1 p)
one_refused details source one two e f x y (inr p) (inl q) told other_told = absurd (is_not_both source p.0 f p.1 q)
one_refused details source one two e f x y (inr p) (inr q) told other_told = AreMessagesAlike.grammar
    (record { fault = e; about = x; tokens = p.0; cut = p.1; kind = p.3; refused = p.2; messages = told })
    (record { fault = f; about = y; tokens = q.0; cut = q.1; kind = q.3; refused = q.2; messages = other_told })

-- ---- what it defines

same_joined : (a b c d : List Fault) → AreOfSame a b → AreOfSame c d → AreOfSame (a ++ c) (b ++ d)
same_joined [] [] c d h k = k
same_joined [] (f ∷ b) c d h k = absurd h
same_joined (e ∷ a) [] c d h k = absurd h
same_joined (e ∷ a) (f ∷ b) c d h k = (h.0, same_joined a b c d h.1 k)

-- faults of one paragraph or box
same_step : (g : List Defined) (item : Item) (h i : List Defined) (es fs : List Fault) → ChecksOne g item h es → ChecksOne g item i fs → AreOfSame es fs
same_step g item h i es fs (inl p) (inl q) = subst (λ xs. AreOfSame xs fs) (sym p.1) (subst (λ xs. AreOfSame [] xs) (sym q.1) tt)
same_step g item h i es fs (inl p) (inr q) = absurd (q.0 h p.0)
same_step g item h i es fs (inr p) (inl q) = absurd (p.0 i q.0)
same_step g item h i es fs (inr p) (inr q) =
    let e = p.2.0 in
    let f = q.2.0 in
    let both : AreOfSame (e ∷ []) (f ∷ []) = ((g, item, p.2.1, q.2.1), tt) in
    subst (λ xs. AreOfSame xs fs) (sym p.2.2) (subst (λ xs. AreOfSame (e ∷ []) xs) (sym q.2.2) both)

same_run : (g : List Defined) (steps : List Item) (h i : List Defined) (es fs : List Fault) → check.ChecksAll g steps h es → check.ChecksAll g steps i fs → (h ≡ i) × AreOfSame es fs
same_run g [] h i es fs p q = (p.0 ∙ sym q.0, subst (λ xs. AreOfSame xs fs) (sym p.1) (subst (λ xs. AreOfSame [] xs) (sym q.1) tt))
same_run g (item ∷ steps) h i es fs p q =
    let first = one_step g item p.0 q.0 p.1 q.1 p.3 q.3 in
    let rest = same_run q.0 steps h i p.2 q.2 (subst (λ m. check.ChecksAll m steps h p.2) first.0 p.4) q.4 in
    let both = same_joined p.1 q.1 p.2 q.2 (same_step g item p.0 q.0 p.1 q.1 p.3 q.3) rest.1 in
    (rest.0, subst (λ xs. AreOfSame xs fs) (sym p.5) (subst (λ xs. AreOfSame (p.1 ++ p.2) xs) (sym q.5) both))

-- a source defines one list of globals, and its faults are of the same paragraphs
pub one_checked : (source : List ℕ) (g h : List Defined) (es fs : List Fault) → Checks source g es → Checks source h fs → (g ≡ h) × AreOfSame es fs
one_checked source g h es fs p q =
    let boxes = one_tree source p.boxes q.boxes p.reads q.reads in
    same_run [] (items q.boxes) g h es fs (subst (λ bs. IsChecked bs g es) boxes p.judged) q.judged

-- some faults are not the same as none
pub some_and_none : (es : List Fault) → es ≢ [] → AreOfSame es [] → ⊥
some_and_none [] some h = some refl
some_and_none (e ∷ es) some h = h

pub none_and_some : (fs : List Fault) → fs ≢ [] → AreOfSame [] fs → ⊥
none_and_some [] some h = some refl
none_and_some (f ∷ fs) some h = h

-- a name is one schema
pub one_named : (g : List Defined) (name : List ℕ) (a b : Schema) → IsNamed g name a → IsNamed g name b → a ≡ b
one_named g name a b p q = one_base g name p.0 q.0 name name a b p.1 q.1
