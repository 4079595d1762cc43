-- Bound variables: names that are declared apart, and scopes with variables in them.
use Rattle.zf_typing.proofs.Prelude.{if◌then◌else◌, ◌++◌, ◌∙◌, ◌∷◌, ◌≡◌, [], ap, Bool, Err, false, inl, inr, length, List, map, None, Ok, Option, refl, Some, sym, take, true, true≢false, ℕ, ⊎_elim, take-append_seam, length-map, map-append, take-map, bytes_eq-Decides, bytes_eq, spelling, Name, comp_of, globals_of, later, Offence, AreNew, AreRepeated, IsBound, IsRepeated, Repeats, last_named, Scope, Var, variable_of, with_variables, scope_of, AreApart, IsApart, Variable, option_or, ◌⊎◌, Result, OnErr, OnOk, Span}
use Rattle.zf_typing.specs.declared.scope.Scope as program

-- ---- the variable of a name

neither : (o : Option (ℕ × Var)) (here : Bool) (v : Var) → None ≡ option_or (later o) (if here then Some (0, v) else None) → (None ≡ o) × (here ≡ false)
neither None false v h = (refl, refl)
neither None true v h = absurd (cc)
neither (Some p) here v h = absurd (cc)

either : (o : Option (ℕ × Var)) (here : Bool) (v : Var) (p : ℕ × Var) → Some p ≡ option_or (later o) (if here then Some (0, v) else None) → ((q : ℕ × Var) × (Some q ≡ o)) ⊎ (here ≡ true)
either (Some q) here v p h = inl (q, refl)
either None true v p h = inr refl
either None false v p h = absurd (cc)

pub none_bound : (x : List ℕ) (vs : List Var) → None ≡ last_named (λ v. v.name) x vs → IsBound x vs → ⊥
none_bound x [] h b = b
none_bound x (v ∷ vs) h b =
    let n = neither (last_named (λ u. u.name) x vs) (bytes_eq v.name x) v h in
    ⊎_elim (λ same. true≢false (sym ((bytes_eq-Decides v.name x).1 same) ∙ n.1)) (λ rest. none_bound x vs n.0 rest) b

pub some_bound : (x : List ℕ) (vs : List Var) (p : ℕ × Var) → Some p ≡ last_named (λ v. v.name) x vs → IsBound x vs
some_bound x [] p h = absurd (cc)
some_bound x (v ∷ vs) p h =
    ⊎_elim (λ f. inr (some_bound x vs f.0 f.1)) (λ t. inl ((bytes_eq-Decides v.name x).0 t)) (either (last_named (λ u. u.name) x vs) (bytes_eq v.name x) v p h)

-- ---- names that are declared apart

bound_last : (vs : List Var) (v : Var) (x : List ℕ) → v.name ≡ x → IsBound x (vs ++ v ∷ [])
bound_last [] v x e = inl e
bound_last (u ∷ vs) v x e = inr (bound_last vs v x e)

bound_more : (vs : List Var) (v : Var) (x : List ℕ) → IsBound x vs → IsBound x (vs ++ v ∷ [])
bound_more [] v x b = absurd b
bound_more (u ∷ vs) v x (inl e) = inl e
bound_more (u ∷ vs) v x (inr b) = inr (bound_more vs v x b)

bound_among : (vs : List Var) (v : Var) (x : List ℕ) → IsBound x (vs ++ v ∷ []) → IsBound x vs ⊎ (v.name ≡ x)
bound_among [] v x (inl e) = inr e
bound_among [] v x (inr b) = absurd b
bound_among (u ∷ vs) v x (inl e) = inl (inl e)
bound_among (u ∷ vs) v x (inr b) = ⊎_elim (λ f. inl (inr f)) (λ e. inr e) (bound_among vs v x b)

apart_from : (vs : List Var) (v : Var) (n : Name) (ns : List Name) → v.name ≡ spelling n → AreNew (vs ++ v ∷ []) ns → IsApart n ns
apart_from vs v n [] e h = tt
apart_from vs v n (o ∷ ns) e h = ((λ same. h.0 (bound_last vs v (spelling o) (e ∙ same))), apart_from vs v n ns e h.2)

fewer : (vs : List Var) (v : Var) (ns : List Name) → AreNew (vs ++ v ∷ []) ns → AreNew vs ns
fewer vs v [] h = tt
fewer vs v (o ∷ ns) h = ((λ b. h.0 (bound_more vs v (spelling o) b)), h.1, fewer vs v ns h.2)

-- a name that is new is declared
pub one_new : (vs : List Var) (v : Var) (n : Name) (ns : List Name) → v.name ≡ spelling n → (IsBound (spelling n) vs → ⊥) → AreNew (vs ++ v ∷ []) ns → AreNew vs (n ∷ ns)
one_new vs v n ns e free h = (free, apart_from vs v n ns e h, fewer vs v ns h)

pub one_repeated : (vs : List Var) (v : Var) (n : Name) (ns : List Name) (k : Offence) (m : Span) → v.name ≡ spelling n → AreRepeated (vs ++ v ∷ []) ns k m → IsRepeated n ns k m ⊎ AreRepeated vs ns k m
one_repeated vs v n [] k m e h = absurd h
one_repeated vs v n (o ∷ ns) k m e (inl b) =
    ⊎_elim (λ f. inr (inl (f, b.1, b.2))) (λ same. inl (inl (sym e ∙ same, b.1, b.2))) (bound_among vs v (spelling o) b.0)
one_repeated vs v n (o ∷ ns) k m e (inr (inl r)) = inr (inr (inl r))
one_repeated vs v n (o ∷ ns) k m e (inr (inr r)) = ⊎_elim (λ f. inl (inr f)) (λ f. inr (inr (inr f))) (one_repeated vs v n ns k m e r)

pub all_apart : (ns : List Name) → AreNew [] ns → AreApart ns
all_apart [] h = tt
all_apart (n ∷ ns) h = (h.1, all_apart ns h.2)

pub some_repeated : (ns : List Name) (k : Offence) (m : Span) → AreRepeated [] ns k m → Repeats ns k m
some_repeated [] k m h = h
some_repeated (n ∷ ns) k m (inl b) = absurd b.0
some_repeated (n ∷ ns) k m (inr (inl r)) = inl r
some_repeated (n ∷ ns) k m (inr (inr r)) = inr (some_repeated ns k m r)

-- ---- scopes

pub depth_of : (p : program.Scope) → length p.locals ≡ length (scope_of p).locals
unfolding scope_of
depth_of p = sym (length-map p.locals variable_of)

pub more_bound : (p q : program.Scope) (vs : List Variable) → q.globals ≡ p.globals → q.components ≡ p.components → q.locals ≡ p.locals ++ vs
    → scope_of q ≡ with_variables (scope_of p) (map variable_of vs)
unfolding scope_of
more_bound p q vs g c l =
    let locals = ap (map variable_of) l ∙ map-append variable_of p.locals vs in
    ap (λ x. record { globals = globals_of x.now; comps = map comp_of q.components.now; locals = map variable_of q.locals }) g
    ∙ ap (λ x. record { globals = globals_of p.globals.now; comps = map comp_of x.now; locals = map variable_of q.locals }) c
    ∙ ap (λ x. record { globals = globals_of p.globals.now; comps = map comp_of p.components.now; locals = x }) locals

pub same_bound : (p q : program.Scope) → q.globals ≡ p.globals → q.components ≡ p.components → q.locals ≡ p.locals → scope_of q ≡ scope_of p
unfolding scope_of
same_bound p q g c l =
    ap (λ x. record { globals = globals_of x.now; comps = map comp_of q.components.now; locals = map variable_of q.locals }) g
    ∙ ap (λ x. record { globals = globals_of p.globals.now; comps = map comp_of x.now; locals = map variable_of q.locals }) c
    ∙ ap (λ x. record { globals = globals_of p.globals.now; comps = map comp_of p.components.now; locals = map variable_of x }) l

-- of a scope within another, as many variables as that one has are that one's
pub less_bound : (p q : program.Scope) (s : Scope) (vs : List Var) (n : ℕ) → q.globals ≡ p.globals → q.components ≡ p.components → q.locals ≡ take n p.locals
    → scope_of p ≡ with_variables s vs → n ≡ length s.locals → scope_of q ≡ s
unfolding scope_of
less_bound p q s vs n g c l h e =
    let globals : globals_of q.globals.now ≡ s.globals = ap (λ x. globals_of x.now) g ∙ ap (λ z. z.globals) h in
    let comps : map comp_of q.components.now ≡ s.comps = ap (λ x. map comp_of x.now) c ∙ ap (λ z. z.comps) h in
    let locals : map variable_of q.locals ≡ s.locals = ap (map variable_of) l ∙ sym (take-map variable_of n p.locals) ∙ ap (take n) (ap (λ z. z.locals) h)
    ∙ ap (λ k. take k (s.locals ++ vs)) e ∙ take-append_seam s.locals vs in
    ap (λ x. record { globals = x; comps = map comp_of q.components.now; locals = map variable_of q.locals }) globals
    ∙ ap (λ x. record { globals = s.globals; comps = x; locals = map variable_of q.locals }) comps
    ∙ ap (λ x. record { globals = s.globals; comps = s.comps; locals = x }) locals

pub err_then : {T E : Type 0} (r : Result T E) (P Q : Type 0) → (P → Q) → OnErr r P → OnErr r Q
err_then (Ok x) P Q f h = tt
err_then (Err x) P Q f h = f h

pub ok_then : {T E : Type 0} (r : Result T E) (P Q : Type 0) → (P → Q) → OnOk r P → OnOk r Q
ok_then (Ok x) P Q f h = f h
ok_then (Err x) P Q f h = tt
