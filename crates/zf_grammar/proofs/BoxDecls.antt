-- Schema references, declarations and predicates: what is read is spelled, and what is spelled is read.
use Rattle.zf_grammar.proofs.Prelude.{◌+◌, ◌∙◌, ◌∷◌, ◌≡◌, ◌≤◌, [], ap, arith, Bool, Err, false, inr, length, List, map, Ok, refl, subst, sym, true, ℕ, leb-false, leb-true, AllByRecursion, if◌then◌else◌, ◌||◌, nat_le, decl_of, DeclTree, include, Tree, vars, tree_of, Name, RefMark, Delta, Plain, Xi, Term, is_mark, next_of, separator, Symbol, symbol, Mark, Kind, decl_height, tree_height, most, atom_level, DeclIsLevelled, expression_level, IsAt, IsLevelled, quantifier_level, first, read_name, rest, parted, Next, PartedBy, Spells, SpellsDecl, SpellsMarked, SpellsName, SpellsNames, SpellsPredicates, SpellsRef, binds, expect, Outcome, read_names, Refused, tall, TooDeep, read_term, Tall, Span}
use Rattle.zf_scan.specs.declared.next.Mark.TheVariants as mark
use Rattle.zf_scan.specs.declared.next.Next as code
use Rattle.zf_scan.specs.declared.token.Kind.TheVariants as k
use Rattle.zf_tree.specs.declared.tree.Decl.{Decl}
use Rattle.zf_tree.specs.declared.tree.Decl.TheVariants as decl
use Rattle.zf_tree.specs.declared.tree.SchemaRef.{SchemaRef}
use Rattle.zf_grammar.specs.{inclusion, is_declared, items, marked, new_ref, predicates, read_decls, read_ref, ref_by, variables}
use Rattle.zf_grammar.specs.BoxReading.{read_decl}
use Rattle.zf_grammar.proofs.Marks as marks
use Rattle.zf_grammar.proofs.Marks.{kind_of, seen, passed, next_shorter, expect_ok, ok_expect}
use Rattle.zf_grammar.proofs.NamesRead.{name_shorter, names_shorter, name_ok, names_ok, ok_names}
use Rattle.zf_grammar.proofs.Parted.{parted_shorter}
use Rattle.zf_grammar.proofs.TermAnswers.{term_read}
use Rattle.zf_grammar.proofs.TermFirsts.{term_shorter}
use Rattle.zf_grammar.proofs.TermSound.{term_sound}
use Rattle.zf_grammar.proofs.TermSteps.{ok_pair, bind_ok, if_ok, if_cases}
use Rattle.zf_grammar.proofs.BoxItems.{IsThere, Answers, Seen, and_answers, then_answers, if_true, if_false, done, items_sound, items_answers}

-- ---- terms

pub term_there : (n least : ℕ) (ts us : List Symbol) (x : Tall Term) → least ≤ atom_level → read_term n least ts ≡ Ok (x, us) → IsThere tree_of tree_height (IsAt least) Spells n x ts us
term_there n least ts us x fits e =
    let s = term_sound n least ts us x fits e in
    record { fits = (s.fits, s.levelled); high_is = s.high; low = s.low; spelled = s.spelled }

-- no declaration and no term goes on with such a symbol
pub record Stops (x : code.Next) : Type 0 where
  pub loose : binds x ≤ quantifier_level
  pub no_comma : is_mark mark.Comma x ≡ false
  pub no_colon : is_mark mark.Colon x ≡ false

pub not_at : (m : Mark) (kind : Kind) (ts us : List Symbol) → Next kind ts us → is_mark m (next_of kind) ≡ false → is_mark m (first ts) ≡ false
not_at m kind ts us h not = ap (λ ts. is_mark m (first ts)) h.1 ∙ not

-- ---- references

marked_sound : (m : RefMark) (ts us : List Symbol) (r : SchemaRef) → marked m ts ≡ Ok (r, us) → (n : Name) × (new_ref m n ≡ r) × SpellsName n ts us
unfolding marked
marked_sound m ts us r e =
    let n = bind_ok (read_name ts) _ (r, us) e in
    let p = ok_pair (new_ref m n.0, n.1) (r, us) n.3 in
    (n.0, ap (λ p. p.0) p, subst (SpellsName n.0 ts) (ap (λ p. p.1) p) (name_ok ts n.1 n.0 n.2))

after_mark : (m : RefMark) (begin ts us : List Symbol) (r : SchemaRef) → marked m ts ≡ Ok (r, us)
    → ((n : Name) → SpellsName n ts us → SpellsMarked m n begin us) → SpellsRef r begin us
after_mark m begin ts us r e spelled = let s = marked_sound m ts us r e in subst (λ r. SpellsRef r begin us) s.1 (spelled s.0 s.2)

ref_at : (kind : Kind) (span : Span) (ts us : List Symbol) (r : SchemaRef) → ref_by (next_of kind) (symbol kind span ∷ ts) ≡ Ok (r, us) → SpellsRef r (symbol kind span ∷ ts) us
ref_at k.Delta span ts us r e = after_mark Delta (symbol k.Delta span ∷ ts) ts us r e (λ n h. (ts, (span, refl), h))
ref_at k.Xi span ts us r e = after_mark Xi (symbol k.Xi span ∷ ts) ts us r e (λ n h. (ts, (span, refl), h))
ref_at kind span ts us r e = after_mark Plain _ _ us r e (λ n h. h)

pub ref_sound : (ts us : List Symbol) (r : SchemaRef) → read_ref ts ≡ Ok (r, us) → SpellsRef r ts us
unfolding read_ref
ref_sound [] us r e = after_mark Plain [] [] us r e (λ n h. h)
ref_sound (t ∷ ts) us r e = ref_at t.kind t.span ts us r e

marked_read : (m : RefMark) (n : Name) (ts us : List Symbol) → SpellsMarked m n ts us → read_ref ts ≡ Ok (new_ref m n, us)
unfolding read_ref marked
marked_read Plain n ts us h = ap (λ ts. ref_by (first ts) ts) h
marked_read Delta n ts us h = ap (λ ts. ref_by (first ts) ts) h.1.1 ∙ ap (marked Delta) h.2
marked_read Xi n ts us h = ap (λ ts. ref_by (first ts) ts) h.1.1 ∙ ap (marked Xi) h.2

pub ref_read : (r : SchemaRef) (ts us : List Symbol) → SpellsRef r ts us → read_ref ts ≡ Ok (r, us)
ref_read r ts us h = marked_read r.mark r.name ts us h

marked_shorter : (m : RefMark) (n : Name) (ts us : List Symbol) → SpellsMarked m n ts us → length us + 1 ≤ length ts
marked_shorter Plain n ts us h = name_shorter n ts us h
marked_shorter Delta n ts us h = omega (arith, next_shorter ts h.0 h.1, name_shorter n h.0 us h.2)
marked_shorter Xi n ts us h = omega (arith, next_shorter ts h.0 h.1, name_shorter n h.0 us h.2)

pub ref_shorter : (r : SchemaRef) (ts us : List Symbol) → SpellsRef r ts us → length us + 1 ≤ length ts
ref_shorter r ts us h = marked_shorter r.mark r.name ts us h

-- ---- declarations

abbrev pub DeclIsThere : ℕ → Tall Decl → List Symbol → List Symbol → Type 0
DeclIsThere = IsThere decl_of decl_height DeclIsLevelled SpellsDecl

variables_sound : (n : ℕ) (ts us : List Symbol) (x : Tall Decl) → variables n ts ≡ Ok (x, us) → DeclIsThere n x ts us
unfolding variables
variables_sound n ts us x e =
    let ns = bind_ok (read_names ts) _ (x, us) e in
    let colon = bind_ok (expect mark.Colon ns.1) _ (x, us) ns.3 in
    let y = bind_ok (read_term n expression_level colon.1) _ (x, us) colon.3 in
    let s = term_there n expression_level colon.1 y.1 y.0 (omega arith) y.2 in
    subst (λ p. DeclIsThere n p.0 ts p.1) (ok_pair (tall (decl.Vars ns.0 y.0.part) y.0.height, y.1) (x, us) y.3)
    (record { fits = s.fits; high_is = s.high_is; low = s.low; spelled = (ns.1, colon.1, names_ok ts ns.1 ns.0 ns.2, expect_ok mark.Colon ns.1 colon.1 colon.0 colon.2, s.spelled) })

inclusion_sound : (n : ℕ) (ts us : List Symbol) (x : Tall Decl) → inclusion n ts ≡ Ok (x, us) → DeclIsThere n x ts us
unfolding inclusion
inclusion_sound n ts us x e =
    let r = bind_ok (read_ref ts) _ (x, us) e in
    let g = if_ok (nat_le 1 n) _ (x, us) _ r.3 in
    subst (λ p. DeclIsThere n p.0 ts p.1) (ok_pair (tall (decl.Include r.0) 1, r.1) (x, us) g.1) (record { fits = tt; high_is = refl; low = leb-true 1 n g.0; spelled = ref_sound ts r.1 r.0 r.2 })

pub decl_sound : (n : ℕ) (ts us : List Symbol) (x : Tall Decl) → read_decl n ts ≡ Ok (x, us) → DeclIsThere n x ts us
unfolding read_decl
decl_sound n ts us x e = if_cases (is_declared ts) (variables n ts) (inclusion n ts) (x, us) e (λ is e. variables_sound n ts us x e) (λ is e. inclusion_sound n ts us x e)

declared : (ns : List Name) (ts a b : List Symbol) → SpellsNames ns ts a → Next k.Colon a b → is_declared ts ≡ true
declared [] ts a b h colon = absurd h
declared (n ∷ []) ts a b h colon = ap is_declared h ∙ ap (λ a. is_mark mark.Comma (first a) || is_mark mark.Colon (first a)) colon.1
declared (n ∷ (m ∷ ns)) ts a b h colon = ap is_declared h.2 ∙ ap (λ a. is_mark mark.Comma (first a) || is_mark mark.Colon (first a)) h.3.1

not_declared : (m : RefMark) (n : Name) (ts us : List Symbol) → SpellsMarked m n ts us → Stops (first us) → is_declared ts ≡ false
not_declared Plain n ts us h stop = ap is_declared h ∙ rw (stop.no_comma, stop.no_colon) refl
not_declared Delta n ts us h stop = ap is_declared h.1.1 ∙ ap (λ a. is_mark mark.Comma (first a) || is_mark mark.Colon (first a)) h.2
not_declared Xi n ts us h stop = ap is_declared h.1.1 ∙ ap (λ a. is_mark mark.Comma (first a) || is_mark mark.Colon (first a)) h.2

abbrev DeclIsRead : ℕ → DeclTree → Outcome (Tall Decl) → List Symbol → Type 0
DeclIsRead n d o us = Answers (Seen decl_of d (decl_height d)) n (decl_height d) o us

variables_answers : (n : ℕ) (ns : List Name) (t : Tree) (ts us : List Symbol) → IsAt expression_level t → SpellsDecl (vars ns t) ts us
    → binds (first us) ≤ expression_level → DeclIsRead n (vars ns t) (variables n ts) us
unfolding variables
variables_answers n ns t ts us at h stop =
    let (a, b, names, colon, set) = h in
    let Is = Seen decl_of (vars ns t) (tree_height t) in
    then_answers Is n (tree_height t) (read_names ts) _ ns a us (ok_names ns ts a (not_at mark.Comma k.Colon a b colon refl) names)
    (then_answers Is n (tree_height t) (expect mark.Colon a) _ colon.0 b us (ok_expect mark.Colon a b colon)
    (and_answers (Seen tree_of t (tree_height t)) Is n (tree_height t) n (tree_height t) (read_term n expression_level b) _ us us (λ above. above)
    (term_read n expression_level t b us at set stop)
    (λ x s low. done Is n (tree_height t) (tall (decl.Vars ns x.part) x.height) us (record { is = ap (vars ns) s.is; high = s.high }) low)))

inclusion_answers : (n : ℕ) (r : SchemaRef) (ts us : List Symbol) → SpellsRef r ts us → DeclIsRead n (include r) (inclusion n ts) us
unfolding inclusion
inclusion_answers n r ts us h =
    then_answers (Seen decl_of (include r) 1) n 1 (read_ref ts) _ r us us (ref_read r ts us h) (by (nat_le 1 n) refl)
  where
    by : (b : Bool) → nat_le 1 n ≡ b → DeclIsRead n (include r) (if b then Ok (tall (decl.Include r) 1, us) else Err TooDeep) us
    by true is = done (Seen decl_of (include r) 1) n 1 (tall (decl.Include r) 1) us (record { is = refl; high = refl }) (leb-true 1 n is)
    by false is = inr (record { above = leb-false 1 n is; refused = refl })

pub decl_answers : (n : ℕ) (d : DeclTree) (ts us : List Symbol) → DeclIsLevelled d → SpellsDecl d ts us → Stops (first us) → DeclIsRead n d (read_decl n ts) us
unfolding read_decl
decl_answers n (vars ns t) ts us lev h stop =
    if_true (Seen decl_of (vars ns t) (tree_height t)) n (tree_height t) (is_declared ts) _ _ us (declared ns ts h.0 h.1 h.2 h.3) (variables_answers n ns t ts us lev h (omega (arith, stop.loose)))
decl_answers n (include r) ts us lev h stop =
    if_false (Seen decl_of (include r) 1) n 1 (is_declared ts) _ _ us (not_declared r.mark r.name ts us h stop) (inclusion_answers n r ts us h)

pub decl_shorter : (d : DeclTree) (ts us : List Symbol) → SpellsDecl d ts us → length us ≤ length ts
decl_shorter (vars ns t) ts us h = omega (arith, names_shorter ns ts h.0 h.2, next_shorter h.0 h.1 h.3, term_shorter t h.1 us h.4)
decl_shorter (include r) ts us h = omega (arith, ref_shorter r ts us h)

-- ---- lists of declarations

abbrev pub DeclsAreThere : ℕ → Tall (List Decl) → List Symbol → List Symbol → Type 0
DeclsAreThere = IsThere (map decl_of) (most decl_height) (AllByRecursion DeclIsLevelled) (PartedBy separator SpellsDecl)

pub decls_sound : (n : ℕ) (ts us : List Symbol) (xs : Tall (List Decl)) → items mark.Separator (read_decl n) ts ≡ Ok (xs, us) → DeclsAreThere n xs ts us
decls_sound n ts us xs e = items_sound decl_of decl_height DeclIsLevelled SpellsDecl mark.Separator n (read_decl n) (decl_sound n) ts us xs e

separator_stops : Stops (next_of separator)
separator_stops = record { loose = omega arith; no_comma = refl; no_colon = refl }

pub decls_answers : (n : ℕ) (ds : List DeclTree) (ts us : List Symbol) → is_mark mark.Separator (first us) ≡ false → Stops (first us)
    → AllByRecursion DeclIsLevelled ds → PartedBy separator SpellsDecl ds ts us
    → Answers (Seen (map decl_of) ds (most decl_height ds)) n (most decl_height ds) (items mark.Separator (read_decl n) ts) us
decls_answers n ds ts us last stop all h =
    items_answers decl_of decl_height DeclIsLevelled SpellsDecl mark.Separator n (read_decl n) Stops separator_stops decl_shorter (decl_answers n) ds ts us last stop all h

pub decls_shorter : (ds : List DeclTree) (ts us : List Symbol) → PartedBy separator SpellsDecl ds ts us → length us ≤ length ts
decls_shorter ds ts us h = parted_shorter separator SpellsDecl decl_shorter ds ts us h

-- ---- predicates

abbrev pub PredicatesAreThere : Mark → ℕ → Tall (List Term) → List Symbol → List Symbol → Type 0
PredicatesAreThere m = IsThere (map tree_of) (most tree_height) (AllByRecursion IsLevelled) (SpellsPredicates (kind_of m))

behind : (kind : Kind) (ps : List Tree) (ts a us : List Symbol) → Next kind ts a → PartedBy separator Spells ps a us → SpellsPredicates kind ps ts us
behind kind [] ts a us next all = absurd all
behind kind (p ∷ ps) ts a us next all = (a, next, all)

predicate_sound : (n : ℕ) (ts us : List Symbol) (x : Tall Term) → read_term n quantifier_level ts ≡ Ok (x, us) → IsThere tree_of tree_height IsLevelled Spells n x ts us
predicate_sound n ts us x e =
    let s = term_sound n quantifier_level ts us x (omega arith) e in
    record { fits = s.levelled; high_is = s.high; low = s.low; spelled = s.spelled }

pub predicates_sound : (n : ℕ) (m : Mark) (ts us : List Symbol) (xs : Tall (List Term)) → predicates n m ts ≡ Ok (xs, us) → PredicatesAreThere m n xs ts us
unfolding predicates
predicates_sound n m ts us xs e =
    if_cases (is_mark m (first ts)) _ _ (xs, us) e
    (λ is e.
    let s = items_sound tree_of tree_height IsLevelled Spells mark.Separator n (read_term n quantifier_level) (predicate_sound n) (rest ts) us xs e in
    record { fits = s.fits; high_is = s.high_is; low = s.low; spelled = behind (kind_of m) (map tree_of xs.part) ts (rest ts) us (marks.marked m ts is) s.spelled })
    (λ is e. subst (λ p. PredicatesAreThere m n p.0 ts p.1) (ok_pair (tall [] 0, ts) (xs, us) e) (record { fits = tt; high_is = refl; low = omega arith; spelled = refl }))

abbrev IsLoose : code.Next → Type 0
IsLoose x = binds x ≤ quantifier_level

predicate_answers : (n : ℕ) (t : Tree) (ts us : List Symbol) → IsLevelled t → Spells t ts us → IsLoose (first us)
    → Answers (Seen tree_of t (tree_height t)) n (tree_height t) (read_term n quantifier_level ts) us
predicate_answers n t ts us lev h stop = term_read n quantifier_level t ts us (omega arith, lev) h stop

pub predicates_answers : (n : ℕ) (m : Mark) (ps : List Tree) (ts us : List Symbol) → is_mark m (first us) ≡ false → is_mark mark.Separator (first us) ≡ false
    → binds (first us) ≤ quantifier_level → AllByRecursion IsLevelled ps
    → SpellsPredicates (kind_of m) ps ts us → Answers (Seen (map tree_of) ps (most tree_height ps)) n (most tree_height ps) (predicates n m ts) us
unfolding predicates
predicates_answers n m [] ts us none last stop all h =
    let Is = Seen (map tree_of) [] 0 in
    if_false Is n 0 (is_mark m (first ts)) _ _ us (ap (λ ts. is_mark m (first ts)) h ∙ none)
    (subst (λ ts. Answers Is n 0 (Ok (tall [] 0, ts)) us) (sym h) (done Is n 0 (tall [] 0) us (record { is = refl; high = refl }) (omega arith)))
predicates_answers n m (p ∷ ps) ts us none last stop all h =
    let Is = Seen (map tree_of) (p ∷ ps) (most tree_height (p ∷ ps)) in
    if_true Is n (most tree_height (p ∷ ps)) (is_mark m (first ts)) _ _ us (seen m ts h.0 h.1)
    (subst (λ a. Answers Is n (most tree_height (p ∷ ps)) (items mark.Separator (read_term n quantifier_level) a) us) (sym (passed ts h.0 h.1))
    (items_answers tree_of tree_height IsLevelled Spells mark.Separator n (read_term n quantifier_level) IsLoose (omega arith) term_shorter (predicate_answers n) (p ∷ ps) h.0 us last stop all h.2))

pub predicates_shorter : (kind : Kind) (ps : List Tree) (ts us : List Symbol) → SpellsPredicates kind ps ts us → length us ≤ length ts
predicates_shorter kind [] ts us h = omega (arith, ap length h)
predicates_shorter kind (p ∷ ps) ts us h =
    omega (arith, next_shorter ts h.0 h.1, parted_shorter separator Spells term_shorter (p ∷ ps) h.0 us h.2)

-- ---- a schema box with generic parameters

either : {A : Type 0} (b : Bool) (x y : Outcome A) → x ≡ Err Refused → y ≡ Err Refused → (if b then x else y) ≡ Err Refused
either true x y e f = e
either false x y e f = f

bracket_decl : (n : ℕ) (l : Span) (ts : List Symbol) → read_decl n (symbol k.OpenSquare l ∷ ts) ≡ Err Refused
unfolding read_decl variables inclusion read_ref marked parted
bracket_decl n l ts = either (is_declared (symbol k.OpenSquare l ∷ ts)) _ _ refl refl

bracket_decls : (n : ℕ) (l : Span) (ts : List Symbol) → read_decls n (symbol k.OpenSquare l ∷ ts) ≡ Err Refused
unfolding items
bracket_decls n l ts = rw (bracket_decl n l ts) refl

-- no declaration begins with a square bracket
pub no_decls : (n : ℕ) (ts : List Symbol) → is_mark mark.OpenSquare (first ts) ≡ true → read_decls n ts ≡ Err Refused
no_decls n ts is = let h = marks.marked mark.OpenSquare ts is in ap (read_decls n) h.1 ∙ bracket_decls n h.0 (rest ts)
