-- What is still to be printed of several parts.
use Rattle.zf_print.proofs.Prelude.{drop_more, slice_get, Value, Comp, comp_of, Defined, Component, component_in, components_in, Format, spellings, with_spelling, goes_on, later_parts, comma_before, Spelling}
use Rattle.std.proofs.Common.{◌≡◌, ℕ, zero, suc, ◌+◌, ◌<◌, ◌≤◌, List, [], ◌∷◌, ◌++◌, length, map, drop, get_or, refl, sym, ap, ◌∙◌, arith, Some, None, append_assoc, append-nil, add-one}

pub goes_on-nil : (n : ℕ) → goes_on n [] ≡ []
goes_on-nil zero = refl
goes_on-nil (suc n) = refl

pub goes_on-first : (n : ℕ) (t : List ℕ) (ts : List (List ℕ)) → goes_on n (t ∷ ts) ≡ comma_before n ++ (t ++ later_parts ts)
goes_on-first zero t ts = refl
goes_on-first (suc n) t ts = refl

regrouped : (a s t l c : List ℕ) → a ++ s ++ t ++ (l ++ c) ≡ a ++ ((s ++ (t ++ l)) ++ c)
regrouped a s t l c = simp append_assoc refl

pub goes_on-later : (n m : ℕ) (ts : List (List ℕ)) → m ≡ suc n → goes_on m ts ≡ later_parts ts
goes_on-later n m ts e = ap (λ k. goes_on k ts) e

-- what was ahead is ahead after one more part
pub ahead-more : (text mid new closing whole t : List ℕ) (n : ℕ) (ts : List (List ℕ)) → text ++ (goes_on n (t ∷ ts) ++ closing) ≡ whole
    → mid ≡ text ++ comma_before n → new ≡ mid ++ t → new ++ (goes_on (n + 1) ts ++ closing) ≡ whole
ahead-more text mid new closing whole t n ts h e f =
    let later = goes_on-later n (n + 1) ts (omega arith) in
    let split : text ++ ((comma_before n ++ (t ++ later_parts ts)) ++ closing) ≡ whole = ap (λ l. text ++ (l ++ closing)) (sym (goes_on-first n t ts)) ∙ h in
    ap (λ l. new ++ (l ++ closing)) later ∙ ap (λ l. l ++ (later_parts ts ++ closing)) (f ∙ ap (λ l. l ++ t) e) ∙ regrouped text (comma_before n) t (later_parts ts) closing ∙ split

-- the same where nothing closes
pub ahead-further : (text mid new whole t : List ℕ) (n : ℕ) (ts : List (List ℕ)) → text ++ goes_on n (t ∷ ts) ≡ whole → mid ≡ text ++ comma_before n
    → new ≡ mid ++ t → new ++ goes_on (n + 1) ts ≡ whole
ahead-further text mid new whole t n ts h e f =
    let none : (l : List ℕ) → l ++ [] ≡ l = append-nil in
    ap (λ l. new ++ l) (sym (none (goes_on (n + 1) ts))) ∙ ahead-more text mid new [] whole t n ts (ap (λ l. text ++ l) (none (goes_on n (t ∷ ts))) ∙ h) e f

pub front : (n : ℕ) (t : List ℕ) (ts : List (List ℕ)) (c : List ℕ) → goes_on n (t ∷ ts) ++ c ≡ comma_before n ++ (t ++ (later_parts ts ++ c))
front n t ts c = ap (λ l. l ++ c) (goes_on-first n t ts) ∙ append_assoc (comma_before n) (t ++ later_parts ts) c ∙ ap (λ l. comma_before n ++ l) (append_assoc t (later_parts ts) c)

pub map-drop : (f : Value → List ℕ) (xs : List Value) (i : ℕ) (x : Value) → x ≡ get_or xs i x → i < length xs → map f (drop i xs) ≡ f x ∷ map f (drop (i + 1) xs)
map-drop f xs i x at l = ap (map f) (drop_more xs i x l ∙ ap (λ y. y ∷ drop (i + 1) xs) (sym at))

-- ---- the spellings of the globals from a place on

pub spellings-none : (g : List Defined) (i : ℕ) → slice_get g i ≡ None → spellings (drop (suc i) g) ≡ spellings (drop i g)
spellings-none [] zero h = refl
spellings-none [] (suc i) h = refl
spellings-none (d ∷ g) zero h = (cc)
spellings-none (d ∷ g) (suc i) h = spellings-none g i h

pub spellings-some : (g : List Defined) (i : ℕ) (d : Defined) → slice_get g i ≡ Some d → spellings (drop i g) ≡ with_spelling d.name d.definition (spellings (drop (suc i) g))
spellings-some [] i d h = (cc)
spellings-some (b ∷ g) zero d h =
    let same : b ≡ d = (cc) in
    ap (λ x. with_spelling x.name x.definition (spellings g)) same
spellings-some (b ∷ g) (suc i) d h = spellings-some g i d h

-- ---- the components of a line

pub texts-nil : (f : Format) (ss : List Spelling) (cs : List Comp) → components_in f ss cs [] ≡ []
texts-nil f ss [] = refl
texts-nil f ss (c ∷ cs) = refl

pub comps-drop : (cs : List Component) (i : ℕ) (c : Component) → c ≡ get_or cs i c → i < length cs → map comp_of (drop i cs) ≡ comp_of c ∷ map comp_of (drop (i + 1) cs)
comps-drop cs i c at l = ap (map comp_of) (drop_more cs i c l ∙ ap (λ y. y ∷ drop (i + 1) cs) (sym at))

drop-get : (vs : List Value) (i : ℕ) (v : Value) → slice_get vs i ≡ Some v → drop i vs ≡ v ∷ drop (suc i) vs
drop-get [] i v h = (cc)
drop-get (w ∷ vs) zero v h =
    let same : w ≡ v = (cc) in
    ap (λ x. x ∷ vs) same
drop-get (w ∷ vs) (suc i) v h = drop-get vs i v h

pub values-drop : (vs : List Value) (i : ℕ) (v : Value) → slice_get vs i ≡ Some v → drop i vs ≡ v ∷ drop (i + 1) vs
values-drop vs i v h = drop-get vs i v h ∙ ap (λ n. v ∷ drop n vs) (sym (add-one i))

-- ---- where printing begins and ends

pub begun : (old opening parts closing text : List ℕ) → text ≡ old ++ opening → text ++ (parts ++ closing) ≡ old ++ (opening ++ parts ++ closing)
begun old opening parts closing text e = ap (λ l. l ++ (parts ++ closing)) e ∙ simp append_assoc refl

pub drop-end : {A : Type 0} (n : ℕ) (xs : List A) → length xs ≤ n → drop n xs ≡ []
drop-end zero [] l = refl
drop-end zero (x ∷ xs) l = absurd (omega arith)
drop-end (suc n) [] l = refl
drop-end (suc n) (x ∷ xs) l = drop-end n xs (omega arith)

pub closed : (text new closing whole : List ℕ) (n : ℕ) (ts : List (List ℕ)) → ts ≡ [] → text ++ (goes_on n ts ++ closing) ≡ whole → new ≡ text ++ closing → new ≡ whole
closed text new closing whole n ts none h e = e ∙ ap (λ l. text ++ (l ++ closing)) (sym (ap (goes_on n) none ∙ goes_on-nil n)) ∙ h

pub line-ended : (text whole : List ℕ) (n : ℕ) (ts : List (List ℕ)) → ts ≡ [] → text ++ goes_on n ts ≡ whole → text ≡ whole
line-ended text whole n ts none h =
    let nothing : (l : List ℕ) → l ++ [] ≡ l = append-nil in
    sym (nothing text) ∙ ap (λ l. text ++ l) (sym (ap (goes_on n) none ∙ goes_on-nil n)) ∙ h

pub texts-drop : (f : Format) (ss : List Spelling) (all cs : List Component) (vs : List Value) (i : ℕ) (c : Component) (v : Value) → cs ≡ all
    → c ≡ get_or cs i c → i < length cs → slice_get vs i ≡ Some v
    → components_in f ss (map comp_of (drop i all)) (drop i vs) ≡ component_in f ss (comp_of c) v ∷ components_in f ss (map comp_of (drop (i + 1) all)) (drop (i + 1) vs)
texts-drop f ss all cs vs i c v same at l g =
    ap (λ m. components_in f ss (map comp_of (drop i m)) (drop i vs)) (sym same) ∙ ap (λ m. components_in f ss m (drop i vs)) (comps-drop cs i c at l)
    ∙ ap (components_in f ss (comp_of c ∷ map comp_of (drop (i + 1) cs))) (values-drop vs i v g)
    ∙ ap (λ m. component_in f ss (comp_of c) v ∷ components_in f ss (map comp_of (drop (i + 1) m)) (drop (i + 1) vs)) same
