-- Lines of a listing, one after another.
use Rattle.zf_checker.proofs.Prelude.{Defined, definition_of, globals_of, choices_text, definition_text, listing}
use Rattle.std.proofs.Common.{◌≡◌, ℕ, zero, suc, ◌+◌, ◌<◌, List, [], ◌∷◌, ◌++◌, length, map, take, get_or, flat_map, append_assoc, append-nil, sym, ap, ◌∙◌, add-one, arith, codes, Vec, Global}
use Rattle.std.proofs.lemmas.List.Folds.{flat_map-map}
use Rattle.zf_term.specs.declared.globals.Entry.{Entry}
use Rattle.zf_term.specs.declared.globals.Globals.{Globals}

one_text : {A : Type 0} (f : A → List ℕ) (xs : List A) (i : ℕ) (x : A) → x ≡ get_or xs i x → i < length xs → flat_map f (take (suc i) xs) ≡ flat_map f (take i xs) ++ f x
one_text f [] i x at l = absurd (omega arith)
one_text f (y ∷ xs) zero x at l = append-nil (f y) ∙ ap f (sym at)
one_text f (y ∷ xs) (suc i) x at l = ap (λ r. f y ++ r) (one_text f xs i x at (omega arith)) ∙ sym (append_assoc (f y) (flat_map f (take i xs)) (f x))

one_line :
    {A B : Type 0} (f : B → List ℕ) (g : A → B) (xs : List A) (i : ℕ) (x : A) → x ≡ get_or xs i x → i < length xs
    → flat_map f (map g (take (suc i) xs)) ≡ flat_map f (map g (take i xs)) ++ f (g x)
one_line f g xs i x at l = flat_map-map f g (take (suc i) xs) ∙ one_text (λ y. f (g y)) xs i x at l ∙ ap (λ r. r ++ f (g x)) (sym (flat_map-map f g (take i xs)))

-- the lines of the first ones grow by that of the next
pub next_line :
    {A B : Type 0} (f : B → List ℕ) (g : A → B) (xs : List A) (i : ℕ) (x : A) → x ≡ get_or xs i x → i < length xs
    → flat_map f (map g (take (i + 1) xs)) ≡ flat_map f (map g (take i xs)) ++ f (g x)
next_line f g xs i x at l = rw add-one (one_line f g xs i x at l)

-- ---- names with bars between them

pub first_choice : (names : List (List ℕ)) (i : ℕ) (x : List ℕ) → x ≡ get_or names i x → i < length names → i ≡ 0 → choices_text (take (i + 1) names) ≡ choices_text (take i names) ++ x
first_choice [] i x at l none = absurd (omega arith)
first_choice (y ∷ names) zero x at l none = append-nil y ∙ sym at
first_choice (y ∷ names) (suc i) x at l none = absurd (omega arith)

one_choice : (names : List (List ℕ)) (i : ℕ) (x : List ℕ) → x ≡ get_or names i x → i < length names → 0 < i → choices_text (take (suc i) names) ≡ (choices_text (take i names) ++ codes " | ") ++ x
one_choice [] i x at l some = absurd (omega arith)
one_choice (y ∷ names) zero x at l some = absurd (omega arith)
one_choice (y ∷ names) (suc i) x at l some =
    let so_far = flat_map (λ next. codes " | " ++ next) (take i names) in
    ap (λ r. y ++ r) (one_text (λ next. codes " | " ++ next) names i x at (omega arith)) ∙ sym (append_assoc y so_far (codes " | " ++ x))
    ∙ sym (append_assoc (y ++ so_far) (codes " | ") x)

pub next_choice : (names : List (List ℕ)) (i : ℕ) (x : List ℕ) → x ≡ get_or names i x → i < length names → 0 < i → choices_text (take (i + 1) names) ≡ (choices_text (take i names) ++ codes " | ") ++ x
next_choice names i x at l some = rw add-one (one_choice names i x at l some)

-- ---- what is written, and what is ahead

abbrev global : Vec ℕ Global × Entry → Defined
global e = record { name = e.0.items; definition = definition_of e.1 }

abbrev pub entry_text : Vec ℕ Global × Entry → List ℕ
entry_text e = definition_text e.0.items (definition_of e.1)

pub all_ahead : (written : List ℕ) (ahead : List (Vec ℕ Global × Entry)) (g : Globals) → written ≡ [] → ahead ≡ g.entries.entries → written ++ flat_map entry_text ahead ≡ listing (globals_of g)
all_ahead written ahead g e f = ap (λ l. l ++ flat_map entry_text ahead) e ∙ ap (flat_map entry_text) f ∙ sym (flat_map-map (λ d. definition_text d.name d.definition) global g.entries.entries)

pub one_ahead :
    (old new whole : List ℕ) (x : Vec ℕ Global × Entry) (ahead rest : List (Vec ℕ Global × Entry)) → ahead ≡ x ∷ rest → new ≡ old ++ entry_text x
    → old ++ flat_map entry_text ahead ≡ whole → new ++ flat_map entry_text rest ≡ whole
one_ahead old new whole x ahead rest e f g =
    ap (λ l. l ++ flat_map entry_text rest) f ∙ append_assoc old (entry_text x) (flat_map entry_text rest) ∙ ap (λ es. old ++ flat_map entry_text es) (sym e) ∙ g

pub none_ahead : (written whole : List ℕ) (ahead : List (Vec ℕ Global × Entry)) → ahead ≡ [] → written ++ flat_map entry_text ahead ≡ whole → written ≡ whole
none_ahead written whole ahead e g = sym (append-nil written) ∙ ap (λ es. written ++ flat_map entry_text es) (sym e) ∙ g
