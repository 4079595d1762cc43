-- The types of a text, at sizes of its given sets, have clear spellings, and the components of its schemas clear names.
use Rattle.law_names.proofs.Prelude.{◌++◌, ◌+◌, ◌<◌, ◌^◌, ◌∙◌, ◌∷◌, ◌≡◌, [], ap, arith, drop, refl, drop-cons, length, List, slice_get, Some, subst, suc, sym, take, zero, ℕ, none-some, same_Some, Defined, Definition, free_type, given_set, schema, IsClear, HasCompsOnce, spellings, with_spelling}
use Rattle.std.proofs.lemmas.List.{take-append-drop}
use Rattle.std.proofs.lemmas.List.Sums.{sum_by-cons}
use Rattle.zf_term.specs.{has_elements, later, next_number}
use Rattle.zf_meaning.specs.declared.sizes.Size.{Size}
use Rattle.zf_meaning.specs.{AddsSize, AreComplete, AreSizes, given_sets, IsStated}
use Rattle.zf_print.specs.declared.spelling.Spelling.{Spelling}
use Rattle.zf_print.specs.declared.spelling.Spelling.TheVariants.{Numbered, Named}
use Rattle.law_names.specs.{ComponentsAreClear, GlobalsAreClear}
use Rattle.zf_checker.proofs.Globals.{names_once}
use Rattle.law_names.proofs.Components.{once_apart}
use Rattle.law_names.proofs.Named.{IsNamed, AreNamed, found_in, globals_named}

-- ---- the stated sizes

stated_small : (sets : List (List ℕ)) (stated : List Size) → AreComplete sets stated → (name : List ℕ) (count : ℕ) → IsStated stated name count → count < 2 ^ 64
stated_small sets stated complete name count h =
    let size : Size = record { name = name; count = count } in
    let there : drop h.0 stated ≡ size ∷ drop (suc h.0) stated = drop-cons stated h.0 size h.1 ∙ ap (λ s. s ∷ drop (suc h.0) stated) h.2 in
    let split : stated ≡ take h.0 stated ++ size ∷ drop (suc h.0) stated = sym (take-append-drop h.0 stated) ∙ ap (λ r. take h.0 stated ++ r) there in
    omega (arith, (complete.accepted (take h.0 stated) size (drop (suc h.0) stated) split).small)

-- ---- the sizes of the types

-- each size has its spelling
abbrev Tells : List Spelling → List ℕ → Type 0
Tells ss ks = (n k : ℕ) → slice_get ks n ≡ Some k → (s : Spelling) × (slice_get ss n ≡ Some s) × IsClear s k

tells_more : (s : Spelling) (k : ℕ) (ss : List Spelling) (ks : List ℕ) → IsClear s k → Tells ss ks → Tells (s ∷ ss) (k ∷ ks)
tells_more s k ss ks clear more zero j at = (s, refl, subst (IsClear s) (same_Some k j at) clear)
tells_more s k ss ks clear more (suc n) j at = more n j at

-- and so many there are
abbrev IsTold : List Spelling → ℕ → List ℕ → Type 0
IsTold ss total ks = Tells ss ks × (length ks ≡ total)

one_told : (s : Spelling) (k : ℕ) (ss : List Spelling) (total : ℕ) (ks later : List ℕ) → IsClear s k → IsTold ss total later → ks ≡ k ∷ later → IsTold (s ∷ ss) (1 + total) ks
one_told s k ss total ks later clear more e = (subst (Tells (s ∷ ss)) (sym e) (tells_more s k ss later clear more.0), omega (arith, ap length e, more.1))

abbrev AreSmall : List Size → Type 0
AreSmall stated = (name : List ℕ) (count : ℕ) → IsStated stated name count → count < 2 ^ 64

none_told : (ss : List Spelling) (total : ℕ) (ks later : List ℕ) → IsTold ss total later → ks ≡ later → IsTold ss (0 + total) ks
none_told ss total ks later more e = (subst (Tells ss) (sym e) more.0, omega (arith, ap length e, more.1))

type_told :
    (stated : List Size) → AreSmall stated → (name : List ℕ) (d : Definition) (ss : List Spelling) (total : ℕ) (ks later : List ℕ) → IsNamed name d
    → IsTold ss total later → AddsSize stated name d later ks → IsTold (with_spelling name d ss) (has_elements d + total) ks
type_told stated small name (given_set n) ss total ks later named more p = one_told (Numbered name) p.0 ss total ks later (named, small name p.0 p.1) more p.2
type_told stated small name (free_type n names) ss total ks later named more p = one_told (Named names) (length names) ss total ks later (named.0, named.1, omega arith) more p
type_told stated small name _ ss total ks later named more p = none_told ss total ks later more p

types_told : (stated : List Size) → AreSmall stated → (g : List Defined) (ks : List ℕ) → AreNamed g → AreSizes stated g ks → IsTold (spellings g) (next_number g) ks
types_told stated small [] ks named p = (λ n k at. absurd (none-some k (ap (λ ks. slice_get ks n) (sym p) ∙ at)), ap length p)
types_told stated small (d ∷ g) ks named p =
    let sum = sum_by-cons (λ (x : Defined). has_elements x.definition) d g in
    let told = type_told stated small d.name d.definition (spellings g) (next_number g) ks p.0 named.0 (types_told stated small g p.0 named.1 p.1) p.2 in
    (told.0, told.1 ∙ sym sum)

-- ---- the laws

pub globals_clear : GlobalsAreClear
globals_clear boxes source globals faults stated numbers e reads checked complete environment =
    let named = globals_named boxes source globals faults reads checked in
    let told = types_told stated (stated_small (given_sets globals) stated complete) globals e.sizes named.0 environment.1 in
    record { numbers = omega (arith, named.1, told.1, reads.1.short); spelled = told.0 }

pub components_clear : ComponentsAreClear
components_clear source globals a s =
    let named = globals_named s.boxes source globals s.faults s.reads s.checked in
    let found : ℕ × Defined = (s.place, record { name = s.name; definition = schema a }) in
    let once = found_in (λ d. HasCompsOnce d.definition) s.name globals found (names_once s.boxes globals s.faults s.checked).1 s.there in
    (found_in (λ d. IsNamed d.name d.definition) s.name globals found named.0 s.there, once_apart a.comps once)
