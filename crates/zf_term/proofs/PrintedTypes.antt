-- The texts of types, part by part.
use Rattle.zf_term.proofs.Prelude.{if◌then◌else◌, ◌++◌, ◌+◌, ◌<◌, ◌∙◌, ◌∷◌, ◌≡◌, [], add-one, ap, append-nil, append_assoc, arith, codes, Err, get_or, is_ok, length, List, map, Ok, OnOk, refl, Result, suc, sym, take, zero, ℕ, later_parts_text, parts_text, type_text, types, type_of, ZType}
use Rattle.std.proofs.lemmas.Result.{on_ok_weaker}
use Rattle.zf_term.specs.declared.ztype.ZType.TheVariants as v
use Rattle.zf_term.proofs.TypesSeen.{of-Power, of-Product}

pub of_power : (a t : ZType) → a ≡ v.Power t → type_text (type_of a) ≡ codes "\\power " ++ type_text (type_of t)
of_power a t e = ap type_text (ap type_of e ∙ of-Power t)

pub of_product : (a : ZType) (ts : List ZType) → a ≡ v.Product ts → type_text (type_of a) ≡ codes "(" ++ parts_text (types (map type_of ts)) ++ codes ")"
of_product a ts e = ap type_text (ap type_of e ∙ of-Product ts)

-- one text after another
pub both : (old mid new a b : List ℕ) {whole : List ℕ} → mid ≡ old ++ a → new ≡ mid ++ b → whole ≡ a ++ b → new ≡ old ++ whole
both old mid new a b e f g = f ∙ ap (λ l. l ++ b) e ∙ append_assoc old a b ∙ ap (λ l. old ++ l) (sym g)

pub both_written : {T E : Type 0} (r : Result T E) (old mid new a b whole : List ℕ) → mid ≡ old ++ a → OnOk r (new ≡ mid ++ b) → whole ≡ a ++ b → OnOk r (new ≡ old ++ whole)
both_written r old mid new a b whole e f g = on_ok_weaker r (λ h. both old mid new a b e h g) f

pub three_written :
    {T E : Type 0} (r : Result T E) (old mid late new a b c whole other : List ℕ) → mid ≡ old ++ a → late ≡ mid ++ b → new ≡ (if is_ok r then late ++ c else other)
    → whole ≡ a ++ b ++ c → OnOk r (new ≡ old ++ whole)
three_written (Err e) old mid late new a b c whole other f g h i = tt
three_written (Ok x) old mid late new a b c whole other f g h i = both old late new (a ++ b) c (both old mid late a b f g refl) h i

-- ---- the parts of a product

-- the text of the first parts
abbrev pub written : List ZType → ℕ → List ℕ
written xs i = parts_text (types (map type_of (take i xs)))

abbrev later : List ZType → ℕ → List ℕ
later xs i = later_parts_text (types (map type_of (take i xs)))

regrouped : (a b c d : List ℕ) → a ++ (b ++ c ++ d) ≡ a ++ b ++ c ++ d
regrouped a b c d = sym (append_assoc a (b ++ c) d) ∙ ap (λ l. l ++ d) (sym (append_assoc a b c))

one_later : (xs : List ZType) (i : ℕ) (x : ZType) → x ≡ get_or xs i x → i < length xs → later xs (suc i) ≡ later xs i ++ codes " \\cross " ++ type_text (type_of x)
one_later [] i x at l = absurd (omega arith)
one_later (y ∷ xs) zero x at l = ap (λ r. codes " \\cross " ++ r) (append-nil (type_text (type_of y)) ∙ ap (λ z. type_text (type_of z)) (sym at))
one_later (y ∷ xs) (suc i) x at l =
    let first = type_text (type_of y) in
    ap (λ r. codes " \\cross " ++ r) (ap (λ r. first ++ r) (one_later xs i x at (omega arith)) ∙ regrouped first (later xs i) (codes " \\cross ") (type_text (type_of x)))

pub first_part : (xs : List ZType) (i : ℕ) (x : ZType) → x ≡ get_or xs i x → i < length xs → i ≡ 0 → written xs (i + 1) ≡ written xs i ++ type_text (type_of x)
first_part [] i x at l none = absurd (omega arith)
first_part (y ∷ xs) zero x at l none = append-nil (type_text (type_of y)) ∙ ap (λ z. type_text (type_of z)) (sym at)
first_part (y ∷ xs) (suc i) x at l none = absurd (omega arith)

one_more : (xs : List ZType) (i : ℕ) (x : ZType) → x ≡ get_or xs i x → i < length xs → 0 < i → written xs (suc i) ≡ (written xs i ++ codes " \\cross ") ++ type_text (type_of x)
one_more [] i x at l some = absurd (omega arith)
one_more (y ∷ xs) zero x at l some = absurd (omega arith)
one_more (y ∷ xs) (suc i) x at l some =
    let first = type_text (type_of y) in
    ap (λ r. first ++ r) (one_later xs i x at (omega arith)) ∙ regrouped first (later xs i) (codes " \\cross ") (type_text (type_of x))

pub next_part :
    (xs : List ZType) (i : ℕ) (x : ZType) → x ≡ get_or xs i x → i < length xs → 0 < i → written xs (i + 1) ≡ (written xs i ++ codes " \\cross ") ++ type_text (type_of x)
next_part xs i x at l some = rw add-one (one_more xs i x at l some)
