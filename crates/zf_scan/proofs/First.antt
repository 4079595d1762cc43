-- Outside the boxes: what is found at the front of a text is of the first kind that fits.
use Rattle.zf_scan.proofs.Prelude.{◌++◌, ◌+◌, ◌<◌, ◌∙◌, ◌∷◌, ◌≡◌, ◌≤◌, ◌⊎◌, [], ap, append_assoc, arith, Bool, drop, false, inl, inr, length, length-append, length-take-le, List, min, None, Option, refl, Some, subst, sym, take, take-append-drop, true, ℕ, ⊎_elim, one-add, nat_tests, list_all, nat_le, if◌then◌else◌, ◌==◌, ◌||◌, codes, not, StandsOutside, escape, informal, is_base, is_letter, is_run, look_up, opening, OutsideKind, remark, schema_opening, SpellsOutside, turn, openings, symbols, base_len, begins, Match, has_no_name, plain, run_len, comment_found, opening_found, other_opening_found, outside_found, schema_found, Piece, Plain, Refused, Symbol, Base, Line, BeginSchema, take-append_seam, drop-append_seam}
use Rattle.std.specs.Option.{is_some}
use Rattle.zf_scan.specs.declared.fault.TextFaultKind.TheVariants as faults
use Rattle.zf_scan.proofs.Runs.{and_left, and_right, run_le, run_exact, run_within}
use Rattle.zf_scan.proofs.Texts.{pick, eq_is, both, taken, front_le, head_is, tail_is, begins_is, is_begun}
use Rattle.zf_scan.proofs.Table.{hit}
use Rattle.zf_scan.proofs.Longest.{At, either, no_step, comment_text, base_text, base_within}

abbrev Order : OutsideKind → ℕ → OutsideKind → ℕ → Type 0
Order kind n other m = (turn kind < turn other) ⊎ ((turn kind ≡ turn other) × (m ≤ n))

abbrev pub Next : List ℕ → Match → Type 0
Next s f = At StandsOutside s f.piece f.len

abbrev Bound : List ℕ → OutsideKind → ℕ → Type 0
Bound s kind n = (other : OutsideKind) (piece : Piece) (r rest : List ℕ) → SpellsOutside other piece r → s ≡ r ++ rest → Order kind n other (length r)

at_from : (s : List ℕ) (piece : Piece) (n : ℕ) (kind : OutsideKind) → 0 < n → n ≤ length s → SpellsOutside kind piece (take n s) → Bound s kind n
    → At StandsOutside s piece n
at_from s piece n kind some within spells bound = record {
  some = some;
  within = within;
  stands = record {
    kind = kind;
    spells = spells;
    first = λ other q r rest t e. ⊎_elim (λ k. inl k) (λ k. inr (k.0, omega (arith, length-take-le n s within, k.1))) (bound other q r rest t (sym (take-append-drop n s) ∙ e));
  };
}

-- ---- openings

opening_begins : (s r rest : List ℕ) (piece : Piece) → look_up r openings ≡ Some piece → s ≡ r ++ rest → begins s (codes "\\begin{") ≡ true
unfolding openings
opening_begins s r rest piece h e =
    let is = begins_is r (codes "\\begin{") (hit (λ r _. begins r (codes "\\begin{")) openings r piece refl h) in
    is_begun s (codes "\\begin{") (drop 7 r ++ rest) (e ∙ ap (λ r. r ++ rest) is ∙ append_assoc (codes "\\begin{") (drop 7 r) rest)

opening_le : (r : List ℕ) (piece : Piece) → look_up r openings ≡ Some piece → length r ≤ 14
unfolding openings
opening_le r piece h = let k = hit (λ r _. nat_le (length r) 14) openings r piece refl h in grind (arith, nat_tests)

-- a schema's opening with its name
pub schema_is : (s r rest name : List ℕ) → r ≡ codes "\\begin{schema}{" ++ name ++ codes "}" → s ≡ r ++ rest → s ≡ codes "\\begin{schema}{" ++ ((name ++ codes "}") ++ rest)
schema_is s r rest name f e = e ∙ ap (λ r. r ++ rest) f

schema_begins : (s r rest : List ℕ) (piece : Piece) → SpellsOutside schema_opening piece r → s ≡ r ++ rest → begins s (codes "\\begin{schema}{") ≡ true
schema_begins s r rest piece h e = is_begun s (codes "\\begin{schema}{") ((h.0 ++ codes "}") ++ rest) (schema_is s r rest h.0 h.1 e)

wider : (s : List ℕ) → begins s (codes "\\begin{schema}{") ≡ true → begins s (codes "\\begin{") ≡ true
wider s e = is_begun s (codes "\\begin{") (codes "schema}{" ++ drop 15 s) (begins_is s (codes "\\begin{schema}{") e)

-- ---- informal text

head_of : (b : ℕ) (bs front : List ℕ) (c : ℕ) (cs : List ℕ) → begins (b ∷ bs) front ≡ true → front ≡ c ∷ cs → b ≡ c
head_of b bs front c cs e f = head_is b c bs (cs ++ drop (length front) (b ∷ bs)) (begins_is (b ∷ bs) front e ∙ ap (λ x. x ++ drop (length front) (b ∷ bs)) f)

-- no opening and no escape where no backslash stands
not_backslash : {C : Type 0} (b : ℕ) (bs : List ℕ) → (b == 92) ≡ false → b ≡ 92 → C
not_backslash b bs f e = both (b == 92) (ap (λ b. b == 92) e) f

escape_head : (b : ℕ) (bs r rest : List ℕ) (piece : Piece) → SpellsOutside escape piece r → b ∷ bs ≡ r ++ rest → b ≡ 92
escape_head b bs r rest piece h e = ⊎_elim (λ k. head_is b 92 bs rest (e ∙ ap (λ r. r ++ rest) k)) (λ k. head_is b 92 bs (k.0 ∷ rest) (e ∙ ap (λ r. r ++ rest) k.1)) h.0

opening_head : (b : ℕ) (bs r rest : List ℕ) (piece : Piece) → SpellsOutside opening piece r → b ∷ bs ≡ r ++ rest → b ≡ 92
opening_head b bs r rest piece h e = head_of b bs (codes "\\begin{") 92 (codes "begin{") (opening_begins (b ∷ bs) r rest piece h e) refl

schema_head : (b : ℕ) (bs r rest : List ℕ) (piece : Piece) → SpellsOutside schema_opening piece r → b ∷ bs ≡ r ++ rest → b ≡ 92
schema_head b bs r rest piece h e = head_of b bs (codes "\\begin{schema}{") 92 (codes "begin{schema}{") (schema_begins (b ∷ bs) r rest piece h e) refl

plain_next : (b : ℕ) (bs : List ℕ) → (b == 92) ≡ false → (b == 37) ≡ false → Next (b ∷ bs) (plain 1)
plain_next b bs backslash percent = at_from (b ∷ bs) Plain 1 informal (omega arith) (omega arith) (refl, refl) bound
  where
    bound : Bound (b ∷ bs) informal 1
    bound opening piece r rest h e = not_backslash b bs backslash (opening_head b bs r rest piece h e)
    bound schema_opening piece r rest h e = not_backslash b bs backslash (schema_head b bs r rest piece h e)
    bound escape piece r rest h e = not_backslash b bs backslash (escape_head b bs r rest piece h e)
    bound remark piece r rest h e = absurd (both (b == 37) (ap (λ b. b == 37) (head_is b 37 bs (h.0.0 ++ rest) (e ∙ ap (λ r. r ++ rest) h.0.1))) percent)
    bound informal piece r rest h e = inr (refl, omega (arith, h.0))

comment_next : (bs : List ℕ) → Next (37 ∷ bs) (comment_found (37 ∷ bs))
unfolding comment_found
comment_next bs = at_from (37 ∷ bs) _ (1 + run_len Line bs) remark (omega arith) (omega (arith, run_within Line bs)) (comment_text bs, refl) bound
  where
    bound : Bound (37 ∷ bs) remark (1 + run_len Line bs)
    bound opening piece r rest h e = let k = opening_head 37 bs r rest piece h e in absurd (omega (arith, k))
    bound schema_opening piece r rest h e = let k = schema_head 37 bs r rest piece h e in absurd (omega (arith, k))
    bound escape piece r rest h e = let k = escape_head 37 bs r rest piece h e in absurd (omega (arith, k))
    bound remark piece r rest h e =
        let behind = tail_is 37 37 bs (h.0.0 ++ rest) (e ∙ ap (λ r. r ++ rest) h.0.1) in
        inr (refl, omega (arith, ap length h.0.1, run_le Line h.0.0 rest h.0.2, ap (run_len Line) behind))
    bound informal piece r rest h e = inl (omega arith)

-- a backslash with the byte after it
abbrev NoOpening : List ℕ → Type 0
NoOpening s = (piece : Piece) (r rest : List ℕ) → look_up r openings ≡ Some piece → s ≡ r ++ rest → ⊥

escape_text : (t : List ℕ) → SpellsOutside escape Plain (take (min (length (92 ∷ t)) 2) (92 ∷ t))
escape_text [] = (inl refl, refl)
escape_text (c ∷ cs) = let n : min (length (92 ∷ c ∷ cs)) 2 ≡ 2 = omega arith in rw n (inr (c, refl), refl)

escape_next : (t : List ℕ) → NoOpening (92 ∷ t) → begins (92 ∷ t) (codes "\\begin{schema}{") ≡ false → Next (92 ∷ t) (plain (min (length (92 ∷ t)) 2))
escape_next t none nameless = at_from (92 ∷ t) Plain (min (length (92 ∷ t)) 2) escape (omega arith) (omega arith) (escape_text t) bound
  where
    bound : Bound (92 ∷ t) escape (min (length (92 ∷ t)) 2)
    bound opening piece r rest h e = absurd (none piece r rest h e)
    bound schema_opening piece r rest h e = absurd (both _ (schema_begins (92 ∷ t) r rest piece h e) nameless)
    bound escape piece r rest h e = inr (refl, ⊎_elim (λ k. omega (arith, ap length k, front_le (92 ∷ t) r rest e)) (λ k. omega (arith, ap length k.1, front_le (92 ∷ t) r rest e)) h.0)
    bound remark piece r rest h e = inl (omega arith)
    bound informal piece r rest h e = inl (omega arith)

-- ---- the openings of boxes

-- how long the texts of a kind are that begin a text
abbrev Within : List ℕ → OutsideKind → ℕ → Type 0
Within s kind n = (piece : Piece) (r rest : List ℕ) → SpellsOutside kind piece r → s ≡ r ++ rest → length r ≤ n

bound_by : (s : List ℕ) (n : ℕ) → Within s opening n → Within s schema_opening n → Bound s opening n
bound_by s n fixed named opening piece r rest h e = inr (refl, fixed piece r rest h e)
bound_by s n fixed named schema_opening piece r rest h e = inr (refl, named piece r rest h e)
bound_by s n fixed named escape piece r rest h e = inl (omega arith)
bound_by s n fixed named remark piece r rest h e = inl (omega arith)
bound_by s n fixed named informal piece r rest h e = inl (omega arith)

-- no longer opening begins like this one
opened : (s q : List ℕ) (piece : Piece) → 0 < length q → look_up q openings ≡ Some piece
    → ((rest : List ℕ) → list_all (λ row. nat_le (length row.0) (length q) || not (begins (row.0 ++ rest) q)) openings ≡ true)
    → begins s q ≡ true → Within s schema_opening (length q) → At StandsOutside s piece (length q)
opened s q piece some listed alone e named =
    at_from s piece (length q) opening some (front_le s q _ is) (ap (λ p. look_up p openings) (taken s q _ (length q) is refl) ∙ listed)
    (bound_by s (length q) fixed named)
  where
    is : s ≡ q ++ drop (length q) s
    is = begins_is s q e

    fixed : Within s opening (length q)
    fixed found r rest h f =
        let k : begins (r ++ rest) q ≡ true = sym (ap (λ s. begins s q) f) ∙ e in
        either (nat_le (length r) (length q)) (not (begins (r ++ rest) q))
        (hit (λ r _. nat_le (length r) (length q) || not (begins (r ++ rest) q)) openings r found (alone rest) h)
        (λ g. grind (arith, nat_tests)) (λ g. absurd (both false (sym (ap not k) ∙ g) refl))

nameless_bound : (s : List ℕ) (n : ℕ) → begins s (codes "\\begin{schema}{") ≡ false → Within s schema_opening n
nameless_bound s n nameless piece r rest h e = absurd (both _ (schema_begins s r rest piece h e) nameless)

unnamed_next : (s : List ℕ) → begins s (codes "\\begin{schema}") ≡ true → Within s schema_opening 14 → At StandsOutside s (Refused faults.BadByte) 14
unfolding openings
unnamed_next s e named = opened s (codes "\\begin{schema}") (Refused faults.BadByte) (omega arith) refl (λ rest. refl) e named

unopened : (s : List ℕ) → begins s (codes "\\begin{zed}") ≡ false → begins s (codes "\\begin{schema}") ≡ false → begins s (codes "\\begin{axdef}") ≡ false
    → begins s (codes "\\begin{gendef}") ≡ false → begins s (codes "\\begin{syntax}") ≡ false → NoOpening s
unfolding openings
unopened s zed bare axdef gendef syntax piece r rest h e =
    let none : list_all (λ row. not (begins s row.0)) openings ≡ true = rw (zed, bare, axdef, gendef, syntax) in
    both false (sym (ap not (is_begun s r rest e)) ∙ hit (λ r _. not (begins s r)) openings r piece none h) refl

two_next : (t : List ℕ) → begins (92 ∷ t) (codes "\\begin{") ≡ true → begins (92 ∷ t) (codes "\\begin{schema}{") ≡ false → NoOpening (92 ∷ t) → Next (92 ∷ t) (plain 2)
two_next t e nameless none =
    let n : min (length (92 ∷ t)) 2 ≡ 2 = omega (arith, front_le (92 ∷ t) (codes "\\begin{") _ (begins_is (92 ∷ t) (codes "\\begin{") e)) in
    subst (λ n. Next (92 ∷ t) (plain n)) n (escape_next t none nameless)

other_next : (t : List ℕ) → begins (92 ∷ t) (codes "\\begin{") ≡ true → begins (92 ∷ t) (codes "\\begin{schema}{") ≡ false → Next (92 ∷ t) (other_opening_found (92 ∷ t))
unfolding other_opening_found openings
other_next t e nameless =
    let s = 92 ∷ t in
    let named : (n : ℕ) → Within s schema_opening n = λ n. nameless_bound s n nameless in
    pick (Next s) (begins s (codes "\\begin{zed}")) _ _ (λ h. opened s (codes "\\begin{zed}") _ (omega arith) refl (λ rest. refl) h (named 11))
    (λ zed. pick (Next s) (begins s (codes "\\begin{schema}")) _ _ (λ h. unnamed_next s h (named 14))
    (λ bare. pick (Next s) (begins s (codes "\\begin{axdef}")) _ _ (λ h. opened s (codes "\\begin{axdef}") _ (omega arith) refl (λ rest. refl) h (named 13))
    (λ axdef. pick (Next s) (begins s (codes "\\begin{gendef}")) _ _ (λ h. opened s (codes "\\begin{gendef}") _ (omega arith) refl (λ rest. refl) h (named 14))
    (λ gendef. pick (Next s) (begins s (codes "\\begin{syntax}")) _ _ (λ h. opened s (codes "\\begin{syntax}") _ (omega arith) refl (λ rest. refl) h (named 14))
    (λ syntax. two_next t e nameless (unopened s zed bare axdef gendef syntax))))))

-- ---- the opening of a schema box with its name

not_zero : (n : ℕ) → 0 < n → (n == 0) ≡ false
not_zero n h = grind (arith, nat_tests)

pub named : (name rest : List ℕ) → is_base name ≡ true → look_up name symbols ≡ None → (base_len (name ++ 125 ∷ rest) ≡ length name) × (has_no_name (name ++ 125 ∷ rest) ≡ false)
named [] rest h k = absurd (cc)
named (c ∷ cs) rest h k =
    let n : base_len (c ∷ cs ++ 125 ∷ rest) ≡ 1 + length cs = rw (and_left (is_letter c) (is_run Base cs) h)
    (ap (λ n. 1 + n) (run_exact Base cs (125 ∷ rest) (and_right (is_letter c) (is_run Base cs) h) (no_step 125 rest refl refl))) in
    let long : base_len (c ∷ cs ++ 125 ∷ rest) ≡ length (c ∷ cs) = n ∙ one-add (length cs) in
    let front : take (base_len (c ∷ cs ++ 125 ∷ rest)) (c ∷ cs ++ 125 ∷ rest) ≡ c ∷ cs = ap (λ n. take n (c ∷ cs ++ 125 ∷ rest)) long ∙ take-append_seam
    (c ∷ cs) (125 ∷ rest) in
    let back : drop (base_len (c ∷ cs ++ 125 ∷ rest)) (c ∷ cs ++ 125 ∷ rest) ≡ 125 ∷ rest = ap (λ n. drop n (c ∷ cs ++ 125 ∷ rest)) long ∙ drop-append_seam
    (c ∷ cs) (125 ∷ rest) in
    let some : (base_len (c ∷ cs ++ 125 ∷ rest) == 0) ≡ false = not_zero (base_len (c ∷ cs ++ 125 ∷ rest)) (omega (arith, n)) in
    let brace : begins (drop (base_len (c ∷ cs ++ 125 ∷ rest)) (c ∷ cs ++ 125 ∷ rest)) (codes "}") ≡ true = ap (λ s. begins s (codes "}")) back in
    let free : is_some (look_up (take (base_len (c ∷ cs ++ 125 ∷ rest)) (c ∷ cs ++ 125 ∷ rest)) symbols) ≡ false = ap (λ p. is_some (look_up p symbols)) front ∙ ap is_some k in
    (long, three _ _ _ some brace free)
  where
    three : (a b d : Bool) → a ≡ false → b ≡ true → d ≡ false → (a || (not b || d)) ≡ false
    three a b d e f g = rw (e, f, g)

schema_long : (s r rest : List ℕ) (piece : Piece) → SpellsOutside schema_opening piece r → s ≡ r ++ rest → (length r ≡ 16 + base_len (drop 15 s)) × (has_no_name (drop 15 s) ≡ false)
schema_long s r rest piece h e =
    let behind : drop 15 s ≡ h.0 ++ 125 ∷ rest = ap (drop 15) (schema_is s r rest h.0 h.1 e) ∙ append_assoc h.0 (codes "}") rest in
    let n = named h.0 rest h.2 h.3 in
    (omega (arith, ap length h.1, length-append h.0 (codes "}"), n.0, ap base_len behind), ap has_no_name behind ∙ n.1)

record Named (t : List ℕ) : Type 0 where
  some : (base_len t == 0) ≡ false
  brace : begins (drop (base_len t) t) (codes "}") ≡ true
  free : look_up (take (base_len t) t) symbols ≡ None

named_from : (t : List ℕ) → has_no_name t ≡ false → Named t
named_from t h = by (base_len t == 0) (begins (drop (base_len t) t) (codes "}")) (look_up (take (base_len t) t) symbols) refl refl refl h
  where
    by : (a b : Bool) (o : Option Piece) → (base_len t == 0) ≡ a → begins (drop (base_len t) t) (codes "}") ≡ b → look_up (take (base_len t) t) symbols ≡ o
        → (a || (not b || is_some o)) ≡ false → Named t
    by true b o e f g h = both true refl h
    by false false o e f g h = both true refl h
    by false true (Some piece) e f g h = both true refl h
    by false true None e f g h = record { some = e; brace = f; free = g }

name_text : (t : List ℕ) → (base_len t == 0) ≡ false → is_base (take (base_len t) t) ≡ true
name_text [] h = absurd (both true refl h)
name_text (b ∷ bs) h = by (is_letter b) refl
  where
    by : (l : Bool) → is_letter b ≡ l → is_base (take (base_len (b ∷ bs)) (b ∷ bs)) ≡ true
    by true l = base_text b bs l
    by false l = let n : base_len (b ∷ bs) ≡ 0 = rw l in absurd (both (base_len (b ∷ bs) == 0) (ap (λ n. n == 0) n) h)

schema_text : (s : List ℕ) → begins s (codes "\\begin{schema}{") ≡ true → Named (drop 15 s)
    → s ≡ (codes "\\begin{schema}{" ++ take (base_len (drop 15 s)) (drop 15 s) ++ codes "}") ++ drop 1 (drop (base_len (drop 15 s)) (drop 15 s))
schema_text s e n =
    let t = drop 15 s in
    let behind : drop (base_len t) t ≡ codes "}" ++ drop 1 (drop (base_len t) t) = begins_is (drop (base_len t) t) (codes "}") n.brace in
    let all : t ≡ take (base_len t) t ++ (codes "}" ++ drop 1 (drop (base_len t) t)) = sym (take-append-drop (base_len t) t) ∙ ap (λ x. take (base_len t) t ++ x) behind in
    begins_is s (codes "\\begin{schema}{") e ∙ ap (λ t. codes "\\begin{schema}{" ++ t) (all ∙ sym (append_assoc (take (base_len t) t) (codes "}") (drop 1 (drop (base_len t) t))))

named_next : (s : List ℕ) → begins s (codes "\\begin{schema}{") ≡ true → Named (drop 15 s)
    → At StandsOutside s (Symbol (BeginSchema (take (base_len (drop 15 s)) (drop 15 s)))) (16 + base_len (drop 15 s))
named_next s e n = at_from s _ (16 + base_len t) schema_opening (omega arith) (omega (
  arith,
  front_le s (codes "\\begin{schema}{" ++ take (base_len (drop 15 s)) (drop 15 s) ++ codes "}") (drop 1 (drop (base_len (drop 15 s)) (drop 15 s))) is,
  long,
))
    (take (base_len t) t, taken s _ _ (16 + base_len t) is long, name_text t n.some, n.free, refl) bound
  where
    t : List ℕ
    t = drop 15 s

    is : s ≡ (codes "\\begin{schema}{" ++ take (base_len (drop 15 s)) (drop 15 s) ++ codes "}") ++ drop 1 (drop (base_len (drop 15 s)) (drop 15 s))
    is = schema_text s e n

    long : length (codes "\\begin{schema}{" ++ take (base_len (drop 15 s)) (drop 15 s) ++ codes "}") ≡ 16 + base_len (drop 15 s)
    long = omega (arith, length-append (take (base_len (drop 15 s)) (drop 15 s)) (codes "}"), length-take-le (base_len (drop 15 s)) (drop 15 s) (base_within (drop 15 s)))

    bound : Bound s schema_opening (16 + base_len (drop 15 s))
    bound =
        bound_by s (16 + base_len (drop 15 s)) (λ piece r rest h e. omega (arith, opening_le r piece h))
        (λ piece r rest h e. omega (arith, (schema_long s r rest piece h e).0))

schema_next : (s : List ℕ) → begins s (codes "\\begin{schema}{") ≡ true → Next s (schema_found s)
unfolding schema_found
schema_next s e =
    pick (Next s) (has_no_name (drop 15 s)) _ _
    (λ h. unnamed_next s (is_begun s (codes "\\begin{schema}") (codes "{" ++ drop 15 s) (begins_is s (codes "\\begin{schema}{") e))
    (λ found r rest k f. absurd (both _ h (schema_long s r rest found k f).1)))
    (λ h. named_next s e (named_from (drop 15 s) h))

-- ---- all

opening_next : (t : List ℕ) → Next (92 ∷ t) (opening_found (92 ∷ t))
unfolding opening_found
opening_next t = by (begins (92 ∷ t) (codes "\\begin{")) refl
  where
    by : (z : Bool) → begins (92 ∷ t) (codes "\\begin{") ≡ z → Next (92 ∷ t)
        (if not z then plain (min (length (92 ∷ t)) 2) else (if begins (92 ∷ t) (codes "\\begin{schema}{") then schema_found (92 ∷ t) else other_opening_found
        (92 ∷ t)))
    by false h = escape_next t (λ piece r rest k e. both _ (opening_begins (92 ∷ t) r rest piece k e) h) (nameless (begins (92 ∷ t) (codes "\\begin{schema}{")) refl)
      where
        nameless : (z : Bool) → begins (92 ∷ t) (codes "\\begin{schema}{") ≡ z → begins (92 ∷ t) (codes "\\begin{schema}{") ≡ false
        nameless true e = both _ (wider (92 ∷ t) e) h
        nameless false e = e
    by true h = pick (Next (92 ∷ t)) (begins (92 ∷ t) (codes "\\begin{schema}{")) _ _ (λ e. schema_next (92 ∷ t) e) (λ e. other_next t h e)

pub outside_next : (s : List ℕ) → 0 < length s → Next s (outside_found s)
unfolding outside_found
outside_next [] some = absurd (omega arith)
outside_next (b ∷ bs) some =
    pick (Next (b ∷ bs)) (b == 92) _ _ (λ e. subst (λ b. Next (b ∷ bs) (opening_found (b ∷ bs))) (sym (eq_is b 92 e)) (opening_next bs))
    (λ backslash. pick (Next (b ∷ bs)) (b == 37) _ _ (λ e. subst (λ b. Next (b ∷ bs) (comment_found (b ∷ bs))) (sym (eq_is b 37 e)) (comment_next bs)) (λ percent. plain_next b bs backslash percent))
