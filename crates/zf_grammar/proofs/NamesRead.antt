-- Names: what is read is spelled, and what is spelled is read.
use Rattle.zf_grammar.proofs.Prelude.{◌++◌, ◌+◌, ◌∙◌, ◌∷◌, ◌≡◌, ◌≤◌, [], ap, append_assoc, arith, false, length, List, Ok, refl, subst, suc, sym, zero, ℕ, append-nil, Name, is_mark, Symbol, symbol, Mark, Kind, first, name_by, opening_by, read_name, read_opening, rest, parted, parted_from, PartedBy, read_names, SpellsName, SpellsNames, Starts, Span}
use Rattle.zf_scan.specs.declared.next.Mark.TheVariants as mark
use Rattle.zf_scan.specs.declared.token.Kind.TheVariants as k
use Rattle.zf_grammar.proofs.Marks.{kind_of, seen, passed, next_shorter}
use Rattle.zf_grammar.proofs.Parted.{first_of_all, Further, parted_shorter, parted_sound}
use Rattle.zf_grammar.proofs.TermSteps.{ok_value, ok_rest}

-- ---- what is read is spelled

name_at : (kind : Kind) (span : Span) (ts us : List Symbol) (n : Name) → name_by kind span (symbol kind span ∷ ts) ≡ Ok (n, us) → SpellsName n (symbol kind span ∷ ts) us
name_at (k.Name base strokes) span ts us n e =
    subst (λ n. SpellsName n (symbol (k.Name base strokes) span ∷ ts) us) (ok_value _ n ts us e)
    (ap (λ ts. symbol (k.Name base strokes) span ∷ ts) (ok_rest _ n ts us e))
name_at k.BeginZed span ts us n e = absurd (cc)
name_at _ span ts us n e = absurd (cc)

pub name_ok : (ts us : List Symbol) (n : Name) → read_name ts ≡ Ok (n, us) → SpellsName n ts us
name_ok [] us n e = absurd (cc)
name_ok (t ∷ ts) us n e = name_at t.kind t.span ts us n e

abbrev pub IsOpening : Name → List Symbol → List Symbol → Type 0
IsOpening n ts us = (n.strokes ≡ []) × Starts (k.BeginSchema n.base) n.span ts us

opening_at : (kind : Kind) (span : Span) (ts us : List Symbol) (n : Name) → opening_by kind span (symbol kind span ∷ ts) ≡ Ok (n, us) → IsOpening n (symbol kind span ∷ ts) us
opening_at (k.BeginSchema base) span ts us n e =
    subst (λ n. IsOpening n (symbol (k.BeginSchema base) span ∷ ts) us) (ok_value _ n ts us e)
    (refl, ap (λ ts. symbol (k.BeginSchema base) span ∷ ts) (ok_rest _ n ts us e))
opening_at k.BeginZed span ts us n e = absurd (cc)
opening_at _ span ts us n e = absurd (cc)

pub opening_ok : (ts us : List Symbol) (n : Name) → read_opening ts ≡ Ok (n, us) → IsOpening n ts us
opening_ok [] us n e = absurd (cc)
opening_ok (t ∷ ts) us n e = opening_at t.kind t.span ts us n e

-- names parted by any symbol
pub parted_names_ok : (m : Mark) (ts us : List Symbol) (ns : List Name) → parted m read_name ts ≡ Ok (ns, us) → PartedBy (kind_of m) SpellsName ns ts us
parted_names_ok m ts us ns e = parted_sound m read_name SpellsName name_ok ns ts us e

pub names_ok : (ts us : List Symbol) (ns : List Name) → read_names ts ≡ Ok (ns, us) → SpellsNames ns ts us
names_ok = parted_names_ok mark.Comma

-- ---- lengths

pub name_shorter : (n : Name) (ts us : List Symbol) → SpellsName n ts us → length us + 1 ≤ length ts
name_shorter n ts us h = omega (arith, ap length h)

pub parted_names_shorter : (kind : Kind) (ns : List Name) (ts us : List Symbol) → PartedBy kind SpellsName ns ts us → length us ≤ length ts
parted_names_shorter kind = parted_shorter kind SpellsName (λ n ts us h. omega (arith, name_shorter n ts us h))

pub names_shorter : (ns : List Name) (ts us : List Symbol) → SpellsNames ns ts us → length us ≤ length ts
names_shorter = parted_names_shorter k.Comma

-- ---- what is spelled is read

pub ok_name : (n : Name) (ts us : List Symbol) → SpellsName n ts us → read_name ts ≡ Ok (n, us)
ok_name n ts us h = ap read_name h

names_from : (m : Mark) (ns : List Name) (j : ℕ) (xs : List Name) (ts us : List Symbol) → is_mark m (first us) ≡ false → Further m SpellsName ns ts us
    → length ts ≤ j
    → parted_from m read_name j xs ts ≡ Ok (xs ++ ns, us)
unfolding parted_from
names_from m [] zero xs ts us stops h low = ap (λ ts. Ok (xs, ts)) h ∙ ap (λ xs. Ok (xs, us)) (sym (append-nil xs))
names_from m [] (suc j) xs ts us stops h low =
    let is : is_mark m (first ts) ≡ false = ap (λ ts. is_mark m (first ts)) h ∙ stops in
    rw is (ap (λ ts. Ok (xs, ts)) h ∙ ap (λ xs. Ok (xs, us)) (sym (append-nil xs)))
names_from m (n ∷ ns) zero xs ts us stops h low = absurd (omega (arith, next_shorter ts h.0 h.1))
names_from m (n ∷ ns) (suc j) xs ts us stops h low =
    let f = first_of_all m SpellsName n ns h.0 us h.2 in
    let small : length f.0 ≤ j = omega (arith, next_shorter ts h.0 h.1, ap length f.1) in
    let more = names_from m ns j (xs ++ n ∷ []) f.0 us stops f.2 small in
    let is = seen m ts h.0 h.1 in
    let item : read_name (rest ts) ≡ Ok (n, f.0) = ap read_name (passed ts h.0 h.1) ∙ ap read_name f.1 in
    rw (is, item) (more ∙ ap (λ xs. Ok (xs, us)) (append_assoc xs (n ∷ []) ns))

pub ok_parted_names : (m : Mark) (ns : List Name) (ts us : List Symbol) → is_mark m (first us) ≡ false → PartedBy (kind_of m) SpellsName ns ts us → parted m read_name ts ≡ Ok (ns, us)
unfolding parted
ok_parted_names m [] ts us stops h = absurd h
ok_parted_names m (n ∷ ns) ts us stops h =
    let f = first_of_all m SpellsName n ns ts us h in
    let item : read_name ts ≡ Ok (n, f.0) = ap read_name f.1 in
    let more = names_from m ns (length f.0) (n ∷ []) f.0 us stops f.2 (omega arith) in
    rw (item, more)

pub ok_names : (ns : List Name) (ts us : List Symbol) → is_mark mark.Comma (first us) ≡ false → SpellsNames ns ts us → read_names ts ≡ Ok (ns, us)
ok_names = ok_parted_names mark.Comma
