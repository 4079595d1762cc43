-- The symbols that a rule asks for by themselves.
use Rattle.zf_grammar.proofs.Prelude.{ℕ, ◌+◌, ◌∙◌, ◌∷◌, ◌≡◌, ◌≤◌, [], ap, arith, length, List, Ok, refl, subst, true, expect, Refused, is_mark, next_of, separator, Symbol, symbol, Mark, Kind, Ends, here, Next, first, rest, Span, Starts, sym, through}
use Rattle.zf_scan.specs.declared.next.Mark.TheVariants as mark
use Rattle.zf_scan.specs.declared.next.Next.TheVariants as next
use Rattle.zf_scan.specs.declared.token.Kind.TheVariants as k
use Rattle.zf_scan.specs.declared.token.Separator.{Separator}
use Rattle.zf_scan.specs.declared.token.Separator.TheVariants.{Semicolon}
use Rattle.zf_grammar.proofs.TermSteps.{if_ok, ok_pair}

abbrev pub kind_of : Mark → Kind
kind_of mark.EndBox = k.EndBox
kind_of mark.Separator = separator
kind_of mark.CloseRound = k.CloseRound
kind_of mark.OpenSquare = k.OpenSquare
kind_of mark.CloseSquare = k.CloseSquare
kind_of mark.CloseBrace = k.CloseBrace
kind_of mark.CloseImage = k.CloseImage
kind_of mark.Comma = k.Comma
kind_of mark.Colon = k.Colon
kind_of mark.Bar = k.Bar
kind_of mark.At = k.At
kind_of mark.Where = k.Where
kind_of mark.Cross = k.Cross

separator_is : (m : Mark) (s : Separator) → is_mark m (next_of (k.Separator s)) ≡ true → k.Separator s ≡ kind_of m
separator_is mark.Separator Semicolon e = refl
separator_is _ _ e = absurd (cc)

kind_is : (m : Mark) (kind : Kind) → is_mark m (next_of kind) ≡ true → kind ≡ kind_of m
kind_is mark.EndBox k.EndBox e = refl
kind_is mark.CloseRound k.CloseRound e = refl
kind_is mark.OpenSquare k.OpenSquare e = refl
kind_is mark.CloseSquare k.CloseSquare e = refl
kind_is mark.CloseBrace k.CloseBrace e = refl
kind_is mark.CloseImage k.CloseImage e = refl
kind_is mark.Comma k.Comma e = refl
kind_is mark.Colon k.Colon e = refl
kind_is mark.Bar k.Bar e = refl
kind_is mark.At k.At e = refl
kind_is mark.Where k.Where e = refl
kind_is mark.Cross k.Cross e = refl
kind_is m (k.Separator s) e = separator_is m s e
kind_is _ _ e = absurd (cc)

not_at_end : (m : Mark) → is_mark m next.End ≡ true → ⊥
not_at_end mark.EndBox e = cc
not_at_end _ e = cc

itself : (m : Mark) → is_mark m (next_of (kind_of m)) ≡ true
itself mark.EndBox = refl
itself _ = refl

-- where the symbol is seen, it stands
starts : (m : Mark) (ts : List Symbol) → is_mark m (first ts) ≡ true → Starts (kind_of m) (here ts) ts (rest ts)
starts m [] e = absurd (not_at_end m e)
starts m (t ∷ ts) e = ap (λ kind. symbol kind t.span ∷ ts) (kind_is m t.kind e)

pub marked : (m : Mark) (ts : List Symbol) → is_mark m (first ts) ≡ true → Next (kind_of m) ts (rest ts)
marked m ts e = (here ts, starts m ts e)

-- where it stands, it is seen
pub seen : (m : Mark) (ts us : List Symbol) → Next (kind_of m) ts us → is_mark m (first ts) ≡ true
seen m ts us h = ap (λ ts. is_mark m (first ts)) h.1 ∙ itself m

pub passed : {kind : Kind} (ts us : List Symbol) → Next kind ts us → rest ts ≡ us
passed ts us h = ap rest h.1

pub next_shorter : {kind : Kind} (ts us : List Symbol) → Next kind ts us → length us + 1 ≤ length ts
next_shorter ts us h = omega (arith, ap length h.1)

-- ---- and so it is read

expect_starts : (m : Mark) (ts us : List Symbol) (span : Span) → expect m ts ≡ Ok (span, us) → Starts (kind_of m) span ts us
expect_starts m ts us span e =
    let t = if_ok (is_mark m (first ts)) (Ok (here ts, rest ts)) (span, us) Refused e in
    subst (λ p. Starts (kind_of m) p.0 ts p.1) (ok_pair (here ts, rest ts) (span, us) t.1) (starts m ts t.0)

pub expect_ok : (m : Mark) (ts us : List Symbol) (span : Span) → expect m ts ≡ Ok (span, us) → Next (kind_of m) ts us
expect_ok m ts us span e = (span, expect_starts m ts us span e)

pub ok_expect : (m : Mark) (ts us : List Symbol) (h : Next (kind_of m) ts us) → expect m ts ≡ Ok (h.0, us)
ok_expect m ts us h = rw (seen m ts us h) (ap (λ ts. Ok (here ts, rest ts)) h.1)

-- the symbol with which a part ends
pub ends_ok : (m : Mark) (begin end : Span) (ts us : List Symbol) → expect m ts ≡ Ok (end, us) → Ends (kind_of m) (through begin end) ts us
ends_ok m begin end ts us e = (end, expect_starts m ts us end e, refl)

abbrev pub begins_next : {kind : Kind} {start : ℕ} {ts us : List Symbol} → (span : Span) × Starts kind span ts us × (start ≡ span.start) → Next kind ts us
begins_next h = (h.0, h.1)

abbrev pub ends_next : {kind : Kind} {stop : ℕ} {ts us : List Symbol} → (span : Span) × Starts kind span ts us × (stop ≡ span.stop) → Next kind ts us
ends_next h = (h.0, h.1)

-- a part that begins and ends with these
pub is_through : (s begin end : Span) → s.start ≡ begin.start → s.stop ≡ end.stop → through begin end ≡ s
is_through s begin end start stop =
    ap (λ n. record { start = n; stop = end.stop }) (sym start) ∙ ap (λ n. record { start = s.start; stop = n }) (sym stop)
