-- Every source is cut, or has a fault.
use Rattle.zf_scan.proofs.Prelude.{◌++◌, ◌+◌, ◌<◌, ◌≡◌, ◌≤◌, ◌⊎◌, [], arith, drop, inl, inr, length, length-drop, List, refl, subst, suc, sym, take, zero, ℕ, Before, entered, Fails, from_to, nowhere, reported, HasFault, IsCutInto, IsCutOrFaults, IsRead, tokens_of, Match, found_at, TextFault, TextFaultKind, TooLong, UnclosedBox, Piece, Plain, Refused, Symbol, Region, SOURCE_MAX, Token}
use Rattle.std.proofs.lemmas.Bool.{cases_lt}
use Rattle.zf_scan.specs.declared.pieces.Region.TheVariants as places
use Rattle.zf_scan.proofs.Laws.{finished, stuck, refused, ended}
use Rattle.zf_scan.proofs.Scanned.{Next, begun, found_next, goes, turned}

abbrev Told : List ℕ → Type 0
Told source = ((tokens : List Token) × IsCutInto source tokens) ⊎ ((fault : TextFault) × HasFault source fault)

-- what is read of a source of which so many bytes are left
abbrev FromThere : ℕ → List ℕ → Type 0
FromThere left source = (at : ℕ) (place : Region) (tokens : List Token) → Before source at place tokens → length source ≤ at + left → Told source

fails_there : (source : List ℕ) (at : ℕ) (place : Region) (tokens : List Token) → Before source at place tokens → length source ≤ SOURCE_MAX
    → (kind : TextFaultKind) → Fails place (drop at source) kind → Told source
fails_there source at place tokens b short kind fails =
    let fault : TextFault = record { kind = kind; span = reported place at kind } in
    inr (fault, inr (stuck source at place tokens b short fault kind refl refl fails))

at_end : (source : List ℕ) (at : ℕ) (place : Region) (tokens : List Token) → Before source at place tokens → length source ≤ SOURCE_MAX → length source ≤ at → Told source
at_end source at places.Outside tokens b short over = inl (tokens, finished source at places.Outside tokens b over refl short)
at_end source at (places.Zed from) tokens b short over = fails_there source at (places.Zed from) tokens b short UnclosedBox (ended source at (places.Zed from) over (λ e. cc e))
at_end source at (places.Schema from) tokens b short over = fails_there source at (places.Schema from) tokens b short UnclosedBox (ended source at (places.Schema from) over (λ e. cc e))

-- the piece that is found is read, and the rest after it
goes_on : (left : ℕ) (source : List ℕ) → FromThere left source → (at : ℕ) (place : Region) (tokens : List Token) → Before source at place tokens → length source ≤ at + suc left
    → (f : Match) → Next place (drop at source) f → IsRead f.piece → Told source
goes_on left source further at place tokens b few f n read =
    let a = goes place (drop at source) f n read in
    further (at + f.len) (entered place (from_to at (at + f.len)) f.piece) (tokens ++ tokens_of b.spot f.piece (take f.len (drop at source)))
    (turned source at place tokens b f a read) (omega (arith, few, a.some))

turns : (left : ℕ) (source : List ℕ) → length source ≤ SOURCE_MAX → FromThere left source → (at : ℕ) (place : Region) (tokens : List Token)
    → Before source at place tokens → length source ≤ at + suc left
    → 0 < length (drop at source) → (f : Match) → Next place (drop at source) f → (piece : Piece) → f.piece ≡ piece → Told source
turns left source short further at place tokens b few some f n Plain e = goes_on left source further at place tokens b few f n (subst IsRead (sym e) tt)
turns left source short further at place tokens b few some f n (Symbol kind) e = goes_on left source further at place tokens b few f n (subst IsRead (sym e) tt)
turns left source short further at place tokens b few some f n (Refused kind) e = fails_there source at place tokens b short kind (refused place (drop at source) f n kind e some)

from_there : (left : ℕ) (source : List ℕ) → length source ≤ SOURCE_MAX → FromThere left source
from_there zero source short at place tokens b few = at_end source at place tokens b short (omega (arith, few))
from_there (suc left) source short at place tokens b few = by (cases_lt at (length source)) (from_there left source short)
  where
    by : (at < length source) ⊎ (length source ≤ at) → FromThere left source → Told source
    by (inl within) further =
        let some : 0 < length (drop at source) = omega (arith, within, length-drop at source) in
        turns left source short further at place tokens b few some (found_at place (drop at source)) (found_next place (drop at source) some) (found_at place (drop at source)).piece refl
    by (inr over) further = at_end source at place tokens b short over

within_or_past : (most : ℕ) (source : List ℕ) → (length source ≤ most → Told source) → (most < length source → Told source) → Told source
within_or_past most source short long = by (cases_lt most (length source))
  where
    by : (most < length source) ⊎ (length source ≤ most) → Told source
    by (inl past) = long past
    by (inr within) = short within

pub is_cut_or_faults : IsCutOrFaults
is_cut_or_faults source =
    let long : TextFault = record { kind = TooLong; span = nowhere } in
    within_or_past SOURCE_MAX source (λ short. from_there (length source) source short 0 places.Outside [] (begun source) (omega arith)) (λ past. inr (long, inl (past, refl, refl)))
