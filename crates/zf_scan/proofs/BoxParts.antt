-- What the list of the symbols of a box is while the scanner fills it.
use Rattle.zf_scan.proofs.Prelude.{◌++◌, ◌∙◌, ◌∷◌, ◌≡◌, ◌≤◌, [], ap, append_assoc, Bool, false, inl, inr, length, List, refl, subst, sym, take, true, ℕ, append-nil, list_all, if◌then◌else◌, begins_box, BeginsBox, ends_box, EndsOnce, Follows, IsBox, IsBoxAtMost, IsCutOn, IsCutUpTo, entered, escape, informal, is_directive, opening, OutsideKind, remark, schema_opening, SpellsOutside, openings, kind_of, Match, NotInProfile, Next, Piece, Plain, Refused, Symbol, Region, Border, Kind, BeginSchema, BeginZed, EndBox, Token, Outside, Zed, Schema, Span}
use Rattle.zf_scan.specs.declared.next.Next.TheVariants as next
use Rattle.zf_scan.proofs.Laws.{cut_whole}
use Rattle.zf_scan.proofs.Scanned.{StandsAt}
use Rattle.zf_scan.proofs.Table.{hit}

-- ---- a symbol outside of a box begins one

abbrev is_opening : Piece → Bool
is_opening (Symbol kind) = begins_box kind
is_opening _ = true

all_open : list_all (λ row. is_opening row.1) openings ≡ true
unfolding openings
all_open = refl

no_remark : (p : List ℕ) (kind : Kind) (t : Bool) → Symbol kind ≡ (if t then Refused NotInProfile else Plain) → ⊥
no_remark p kind true e = cc
no_remark p kind false e = cc

outside_begins : (form : OutsideKind) (kind : Kind) (p : List ℕ) → SpellsOutside form (Symbol kind) p → begins_box kind ≡ true
outside_begins opening kind p h = hit (λ _ piece. is_opening piece) openings p (Symbol kind) all_open h
outside_begins schema_opening kind p h =
    let e = h.4 in
    let same : kind ≡ BeginSchema h.0 = cc e in
    ap begins_box same
outside_begins escape kind p h = let e = h.1 in absurd (cc)
outside_begins remark kind p h = absurd (no_remark p kind (is_directive p) h.1)
outside_begins informal kind p h = let e = h.1 in absurd (cc)

pub begins_there : (place : Region) (s : List ℕ) (f : Match) (kind : Kind) → StandsAt place s f → f.piece ≡ Symbol kind → place ≡ Outside → begins_box kind ≡ true
begins_there Outside s f kind a e out = outside_begins a.stands.kind kind (take f.len s) (subst (λ piece. SpellsOutside a.stands.kind piece (take f.len s)) e a.stands.spells)
begins_there (Zed span) s f kind a e out = absurd (cc)
begins_there (Schema span) s f kind a e out = absurd (cc)

-- the text doesn't matter to that
abbrev begins_next : Next → Bool
begins_next next.BeginZed = true
begins_next next.BeginSchema = true
begins_next _ = false

begins_by : (next : Next) (a : ℕ) (s : List ℕ) → begins_box (kind_of next a s) ≡ begins_next next
begins_by next.BeginZed a s = refl
begins_by next.BeginSchema a s = refl
begins_by _ a s = refl

pub begins_same : (next : Next) (a b : ℕ) (s t : List ℕ) → begins_box (kind_of next a s) ≡ begins_box (kind_of next b t)
begins_same next a b s t = begins_by next a s ∙ sym (begins_by next b t)

-- ---- the list

abbrev pub NoEnds : List Token → Type 0
NoEnds [] = Unit {0}
NoEnds (t ∷ ts) = (ends_box t.kind ≡ false) × NoEnds ts

pub record IsOpen (tokens : List Token) : Type 0 where
  pub begins : BeginsBox tokens
  pub no_end : NoEnds tokens

-- nothing outside of boxes; inside, the beginning of a box, without its end
abbrev pub IsPart : Region → List Token → Type 0
IsPart Outside tokens = tokens ≡ []
IsPart (Zed span) tokens = IsOpen tokens
IsPart (Schema span) tokens = IsOpen tokens

begins_still : (ts us : List Token) → BeginsBox ts → BeginsBox (ts ++ us)
begins_still [] us h = absurd h
begins_still (t ∷ ts) us h = h

no_more_ends : (ts : List Token) (t : Token) → NoEnds ts → ends_box t.kind ≡ false → NoEnds (ts ++ t ∷ [])
no_more_ends [] t h e = (e, tt)
no_more_ends (u ∷ ts) t h e = (h.0, no_more_ends ts t h.1 e)

ends_last : (ts : List Token) (t : Token) → NoEnds ts → ends_box t.kind ≡ true → EndsOnce (ts ++ t ∷ [])
ends_last [] t h e = e
ends_last (u ∷ []) t h e = (h.0, e)
ends_last (u ∷ (v ∷ ts)) t h e = (h.0, ends_last (v ∷ ts) t h.1 e)

one_of_both : (kind : Kind) → begins_box kind ≡ true → ends_box kind ≡ true → ⊥
one_of_both EndBox b e = cc
one_of_both _ b e = cc

is_inside : (place : Region) (ts : List Token) → IsOpen ts → (place ≡ Outside → ⊥) → IsPart place ts
is_inside Outside ts open_ inside = absurd (inside refl)
is_inside (Zed span) ts open_ inside = open_
is_inside (Schema span) ts open_ inside = open_

begun_inside : (span : Span) (kind : Kind) → begins_box kind ≡ true → entered Outside span (Symbol kind) ≡ Outside → ⊥
begun_inside span BeginZed b e = cc
begun_inside span (BeginSchema name) b e = cc
begun_inside span _ b e = cc

stays_inside : (place : Region) (span : Span) (kind : Kind) → ends_box kind ≡ false → (place ≡ Outside → ⊥) → entered place span (Symbol kind) ≡ Outside → ⊥
stays_inside place span BeginZed e inside out = cc
stays_inside place span (BeginSchema name) e inside out = cc
stays_inside place span EndBox e inside out = cc
stays_inside place span _ e inside out = inside out

more_open : (ts : List Token) (t : Token) → IsOpen ts → ends_box t.kind ≡ false → IsOpen (ts ++ t ∷ [])
more_open ts t o e = record { begins = begins_still ts (t ∷ []) o.begins; no_end = no_more_ends ts t o.no_end e }

grows : (place : Region) (span : Span) (ts : List Token) (t : Token) → (place ≡ Outside → begins_box t.kind ≡ true) → ends_box t.kind ≡ false → IsPart place ts
    → IsPart (entered place span (Symbol t.kind)) (ts ++ t ∷ [])
grows Outside span ts t opens e h =
    subst (λ ts. IsPart (entered Outside span (Symbol t.kind)) (ts ++ t ∷ [])) (sym h)
    (is_inside (entered Outside span (Symbol t.kind)) (t ∷ []) (record { begins = opens refl; no_end = (e, tt) }) (begun_inside span t.kind (opens refl)))
grows (Zed l) span ts t opens e h = is_inside (entered (Zed l) span (Symbol t.kind)) (ts ++ t ∷ []) (more_open ts t h e) (stays_inside (Zed l) span t.kind e (λ out. cc))
grows (Schema l) span ts t opens e h = is_inside (entered (Schema l) span (Symbol t.kind)) (ts ++ t ∷ []) (more_open ts t h e) (stays_inside (Schema l) span t.kind e (λ out. cc))

-- a symbol that ends no box
pub grown : (place : Region) (span : Span) (ts : List Token) (t : Token) → (place ≡ Outside → begins_box t.kind ≡ true) → ends_box t.kind ≡ false → IsPart place ts
    → (behind : Region) (more : List Token) → behind ≡ entered place span (Symbol t.kind) → more ≡ ts ++ t ∷ [] → IsPart behind more
grown place span ts t opens e h behind more place_is more_is =
    subst (λ behind. IsPart behind more) (sym place_is) (subst (IsPart (entered place span (Symbol t.kind))) (sym more_is) (grows place span ts t opens e h))

-- one that ends the box
pub closed : (place : Region) (ts : List Token) (t : Token) → (place ≡ Outside → begins_box t.kind ≡ true) → ends_box t.kind ≡ true → IsPart place ts → IsBox (ts ++ t ∷ [])
closed Outside ts t opens e h = absurd (one_of_both t.kind (opens refl) e)
closed (Zed span) ts t opens e h = record { begins = begins_still ts (t ∷ []) h.begins; ends = ends_last ts t h.no_end e }
closed (Schema span) ts t opens e h = record { begins = begins_still ts (t ∷ []) h.begins; ends = ends_last ts t h.no_end e }

pub ended_outside : (place : Region) (span : Span) (kind : Kind) → ends_box kind ≡ true → Outside ≡ entered place span (Symbol kind)
ended_outside place span EndBox e = refl
ended_outside place span _ e = cc

-- ---- further boxes

begins_too : (ts us : List Token) → Follows ts → IsBoxAtMost us → Follows (ts ++ us)
begins_too ts us (inl none) (inl e) = inl (ap (λ ts. ts ++ us) none ∙ e)
begins_too ts us (inl none) (inr b) = inr (subst (λ ts. BeginsBox (ts ++ us)) (sym none) b.begins)
begins_too ts us (inr some) b = inr (begins_still ts us some)

pub none_further : (source : List ℕ) (border : Border) (tokens : List Token) → IsCutUpTo source border tokens → (more : List Token) × Follows more × IsCutUpTo source border (tokens ++ more)
none_further source border tokens up = ([], inl refl, subst (IsCutUpTo source border) (sym (append-nil tokens)) up)

pub one_further : (source : List ℕ) (border : Border) (tokens : List Token) → (more : List Token) × Follows more × IsCutUpTo source border (tokens ++ more)
    → (next : Border) (box : List Token) → IsBoxAtMost box → ((ts : List Token) → IsCutUpTo source border ts → IsCutUpTo source next (ts ++ box))
    → (more : List Token) × Follows more × IsCutUpTo source next (tokens ++ more)
one_further source border tokens h next box one step =
    (h.0 ++ box, begins_too h.0 box h.1 one, subst (IsCutUpTo source next) (append_assoc tokens h.0 box) (step (tokens ++ h.0) h.2))

pub all_further : (source : List ℕ) (border : Border) (tokens : List Token) → (more : List Token) × Follows more × IsCutUpTo source border (tokens ++ more)
    → length source ≤ border.start → IsCutOn source tokens
all_further source border tokens h over = (h.0, h.1, cut_whole source border (tokens ++ h.0) h.2 over)
