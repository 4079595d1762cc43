-- A source is cut in one way, and where it fails nothing goes on.
use Rattle.zf_scan.proofs.Prelude.{◌++◌, ◌<◌, ◌∙◌, ◌∷◌, ◌≡◌, ◌≤◌, ◌⊎◌, [], ap, arith, drop, inl, inr, length, length-append, List, refl, subst, sym, take, take-append-drop, ℕ, ⊎_elim, append-nil, Before, IsCutUpTo, Cuts, Fails, reported, FaultsOnce, IsCutInto, IsCutOnce, IsNotBoth, IsRead, IsStuck, IsUncut, IsWantOfMemory, past, Spot, Stands, start, tokens_from, Match, TextFault, TextFaultKind, BadByte, UnclosedBox, Piece, Refused, Region, Border, SOURCE_MAX, Token}
use Rattle.std.proofs.Math.ListN.{drop_of_length-le}
use Rattle.zf_scan.specs.declared.pieces.Region.TheVariants as places
use Rattle.zf_scan.proofs.Same.{same, stands_some}
use Rattle.zf_scan.proofs.Scanned.{Next}

-- the second cut goes on where the first ends
pub record GoesOn (ps qs : List (Piece × List ℕ)) (b : Spot) (rest : List ℕ) (c : Spot) (behind : List ℕ) : Type 0 where
  pub more : List (Piece × List ℕ)
  pub cuts : Cuts more b rest c behind
  pub all : qs ≡ ps ++ more

pair : (p q : Piece × List ℕ) → p.0 ≡ q.0 → p.1 ≡ q.1 → p ≡ q
pair p q e f = ap (λ x. (x, p.1)) e ∙ ap (λ t. (q.0, t)) f

goes_more : (p q : Piece × List ℕ) (ps qs : List (Piece × List ℕ)) (b : Spot) (rest : List ℕ) (c : Spot) (behind : List ℕ) → p ≡ q
    → GoesOn ps qs b rest c behind → GoesOn (p ∷ ps) (q ∷ qs) b rest c behind
goes_more p q ps qs b rest c behind e g = record { more = g.more; cuts = g.cuts; all = ap (λ p. p ∷ qs) (sym e) ∙ ap (λ qs. p ∷ qs) g.all }

pub compared : (ps qs : List (Piece × List ℕ)) (a : Spot) (s : List ℕ) (b : Spot) (rest : List ℕ) (c : Spot) (behind : List ℕ) → Cuts ps a s b rest → Cuts qs a s c behind
    → GoesOn ps qs b rest c behind ⊎ GoesOn qs ps c behind b rest
compared [] qs a s b rest c behind h g = inl (record { more = qs; cuts = subst (λ s. Cuts qs b s c behind) h.1 (subst (λ a. Cuts qs a s c behind) h.0 g); all = refl })
compared (p ∷ ps) [] a s b rest c behind h g = inr (record { more = p ∷ ps; cuts = subst (λ s. Cuts (p ∷ ps) c s b rest) g.1 (subst (λ a. Cuts (p ∷ ps) a s b rest) g.0 h); all = refl })
compared (p ∷ ps) (q ∷ qs) a s b rest c behind h g =
    let i = same a.place p.0 q.0 p.1 q.1 h.0 g.0 h.2 g.2 (sym h.1 ∙ g.1) in
    let e = pair p q i.piece i.text in
    let k : Cuts qs (past a p) h.0 c behind = subst (λ s. Cuts qs (past a p) s c behind) (sym i.behind) (subst (λ p. Cuts qs (past a p) g.0 c behind) (sym e) g.4) in
    ⊎_elim (λ r. inl (goes_more p q ps qs b rest c behind e r)) (λ r. inr (goes_more q p qs ps c behind b rest (sym e) r)) (compared ps qs (past a p) h.0 b rest c behind h.4 k)

-- ---- where a source fails

empty_front : {C : Type 0} (rest p after : List ℕ) → rest ≡ [] → rest ≡ p ++ after → 0 < length p → C
empty_front rest p after e f some = absurd (omega (arith, ap length e, ap length f, length-append p after))

-- no piece is read there
stuck_here : (place : Region) (rest : List ℕ) (kind : TextFaultKind) → Fails place rest kind → (x : Piece) (r after : List ℕ) → rest ≡ r ++ after → Stands place x r after → IsRead x → ⊥
stuck_here place rest kind (inl f) x r after e s read = subst IsRead (sym (same place (Refused kind) x f.0 r f.1 after f.3 s (sym f.2 ∙ e)).piece) read
stuck_here place rest kind (inr (inl f)) x r after e s read = f.2 x r after e s
stuck_here place rest kind (inr (inr f)) x r after e s read = empty_front rest r after f.1 e (stands_some place x r after s)

-- and the source does not end there outside the boxes
ended_here : (place : Region) (rest : List ℕ) (kind : TextFaultKind) → Fails place rest kind → rest ≡ [] → place ≡ places.Outside → ⊥
ended_here place rest kind (inl f) e out = empty_front rest f.0 f.1 e f.2 (stands_some place (Refused kind) f.0 f.1 f.3)
ended_here place rest kind (inr (inl f)) e out = omega (arith, f.1, ap length e)
ended_here place rest kind (inr (inr f)) e out = f.2 out

no_more : {C : Type 0} (ps : List (Piece × List ℕ)) (p : Piece × List ℕ) (b : Spot) (c : Spot) (rest behind : List ℕ) → rest ≡ [] → Cuts (p ∷ ps) b rest c behind → C
no_more ps p b c rest behind e h = empty_front rest p.1 h.0 e h.1 (stands_some b.place p.0 p.1 h.0 h.2)

goes_past : (b c : Spot) (rest : List ℕ) (kind : TextFaultKind) (more : List (Piece × List ℕ)) → Fails b.place rest kind → c.place ≡ places.Outside → Cuts more b rest c [] → ⊥
goes_past b c rest kind [] f out h = ended_here b.place rest kind f h.1 (ap (λ b. b.place) h.0 ∙ out)
goes_past b c rest kind (r ∷ rs) f out h = stuck_here b.place rest kind f r.0 r.1 h.0 h.1 h.2 h.3

ends_before : (b c : Spot) (rest : List ℕ) (kind : TextFaultKind) (more : List (Piece × List ℕ)) → Fails b.place rest kind → c.place ≡ places.Outside → Cuts more c [] b rest → ⊥
ends_before b c rest kind [] f out h = ended_here b.place rest kind f (sym h.1) (ap (λ b. b.place) (sym h.0) ∙ out)
ends_before b c rest kind (r ∷ rs) f out h = no_more rs r c b [] rest refl h

pub uncut : (source : List ℕ) (fault : TextFault) → IsStuck source fault → IsUncut source
uncut source fault s tokens c =
    ⊎_elim (λ g. goes_past s.spot c.end s.rest fault.kind g.more s.fails c.closed g.cuts) (λ g. ends_before s.spot c.end s.rest fault.kind g.more s.fails c.closed g.cuts)
    (compared s.pieces c.pieces start source s.spot s.rest c.end [] s.cuts c.cuts)

pub uncut_then : (source : List ℕ) (fault : TextFault) → IsWantOfMemory fault ⊎ IsStuck source fault → IsWantOfMemory fault ⊎ IsUncut source
uncut_then source fault (inl h) = inl h
uncut_then source fault (inr s) = inr (uncut source fault s)

-- ---- the ends of the loop

pub finished : (source : List ℕ) (at : ℕ) (place : Region) (tokens : List Token) → Before source at place tokens → length source ≤ at
    → place ≡ places.Outside → length source ≤ SOURCE_MAX → IsCutInto source tokens
finished source at place tokens b over out short = record {
  short = short;
  pieces = b.pieces;
  end = b.spot;
  cuts = subst (λ rest. Cuts b.pieces start source b.spot rest) (drop_of_length-le source over) b.cuts;
  closed = sym b.place_is ∙ out;
  tokens_are = sym (append-nil tokens) ∙ sym (b.tokens_are []) ∙ ap (tokens_from start) (append-nil b.pieces);
}

pub cut_whole : (source : List ℕ) (border : Border) (tokens : List Token) → IsCutUpTo source border tokens → length source ≤ border.start → IsCutInto source tokens
cut_whole source border tokens up over = finished source border.start places.Outside tokens up.before over refl up.short

pub stuck : (source : List ℕ) (at : ℕ) (place : Region) (tokens : List Token) → Before source at place tokens → length source ≤ SOURCE_MAX
    → (fault : TextFault) (kind : TextFaultKind) → fault.kind ≡ kind → fault.span ≡ reported place at kind
    → Fails place (drop at source) kind → IsStuck source fault
stuck source at place tokens b short fault kind e f fails = record {
  short = short;
  pieces = b.pieces;
  spot = b.spot;
  rest = drop at source;
  cuts = b.cuts;
  fails = subst (λ kind. Fails b.spot.place (drop at source) kind) (sym e) (subst (λ place. Fails place (drop at source) kind) b.place_is fails);
  span = f ∙ ap (λ kind. reported place at kind) (sym e) ∙ ap (λ place. reported place at fault.kind) b.place_is
      ∙ ap (λ at. reported b.spot.place at fault.kind) b.at_is;
}

pub refused : (place : Region) (s : List ℕ) (f : Match) → Next place s f → (kind : TextFaultKind) → f.piece ≡ Refused kind → 0 < length s → Fails place s kind
refused place s f (inl a) kind e some = inl (take f.len s, drop f.len s, sym (take-append-drop f.len s), subst (λ piece. Stands place piece (take f.len s) (drop f.len s)) e a.stands)
refused place s f (inr n) kind e some = let k : kind ≡ BadByte = cc (e, n.0) in inr (inl (k, some, n.1))

pub ended : (source : List ℕ) (at : ℕ) (place : Region) → length source ≤ at → (place ≡ places.Outside → ⊥) → Fails place (drop at source) UnclosedBox
ended source at place over inside = inr (inr (refl, drop_of_length-le source over, inside))

-- ---- the laws

one_end : (ps qs : List (Piece × List ℕ)) (b c : Spot) → GoesOn ps qs b [] c [] → qs ≡ ps
one_end ps qs b c g = by g.more g.cuts g.all
  where
    by : (more : List (Piece × List ℕ)) → Cuts more b [] c [] → qs ≡ ps ++ more → qs ≡ ps
    by [] h e = e ∙ append-nil ps
    by (r ∷ rs) h e = no_more rs r b c [] [] refl h

pub is_cut_once : IsCutOnce
is_cut_once source one two c d =
    let same : c.pieces ≡ d.pieces = ⊎_elim (λ g. sym (one_end c.pieces d.pieces c.end d.end g)) (λ g. one_end d.pieces c.pieces d.end c.end g)
    (compared c.pieces d.pieces start source c.end [] d.end [] c.cuts d.cuts) in
    (same, c.tokens_are ∙ ap (tokens_from start) same ∙ sym d.tokens_are)

pub is_not_both : IsNotBoth
is_not_both source tokens fault c (inl t) = omega (arith, c.short, t.0)
is_not_both source tokens fault c (inr s) = uncut source fault s tokens c

fails_once : (place : Region) (rest : List ℕ) (k l : TextFaultKind) → Fails place rest k → Fails place rest l → k ≡ l
fails_once place rest k l (inl f) (inl g) = let e = (same place (Refused k) (Refused l) f.0 g.0 f.1 g.1 f.3 g.3 (sym f.2 ∙ g.2)).piece in cc e
fails_once place rest k l (inl f) (inr (inl g)) = absurd (g.2 (Refused k) f.0 f.1 f.2 f.3)
fails_once place rest k l (inl f) (inr (inr g)) = empty_front rest f.0 f.1 g.1 f.2 (stands_some place (Refused k) f.0 f.1 f.3)
fails_once place rest k l (inr (inl f)) (inl g) = absurd (f.2 (Refused l) g.0 g.1 g.2 g.3)
fails_once place rest k l (inr (inl f)) (inr (inl g)) = f.0 ∙ sym g.0
fails_once place rest k l (inr (inl f)) (inr (inr g)) = absurd (omega (arith, f.1, ap length g.1))
fails_once place rest k l (inr (inr f)) (inl g) = empty_front rest g.0 g.1 f.1 g.2 (stands_some place (Refused l) g.0 g.1 g.3)
fails_once place rest k l (inr (inr f)) (inr (inl g)) = absurd (omega (arith, g.1, ap length f.1))
fails_once place rest k l (inr (inr f)) (inr (inr g)) = f.0 ∙ sym g.0

fault_is : (f g : TextFault) → f.kind ≡ g.kind → f.span ≡ g.span → f ≡ g
fault_is f g e h = let a : TextFault = record { kind = f.kind; span = f.span } in ap (λ k. record { kind = k; span = f.span }) e ∙ ap (λ s. record { kind = g.kind; span = s }) h

-- the first failure is the other
one_stuck : (source : List ℕ) (f g : TextFault) (s : IsStuck source f) (t : IsStuck source g) → GoesOn s.pieces t.pieces s.spot s.rest t.spot t.rest → f ≡ g
one_stuck source f g s t o = by o.more o.cuts
  where
    by : (more : List (Piece × List ℕ)) → Cuts more s.spot s.rest t.spot t.rest → f ≡ g
    by [] h =
        let fails : Fails s.spot.place s.rest g.kind = subst (λ rest. Fails s.spot.place rest g.kind) (sym h.1) (subst (λ spot. Fails spot.place t.rest g.kind) (sym h.0) t.fails) in
        let kind = fails_once s.spot.place s.rest f.kind g.kind s.fails fails in
        fault_is f g kind (s.span ∙ ap (λ kind. reported s.spot.place (length s.spot.before) kind) kind
        ∙ ap (λ spot. reported spot.place (length spot.before) g.kind) h.0 ∙ sym t.span)
    by (r ∷ rs) h = absurd (stuck_here s.spot.place s.rest f.kind s.fails r.0 r.1 h.0 h.1 h.2 h.3)

pub faults_once : FaultsOnce
faults_once source f g (inl s) (inl t) = fault_is f g (s.1 ∙ sym t.1) (s.2 ∙ sym t.2)
faults_once source f g (inl s) (inr t) = absurd (omega (arith, s.0, t.short))
faults_once source f g (inr s) (inl t) = absurd (omega (arith, t.0, s.short))
faults_once source f g (inr s) (inr t) =
    ⊎_elim (λ o. one_stuck source f g s t o) (λ o. sym (one_stuck source g f t s o)) (compared s.pieces t.pieces start source s.spot s.rest t.spot t.rest s.cuts t.cuts)
