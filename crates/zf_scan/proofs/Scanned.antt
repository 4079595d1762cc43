-- What the loop of the scanner keeps, and what one turn does.
use Rattle.zf_scan.proofs.Prelude.{◌++◌, ◌+◌, ◌-◌, ◌<◌, ◌∙◌, ◌∷◌, ◌≡◌, [], ap, append_assoc, arith, drop, inl, inr, length, length-append, length-take-le, List, map, refl, subst, sym, take, take-append-drop, ℕ, append-nil, drop-drop, map-append, Before, Cuts, entered, IsRead, from_to, past, span_at, Spot, Stands, start, tokens_from, tokens_of, token_at, kind_of, Match, found_at, Piece, Plain, Symbol, Region, Placed, Kind, Token, Span, symbol}
use Rattle.zf_scan.specs.declared.next.Next as nexts
use Rattle.zf_scan.specs.declared.pieces.Region.TheVariants as places
use Rattle.zf_scan.proofs.Longest as longest
use Rattle.zf_scan.proofs.Closing.{zed_next, schema_next}
use Rattle.zf_scan.proofs.First.{outside_next}

abbrev pub StandsAt : Region → List ℕ → Match → Type 0
StandsAt place s f = longest.At (Stands place) s f.piece f.len

abbrev pub Next : Region → List ℕ → Match → Type 0
Next place s f = longest.Next (Stands place) s f

pub found_next : (place : Region) (s : List ℕ) → 0 < length s → Next place s (found_at place s)
unfolding found_at
found_next places.Outside s some = inl (outside_next s some)
found_next (places.Zed span) s some = zed_next s some
found_next (places.Schema span) s some = schema_next s some

-- ---- the loop

pub begun : (source : List ℕ) → Before source 0 places.Outside []
begun source = record { pieces = []; spot = start; cuts = (refl, refl); tokens_are = λ qs. refl; at_is = refl; place_is = refl }

cuts_more : (ps : List (Piece × List ℕ)) (p : Piece × List ℕ) (a b : Spot) (source rest after : List ℕ) → Cuts ps a source b rest → rest ≡ p.1 ++ after
    → Stands b.place p.0 p.1 after → IsRead p.0 → Cuts (ps ++ p ∷ []) a source (past b p) after
cuts_more [] p a b source rest after c e s r = (after, c.1 ∙ e, subst (λ a. Stands a.place p.0 p.1 after) (sym c.0) s, r, (ap (λ a. past a p) c.0, refl))
cuts_more (q ∷ ps) p a b source rest after c e s r = (c.0, c.1, c.2, c.3, cuts_more ps p (past a q) b c.0 rest after c.4 e s r)

-- where a piece of this length stands
pub piece_there : (source : List ℕ) (at : ℕ) (place : Region) (tokens : List Token) (b : Before source at place tokens) (text : List ℕ) (len : ℕ)
    → length text ≡ len → from_to at (at + len) ≡ span_at b.spot text
piece_there source at place tokens b text len e = ap (λ at. from_to at (at + len)) b.at_is ∙ ap (λ n. span_from b.spot n) (sym e)
  where
    span_from : Spot → ℕ → Span
    span_from spot n = from_to (length spot.before) (length spot.before + n)

pub turned : (source : List ℕ) (at : ℕ) (place : Region) (tokens : List Token) (b : Before source at place tokens) (f : Match) → StandsAt place (drop at source) f → IsRead f.piece
    → Before source (at + f.len) (entered place (from_to at (at + f.len)) f.piece) (tokens ++ tokens_of b.spot f.piece (take f.len (drop at source)))
turned source at place tokens b f s r = record {
  pieces = b.pieces ++ (f.piece, text) ∷ [];
  spot = past b.spot (f.piece, text);
  cuts = subst (λ rest. Cuts (b.pieces ++ (f.piece, text) ∷ []) start source (past b.spot (f.piece, text)) rest) (drop-drop f.len at source)
      (cuts_more b.pieces (f.piece, text) start b.spot source rest after b.cuts (sym (take-append-drop f.len rest)) (subst (λ place. Stands place f.piece text after) b.place_is s.stands) r);
  tokens_are = λ qs. ap (tokens_from start) (append_assoc b.pieces ((f.piece, text) ∷ []) qs) ∙ b.tokens_are ((f.piece, text) ∷ qs)
      ∙ sym (append_assoc tokens (tokens_of b.spot f.piece text) (tokens_from (past b.spot (f.piece, text)) qs));
  at_is = omega (arith, b.at_is, length-append b.spot.before text, length-take-le f.len rest s.within);
  place_is = ap (λ place. entered place (from_to at (at + f.len)) f.piece) b.place_is
      ∙ ap (λ span. entered b.spot.place span f.piece) (piece_there source at place tokens b text f.len (length-take-le f.len rest s.within));
}
  where
    rest : List ℕ
    rest = drop at source

    text : List ℕ
    text = take f.len (drop at source)

    after : List ℕ
    after = drop f.len (drop at source)

-- ---- what a turn has found

pub goes : (place : Region) (s : List ℕ) (f : Match) → Next place s f → IsRead f.piece → StandsAt place s f
goes place s f (inl a) r = a
goes place s f (inr n) r = absurd (subst IsRead n.0 r)

pub moved : (source : List ℕ) (at : ℕ) (place : Region) (tokens : List Token) → Before source at place tokens
    → (place2 : Region) (tokens2 : List Token) → place ≡ place2 → tokens ≡ tokens2 → Before source at place2 tokens2
moved source at place tokens b place2 tokens2 e f = subst (λ tokens. Before source at place2 tokens) f (subst (λ place. Before source at place tokens) e b)

-- the tokens of what was found
pub told_plain : (source : List ℕ) (at : ℕ) (place : Region) (tokens : List Token) (b : Before source at place tokens) (f : Match) (text : List ℕ)
    → f.piece ≡ Plain → tokens ++ tokens_of b.spot f.piece text ≡ tokens
told_plain source at place tokens b f text e = ap (λ piece. tokens ++ tokens_of b.spot piece text) e ∙ append-nil tokens

pub told_symbol : (source : List ℕ) (at : ℕ) (place : Region) (tokens : List Token) (b : Before source at place tokens) (f : Match) (text : List ℕ)
    (kind : Kind) → f.piece ≡ Symbol kind → length text ≡ f.len
    → tokens ++ tokens_of b.spot f.piece text ≡ tokens ++ symbol kind (from_to at (at + f.len)) ∷ []
told_symbol source at place tokens b f text kind e n =
    ap (λ piece. tokens ++ tokens_of b.spot piece text) e
    ∙ ap (λ span. tokens ++ symbol kind span ∷ []) (sym (piece_there source at place tokens b text f.len n))

pub placed_told : (source : List ℕ) (front : List Token) (at len : ℕ) (symbols : List Placed) (next : nexts.Next) (amount : ℕ) (span : Span)
    → (front ++ map (token_at source) symbols) ++ symbol (kind_of next amount (take len (drop at source))) span ∷ []
    ≡ front ++ map (token_at source) (symbols ++ record { next = next; span = span; start = at; stop = at + len; amount = amount } ∷ [])
placed_told source front at len symbols next amount span =
    let same : len ≡ at + len - at = omega arith in
    append_assoc front (map (token_at source) symbols) (symbol (kind_of next amount (take len (drop at source))) span ∷ [])
    ∙ ap (λ n. front ++ (map (token_at source) symbols ++ symbol (kind_of next amount (take n (drop at source))) span ∷ [])) same
    ∙ ap (λ ts. front ++ ts) (sym (map-append (token_at source) symbols (record { next = next; span = span; start = at; stop = at + len; amount = amount } ∷ [])))
