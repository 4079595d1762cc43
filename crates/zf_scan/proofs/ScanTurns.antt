-- One turn of the scanner's loop: a blank, another piece without a token, a symbol.
use Rattle.zf_scan.proofs.Prelude.{◌++◌, ◌+◌, ◌<◌, ◌∙◌, ◌∷◌, ◌≡◌, [], ap, arith, drop, inl, inr, length, length-take-le, List, map, refl, subst, sym, take, ℕ, Before, entered, from_to, IsRead, token_at, kind_of, piece_of, match_of, Match, found, found_at, Plain, Symbol, Region, Placed, Span, Token, length-drop, between, begins_box, true, map-append, Outside}
use Rattle.zf_scan.specs.declared.next.Next as symbol
use Rattle.zf_scan.specs.declared.pieces.Match as code
use Rattle.zf_scan.specs.declared.pieces.Lexeme.{Lexeme}
use Rattle.zf_scan.specs.declared.pieces.Lexeme.TheVariants as lexemes
use Rattle.zf_scan.proofs.BoxParts.{begins_same, begins_there}
use Rattle.zf_scan.proofs.Scanned.{StandsAt, Next, found_next, goes, turned, moved, told_plain, told_symbol, placed_told}

-- what the scanner has seen at the front of a text that is not empty
pub record Seen (place : Region) (s rest : List ℕ) (f : code.Match) : Type 0 where
  pub same : rest ≡ s
  pub found : match_of rest f ≡ found_at place rest
  pub some : 0 < length s

pub seen_there : {place : Region} {rest : List ℕ} {f : code.Match} (at : ℕ) (source : List ℕ) → rest ≡ drop at source
    → match_of rest f ≡ found_at place rest → at < length source
    → Seen place (drop at source) rest f
seen_there at source same found within = record { same = same; found = found; some = omega (arith, length-drop at source, within) }

pub seen_next : {place : Region} {s rest : List ℕ} {f : code.Match} → Seen place s rest f → Next place s (match_of s f)
seen_next {place} {s} {rest} {f} v = subst (λ f. Next place s f) (sym (subst (λ r. match_of r f ≡ found_at place r) v.same v.found)) (found_next place s v.some)

-- unless it is refused, it stands there
pub stands : {place : Region} {s rest : List ℕ} {f : code.Match} {lexeme : Lexeme} → Seen place s rest f → f.lexeme ≡ lexeme
    → IsRead (piece_of lexeme f.amount (take f.len s))
    → StandsAt place s (match_of s f)
stands {place} {s} {rest} {f} v is read =
    goes place s (match_of s f) (seen_next v) (subst (λ lexeme. IsRead (piece_of lexeme f.amount (take f.len s))) (sym is) read)

-- a symbol outside of a box begins one
pub opens : {place : Region} {s rest : List ℕ} {f : code.Match} {next : symbol.Next} → Seen place s rest f → f.lexeme ≡ lexemes.Symbol next
    → (source : List ℕ) (p : Placed) → p.next ≡ next → place ≡ Outside → begins_box (token_at source p).kind ≡ true
opens {place} {s} {rest} {f} {next} v is source p same out =
    let text = between p.start p.stop source in
    ap (λ next. begins_box (kind_of next p.amount text)) same
    ∙ begins_same next p.amount f.amount text (take f.len s)
    ∙ begins_there place s (match_of s f) _ (stands v is tt) (ap (λ lexeme. piece_of lexeme f.amount (take f.len s)) is) out

-- the tokens with one more
pub one_more : (source : List ℕ) (symbols : List Placed) (p : Placed) (more : List Placed) → more ≡ symbols ++ p ∷ []
    → map (token_at source) more ≡ map (token_at source) symbols ++ token_at source p ∷ []
one_more source symbols p more e = ap (map (token_at source)) e ∙ map-append (token_at source) symbols (p ∷ [])

blank_stands : (place : Region) (s : List ℕ) → Next place s (found Plain 1) → StandsAt place s (found Plain 1)
blank_stands place s (inl a) = a
blank_stands place s (inr n) = let e = n.0 in absurd (cc)

plain_turn : (source : List ℕ) (at : ℕ) (place : Region) (tokens : List Token) → Before source at place tokens → (f : Match)
    → StandsAt place (drop at source) f → f.piece ≡ Plain → Before source (at + f.len) place tokens
plain_turn source at place tokens b f s e =
    moved _ _ _ _ (turned source at place tokens b f s (subst IsRead (sym e) tt)) _ _ (ap (entered place (from_to at (at + f.len))) e)
    (told_plain source at place tokens b f (take f.len (drop at source)) e)

pub blank_read : (source : List ℕ) (at : ℕ) (place : Region) (tokens : List Token) → Before source at place tokens → (rest : List ℕ)
    → rest ≡ drop at source → 0 < length (drop at source) → found_at place rest ≡ found Plain 1 → Before source (at + 1) place tokens
blank_read source at place tokens b rest e some h =
    let next : Next place (drop at source) (found Plain 1) = subst (λ f. Next place (drop at source) f) (ap (found_at place) (sym e) ∙ h) (found_next place (drop at source) some) in
    plain_turn source at place tokens b (found Plain 1) (blank_stands place (drop at source) next) refl

pub plain_read : (source : List ℕ) (at : ℕ) (place : Region) (tokens : List Token) → Before source at place tokens → (rest : List ℕ) (f : code.Match)
    → Seen place (drop at source) rest f → f.lexeme ≡ lexemes.Plain → Before source (at + f.len) place tokens
plain_read source at place tokens b rest f v is =
    let s = drop at source in
    plain_turn source at place tokens b (match_of s f) (stands v is tt) (ap (λ lexeme. piece_of lexeme f.amount (take f.len s)) is)

pub symbol_read : (source : List ℕ) (at : ℕ) (place : Region) (front : List Token) (symbols : List Placed)
    → Before source at place (front ++ map (token_at source) symbols) → (rest : List ℕ) (f : code.Match) (next : symbol.Next)
    → Seen place (drop at source) rest f
    → f.lexeme ≡ lexemes.Symbol next
    → (span : Span) → span ≡ from_to at (at + f.len)
    → (more : List Placed) → more ≡ symbols ++ record { next = next; span = span; start = at; stop = at + f.len; amount = f.amount } ∷ []
    → (behind : Region) → ((amount : ℕ) (text : List ℕ) → behind ≡ entered place span (Symbol (kind_of next amount text)))
    → Before source (at + f.len) behind (front ++ map (token_at source) more)
symbol_read source at place front symbols b rest f next v is span there more pushed behind place_is =
    let s = drop at source in
    let text = take f.len s in
    let kind = kind_of next f.amount text in
    let tokens = front ++ map (token_at source) symbols in
    let a = stands v is tt in
    let piece : piece_of f.lexeme f.amount text ≡ Symbol kind = ap (λ lexeme. piece_of lexeme f.amount text) is in
    moved _ _ _ _ (turned source at place tokens b (match_of s f) a (subst IsRead (sym piece) tt)) _ _
    (ap (entered place (from_to at (at + f.len))) piece ∙ ap (λ span. entered place span (Symbol kind)) (sym there) ∙ sym (place_is f.amount text))
    (told_symbol source at place tokens b (match_of s f) text kind piece (length-take-le f.len s a.within)
    ∙ placed_told source front at f.len symbols next f.amount (from_to at (at + f.len))
    ∙ ap (λ span. front ++ map (token_at source) (symbols ++ record { next = next; span = span; start = at; stop = at + f.len; amount = f.amount } ∷ [])) (sym there)
    ∙ ap (λ ps. front ++ map (token_at source) ps) (sym pushed))
