-- That tokens laid out in a text are its symbols.
use Rattle.zf_scan.proofs.Prelude.{◌++◌, ◌-◌, ◌∙◌, ◌∷◌, ◌≡◌, ◌≤◌, [], ap, arith, drop, length, length-append, length-drop, List, map, refl, take, ℕ, drop-append_seam, take-append_seam, drop-append-le, map-append, take-append-le, next_of, amount, AreWithin, IsLaid, spelling, between, token_at, kind_of, Placed, Kind, Token, take_all, symbol}
use Rattle.zf_scan.specs.declared.token.Kind.TheVariants as k

between_kept : (start stop : ℕ) (text more : List ℕ) → start ≤ stop → stop ≤ length text → between start stop (text ++ more) ≡ between start stop text
between_kept start stop text more h w =
    ap (take (stop - start)) (drop-append-le start text more (omega arith)) ∙ take-append-le (stop - start) (drop start text) more (omega (arith, length-drop start text))

kept : (text more : List ℕ) (ps : List Placed) → AreWithin (length text) ps → map (token_at (text ++ more)) ps ≡ map (token_at text) ps
kept text more [] w = refl
kept text more (p ∷ ps) w =
    ap (λ t. symbol (kind_of p.next p.amount t) p.span ∷ map (token_at (text ++ more)) ps) (between_kept p.start p.stop text more w.0 w.1)
    ∙ ap (λ ss. token_at text p ∷ ss) (kept text more ps w.2)

within : (n m : ℕ) (ps : List Placed) (p : Placed) → AreWithin n ps → n ≤ m → p.start ≤ p.stop → p.stop ≤ m → AreWithin m (ps ++ p ∷ [])
within n m [] p w h s e = (s, e, tt)
within n m (q ∷ ps) p w h s e = (w.0, omega (arith, w.1), within n m ps p w.2 h s e)

spelled : (kind : Kind) → kind_of (next_of kind) (amount kind) (spelling kind) ≡ kind
spelled (k.BeginSchema base) = ap k.BeginSchema (take_all (length base) base (omega arith))
spelled (k.Name base strokes) = ap (λ b. k.Name b (drop (length base) (base ++ strokes))) (take-append_seam base strokes) ∙ ap (k.Name base) (drop-append_seam base strokes)
spelled _ = refl

at_end : (text more : List ℕ) → between (length text) (length (text ++ more)) (text ++ more) ≡ more
at_end text more =
    let len : length (text ++ more) - length text ≡ length more = omega (arith, length-append text more) in
    ap (λ n. take n (drop (length text) (text ++ more))) len ∙ ap (take (length more)) (drop-append_seam text more) ∙ take_all (length more) more (omega arith)

pub added : (text : List ℕ) (ps : List Placed) (tokens : List Token) (t : Token) → IsLaid text ps tokens
    → IsLaid (text ++ spelling t.kind) (ps ++ record {
      next = next_of t.kind;
      span = t.span;
      start = length text;
      stop = length
          (text ++ spelling t.kind);
      amount = amount t.kind;
    } ∷ []) (tokens ++ t ∷ [])
added text ps tokens t l =
    let more = spelling t.kind in
    let p : Placed = record { next = next_of t.kind; span = t.span; start = length text; stop = length (text ++ more); amount = amount t.kind } in
    let kind : kind_of (next_of t.kind) (amount t.kind) (between (length text) (length (text ++ more)) (text ++ more))
    ≡ t.kind = ap (kind_of (next_of t.kind) (amount t.kind)) (at_end text more) ∙ spelled t.kind in
    record {
      same = map-append (token_at (text ++ more)) ps (p ∷ [])
          ∙ ap (λ ss. ss ++ token_at (text ++ more) p ∷ []) (kept text more ps l.within ∙ l.same)
          ∙ ap (λ kind. tokens ++ symbol kind t.span ∷ []) kind;
      within = within (length text) (length (text ++ more)) ps p l.within (omega (arith, length-append text more)) (omega (arith, length-append text more)) (omega arith);
    }
