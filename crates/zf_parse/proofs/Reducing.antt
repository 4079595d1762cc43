-- What a turn of the reduction leaves.
use Rattle.zf_parse.proofs.Prelude.{◌++◌, ◌+◌, ◌-◌, ◌<◌, ◌∙◌, ◌∷◌, ◌≡◌, ◌≤◌, [], add-one, ap, append_assoc, arith, Bool, drop, drop-cons, false, get_or, length, length-drop, List, map, refl, subst, suc, sym, take, true, ℕ, append-nil, drop-set-lt, length-set, map-append, take_more_set, ◌||◌, kind_at, token_at, canonical, is_separator, opens, reduced, reduced_after, separator, starts_closed, symbol, Placed, Kind}
use Rattle.std.proofs.Math.ListN.{set}
use Rattle.std.proofs.Math.Seq.{take-append_seam}
use Rattle.zf_scan.specs.declared.token.Kind.TheVariants as k

-- ---- a turn

pub record Reduced (initial now : List Placed) (i kept : ℕ) (drops : Bool) : Type 0 where
  pub below : kept ≤ i
  pub long : length now ≡ length initial
  pub same : (text : List ℕ) → reduced (map (token_at text) initial) ≡ map (token_at text) (take kept now) ++ reduced_after drops (map (token_at text) (drop i now))

pub left_out : (initial now : List Placed) (i kept : ℕ) (drops : Bool) → Reduced initial now i kept drops
    → ((text : List ℕ) → reduced_after drops (map (token_at text) (drop i now)) ≡ reduced_after drops (map (token_at text) (drop (i + 1) now))) → Reduced initial now (i + 1) kept drops
left_out initial now i kept drops r e = record { below = omega (arith, r.below); long = r.long; same = λ text. r.same text ∙ ap (λ ss. map (token_at text) (take kept now) ++ ss) (e text) }

pub stored : (initial now : List Placed) (i kept : ℕ) (drops next : Bool) (p : Placed) → Reduced initial now i kept drops → i < length now
    → ((text : List ℕ) → reduced_after drops (map (token_at text) (drop i now))
    ≡ token_at text p ∷ reduced_after next (map (token_at text) (drop (i + 1) now))) → Reduced initial (set now kept p) (i + 1) (kept + 1) next
stored initial now i kept drops next p r h e = record {
  below = omega (arith, r.below);
  long = length-set now kept p ∙ r.long;
  same = λ text.
      r.same text
      ∙ ap (λ ss. map (token_at text) (take kept now) ++ ss) (e text)
      ∙ sym (append_assoc (map (token_at text) (take kept now)) (token_at text p ∷ []) (reduced_after next (map (token_at text) (drop (i + 1) now))))
      ∙ ap (λ ss. ss ++ reduced_after next (map (token_at text) (drop (i + 1) now)))
      (sym (map-append (token_at text) (take kept now) (p ∷ [])) ∙ ap (map (token_at text)) (sym (take_more_set now kept p (omega (arith, r.below)))))
      ∙ ap (λ ps. map (token_at text) (take (kept + 1) (set now kept p)) ++ reduced_after next (map (token_at text) ps)) (sym (drop-set-lt (i + 1) now kept p (omega (arith, r.below))));
}

-- ---- the symbol of a turn

same_kind : (kind : Kind) → is_separator kind ≡ false → canonical kind ≡ kind
same_kind (k.Separator s) e = cc
same_kind _ e = refl

one_separator : (kind : Kind) → is_separator kind ≡ true → canonical kind ≡ separator
one_separator (k.Separator s) e = refl
one_separator _ e = cc

pub at_separator : (drops is_closed : Bool) (text : List ℕ) (p : Placed) (ps : List Placed) → is_separator (kind_at text p) ≡ true
    → is_closed ≡ starts_closed (map (token_at text) ps) → drops ≡ false → is_closed ≡ false
    → reduced_after drops (map (token_at text) (p ∷ ps)) ≡ symbol separator p.span ∷ reduced_after true (map (token_at text) ps)
at_separator drops is_closed text p ps s c d e = cc (one_separator (kind_at text p) s, s, c, d, e)

pub at_needless : (drops is_closed : Bool) (text : List ℕ) (p : Placed) (ps : List Placed) → is_separator (kind_at text p) ≡ true
    → is_closed ≡ starts_closed (map (token_at text) ps) → drops || is_closed ≡ true
    → reduced_after drops (map (token_at text) (p ∷ ps)) ≡ reduced_after drops (map (token_at text) ps)
at_needless drops is_closed text p ps s c d = cc (s, c, d)

pub at_other : (drops opens_it : Bool) (text : List ℕ) (p : Placed) (ps : List Placed) → is_separator (kind_at text p) ≡ false → opens_it ≡ opens (kind_at text p)
    → reduced_after drops (map (token_at text) (p ∷ ps)) ≡ token_at text p ∷ reduced_after opens_it (map (token_at text) ps)
at_other drops opens_it text p ps s o = cc (same_kind (kind_at text p) s, s, o)

pub rest_taken : (ps : List Placed) (n : ℕ) → take (length ps - n) (drop n ps) ≡ drop n ps
rest_taken ps n = ap (λ m. take m (drop n ps)) (sym (length-drop n ps)) ∙ ap (take (length (drop n ps))) (sym (append-nil (drop n ps))) ∙ take-append_seam (drop n ps) []

pub head : (now : List Placed) (i : ℕ) (p : Placed) → i < length now → p ≡ get_or now i p → drop i now ≡ p ∷ drop (i + 1) now
head now i p h e = drop-cons now i p h ∙ ap (λ q. q ∷ drop (suc i) now) (sym e) ∙ ap (λ n. p ∷ drop n now) (sym (add-one i))

pub moved : (initial now : List Placed) (i kept : ℕ) (drops : Bool) → Reduced initial now i kept drops → (now2 : List Placed) (kept2 : ℕ) (drops2 : Bool)
    → now2 ≡ now → kept2 ≡ kept → drops2 ≡ drops → Reduced initial now2 i kept2 drops2
moved initial now i kept drops r now2 kept2 drops2 e f g =
    subst (λ now. Reduced initial now i kept2 drops2) (sym e) (subst (λ kept. Reduced initial now i kept drops2) (sym f) (subst (λ drops. Reduced initial now i kept drops) (sym g) r))
