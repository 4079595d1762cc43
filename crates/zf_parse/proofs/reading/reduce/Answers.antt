use Rattle.zf_parse.proofs.Prelude.{◌+◌, ◌<◌, ◌∙◌, ◌∷◌, ◌≡◌, ap, arith, drop, length, List, map, refl, rules, sym, true, ℕ, ◌||◌, token_at, reduced_after, starts_closed}
use Rattle.zf_parse.proofs.Reducing.{Reduced, left_out, stored, at_separator, at_needless, at_other, head, moved, rest_taken}
use Rattle.zf_parse.proofs.reading.reduce.Goals as goal
use Rattle.zf_parse.proofs.reading.reduce.Goals.{then-is_separator+then-not-drops+then-not-starts_closed, then-is_separator+else-not-drops, else-not-drops-via-then-not-drops+else-not-starts_closed, else-not-drops-via-else-not-drops, else-is_separator}

pub loop-i-preserved : goal.loop-i-preserved
loop-i-preserved c =
    let initial = c.args.symbols.now.items in
    let now = c.loop-i.symbols.items in
    let i = c.loop-i.i in
    let kept = c.loop-i.kept in
    let drops = c.loop-i.drops in
    let p = c.index-symbol.result.now in
    let r = c.loop-i.invariant in
    let all : c.len-i-end.result ≡ length initial = search rules in
    let h : i < length now = omega (arith, all, r.long, c.loop-i-test.true) in
    let rest = drop (i + 1) now in
    let here : drop i now ≡ p ∷ rest = head now i p h c.index-symbol.ensures in
    let at : (text : List ℕ) → reduced_after drops (map (token_at text) (drop i now))
    ≡ reduced_after drops (map (token_at text) (p ∷ rest)) = λ (text : List ℕ). ap (λ ps. reduced_after drops (map (token_at text) ps)) here in
    elim c.if-is_separator.branch [
      | then-is_separator+then-not-drops+then-not-starts_closed w ↦
          let v = w.as_separator.result in
          let closed : (text : List ℕ) → w.starts_closed.result ≡ starts_closed (map (token_at text) rest) = λ (text : List ℕ). w.starts_closed.ensures text
          ∙ ap (λ ps. starts_closed (map (token_at text) ps)) (rest_taken w.as_slice.result.now (i + 1) ∙ ap (drop (i + 1)) w.as_slice.ensures.value) in
          moved initial _ (i + 1) _ _
          (stored initial now i kept drops true v r h
          (λ text. at text ∙ at_separator drops w.starts_closed.result text p rest (sym (c.is_separator.ensures _ _) ∙ w.if-is_separator.true)
          (closed text) w.if-not-drops.true w.if-not-starts_closed.true
          ∙ ap (λ q. token_at text q ∷ reduced_after true (map (token_at text) rest)) (sym w.as_separator.ensures)))
          _ _ _ (ap (λ v. v.items) w.symbols-is) w.kept-is w.drops-is
      | then-is_separator+else-not-drops w ↦
          let out : Reduced initial now (i + 1) kept drops = elim w.else-not-drops.branch [
            | else-not-drops-via-then-not-drops+else-not-starts_closed x ↦
                let closed : (text : List ℕ) → x.starts_closed.result ≡ starts_closed (map (token_at text) rest) = λ
                (text : List ℕ). x.starts_closed.ensures text ∙ ap (λ ps. starts_closed (map (token_at text) ps))
                (rest_taken x.as_slice.result.now (i + 1) ∙ ap (drop (i + 1)) x.as_slice.ensures.value) in
                left_out initial now i kept drops r
                (λ text. at text ∙ at_needless drops x.starts_closed.result text p rest (sym (c.is_separator.ensures _ _) ∙ w.if-is_separator.true)
                (closed text) (ap (λ d. d || x.starts_closed.result) x.if-not-drops.true ∙ x.if-not-starts_closed.false))
            | else-not-drops-via-else-not-drops x ↦
                left_out initial now i kept drops r
                (λ text. at text ∙ at_needless drops (starts_closed (map (token_at text) rest)) text p rest
                (sym (c.is_separator.ensures _ _) ∙ w.if-is_separator.true) refl
                (ap (λ d. d || starts_closed (map (token_at text) rest)) x.if-not-drops.false))
          ] in
          moved initial _ (i + 1) _ _ out _ _ _ (ap (λ v. v.items) w.symbols-is) w.kept-is w.drops-is
      | else-is_separator w ↦
          moved initial _ (i + 1) _ _
          (stored initial now i kept drops w.opens-drops.result p r h
          (λ text. at text ∙ at_other drops w.opens-drops.result text p rest (sym (c.is_separator.ensures _ _) ∙ w.if-is_separator.false) (w.opens-drops.ensures _ _)))
          _ _ _ (ap (λ v. v.items) w.symbols-is ∙ w.put.ensures p c.index-symbol.ensures) w.kept-is w.drops-is
    ]
