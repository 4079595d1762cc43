-- What an outcome of the rules says of the trees that read the tokens.
use Rattle.zf_parse.proofs.Prelude.{Span, ◌∙◌, ◌≡◌, ◌≤◌, [], ap, arith, Err, inl, inr, List, map, max, Ok, refl, sym, ℕ, ◌⊎◌, box_of, BoxTree, ZBox, IsCutInto, IsWantOfMemory, reduced, Symbol, TextFaultKind, Token, read_all, height_limit, highest, ReadsLow, RefusesTokens, RefusesSource, Reads, Fails, Refused, TooDeep}
use Rattle.zf_scan.specs.declared.fault.TextFaultKind.TheVariants as fault
use Rattle.zf_grammar.proofs.BoxItems.{never_refused, above_limit}
use Rattle.zf_grammar.proofs.BoxesRead.{AreRead, all_sound, all_answers}
use Rattle.zf_grammar.proofs.TermSteps.{ok_pair}

pub parsed : (bs : List ZBox) (tokens : List Token) (us : List Symbol) → read_all height_limit (reduced tokens) ≡ Ok (bs, us) → ReadsLow (map box_of bs) tokens
parsed bs tokens us e =
    let s = all_sound height_limit (reduced tokens) us bs e in
    record { reads = record { levelled = s.levelled; spelled = s.spelled }; low = s.low }

answers : (n : ℕ) (tokens : List Token) (boxes : List BoxTree) → Reads boxes tokens → AreRead n boxes (read_all n (reduced tokens))
answers n tokens boxes r = all_answers n boxes (reduced tokens) r.levelled r.spelled

none_reads : (n : ℕ) (tokens : List Token) → read_all n (reduced tokens) ≡ Err Refused → (boxes : List BoxTree) → Reads boxes tokens → ⊥
none_reads n tokens e boxes r = never_refused (answers n tokens boxes r) e

none_low : (n : ℕ) (tokens : List Token) → read_all n (reduced tokens) ≡ Err TooDeep → (boxes : List BoxTree) → Reads boxes tokens → highest boxes ≤ n → ⊥
none_low n tokens e boxes r low = omega (arith, above_limit (answers n tokens boxes r) e)

pub refused : (kind : TextFaultKind) (span : Span) (tokens : List Token) → Fails (read_all height_limit (reduced tokens)) kind span → RefusesTokens kind span tokens
refused fault.OutOfMemory span tokens h = h
refused fault.Unexpected span tokens h = none_reads height_limit tokens h
refused fault.NotInProfile span tokens h = none_reads height_limit tokens h
refused fault.TooDeep span tokens h = λ boxes r. none_low height_limit tokens h boxes r.reads r.low
refused _ span tokens h = absurd h

-- what is read, where nothing is too high
reads_them : (n : ℕ) (tokens : List Token) (boxes : List BoxTree) → Reads boxes tokens → highest boxes ≤ n → (bs : List ZBox) × (map box_of bs ≡ boxes) × (read_all n (reduced tokens) ≡ Ok (bs, []))
reads_them n tokens boxes r low = by (answers n tokens boxes r)
  where
    by : AreRead n boxes (read_all n (reduced tokens)) → (bs : List ZBox) × (map box_of bs ≡ boxes) × (read_all n (reduced tokens) ≡ Ok (bs, []))
    by (inl a) = (a.value, a.is, a.read)
    by (inr d) = let above = d.above in absurd (omega arith)

-- no tokens are read by two trees
pub only_one : (a b : List BoxTree) (tokens : List Token) → Reads a tokens → Reads b tokens → a ≡ b
only_one a b tokens r s =
    let n = max (highest a) (highest b) in
    let x = reads_them n tokens a r (omega arith) in
    let y = reads_them n tokens b s (omega arith) in
    let same : x.0 ≡ y.0 = ap (λ p. p.0) (ok_pair (x.0, []) (y.0, []) (sym x.2 ∙ y.2)) in
    sym x.1 ∙ ap (map box_of) same ∙ y.1

-- ---- a source

pub refuses_source : (kind : TextFaultKind) (span : Span) (source : List ℕ) (tokens : List Token) → IsCutInto source tokens → RefusesTokens kind span tokens
    → IsWantOfMemory (record { kind = kind; span = span }) ⊎ RefusesSource source (record { kind = kind; span = span })
refuses_source fault.OutOfMemory span source tokens cut h = inl (refl, h)
refuses_source fault.Unexpected span source tokens cut h = inr (inr (tokens, cut, h, tt))
refuses_source fault.NotInProfile span source tokens cut h = inr (inr (tokens, cut, h, tt))
refuses_source fault.TooDeep span source tokens cut h = inr (inr (tokens, cut, h, tt))
refuses_source _ span source tokens cut h = absurd h
