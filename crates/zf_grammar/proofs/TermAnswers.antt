-- What an outcome of reading a term says of the trees that are spelled there.
use Rattle.zf_grammar.proofs.Prelude.{◌+◌, ◌∙◌, ◌≡◌, ◌≤◌, ap, arith, Err, inl, inr, List, Ok, refl, sym, ℕ, ⊎_elim, cases_lt, Tree, tree_of, Term, Symbol, tree_height, IsAt, first, Spells, binds, Outcome, Refused, tall, TooDeep, read_term, Tall}
use Rattle.zf_grammar.proofs.BoxItems.{Answers, Seen}
use Rattle.zf_grammar.proofs.TermComplete.{term_complete}
use Rattle.zf_grammar.proofs.TermMonotone.{refused_again, read_again}
use Rattle.zf_grammar.proofs.TermSound.{term_sound}
use Rattle.zf_grammar.proofs.TermTables.{level_le}
use Rattle.zf_grammar.proofs.TermSteps.{ok_pair}

-- the tree is the one that was read, or it is higher than was allowed; it was not refused
abbrev Answered : ℕ → ℕ → Tree → List Symbol → List Symbol → Type 0
Answered n least t ts us = Answers (Seen tree_of t (tree_height t)) n (tree_height t) (read_term n least ts) us

by_outcome : (n least : ℕ) (t : Tree) (ts us : List Symbol) (o : Outcome (Tall Term)) → IsAt least t → Spells t ts us → binds (first us) ≤ least
    → read_term n least ts ≡ o → Answered n least t ts us
by_outcome n least t ts us (Ok p) at h stop e =
    let r = term_complete (n + tree_height t) least t ts us at.0 at.1 (omega arith) h stop in
    let again = read_again (tree_height t) n (n + tree_height t) least ts p.1 p.0 refl e in
    let same : p ≡ (tall r.term (tree_height t), us) = ok_pair p (tall r.term (tree_height t), us) (sym again ∙ r.read) in
    let s = term_sound n least ts p.1 p.0 (omega (arith, level_le t, at.0)) e in
    let high : p.0.height ≡ tree_height t = ap (λ p. p.0.height) same in
    inl (record {
      value = p.0;
      is = record { is = ap (λ p. tree_of p.0.part) same ∙ r.is; high = high };
      low = omega (arith, s.low);
      read = e ∙ ap (λ q. Ok (p.0, q.1)) same;
    })
by_outcome n least t ts us (Err Refused) at h stop e =
    let r = term_complete (n + tree_height t) least t ts us at.0 at.1 (omega arith) h stop in
    let again = refused_again (tree_height t) n (n + tree_height t) least ts refl e in
    let read = r.read in
    absurd (cc)
by_outcome n least t ts us (Err TooDeep) at h stop e =
    ⊎_elim (λ high. inr (record { above = high; refused = e })) (λ low. absurd (not_too_deep low)) (cases_lt n (tree_height t))
  where
    not_too_deep : tree_height t ≤ n → ⊥
    not_too_deep low =
        let r = term_complete n least t ts us at.0 at.1 low h stop in
        let read = r.read in
        cc

-- a levelled tree that is spelled at its place, and with which what follows does not go on, is the one that is read, unless it is too high
pub term_read : (n least : ℕ) (t : Tree) (ts us : List Symbol) → IsAt least t → Spells t ts us → binds (first us) ≤ least
    → Answers (Seen tree_of t (tree_height t)) n (tree_height t) (read_term n least ts) us
term_read n least t ts us at h stop = by_outcome n least t ts us (read_term n least ts) at h stop refl
