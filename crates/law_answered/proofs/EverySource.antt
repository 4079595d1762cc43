-- Each source is read by a tree, or is refused with a fault.
use Rattle.law_answered.proofs.Prelude.{◌≡◌, ◌⊎◌, Err, inl, inr, List, map, Ok, refl, ℕ, box_of, BoxTree, TextFault, Token, parsed, refused, ReadsSource, RefusesSource, EverySourceIsRead, Refused, TooDeep, height_limit, read_all}
use Rattle.zf_scan.specs.declared.fault.TextFaultKind.TheVariants as fault
use Rattle.zf_scan.specs.{IsCutInto, IsCutOrFaults, nowhere, reduced}
use Rattle.zf_tree.specs.declared.tree.ZBox.{ZBox}
use Rattle.zf_grammar.specs.TermReading.{Outcome}

-- a source that is read, or refused
abbrev IsAnswered : List ℕ → Type 0
IsAnswered source = ((boxes : List BoxTree) × ReadsSource boxes source) ⊎ ((fault : TextFault) × RefusesSource source fault)

-- what the parser, as a function, makes of the tokens tells which
of_tokens : (source : List ℕ) (tokens : List Token) → IsCutInto source tokens → (outcome : Outcome (List ZBox)) → read_all height_limit (reduced tokens) ≡ outcome → IsAnswered source
of_tokens source tokens cut (Ok p) e = inl (map box_of p.0, (tokens, cut, parsed p.0 tokens p.1 e))
of_tokens source tokens cut (Err Refused) e =
    let told : TextFault = record { kind = fault.Unexpected; span = nowhere } in
    inr (told, inr (tokens, cut, refused fault.Unexpected nowhere tokens e, tt))
of_tokens source tokens cut (Err TooDeep) e =
    let told : TextFault = record { kind = fault.TooDeep; span = nowhere } in
    inr (told, inr (tokens, cut, refused fault.TooDeep nowhere tokens e, tt))

pub every_source : IsCutOrFaults → EverySourceIsRead
every_source cut_or_faults source = elim (cut_or_faults source) [
  | inl c ↦ of_tokens source c.0 c.1 (read_all height_limit (reduced c.0)) refl
  | inr f ↦ inr (f.0, inl f.1)
]
