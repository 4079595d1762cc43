-- Details, one after another.
use Rattle.zf_messages.proofs.Prelude.{◌+◌, ◌++◌, ◌<◌, ◌∙◌, ◌∷◌, ◌≡◌, ◌≤◌, [], ap, append_assoc, arith, codes, detail, get_or, length, List, map, refl, take, ℕ}
use Rattle.std.proofs.lemmas.List.{get_or-map, length-map}
use Rattle.std.proofs.lemmas.List.Sums.{fold_more}
use Rattle.zf_messages.specs.{other_of}
use Rattle.zf_messages.specs.Details.{and_other, closing_details, located, others_text}
use Rattle.zf_parse.specs.declared.left_out.LeftOut.{LeftOut}
use Rattle.zf_messages.specs.declared.message.Detail.{Detail}
use Rattle.zf_tree.specs.declared.span.Span.{Span}

pub one_more : (old : List Detail) (d : Detail) (ds : List Detail) → (old ++ d ∷ []) ++ ds ≡ old ++ d ∷ ds
one_more old d ds = append_assoc old (d ∷ []) ds

pub closed_by : (source other : List ℕ) (s : Span) → 1 ≤ length other → closing_details source other s ≡ detail (codes "closed by") (located source other s)
closed_by source [] s h = absurd (omega arith)
closed_by source (c ∷ other) s h = refl

abbrev with_other : (source : List ℕ) → List ℕ → List ℕ × Span → List ℕ
with_other source text o = and_other text (located source o.0 o.1)

pub one_other_more : (source : List ℕ) (others : List LeftOut) (place : ℕ) (d : LeftOut) → place < length others
    → others_text source (take (place + 1) (map other_of others))
    ≡ with_other source (others_text source (take place (map other_of others))) (other_of (get_or others place d))
one_other_more source others place d h =
    let inside : place < length (map other_of others) = rw (length-map others other_of) h in
    fold_more (with_other source) [] (map other_of others) place (other_of d) inside
    ∙ ap (with_other source (others_text source (take place (map other_of others)))) (get_or-map other_of others place d (other_of d) h)
