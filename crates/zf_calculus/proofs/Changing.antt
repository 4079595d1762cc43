-- A schema beside its state after an operation.
use Rattle.zf_calculus.proofs.Prelude.{◌∙◌, ◌≡◌, ap, inl, inr, length, List, map, subst, ℕ, place_in, Comp, comp_of, Schema, schema_of, ResolvedTree, Offence, Limit, Component, Flat, Agree, all_unchanged, conjoined, decorated, delta, new_place, prime, xi, constrained, equalities, IsTooLarge, KeepsTo, OneClashes, Stops, Span}
use Rattle.zf_calculus.proofs.Equalities.{same_equalities}
use Rattle.zf_calculus.proofs.Monotony.{before_conjuncts, still_large}

pub agreed : (flat after : Flat) (d : Schema) (cs ds : List Component) → cs ≡ flat.components → ds ≡ after.components → schema_of after ≡ d
    → Agree (map comp_of cs) (map comp_of ds) → Agree (schema_of flat).comps d.comps
agreed flat after d cs ds e f g h =
    subst (λ (es : List Comp). Agree (map comp_of flat.components) es) (ap (map comp_of) f ∙ ap (λ (s : Schema). s.comps) g)
    (subst (λ (es : List Component). Agree (map comp_of es) (map comp_of ds)) e h)

pub stops_after : (a b d : Schema) → b ≡ a → d ≡ decorated prime a → Agree a.comps (decorated prime a).comps → (k : Offence) → IsTooLarge (conjoined b d) k
    → Stops (OneClashes a.comps (decorated prime a).comps) (Agree a.comps (decorated prime a).comps) (delta a) k
stops_after a b d e f agree k h =
    let same : conjoined b d ≡ delta a = ap (λ (s : Schema). conjoined s d) e ∙ ap (conjoined a) f in
    inr (agree, subst (λ (s : Schema). IsTooLarge s k) same h)

within_delta : (l : Span) (a : Schema) (m : Limit) → KeepsTo m (xi l a) → KeepsTo m (delta a)
within_delta l a m w = before_conjuncts m (delta a).comps (delta a).conjuncts (all_unchanged l (decorated prime a).comps (delta a).comps 0 a.comps) w

pub stops_change : (l : Span) (a : Schema) (k : Offence) → Stops (OneClashes a.comps (decorated prime a).comps) (Agree a.comps (decorated prime a).comps)
    (delta a) k → Stops (OneClashes a.comps (decorated prime a).comps) (Agree a.comps (decorated prime a).comps) (xi l a) k
stops_change l a k (inl h) = inl h
stops_change l a k (inr h) = inr (h.0, still_large (delta a) (xi l a) k (within_delta l a) h.1)

pub xi_made : (l : Span) (a m : Schema) (ps qs : List ℕ) → m ≡ delta a → qs ≡ ps → place_in ps ≡ new_place (decorated prime a).comps (delta a).comps
    → length ps ≡ length a.comps → constrained m (equalities l 0 qs) ≡ xi l a
xi_made l a m ps qs e f g n =
    ap (λ (s : Schema). constrained s (equalities l 0 qs)) e
    ∙ ap (λ (rs : List ℕ). constrained (delta a) (equalities l 0 rs)) f
    ∙ ap (λ (ts : List ResolvedTree). constrained (delta a) ts) (same_equalities l (decorated prime a).comps (delta a).comps a.comps ps n g)

pub stops_xi : (l : Span) (a m : Schema) (ts : List ResolvedTree) → constrained m ts ≡ xi l a → Agree a.comps (decorated prime a).comps → (k : Offence)
    → IsTooLarge (constrained m ts) k → Stops (OneClashes a.comps (decorated prime a).comps) (Agree a.comps (decorated prime a).comps) (xi l a) k
stops_xi l a m ts e agree k h = inr (agree, subst (λ (s : Schema). IsTooLarge s k) e h)
