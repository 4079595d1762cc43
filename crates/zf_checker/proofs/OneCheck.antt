-- What a text defines is one list of globals, and how many faults it has is one number.
use Rattle.zf_checker.proofs.Prelude.{◌+◌, ◌∙◌, ◌∷◌, ◌≡◌, [], ap, inl, inr, length, List, subst, sym, length-append, BoxTree, Defined, Fault, ChecksAll, ChecksOne, IsChecked, Item, items}
use Rattle.zf_checker.proofs.OneDefinition.{one_definition}

pub one_step :
    (g : List Defined) (item : Item) (h i : List Defined) (es fs : List Fault)
    → ChecksOne g item h es → ChecksOne g item i fs → (h ≡ i) × (length es ≡ length fs)
one_step g item h i es fs (inl p) (inl q) = (one_definition g item h i p.0 q.0, ap length (p.1 ∙ sym q.1))
one_step g item h i es fs (inl p) (inr q) = absurd (q.0 h p.0)
one_step g item h i es fs (inr p) (inl q) = absurd (p.0 i q.0)
one_step g item h i es fs (inr p) (inr q) = (p.1 ∙ sym q.1, ap length p.2.2 ∙ sym (ap length q.2.2))

pub one_run :
    (g : List Defined) (steps : List Item) (h i : List Defined) (es fs : List Fault)
    → ChecksAll g steps h es → ChecksAll g steps i fs → (h ≡ i) × (length es ≡ length fs)
one_run g [] h i es fs p q = (p.0 ∙ sym q.0, ap length (p.1 ∙ sym q.1))
one_run g (item ∷ steps) h i es fs p q =
    let first = one_step g item p.0 q.0 p.1 q.1 p.3 q.3 in
    let rest = one_run q.0 steps h i p.2 q.2 (subst (λ m. ChecksAll m steps h p.2) first.0 p.4) q.4 in
    let lengths = ap (λ n. n + length p.2) first.1 ∙ ap (λ n. length q.1 + n) rest.1 in
    (rest.0, ap length p.5 ∙ length-append p.1 p.2 ∙ lengths ∙ sym (length-append q.1 q.2) ∙ sym (ap length q.5))

pub one_check :
    (boxes : List BoxTree) (g h : List Defined) (es fs : List Fault)
    → IsChecked boxes g es → IsChecked boxes h fs → (g ≡ h) × (length es ≡ length fs)
one_check boxes g h es fs p q = one_run [] (items boxes) g h es fs p q
