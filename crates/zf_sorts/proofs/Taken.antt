-- What is taken together where both operands have one sort, rule by rule.
use Rattle.zf_sorts.proofs.Prelude.{◌∙◌, ◌≡◌, ◌⊎◌, None, Option, Some, subst, sym, ⊎_elim, MatchOption, left_need, Rule, Meets, predicate, Sort, sort_of, IsMade}
use Rattle.zf_tree.specs.declared.operator.Rule.TheVariants as rule
use Rattle.zf_sorts.specs.declared.sort.Sort as program

-- both operands have one sort, which the rule takes, and it is that of the whole
abbrev pub IsAlike : Rule → Sort → Sort → Option program.Sort → Type 0
IsAlike r x y o = MatchOption o (Meets (left_need r) x → x ≡ y → ⊥) (λ z. Meets (left_need r) x × (x ≡ y) × (sort_of z ≡ x))

-- or the whole is a predicate
abbrev pub IsCompared : Rule → Sort → Sort → Option program.Sort → Type 0
IsCompared r x y o = MatchOption o (Meets (left_need r) x → x ≡ y → ⊥) (λ z. Meets (left_need r) x × (x ≡ y) × (sort_of z ≡ predicate))

arithmetic : (x y : Sort) (o : Option program.Sort) → IsAlike rule.Arithmetic x y o → IsMade rule.Arithmetic x y o
unfolding IsMade
arithmetic x y None h = λ z t. h t.0 (t.0 ∙ sym t.1)
arithmetic x y (Some z) h = (h.0, sym h.1 ∙ h.0, h.2 ∙ h.0)

set_function : (x y : Sort) (o : Option program.Sort) → IsAlike rule.SetFunction x y o → IsMade rule.SetFunction x y o
unfolding IsMade
set_function x y None h = λ z t. h (t.0, t.1) (t.1 ∙ sym t.2)
set_function x y (Some z) h = (h.0.0, h.0.1, sym h.1 ∙ h.0.1, h.2 ∙ h.0.1)

overriding : (x y : Sort) (o : Option program.Sort) → IsAlike rule.Overriding x y o → IsMade rule.Overriding x y o
unfolding IsMade
overriding x y None h = λ z t. h (t.0, t.1, t.2) (t.2 ∙ sym t.3)
overriding x y (Some z) h = (h.0.0, h.0.1, h.0.2, sym h.1 ∙ h.0.2, h.2 ∙ h.0.2)

equating : (x y : Sort) (o : Option program.Sort) → IsCompared rule.Equating x y o → IsMade rule.Equating x y o
unfolding IsMade
equating x y None h = λ z t. h (t.0, t.1) (t.1 ∙ sym t.2)
equating x y (Some z) h = (h.0.0, h.0.1, sym h.1 ∙ h.0.1, h.2)

including : (x y : Sort) (o : Option program.Sort) → IsCompared rule.Including x y o → IsMade rule.Including x y o
unfolding IsMade
including x y None h = λ z t. h (t.0, t.1) (t.1 ∙ sym t.2)
including x y (Some z) h = (h.0.0, h.0.1, sym h.1 ∙ h.0.1, h.2)

comparing : (x y : Sort) (o : Option program.Sort) → IsCompared rule.Comparing x y o → IsMade rule.Comparing x y o
unfolding IsMade
comparing x y None h = λ z t. h t.0 (t.0 ∙ sym t.1)
comparing x y (Some z) h = (h.0, sym h.1 ∙ h.0, h.2)

connecting : (x y : Sort) (o : Option program.Sort) → IsCompared rule.Connecting x y o → IsMade rule.Connecting x y o
unfolding IsMade
connecting x y None h = λ z t. h t.0 (t.0 ∙ sym t.1)
connecting x y (Some z) h = (h.0, sym h.1 ∙ h.0, h.2)

pub alike : (r : Rule) (x y : Sort) (o : Option program.Sort) → (r ≡ rule.Arithmetic) ⊎ ((r ≡ rule.SetFunction) ⊎ (r ≡ rule.Overriding)) → IsAlike r x y o → IsMade r x y o
alike r x y o e h =
    ⊎_elim (λ a. subst (λ s. IsAlike s x y o → IsMade s x y o) (sym a) (arithmetic x y o) h)
    (λ f. ⊎_elim (λ a. subst (λ s. IsAlike s x y o → IsMade s x y o) (sym a) (set_function x y o) h)
    (λ a. subst (λ s. IsAlike s x y o → IsMade s x y o) (sym a) (overriding x y o) h) f) e

pub compared : (r : Rule) (x y : Sort) (o : Option program.Sort) → (r ≡ rule.Equating) ⊎ ((r ≡ rule.Including) ⊎ ((r ≡ rule.Comparing) ⊎ (r ≡ rule.Connecting))) → IsCompared r x y o → IsMade r x y o
compared r x y o e h =
    ⊎_elim (λ a. subst (λ s. IsCompared s x y o → IsMade s x y o) (sym a) (equating x y o) h)
    (λ f. ⊎_elim (λ a. subst (λ s. IsCompared s x y o → IsMade s x y o) (sym a) (including x y o) h)
    (λ g. ⊎_elim (λ a. subst (λ s. IsCompared s x y o → IsMade s x y o) (sym a) (comparing x y o) h)
    (λ a. subst (λ s. IsCompared s x y o → IsMade s x y o) (sym a) (connecting x y o) h) g) f) e
