-- Schemas that are listed by going over the globals.
use Rattle.zf_messages.proofs.Prelude.{◌++◌, ◌+◌, ◌∙◌, ◌∷◌, ◌≡◌, [], add-one, ap, append_assoc, drop, List, refl, suc, sym, zero, ℕ, Defined, schema_at, schemas}

schemas-suc : (g : List Defined) (place : ℕ) → schemas (drop place g) ≡ schema_at place g ++ schemas (drop (suc place) g)
schemas-suc [] zero = refl
schemas-suc [] (suc place) = refl
schemas-suc (d ∷ g) zero = refl
schemas-suc (d ∷ g) (suc place) = schemas-suc g place

schemas-step : (g : List Defined) (place : ℕ) → schemas (drop place g) ≡ schema_at place g ++ schemas (drop (place + 1) g)
schemas-step g place = schemas-suc g place ∙ ap (λ k. schema_at place g ++ schemas (drop k g)) (sym (add-one place))

-- what is listed, and what is added to it
pub more : (old here rest whole new : List (List ℕ)) → old ++ (here ++ rest) ≡ whole → new ≡ old ++ here → new ++ rest ≡ whole
more old here rest whole new h e = ap (λ xs. xs ++ rest) e ∙ append_assoc old here rest ∙ h

pub schemas-more : (g : List Defined) (place : ℕ) (old new : List (List ℕ)) → old ++ schemas (drop place g) ≡ schemas g → new ≡ old ++ schema_at place g
    → new ++ schemas (drop (place + 1) g) ≡ schemas g
schemas-more g place old new h e =
    more old (schema_at place g) (schemas (drop (place + 1) g)) (schemas g) new (ap (λ xs. old ++ xs) (sym (schemas-step g place)) ∙ h) e
