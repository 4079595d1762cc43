-- Texts that are appended one after another, each on a line of its own.
use Rattle.zf_steps.proofs.Prelude.{◌++◌, ◌∙◌, ◌∷◌, ◌≡◌, [], ap, append-nil, codes, List, sym, ℕ, append_assoc, column}

pub column-over : (text whole : List ℕ) (ts : List (List ℕ)) → ts ≡ [] → text ++ column ts ≡ whole → text ≡ whole
column-over text whole ts none h = let nothing : (l : List ℕ) → l ++ [] ≡ l = append-nil in sym (nothing text) ∙ ap (λ l. text ++ column l) (sym none) ∙ h

pub column-further : (text next whole t : List ℕ) (all ts : List (List ℕ)) → all ≡ t ∷ ts → text ++ column all ≡ whole → next ≡ text ++ (t ++ codes "\n") → next ++ column ts ≡ whole
column-further text next whole t all ts first h e =
    ap (λ l. l ++ column ts) e ∙ append_assoc text (t ++ codes "\n") (column ts) ∙ ap (λ l. text ++ column l) (sym first) ∙ h
