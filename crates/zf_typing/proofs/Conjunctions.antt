-- How predicates are split.
use Rattle.zf_typing.proofs.Prelude.{Tree, conjuncts, is_and, is_conjunction, resolved, Scope, ◌≡◌, true, false, Result, Ok, Err, OnOk, List, ◌∷◌, [], ◌++◌, append_assoc, refl, sym, ap, ◌∙◌, Operator, Span}
use Rattle.zf_tree.specs.Trees as text
use Rattle.zf_term.specs.{binary, bracket, ResolvedTree}
use Rattle.zf_term.specs.Shapes as shape

-- a predicate is a conjunction where the term is
same_conjunction : (s : Scope) (e : Tree) → shape.is_conjunction (resolved s e) ≡ is_conjunction e
same_conjunction s (text.bracket l e) = same_conjunction s e
same_conjunction s (text.named n) = refl
same_conjunction s (text.numeral l v) = refl
same_conjunction s (text.constant l c) = refl
same_conjunction s (text.empty_set l e) = refl
same_conjunction s (text.listed l form es) = refl
same_conjunction s (text.comprehension l ds p e) = refl
same_conjunction s (text.unary l op e) = refl
same_conjunction s (text.binary l op a b) = refl
same_conjunction s (text.chain l e ks) = refl
same_conjunction s (text.quantified l q ds p e) = refl

pub of_bracket : (s : Scope) (l : Span) (e f : Tree) → f ≡ text.bracket l e → is_conjunction e ≡ true → conjuncts (resolved s f) ≡ conjuncts (resolved s e)
of_bracket s l e f is both =
    let split : conjuncts (bracket l (resolved s e)) ≡ conjuncts (resolved s e) = rw (same_conjunction s e, both) refl in
    ap (λ t. conjuncts (resolved s t)) is ∙ split

pub of_whole_bracket : (s : Scope) (l : Span) (e f : Tree) → f ≡ text.bracket l e → is_conjunction e ≡ false → conjuncts (resolved s f) ≡ resolved s f ∷ []
of_whole_bracket s l e f is one =
    let split : conjuncts (bracket l (resolved s e)) ≡ bracket l (resolved s e) ∷ [] = rw (same_conjunction s e, one) refl in
    ap (λ t. conjuncts (resolved s t)) is ∙ split ∙ ap (λ t. resolved s t ∷ []) (sym is)

pub of_both : (s : Scope) (l : Span) (op : Operator) (a b f : Tree) → f ≡ text.binary l op a b → is_and op ≡ true → conjuncts (resolved s f) ≡ conjuncts (resolved s a) ++ conjuncts (resolved s b)
of_both s l op a b f is both =
    let split : conjuncts (binary l op (resolved s a) (resolved s b)) ≡ conjuncts (resolved s a) ++ conjuncts (resolved s b) = rw both refl in
    ap (λ t. conjuncts (resolved s t)) is ∙ split

pub of_neither : (s : Scope) (l : Span) (op : Operator) (a b f : Tree) → f ≡ text.binary l op a b → is_and op ≡ false → conjuncts (resolved s f) ≡ resolved s f ∷ []
of_neither s l op a b f is one =
    let split : conjuncts (binary l op (resolved s a) (resolved s b)) ≡ binary l op (resolved s a) (resolved s b) ∷ [] = rw one refl in
    ap (λ t. conjuncts (resolved s t)) is ∙ split ∙ ap (λ t. resolved s t ∷ []) (sym is)

-- the conjuncts of the one part, and then those of the other
pub both_pushed : {T E : Type 0} (r : Result T E) (new mid old a b parts : List ResolvedTree) → mid ≡ old ++ a → OnOk r (new ≡ mid ++ b) → parts ≡ a ++ b → OnOk r (new ≡ old ++ parts)
both_pushed (Ok x) new mid old a b parts first second is = second ∙ ap (λ z. z ++ b) first ∙ append_assoc old a b ∙ ap (λ z. old ++ z) (sym is)
both_pushed (Err x) new mid old a b parts first second is = second
