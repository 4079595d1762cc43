-- The operands of a predicate come to something, so there is something to tell of it.
use Rattle.law_answered.proofs.Prelude.{◌≡◌, Bool, false, List, None, Option, refl, Some, subst, sym, true, pos, Value, Environment, HasSome, AreOperands, AreOperandsOf, AreOutcomes, AreOutcomesIn, Context, Int, ResolvedTree, are_held, filled, in_row, is_tested, operand_as, references, Related, relation_of, term_span}
use Rattle.law_total.proofs.Terms.{some_outcome}
use Rattle.zf_why.proofs.HeldOutcomes.{of_held, other_told}

some_in : (c : Context) (related : Option Related) → HasSome (AreOutcomesIn c related)
some_in c None = (None, refl)
some_in c (Some r) =
    let left = some_outcome c r.left in
    let right = some_outcome c r.right in
    (Some (record { left = left.0; right = operand_as (is_tested r.relation) (term_span r.right) right.0 }), (left.1, (right.0, right.1, refl)))

some_of : (e : Environment) (held : List (Option Value)) (p : ResolvedTree) (b : Bool) → are_held held (references p) ≡ b → HasSome (AreOperandsOf e held p)
some_of e held p true is =
    let other = Int (pos 0) in
    let s = some_in (in_row e (filled other held)) (relation_of p) in
    (s.0, subst (λ (b : Bool). AreOutcomes e held b (relation_of p) s.0) (sym is) (of_held e held other p s.0 is s.1))
some_of e held p false is = (None, other_told e held p is)

pub some_operands : (e : Environment) (held : List (Option Value)) (details : Bool) (p : ResolvedTree) → HasSome (AreOperands e held details p)
some_operands e held false p = (None, refl)
some_operands e held true p = some_of e held p (are_held held (references p)) refl
