-- Each type has a carrier.
use Rattle.law_total.proofs.Prelude.{[], None, Option, refl, Some, ℕ, IsCross, IsPower, members, Undefined, AreElementsIf, element_count, Environment, IsTypeSet, type_number, one_more, values, Num, basic, int, no_types, power, product, Ty, type, Tys, AreCarriers, IsCarrier, IsTypeSetIf}
use Rattle.law_total.proofs.Listed.{HasSome}
use Rattle.law_total.proofs.Operations.{some_elements, some_power, some_cross}
use Rattle.law_total.proofs.Terms.{some_number_set, some_on_one, some_on_several}

some_elements_if : (n : ℕ) (k : Option ℕ) → HasSome (AreElementsIf n k)
some_elements_if n None = (Undefined, refl)
some_elements_if n (Some k) = some_elements n k

pub some_type_set : (e : Environment) (n : ℕ) → HasSome (IsTypeSet e n)
some_type_set e n = some_elements_if n (element_count e n)

some_type_set_if : (e : Environment) (n : Option ℕ) → HasSome (IsTypeSetIf e n)
some_type_set_if e None = (Undefined, refl)
some_type_set_if e (Some n) = some_type_set e n

mutual
  pub some_carrier : (e : Environment) (t : Ty) → HasSome (IsCarrier e t)
  some_carrier e int = some_number_set e.numbers Num
  some_carrier e (basic name) = some_type_set_if e (type_number e name)
  some_carrier e (power t) = let x = some_carrier e t in let o = some_on_one x.0 (λ v. IsPower (members v)) (λ v. some_power (members v)) in (o.0, (x.0, x.1, o.1))
  some_carrier e (product ts) = let s = some_carriers e ts in let o = some_on_several s.0 IsCross some_cross in (o.0, (s.0, s.1, o.1))

  some_carriers : (e : Environment) (ts : Tys) → HasSome (AreCarriers e ts)
  some_carriers e no_types = (values [], refl)
  some_carriers e (type t ts) = let x = some_carrier e t in let r = some_carriers e ts in (one_more x.0 r.0, (x.0, r.0, x.1, r.1, refl))
