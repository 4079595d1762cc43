-- The carrier of a type is a set of values of the type.
use Rattle.law_sound.proofs.Prelude.{◌≡◌, List, None, Option, refl, Some, subst, ℕ, IsCross, IsPower, members, Is, Value, basic, int, no_types, power, product, Ty, type, Tys, AreCarriers, IsCarrier, IsTypeSetIf, Environment, type_number, values, AreOfTypes, IsOfType, Num}
use Rattle.law_sound.proofs.Globals.{type_set_typed}
use Rattle.law_sound.proofs.OfTypes.{members_of}
use Rattle.law_sound.proofs.Operations.{number_set}
use Rattle.law_sound.proofs.Relations.{a_power}
use Rattle.law_sound.proofs.Terms.{one, several, all_values, powers, cross_typed}

mutual
  pub carrier_typed : (e : Environment) (t : Ty) (v : Value) → IsCarrier e t (Is v) → IsOfType e (power t) v
  carrier_typed e int v h = number_set e e.numbers Num v h
  carrier_typed e (basic name) v h = go (type_number e name) refl h
    where
      go : (o : Option ℕ) → type_number e name ≡ o → IsTypeSetIf e o (Is v) → IsOfType e (power (basic name)) v
      go None at p = absurd (cc)
      go (Some n) at p = type_set_typed e name n v at p
  carrier_typed e (power t) v h =
      let q = one h.0 (λ w. IsPower (members w)) v h.2 in
      a_power e t (members q.0) v (members_of e t q.0 (carrier_typed e t q.0 (subst (IsCarrier e t) q.1 h.1))) q.2
  carrier_typed e (product ts) v h =
      let q = several h.0 IsCross v h.2 in
      cross_typed e ts q.0 v (carriers_typed e ts q.0 (subst (AreCarriers e ts) q.1 h.1)) q.2

  carriers_typed : (e : Environment) (ts : Tys) (vs : List Value) → AreCarriers e ts (values vs) → AreOfTypes e (powers ts) vs
  carriers_typed e no_types vs h = cc
  carriers_typed e (type t ts) vs h =
      let q = all_values h.0 h.1 vs h.4 in
      (q.0, q.1, q.4, carrier_typed e t q.0 (subst (IsCarrier e t) q.2 h.2), carriers_typed e ts q.1 (subst (AreCarriers e ts) q.3 h.3))
