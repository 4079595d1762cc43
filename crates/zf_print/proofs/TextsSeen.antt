-- What each form of value is printed as.
use Rattle.zf_print.proofs.Prelude.{◌∙◌, ◌≡◌, ap, List, map, sym, ℕ, ℤ, signed_decimal, Elem, fold-roll-Value, Format, Int, map-Value, roll-Value, SetOf, Tuple, Value, element_in, element_text, set_in, tuple_in, value_in, value_step, Spelling}
use Rattle.zf_value.specs.declared.plain.Value.TheOpen.{Value-F}
use Rattle.zf_value.specs.declared.plain.Value.TheVariants.{rolls-Int, rolls-Elem, rolls-Tuple, rolls-SetOf}

pub rolled : (f : Format) (ss : List Spelling) (x : Value-F Value) → value_in f ss (roll-Value x) ≡ value_step f ss (map-Value Value (List ℕ) (value_in f ss) x)
unfolding value_in
rolled f ss x = fold-roll-Value (List ℕ) (value_step f ss) x

pub of-Int : (f : Format) (ss : List Spelling) (n : ℤ) → value_in f ss (Int n) ≡ signed_decimal n
of-Int f ss n = ap (value_in f ss) (sym (rolls-Int n)) ∙ rolled f ss (Value-F.Int n)

pub of-Elem : (f : Format) (ss : List Spelling) (n i : ℕ) → value_in f ss (Elem n i) ≡ element_in f (element_text ss n i)
of-Elem f ss n i = ap (value_in f ss) (sym (rolls-Elem n i)) ∙ rolled f ss (Value-F.Elem n i)

pub of-Tuple : (f : Format) (ss : List Spelling) (vs : List Value) → value_in f ss (Tuple vs) ≡ tuple_in f (map (value_in f ss) vs)
of-Tuple f ss vs = ap (value_in f ss) (sym (rolls-Tuple vs)) ∙ rolled f ss (Value-F.Tuple vs)

pub of-SetOf : (f : Format) (ss : List Spelling) (vs : List Value) → value_in f ss (SetOf vs) ≡ set_in f (map (value_in f ss) vs)
of-SetOf f ss vs = ap (value_in f ss) (sym (rolls-SetOf vs)) ∙ rolled f ss (Value-F.SetOf vs)

pub ruleset seen = (of-Int, of-Elem, of-Tuple, of-SetOf)
