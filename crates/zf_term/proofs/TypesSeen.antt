-- What each form of type is seen as.
use Rattle.zf_term.proofs.Prelude.{◌∙◌, ◌≡◌, ap, List, map, sym, ℕ, basic, int, power, product, Ty, type_step, types, type_of, fold-roll-ZType, map-ZType, roll-ZType, ZType, ZType-F}
use Rattle.zf_term.specs.declared.ztype.ZType.TheVariants as v

pub rolled : (x : ZType-F ZType) → type_of (roll-ZType x) ≡ type_step (map-ZType ZType Ty type_of x)
unfolding type_of
rolled x = fold-roll-ZType Ty type_step x

pub of-Int : type_of v.Int ≡ int
of-Int = ap type_of (sym v.rolls-Int) ∙ rolled ZType-F.Int

pub of-Basic : (name : List ℕ) → type_of (v.Basic name) ≡ basic name
of-Basic name = ap type_of (sym (v.rolls-Basic name)) ∙ rolled (ZType-F.Basic name)

pub of-Power : (t : ZType) → type_of (v.Power t) ≡ power (type_of t)
of-Power t = ap type_of (sym (v.rolls-Power t)) ∙ rolled (ZType-F.Power t)

pub of-Product : (ts : List ZType) → type_of (v.Product ts) ≡ product (types (map type_of ts))
of-Product ts = ap type_of (sym (v.rolls-Product ts)) ∙ rolled (ZType-F.Product ts)

pub ruleset seen = (of-Int, of-Basic, of-Power, of-Product)
