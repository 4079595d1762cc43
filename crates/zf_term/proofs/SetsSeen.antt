-- What each form of declared set is seen as.
use Rattle.zf_term.proofs.Prelude.{◌∙◌, ◌≡◌, ap, List, map, sym, carrier, DeclaredSet, domain_step, plain, sets_of, sides, set_of, resolved_of, type_of, Resolved, ZType}
use Rattle.zf_term.specs.declared.schema.Domain.{Domain, roll-Domain, fold-roll-Domain, map-Domain}
use Rattle.zf_term.specs.declared.schema.Domain.TheOpen.{Domain-F}
use Rattle.zf_term.specs.declared.schema.Domain.TheVariants as v

rolled : (x : Domain-F Domain) → set_of (roll-Domain x) ≡ domain_step (map-Domain Domain DeclaredSet set_of x)
unfolding set_of
rolled x = fold-roll-Domain DeclaredSet domain_step x

pub of-Plain : (t : Resolved) → set_of (v.Plain t) ≡ plain (resolved_of t)
of-Plain t = ap set_of (sym (v.rolls-Plain t)) ∙ rolled (Domain-F.Plain t)

pub of-Carrier : (t : ZType) → set_of (v.Carrier t) ≡ carrier (type_of t)
of-Carrier t = ap set_of (sym (v.rolls-Carrier t)) ∙ rolled (Domain-F.Carrier t)

pub of-Either : (left right : List Domain) → set_of (v.Either left right) ≡ sides (sets_of (map set_of left)) (sets_of (map set_of right))
of-Either left right = ap set_of (sym (v.rolls-Either left right)) ∙ rolled (Domain-F.Either left right)

pub ruleset seen = (of-Plain, of-Carrier, of-Either)
