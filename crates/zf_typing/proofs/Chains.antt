-- What a relation between two operands makes.
use Rattle.zf_typing.proofs.Prelude.{refl, relation_rule, Relation, predicate, Sort, Takes}
use Rattle.zf_tree.specs.declared.symbol.Relation.TheVariants.{Equal, NotEqual, Member, NotMember, Subset, ProperSubset, Less, AtMost, Greater, AtLeast}

-- what a relation makes of two operands is a predicate
pub compares : (r : Relation) (x y z : Sort) → Takes (relation_rule r) x y z → Takes (relation_rule r) x y predicate
compares Equal x y z h = (h.0, h.1, h.2, refl)
compares NotEqual x y z h = (h.0, h.1, h.2, refl)
compares Member x y z h = (h.0, h.1, h.2, refl)
compares NotMember x y z h = (h.0, h.1, h.2, refl)
compares Subset x y z h = (h.0, h.1, h.2, refl)
compares ProperSubset x y z h = (h.0, h.1, h.2, refl)
compares Less x y z h = (h.0, h.1, refl)
compares AtMost x y z h = (h.0, h.1, refl)
compares Greater x y z h = (h.0, h.1, refl)
compares AtLeast x y z h = (h.0, h.1, refl)
