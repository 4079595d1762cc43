-- What is planted of a connective's sides, joined.
use Rattle.zf_instances.proofs.Prelude.{refl, IfOk-weaker, Not, resolved_of, unary}
use Rattle.zf_tree.specs.declared.symbol.Connective.TheVariants.{And, Or, Implies}
use Rattle.zf_instances.proofs.Planted.{unary_seen, binary_seen, plants_not, plants_joined, and_planted, or_planted, implies_planted}
use Rattle.zf_instances.proofs.planting.+planting.Goals as goal

pub returns-in_ok-of-in-Not : goal.returns-in_ok-of-in-Not
returns-in_ok-of-in-Not t c =
    let i = c.in-Unary in
    let part = c.plant-in-Not.new in
    let inner = c.get-in-Not in
    IfOk-weaker c.not.result _ _
    (λ place r. plants_not c.args.leaves.now.items part.leaves.items c.args.forest.now part.forest _ (resolved_of c.args.term.now) (resolved_of inner.result.now) i.field-0 c.in_ok-of-in-Not.of place
    (unary_seen c.args.term.now i.field-0 i.op i.of inner.result.now i.is c.in-Not.is inner.ensures) c.in_ok-of-in-Not.ensures r) c.not.ensures.ok

pub returns-in_ok-right-in-And : goal.returns-in_ok-right-in-And
returns-in_ok-right-in-And t c =
    let i = c.in-Binary in
    let first = c.get-in-And.result.now in
    let second = c.get-in-And-2.result.now in
    let one = c.plant-in-And.new in
    let two = c.plant-in-And-2.new in
    IfOk-weaker c.and.result _ _
    (λ place r. plants_joined c.args.leaves.now.items one.leaves.items two.leaves.items c.args.forest.now one.forest two.forest _ (resolved_of c.args.term.now)
    (resolved_of first) (resolved_of second) (resolved_of first) And i.field-0 c.in_ok-left-in-And.left c.in_ok-right-in-And.right place _
    (binary_seen c.args.term.now i.field-0 i.op c.in-Connective.connective And i.left i.right first second i.is c.in-Connective.is c.in-And.is c.get-in-And.ensures c.get-in-And-2.ensures)
    refl c.in_ok-left-in-And.ensures c.in_ok-right-in-And.ensures r (and_planted _ i.field-0 (resolved_of first) (resolved_of second) _ _)) c.and.ensures.ok

pub returns-in_ok-right-in-Or : goal.returns-in_ok-right-in-Or
returns-in_ok-right-in-Or t c =
    let i = c.in-Binary in
    let first = c.get-in-Or.result.now in
    let second = c.get-in-Or-2.result.now in
    let one = c.plant-in-Or.new in
    let two = c.plant-in-Or-2.new in
    IfOk-weaker c.or.result _ _
    (λ place r. plants_joined c.args.leaves.now.items one.leaves.items two.leaves.items c.args.forest.now one.forest two.forest _ (resolved_of c.args.term.now)
    (resolved_of first) (resolved_of second) (resolved_of first) Or i.field-0 c.in_ok-left-in-Or.left c.in_ok-right-in-Or.right place _
    (binary_seen c.args.term.now i.field-0 i.op c.in-Connective.connective Or i.left i.right first second i.is c.in-Connective.is c.in-Or.is c.get-in-Or.ensures c.get-in-Or-2.ensures)
    refl c.in_ok-left-in-Or.ensures c.in_ok-right-in-Or.ensures r (or_planted _ i.field-0 (resolved_of first) (resolved_of second) _ _)) c.or.ensures.ok

pub returns-in_ok-right-in-Implies : goal.returns-in_ok-right-in-Implies
returns-in_ok-right-in-Implies t c =
    let i = c.in-Binary in
    let first = c.get-in-Implies.result.now in
    let second = c.get-in-Implies-2.result.now in
    let one = c.plant-in-Implies.new in
    let turned = c.not-in-Implies.new.self in
    let two = c.plant-in-Implies-2.new in
    let negative = plants_not c.args.leaves.now.items one.leaves.items c.args.forest.now one.forest turned (unary i.field-0 Not (resolved_of first)) (resolved_of first) i.field-0
    c.in_ok-left-in-Implies.left c.in_ok-left-in-Implies-2.left refl c.in_ok-left-in-Implies.ensures c.in_ok-left-in-Implies-2.ensures.ok in
    IfOk-weaker c.or-in-Implies.result _ _
    (λ place r. plants_joined c.args.leaves.now.items one.leaves.items two.leaves.items c.args.forest.now turned two.forest _ (resolved_of c.args.term.now)
    (resolved_of first) (resolved_of second) (unary i.field-0 Not (resolved_of first)) Implies i.field-0
    c.in_ok-left-in-Implies-2.left c.in_ok-right-in-Implies.right place _
    (binary_seen c.args.term.now i.field-0 i.op c.in-Connective.connective Implies i.left i.right first second i.is c.in-Connective.is c.in-Implies.is
    c.get-in-Implies.ensures c.get-in-Implies-2.ensures)
    refl negative c.in_ok-right-in-Implies.ensures r (implies_planted _ i.field-0 (resolved_of first) (resolved_of second) _ _)) c.or-in-Implies.ensures.ok
