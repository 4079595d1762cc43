-- What a walk says of its tests is what an answer says of them.
use Rattle.zf_lines.proofs.Prelude.{◌≡◌, ap, List, Option, subst, true, Progress, SameRanges, Stage, value_order, Value, Schema, Environment, property, counted_goal, Goal, judged, Bindings, IsCountingAtStart, TellsTests, Wording, ResolvedTree, IsNumberOfTests}
use Rattle.zf_walk.specs.Progress as walk

-- the number that the walk has counted is that of the stated pairs
tests_told : {J : Type 0} (words : Wording Value) (e : Environment) (a : Schema) (b : Stage Value) (c : Progress Value J) (whole : Option (List Value)) → SameRanges b c.stage
    → walk.AreTests value_order (property e a.conjuncts) c whole → TellsTests words true e a b whole (words.tests c.tests)
tests_told words e a b c whole same (number, counted, is) = (
  number,
  subst (λ n. IsNumberOfTests value_order (property e a.conjuncts) b.ranges n whole number) same.after
      (subst (λ (rs : List (List Value)). IsNumberOfTests value_order (property e a.conjuncts) rs c.stage.after whole number) same.ranges counted),
  ap words.tests is,
)

-- that of a search which began by counting none
pub number_told : (words : Wording Value) (a : Schema) (b c : Bindings) → IsCountingAtStart a b → counted_goal c.walk ≡ counted_goal b.walk → SameRanges b.walk.stage c.walk.stage
    → walk.AreTests value_order (judged c.walk.judge) c.walk c.walk.stage.last
    → TellsTests words true (counted_goal b.walk).environment a b.walk.stage c.walk.stage.last (words.tests c.walk.tests)
number_told words a b c start goal same h =
    let e = (counted_goal b.walk).environment in
    let by_goal = subst (λ (g : Goal). walk.AreTests value_order (property g.environment g.predicates) c.walk c.walk.stage.last) goal h in
    let stated = subst (λ (ts : List ResolvedTree). walk.AreTests value_order (property e ts) c.walk c.walk.stage.last) start.conjuncts by_goal in
    tests_told words e a b.walk.stage c.walk c.walk.stage.last same stated
