-- What a search begins with.
use Rattle.std.specs.Prelude.{◌≡◌, map, None}
use Rattle.zf_enum.specs.Prelude.{resolved_of, Schema, Value, value_order, AreAllAhead, Stage, SayTheSame, Environment, AreRanges, IsNoneOut}
use Rattle.zf_enum.specs.declared.bindings.Bindings.{Bindings}
use Rattle.zf_enum.specs.Property.{property}
use Rattle.zf_enum.specs.Searches.{Goal, conjuncts_of, counted_goal}
use Rattle.zf_enum.specs.Portions.{Portion}

-- What goes by this and stands here is the search of the schema in the environment: its conjuncts say the same as those of the schema, no declared set is out, and every event is ahead.
pub record Begins (e : Environment) (s : Schema) (p : Portion) (g : Goal) (b : Stage Value) : Type 0 where
  pub environment : g.environment ≡ e
  pub same : SayTheSame (conjuncts_of g) (property e s.conjuncts)
  pub ranges : AreRanges e s.comps p.held b.ranges
  pub named : b.after ≡ p.after
  pub none_out : IsNoneOut e s.comps
  pub ahead : AreAllAhead value_order (property e s.conjuncts) b.ranges p.after b.ahead
  pub first : b.last ≡ None

-- The same of one that counts its tests: its conjuncts are those of the schema, and none was tested.
pub record BeginsCounting (e : Environment) (s : Schema) (p : Portion) (b : Bindings) : Type 0 where
  pub begins : Begins e s p (counted_goal b.walk) b.walk.stage
  pub conjuncts : map resolved_of b.walk.judge.conjuncts ≡ s.conjuncts
  pub untested : b.walk.tests ≡ 0
