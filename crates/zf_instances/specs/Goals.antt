-- What a search that counts no tests goes by.
use Rattle.std.specs.Prelude.{ℕ, Some, map, take}
use Rattle.zf_instances.specs.Prelude.{resolved_of, Value, trees_of, Environment, environment_of}
use Rattle.zf_plan.specs.Progress as plan
use Rattle.zf_enum.specs.declared.property.Property as judge
use Rattle.zf_enum.specs.{Goal}

-- the environment of its first n names
abbrev pub with_first : ℕ → Environment → Environment
with_first n e = record { globals = e.globals; sizes = e.sizes; outcomes = take n e.outcomes; numbers = e.numbers }

-- it goes by trees, and the schema's are the first names
abbrev pub planted_goal : ℕ → plan.Progress Value judge.Property → Goal
planted_goal names s = record {
  environment = with_first names (environment_of s.judge.env.now);
  further = environment_of s.judge.env.now;
  predicates = map resolved_of s.judge.conjuncts;
  trees = Some (trees_of s.forest);
}
