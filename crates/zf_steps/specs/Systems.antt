-- What is explored of a specification: the schema of the state, one by which states are tested, that of the initial states, and the operations.
use Rattle.std.specs.Prelude.{ℕ, List, Option}
use Rattle.zf_steps.specs.Prelude.{Comp, Schema, Spelling, Environment}
use Rattle.zf_steps.specs.declared.form.Form.{Form}

-- A schema whose bindings are steps: of each of its components, which one of the state before it is, if it is one; the places of those of the state after, and those of the others, with the others themselves.
pub record Operation : Type 0 where
  pub name : List ℕ
  pub schema : Schema
  pub sources : List (Option ℕ)
  pub after : List ℕ
  pub others : List ℕ
  pub label : List Comp

-- in an environment, with how elements are spelled, and the form in which it is written
pub record System : Type 0 where
  pub environment : Environment
  pub elements : List Spelling
  pub form : Form
  pub state : Schema
  pub test : Operation
  pub init : Operation
  pub operations : List Operation
