-- The objects of states and steps, each on a line of its own.
use Rattle.std.specs.Prelude.{ℕ, ◌-◌, ◌^◌, ◌++◌, List, [], codes, cond, decimal, eqb, min, Option, slice_get}
use Rattle.zf_steps.specs.Prelude.{string_text, broken, ended, Ending, found, missing, open_ended, paused, Result, untold, Words, binding_object, Value}
use Rattle.zf_steps.specs.declared.node.Label.{Label}
use Rattle.zf_steps.specs.declared.node.Node.{Node}
use Rattle.zf_steps.specs.declared.node.Node.TheVariants.{Root, State}
use Rattle.zf_steps.specs.Systems.{Operation, System}

abbrev pub stray_object : (number : ℕ) → List ℕ
stray_object number = codes "{\"stray\": " ++ decimal number ++ codes "}\n"

-- where there is no initial state there is no object
abbrev pub stuck_object : (number : ℕ) → List ℕ
stuck_object number = cond (eqb number 0) [] (codes "{\"stuck\": " ++ decimal number ++ codes "}\n")

abbrev pub ending_object : Ending → List ℕ
ending_object ended = codes "{\"end\": true}\n"
ending_object paused = codes "{\"more\": true}\n"
ending_object (broken at) = codes "{\"out of bounds at\": " ++ at ++ codes "}\n"

-- how a search ended
abbrev pub result_object : Result → List ℕ
result_object found = codes "{\"found\": true}\n"
result_object missing = codes "{\"not found\": true}\n"
result_object open_ended = codes "{\"more\": true}\n"
result_object (untold at) = codes "{\"out of bounds at\": " ++ at ++ codes "}\n"

-- `{"states": 2, "steps": 1}`; a number past 64 bits is written as the greatest
abbrev pub count_object : (states steps : ℕ) → List ℕ
count_object states steps = codes "{\"states\": " ++ decimal states ++ codes ", \"steps\": " ++ decimal (min steps (2 ^ 64 - 1)) ++ codes "}\n"

module _ (m : System) where
  -- `{"state": 2, "binding": {..}}`
  abbrev pub state_object : (from number : ℕ) → Node → List ℕ
  state_object from number Root = []
  state_object from number (State values) = codes "{\"state\": " ++ decimal number ++ codes ", \"binding\": " ++ binding_object m.elements m.state.comps values ++ codes "}\n"

  -- `, "operation": "OPERATION", "to": 2, "binding": {..}`, where there is such an operation
  abbrev pub step_members : Option Operation → (number : ℕ) → List Value → List ℕ
  step_members Option.None number values = codes ", \"to\": " ++ decimal number
  step_members (Option.Some o) number values = codes ", \"operation\": " ++ string_text o.name ++ codes ", \"to\": " ++ decimal number ++ codes ", \"binding\": " ++ binding_object m.elements o.label values

  -- `{"step": 1, "operation": "OPERATION", "to": 2, "binding": {..}}`; that a state is initial has no object but the state's
  abbrev pub step_object : (from : ℕ) → Label → (number : ℕ) → List ℕ
  step_object from label number =
      cond (eqb from 0) [] (codes "{\"step\": " ++ decimal from ++ step_members (slice_get m.operations label.operation) number label.values ++ codes "}\n")

  abbrev pub objects : Words Node Label
  objects = record {
    head = [];
    node = state_object;
    edge = step_object;
    stray = stray_object;
    stuck = stuck_object;
    last = λ ending states steps. ending_object ending ++ count_object states steps;
  }
