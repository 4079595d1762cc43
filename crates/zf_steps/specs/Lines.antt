-- The lines of states and steps.
use Rattle.std.specs.Prelude.{ℕ, ◌-◌, ◌^◌, ◌++◌, List, [], ◌∷◌, codes, cond, decimal, eqb, min, Option, slice_get}
use Rattle.zf_steps.specs.Prelude.{broken, ended, Ending, found, missing, open_ended, paused, Result, untold, Words, Comp, binding_text, Value}
use Rattle.zf_steps.specs.declared.node.Label.{Label}
use Rattle.zf_steps.specs.declared.node.Node.{Node}
use Rattle.zf_steps.specs.declared.node.Node.TheVariants.{Root, State}
use Rattle.zf_steps.specs.Systems.{Operation, System}

abbrev pub stray_line : (number : ℕ) → List ℕ
stray_line number = codes "stray " ++ decimal number ++ codes "\n"

-- where there is no initial state there is no line
abbrev pub stuck_line : (number : ℕ) → List ℕ
stuck_line number = cond (eqb number 0) [] (codes "stuck " ++ decimal number ++ codes "\n")

abbrev pub ending_line : Ending → List ℕ
ending_line ended = codes "end\n"
ending_line paused = codes "more\n"
ending_line (broken at) = codes "out of bounds at: " ++ at ++ codes "\n"

-- how a search ended
abbrev pub result_line : Result → List ℕ
result_line found = codes "found\n"
result_line missing = codes "not found\n"
result_line open_ended = codes "more\n"
result_line (untold at) = codes "out of bounds at: " ++ at ++ codes "\n"

-- `2 states, 1 steps`; a number past 64 bits is written as the greatest
abbrev pub count_line : (states steps : ℕ) → List ℕ
count_line states steps = decimal states ++ codes " states, " ++ decimal (min steps (2 ^ 64 - 1)) ++ codes " steps\n"

module _ (m : System) where
  -- `state 2: BINDING`
  abbrev pub state_line : (from number : ℕ) → Node → List ℕ
  state_line from number Root = []
  state_line from number (State values) = codes "state " ++ decimal number ++ codes ": " ++ binding_text m.elements m.state.comps values ++ codes "\n"

  -- `: BINDING` of what else a step has, and nothing where it has nothing
  abbrev pub label_text : List Comp → List Value → List ℕ
  label_text cs [] = []
  label_text cs (v ∷ vs) = codes ": " ++ binding_text m.elements cs (v ∷ vs)

  -- `OPERATION 2: LABEL`, where there is such an operation
  abbrev pub operation_text : Option Operation → (number : ℕ) → List Value → List ℕ
  operation_text Option.None number values = codes " " ++ decimal number
  operation_text (Option.Some o) number values = o.name ++ codes " " ++ decimal number ++ label_text o.label values

  -- `step 1 OPERATION 2: LABEL`; that a state is initial has no line but the state's
  abbrev pub step_line : (from : ℕ) → Label → (number : ℕ) → List ℕ
  step_line from label number =
      cond (eqb from 0) [] (codes "step " ++ decimal from ++ codes " " ++ operation_text (slice_get m.operations label.operation) number label.values ++ codes "\n")

  abbrev pub line_words : Words Node Label
  line_words = record {
    head = [];
    node = state_line;
    edge = step_line;
    stray = stray_line;
    stuck = stuck_line;
    last = λ ending states steps. ending_line ending ++ count_line states steps;
  }
