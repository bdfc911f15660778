-- What a word is: the form that the table gives it, its fields, and the conditions that refuse it.
use Rattle.std.specs.Prelude.{ℕ, Option, Some, None, Result, Ok, Err}
use Rattle.profile.specs.Fault.{Fault}
use Rattle.arm_decode.specs.Fields.{condition_in, action_in}
use Rattle.arm_decode.specs.Refusals.{refusal}
use Rattle.arm_decode.specs.Table.{form_of}
use Rattle.arm_decode.specs.declared.action.Action.{Action}
use Rattle.arm_decode.specs.declared.condition.Condition.{Condition}
use Rattle.arm_decode.specs.declared.form.Form.{Form}

abbrev pub unless_refused : Option Fault → Condition × Action → Result (Condition × Action) Fault
unless_refused None i = Ok i
unless_refused (Some f) i = Err f

-- the instruction of a condition and an action, if there is one
abbrev pub instruction_unless_refused : Condition × Action → Result (Condition × Action) Fault
instruction_unless_refused i = unless_refused (refusal i.1) i

abbrev pub decoded_as : Result Form Fault → ℕ → Result (Condition × Action) Fault
decoded_as (Ok form) w = instruction_unless_refused (condition_in w, action_in form w)
decoded_as (Err f) w = Err f

unfoldable pub instruction_of_word : ℕ → Result (Condition × Action) Fault
instruction_of_word w = decoded_as (form_of w) w
