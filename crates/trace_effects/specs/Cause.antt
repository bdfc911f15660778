-- What stands where a core goes on: the return gate, nothing, or a word, whose condition is met or
-- not (ARM2 data sheet, "The condition field").
use Rattle.std.specs.Prelude.{ℕ, ◌==◌, Option, Some, None, Result, Ok, Err, if◌then◌else◌}
use Rattle.profile.specs.MemoryMap.{return_gate}
use Rattle.profile.specs.Fault.{Fault}
use Rattle.arm_step.specs.Bytes.{Bytes, word_loaded}
use Rattle.arm_decode.specs.Decoded.{instruction_of_word}
use Rattle.arm_decode.specs.Fields.{condition_in}
use Rattle.arm_decode.specs.declared.action.Action.{Action}
use Rattle.arm_decode.specs.declared.action.Action.TheVariants as action
use Rattle.arm_decode.specs.declared.condition.Condition.{Condition}
use Rattle.arm_core.specs.Conditions.{condition_holds}
use Rattle.arm_core.specs.State.{State}
use Rattle.trace_effects.specs.declared.cause.Cause.{Cause}
use Rattle.trace_effects.specs.declared.cause.Cause.TheVariants.{Gate, Unmapped, Skipped, Word}

abbrev pub cause_if_fetched : State → Result ℕ Fault → Cause
cause_if_fetched s (Ok word) = if condition_holds (condition_in word) s.psr then Word word else Skipped word
cause_if_fetched s (Err fault) = Unmapped

abbrev pub cause_of : State → Bytes → Cause
cause_of s b = if s.pc == return_gate then Gate else cause_if_fetched s (word_loaded b s.pc)

-- the number of a software interrupt, as it stands in the word
abbrev pub swi_of_action : Action → Option ℕ
swi_of_action (action.SoftwareInterrupt number) = Some number
swi_of_action _ = None

abbrev pub swi_if_decoded : Result (Condition × Action) Fault → Option ℕ
swi_if_decoded (Ok i) = swi_of_action i.1
swi_if_decoded (Err fault) = None

abbrev pub swi_of_cause : Cause → Option ℕ
swi_of_cause (Word word) = swi_if_decoded (instruction_of_word word)
swi_of_cause _ = None
