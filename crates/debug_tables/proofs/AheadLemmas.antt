-- Which instructions call a SWI.
use Rattle.std.proofs.Common.{◌≡◌, ◌==◌, ℕ, Bool, true, false, Option, Some, None, Result, Ok, Err, refl, sym}
use Rattle.std.proofs.lemmas.Bool.{false≢true}
use Rattle.std.specs.Prelude.{if◌then◌else◌}
use Rattle.profile.specs.MemoryMap.{return_gate}
use Rattle.profile.specs.Fault.{Fault}
use Rattle.address_map.specs.Bytes.{Bytes, word_loaded}
use Rattle.command_shell.specs.Conditions.{condition_holds}
use Rattle.command_shell.specs.Effect.{with_next_pc}
use Rattle.command_shell.specs.ArmCoreState.{State}
use Rattle.command_shell.specs.StepEnd.TheVariants as turn
use Rattle.command_shell.specs.ArmCorePsr.{Psr}
use Rattle.arm_decode.specs.Decoded.{decoded_as, instruction_of_word, unless_refused}
use Rattle.arm_decode.specs.Fields.{action_in, condition_in}
use Rattle.arm_decode.specs.Refusals.{refusal}
use Rattle.arm_decode.specs.Table.{form_of}
use Rattle.arm_decode.specs.declared.form.Form.{Form}
use Rattle.arm_decode.specs.declared.form.Form.TheVariants as form
use Rattle.arm_decode.specs.declared.action.Action.{Action}
use Rattle.arm_decode.specs.declared.action.Action.TheVariants as action
use Rattle.arm_decode.specs.declared.condition.Condition.{Condition}
use Rattle.command_shell.specs.ArmStepStep.{acted_if_decoded, executed_if_fetched, or_fault, result_of_action, result_of_step, result_of_word}
use Rattle.command_shell.specs.Transfers.{result_of_transfer}
use Rattle.command_shell.specs.Blocks.{result_of_block_transfer}
use Rattle.debug_tables.specs.Stubs.{has_swi_form, swi_next, swi_decoded, swi_fetched, swi_in_action, swi_in_turn, swi_in_word}

none_in_memory : (r : Result (State × Bytes) Fault) → swi_in_turn (or_fault r) ≡ None
none_in_memory (Ok w) = refl
none_in_memory (Err f) = refl

swi_of_action : (owned : ℕ → Bool) (s : State) (b : Bytes) (a : Action) → swi_in_turn (result_of_action owned s b a) ≡ swi_in_action a
unfolding result_of_action
swi_of_action owned s b (action.Operate o) = refl
swi_of_action owned s b (action.Multiply m) = refl
swi_of_action owned s b (action.Transfer t) = none_in_memory (result_of_transfer owned s b t)
swi_of_action owned s b (action.BlockTransfer t) = none_in_memory (result_of_block_transfer owned s b t)
swi_of_action owned s b (action.Branch links distance) = refl
swi_of_action owned s b (action.SoftwareInterrupt n) = refl

swi_of_decoded : (owned : ℕ → Bool) (s : State) (b : Bytes) (i : Result (Condition × Action) Fault)
    → swi_in_turn (acted_if_decoded owned s b i) ≡ swi_decoded i
swi_of_decoded owned s b (Ok i) = swi_of_action owned s b i.1
swi_of_decoded owned s b (Err f) = refl

swi_if : (met : Bool) (owned : ℕ → Bool) (s : State) (b : Bytes) (i : Result (Condition × Action) Fault)
    → swi_in_turn (if met then acted_if_decoded owned s b i else Ok (with_next_pc s, b)) ≡ (if met then swi_decoded i else None)
swi_if true owned s b i = swi_of_decoded owned s b i
swi_if false owned s b i = refl

swi_of_word : (owned : ℕ → Bool) (s : State) (b : Bytes) (w : ℕ) → swi_in_turn (result_of_word owned s b w) ≡ swi_in_word s.psr w
swi_of_word owned s b w = swi_if (condition_holds (condition_in w) s.psr) owned s b (instruction_of_word w)

swi_of_fetched : (owned : ℕ → Bool) (s : State) (b : Bytes) (r : Result ℕ Fault)
    → swi_in_turn (executed_if_fetched owned s b r) ≡ swi_fetched s.psr r
swi_of_fetched owned s b (Ok w) = swi_of_word owned s b w
swi_of_fetched owned s b (Err f) = refl

swi_unless_gate : (gate : Bool) (owned : ℕ → Bool) (s : State) (b : Bytes) (r : Result ℕ Fault)
    → swi_in_turn (if gate then Err turn.Gate else executed_if_fetched owned s b r) ≡ (if gate then None else swi_fetched s.psr r)
swi_unless_gate true owned s b r = refl
swi_unless_gate false owned s b r = swi_of_fetched owned s b r

-- the SWI that a step calls is the one of the word there
pub swi_of_step : (owned : ℕ → Bool) (s : State) (b : Bytes) → swi_in_turn (result_of_step owned s b) ≡ swi_next s b
unfolding result_of_step
swi_of_step owned s b = swi_unless_gate (s.pc == return_gate) owned s b (word_loaded b s.pc)

-- an action that its parts refuse, or that is no SWI
unless : (refused : Option Fault) (c : Condition) (a : Action) → swi_in_action a ≡ None → swi_decoded (unless_refused refused (c, a)) ≡ None
unless None c a other = other
unless (Some f) c a other = refl

no_swi : (f : Form) (w : ℕ) → has_swi_form (Ok f) ≡ false → swi_in_action (action_in f w) ≡ None
no_swi form.Multiply w other = refl
no_swi form.ShiftByNumber w other = refl
no_swi form.ShiftByRegister w other = refl
no_swi form.Immediate w other = refl
no_swi form.OffsetByNumber w other = refl
no_swi form.OffsetByRegister w other = refl
no_swi form.BlockTransfer w other = refl
no_swi form.Branch w other = refl
no_swi form.SoftwareInterrupt w other = absurd (false≢true (sym other))

no_swi_of : (row : Result Form Fault) (w : ℕ) → has_swi_form row ≡ false → swi_decoded (decoded_as row w) ≡ None
no_swi_of (Ok f) w other = unless (refusal (action_in f w)) (condition_in w) (action_in f w) (no_swi f w other)
no_swi_of (Err fault) w other = refl

no_swi_if : (met : Bool) (i : Result (Condition × Action) Fault) → swi_decoded i ≡ None → None ≡ (if met then swi_decoded i else None)
no_swi_if true i none = sym none
no_swi_if false i none = refl

-- a word whose form is another one calls no SWI
pub no_swi_in : (psr : Psr) (w : ℕ) → has_swi_form (form_of w) ≡ false → None ≡ swi_in_word psr w
unfolding instruction_of_word
no_swi_in psr w other =
    no_swi_if (condition_holds (condition_in w) psr) (instruction_of_word w) (no_swi_of (form_of w) w other)
