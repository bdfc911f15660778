-- One step of the core over memory. `owned` says which bytes the store calls keep their records in.
use Rattle.std.specs.Prelude.{◌≡◌, ℕ, Bool, ◌==◌, if◌then◌else◌, Some, None, Result, Ok, Err}
use Rattle.arm_core.specs.Fault.{Fault}
use Rattle.arm_core.specs.Fault.TheVariants.{FetchUnmapped}
use Rattle.address_map.specs.Bytes.{Bytes, word_loaded}
use Rattle.arm_decode.specs.Decoded.{instruction_unless_refused, instruction_of_word}
use Rattle.arm_decode.specs.Fields.{condition_in, transfer_of_word, block_transfer_in}
use Rattle.arm_decode.specs.Refusals.{refusal}
use Rattle.arm_decode.specs.declared.action.Action.{Action}
use Rattle.arm_decode.specs.declared.action.Action.TheVariants as action
use Rattle.arm_decode.specs.declared.action.Multiply.{Multiply}
use Rattle.arm_decode.specs.declared.action.Operate.{Operate}
use Rattle.arm_decode.specs.declared.address.Address.{Address}
use Rattle.arm_decode.specs.declared.condition.Condition.{Condition}
use Rattle.arm_core.specs.declared.turn.StepEnd.{StepEnd}
use Rattle.arm_core.specs.declared.turn.StepEnd.TheVariants as turn
use Rattle.arm_core.specs.Conditions.{condition_holds}
use Rattle.arm_core.specs.State.{State}
use Rattle.arm_core.specs.Effect.{with_next_pc}
use Rattle.arm_core.specs.Operate.{state_after_operate, state_after_multiply, state_after_branch}
use Rattle.arm_step.specs.Transfers.{result_of_transfer}
use Rattle.arm_step.specs.Blocks.{result_of_block_transfer}

-- a fault of memory ends the step
abbrev pub or_fault : {A : Type 0} → Result A Fault → Result A StepEnd
or_fault (Ok a) = Ok a
or_fault (Err f) = Err (turn.Fault f)

unfoldable pub result_of_action : (ℕ → Bool) → State → Bytes → Action → Result (State × Bytes) StepEnd
result_of_action owned s b (action.Operate o) = Ok (state_after_operate s o, b)
result_of_action owned s b (action.Multiply m) = Ok (state_after_multiply s m, b)
result_of_action owned s b (action.Transfer t) = or_fault (result_of_transfer owned s b t)
result_of_action owned s b (action.BlockTransfer t) = or_fault (result_of_block_transfer owned s b t)
result_of_action owned s b (action.Branch links distance) = Ok (state_after_branch s links distance, b)
result_of_action owned s b (action.SoftwareInterrupt n) = Err (turn.Swi n)

abbrev pub acted_if_decoded : (ℕ → Bool) → State → Bytes → Result (Condition × Action) Fault →
    Result (State × Bytes) StepEnd
acted_if_decoded owned s b (Ok i) = result_of_action owned s b i.1
acted_if_decoded owned s b (Err f) = Err (turn.Fault f)

-- Data processing by some fields, or the fault by which the table refuses them.
abbrev pub Operates : {U : Type 0} → State → Operate → Result U Fault → State → Type 0
Operates old o (Ok u) new = (refusal (action.Operate o) ≡ None) × (new ≡ state_after_operate old o)
Operates old o (Err f) new = (refusal (action.Operate o) ≡ Some f) × (new ≡ old)

-- A multiplication by some fields, or the fault by which the table refuses them.
abbrev pub Multiplies : {U : Type 0} → State → Multiply → Result U Fault → State → Type 0
Multiplies old m (Ok u) new = (refusal (action.Multiply m) ≡ None) × (new ≡ state_after_multiply old m)
Multiplies old m (Err f) new = (refusal (action.Multiply m) ≡ Some f) × (new ≡ old)

-- the LDR or STR of a word whose address is this
abbrev pub acted_at : (ℕ → Bool) → State → Bytes → Address → ℕ → Result (State × Bytes) StepEnd
acted_at owned s b place w = acted_if_decoded owned s b
    (instruction_unless_refused (condition_in w, action.Transfer (transfer_of_word place w)))

-- the LDM or STM of a word
abbrev pub acted_on_block : (ℕ → Bool) → State → Bytes → ℕ → Result (State × Bytes) StepEnd
acted_on_block owned s b w = acted_if_decoded owned s b
    (instruction_unless_refused (condition_in w, action.BlockTransfer (block_transfer_in w)))

-- Where the condition fails the instruction does nothing, whatever its other bits are.
abbrev pub result_of_word : (ℕ → Bool) → State → Bytes → ℕ → Result (State × Bytes) StepEnd
result_of_word owned s b w = if condition_holds (condition_in w) s.psr then
    acted_if_decoded owned s b (instruction_of_word w) else Ok (with_next_pc s, b)

abbrev pub executed_if_fetched : (ℕ → Bool) → State → Bytes → Result ℕ Fault → Result (State × Bytes) StepEnd
executed_if_fetched owned s b (Ok w) = result_of_word owned s b w
executed_if_fetched owned s b (Err f) = Err (turn.Fault FetchUnmapped)

-- Module code returns to an address where nothing is mapped.
unfoldable pub result_of_step : (ℕ → Bool) → State → Bytes → Result (State × Bytes) StepEnd
result_of_step owned s b = if s.pc == 0x03800000 then Err turn.Gate
    else executed_if_fetched owned s b (word_loaded b s.pc)
