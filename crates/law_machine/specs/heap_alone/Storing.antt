-- Which bytes the instruction at the program counter stores to, by its decoded form (ARM2 data
-- sheet, "Single data transfer" and "Block data transfer").
use Rattle.profile.specs.MemoryMap.{return_gate}
use Rattle.std.specs.Prelude.{ℕ, Bool, true, false, not, ◌&&◌, ◌*◌, ◌==◌, Result, Ok, Err, ◌≡◌}
use Rattle.profile.specs.Fault.{Fault}
use Rattle.address_map.specs.Bytes.{Bytes, in_range, word_loaded, word_start}
use Rattle.arm_decode.specs.Decoded.{instruction_of_word}
use Rattle.arm_decode.specs.Fields.{condition_in}
use Rattle.arm_decode.specs.declared.action.Action.{Action}
use Rattle.arm_decode.specs.declared.action.Action.TheVariants as action
use Rattle.arm_decode.specs.declared.condition.Condition.{Condition}
use Rattle.swi_dispatch_guest.specs.ArmStepBlocks.{transferred_count, block_start}
use Rattle.arm_core.specs.Conditions.{condition_holds}
use Rattle.arm_core.specs.State.{State}
use Rattle.swi_dispatch_guest.specs.ArmStepStep.{result_of_step}
use Rattle.swi_dispatch_guest.specs.Transfers.{transfer_address}

-- STRB stores one byte, and STR the word that its address lies in.
abbrev pub is_stored_at : Bool → ℕ → ℕ → Bool
is_stored_at true at a = in_range at 1 a
is_stored_at false at a = in_range (word_start at) 4 a

abbrev pub stores_by : State → Action → ℕ → Bool
stores_by s (action.Transfer t) a = not t.loads && is_stored_at t.is_byte (transfer_address s t.address) a
stores_by s (action.BlockTransfer t) a = not t.loads && in_range (block_start s t) (4 * transferred_count t) a
stores_by s other a = false

abbrev pub stores_if_decoded : State → Result (Condition × Action) Fault → ℕ → Bool
stores_if_decoded s (Ok i) a = stores_by s i.1 a
stores_if_decoded s (Err f) a = false

-- an instruction whose condition fails stores nothing
abbrev pub stores_if_fetched : State → Result ℕ Fault → ℕ → Bool
stores_if_fetched s (Ok w) a = condition_holds (condition_in w) s.psr
    && stores_if_decoded s (instruction_of_word w) a
stores_if_fetched s (Err f) a = false

-- module code that comes back stores nothing
unfoldable pub is_stored : State → Bytes → ℕ → Bool
is_stored s b a = not (s.pc == return_gate) && stores_if_fetched s (word_loaded b s.pc) a

-- A step of the core leaves each byte that its instruction doesn't store to.
abbrev pub StepsLeaveBytes : Type 0
StepsLeaveBytes =
    (owned : ℕ → Bool) (s t : State) (b c : Bytes) (a : ℕ) → result_of_step owned s b ≡ Ok (t, c) →
    is_stored s b a ≡ false → c.at a ≡ b.at a
