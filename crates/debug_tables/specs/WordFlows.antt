-- What a word's step does to memory and where it goes on, by the word's form and fields (ARM2 data sheet,
-- "Instruction set summary"): STR and STM store; the others leave memory as it is. Data processing, LDR and LDRB
-- go on at the next word unless they write R15, and a branch at the next word or at its destination.
use Rattle.std.specs.Prelude.{◌≡◌, ◌⊎◌, ℕ, ◌+◌, ◌*◌, ◌%◌, ◌^◌, ◌==◌, Bool, not, ◌&&◌, ◌||◌, Result, Ok, Err, if◌then◌else◌}
use Rattle.profile.specs.Word.{bit_of, field}
use Rattle.profile.specs.Fault.{Fault}
use Rattle.address_map.specs.Bytes.{Bytes}
use Rattle.command_shell.specs.Effect.{with_next_pc}
use Rattle.command_shell.specs.ArmCoreState.{State}
use Rattle.command_shell.specs.StepEnd.{StepEnd}
use Rattle.command_shell.specs.StepEnd.TheVariants as turn
use Rattle.arm_decode.specs.Table.{form_of}
use Rattle.arm_decode.specs.declared.form.Form.{Form}
use Rattle.arm_decode.specs.declared.form.Form.TheVariants as form
use Rattle.debug_tables.specs.declared.step_words.WordFlow.{WordFlow}
use Rattle.debug_tables.specs.declared.step_words.WordFlow.TheVariants.{Straight, Branches, Anywhere, Stores}

-- whether a field names R15
abbrev pub is_pc_at : ℕ → ℕ → Bool
is_pc_at low w = field w low 4 == 15

abbrev pub operate_flow : ℕ → WordFlow
operate_flow w = if not (is_pc_at 12 w) then Straight else Anywhere

-- post-indexed, or pre-indexed with W
abbrev pub is_base_written : ℕ → Bool
is_base_written w = not (bit_of w 24) || bit_of w 21

abbrev pub transfer_flow : ℕ → WordFlow
transfer_flow w = if not (bit_of w 20) then Stores else (
    if is_pc_at 12 w || (is_pc_at 16 w && is_base_written w) then Anywhere else Straight)

abbrev pub branch_flow : ℕ → ℕ → WordFlow
branch_flow at w = if not (bit_of w 24) then Branches ((at + 8 + 4 * (w % 2 ^ 24)) % 2 ^ 26) else Anywhere

abbrev pub block_flow : ℕ → WordFlow
block_flow w = if not (bit_of w 20) then Stores else Anywhere

abbrev pub flow_of_form : Result Form Fault → ℕ → ℕ → WordFlow
flow_of_form (Ok form.ShiftByNumber) at w = operate_flow w
flow_of_form (Ok form.ShiftByRegister) at w = operate_flow w
flow_of_form (Ok form.Immediate) at w = operate_flow w
flow_of_form (Ok form.OffsetByNumber) at w = transfer_flow w
flow_of_form (Ok form.OffsetByRegister) at w = transfer_flow w
flow_of_form (Ok form.BlockTransfer) at w = block_flow w
flow_of_form (Ok form.Branch) at w = branch_flow at w
flow_of_form row at w = Anywhere

unfoldable pub word_flow : ℕ → ℕ → WordFlow
word_flow at w = flow_of_form (form_of w) at w

-- what that says of a step of the core that is done, and of what it leaves
abbrev pub KeepsToFlow : WordFlow → State → Bytes → State × Bytes → Type 0
KeepsToFlow Straight s b u = (u.1 ≡ b) × (u.0.pc ≡ (with_next_pc s).pc)
KeepsToFlow (Branches to) s b u = (u.1 ≡ b) × ((u.0.pc ≡ (with_next_pc s).pc) ⊎ (u.0.pc ≡ to))
KeepsToFlow Anywhere s b u = u.1 ≡ b
KeepsToFlow Stores s b u = Unit {0}

abbrev pub KeepsToFlowIfDone : WordFlow → State → Bytes → Result (State × Bytes) StepEnd → Type 0
KeepsToFlowIfDone flow s b (Ok u) = KeepsToFlow flow s b u
KeepsToFlowIfDone flow s b (Err e) = turn.Done ≡ e → ⊥
