-- Predecoded words do what their words do by the table of instructions: a statement for each group
-- of kinds. Which kinds a group has is shown by `KindMeans`, a line for each.
use Rattle.std.specs.Prelude.{◌≡◌, ◌+◌, ℕ, Bool, true, false, Ok}
use Rattle.arm_step.specs.Bytes.{Bytes}
use Rattle.arm_core.specs.Fields.{condition_in}
use Rattle.arm_core.specs.Indexing.{Indexing}
use Rattle.arm_core.specs.Condition.{Condition}
use Rattle.arm_core.specs.Condition.TheVariants as condition
use Rattle.arm_core.specs.Operation.{Operation}
use Rattle.arm_core.specs.Conditions.{condition_holds}
use Rattle.arm_core.specs.State.{State}
use Rattle.arm_step.specs.Step.{result_of_word}
use Rattle.arm_predecode.specs.Kinds.{KindMeans, OperatesByImmediate, OperatesByRegister, OperatesByShift, Branches, TransfersByNumber, TransfersByRegister, LoadsBeside, MultipliesPlainly, MovesToPc, MovesBlock}
use Rattle.arm_predecode.specs.OpValue.{OpValue}
use Rattle.arm_predecode.specs.declared.kind.OpKind.TheVariants as kind
use Rattle.arm_run.specs.Standing.{core_at}
use Rattle.arm_run.specs.decoded.Effects.{HasEffect, immediate_second, register_second, shifted_second, operation_effect, product_effect, branch_effect, link_effect, jump_effect, swi_effect, transfer_effect, number_added, register_added, beside_effect, block_load_effect, block_store_effect}

-- Data processing: an operation, whether it sets the flags, and a second operand
abbrev pub ImmediatesOperate : Type 0
ImmediatesOperate = (op : Operation) (sets : Bool) (r : OpValue) → OperatesByImmediate op sets r →
    HasEffect r (operation_effect op sets r (immediate_second r))

abbrev pub RegistersOperate : Type 0
RegistersOperate = (op : Operation) (sets : Bool) (r : OpValue) → OperatesByRegister op sets r →
    HasEffect r (operation_effect op sets r (register_second r))

abbrev pub ShiftsOperate : Type 0
ShiftsOperate = (op : Operation) (sets : Bool) (r : OpValue) → OperatesByShift op sets r →
    HasEffect r (operation_effect op sets r (shifted_second r))

abbrev pub ProductsAreSet : Type 0
ProductsAreSet = (adds : Bool) (r : OpValue) → MultipliesPlainly adds r →
    HasEffect r (product_effect adds r)

-- A branch under any condition, BL, and MOV to R15
abbrev pub BranchesLead : Type 0
BranchesLead = (c : Condition) (r : OpValue) → Branches c false r → HasEffect r (branch_effect c r)

abbrev pub LinksLead : Type 0
LinksLead = (r : OpValue) → Branches condition.Always true r → HasEffect r (link_effect r)

abbrev pub JumpsLead : Type 0
JumpsLead = (sets : Bool) (r : OpValue) → MovesToPc sets r → HasEffect r (jump_effect sets r)

abbrev pub InterruptsTurn : Type 0
InterruptsTurn = (r : OpValue) → KindMeans kind.Interrupt r → HasEffect r (swi_effect r)

-- Any word whose condition isn't met changes nothing: the core goes on at the next word.
abbrev pub UnmetConditionsPass : Type 0
UnmetConditionsPass = (owned : ℕ → Bool) (s : State) (at : ℕ) (b : Bytes) (word : ℕ) →
    condition_holds (condition_in word) s.psr ≡ false →
    result_of_word owned (core_at s at) b word ≡ Ok (core_at s (at + 1), b)

-- LDR and STR of a word or a byte, faults among what they leave
abbrev pub NumbersTransfer : Type 0
NumbersTransfer = (loads is_byte : Bool) (way : Indexing) (r : OpValue) →
    TransfersByNumber loads is_byte way r →
    HasEffect r (transfer_effect loads is_byte way (number_added r) r)

abbrev pub RegistersTransfer : Type 0
RegistersTransfer = (loads is_byte : Bool) (way : Indexing) (r : OpValue) →
    TransfersByRegister loads is_byte way r →
    HasEffect r (transfer_effect loads is_byte way (register_added r) r)

abbrev pub WordsBesideLoad : Type 0
WordsBesideLoad = (r : OpValue) → LoadsBeside r → HasEffect r (beside_effect r)

-- LDM, with R15 or without, and STM
abbrev pub BlocksLoad : Type 0
BlocksLoad = (is_up writes has_pc : Bool) (r : OpValue) → MovesBlock true is_up writes has_pc r →
    HasEffect r (block_load_effect is_up writes r)

abbrev pub BlocksStore : Type 0
BlocksStore = (is_up writes : Bool) (r : OpValue) → MovesBlock false is_up writes false r →
    HasEffect r (block_store_effect is_up writes r)
