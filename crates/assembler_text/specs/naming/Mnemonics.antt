-- The words that name an instruction: a name, a condition or none, and suffixes (ARM2 data sheet,
-- "Assembler syntax" of each instruction). No suffix is two letters of a condition, so two such
-- letters after the name are one. `BLS` is B with LS, `BLE` is B with LE, since BL has no suffix;
-- `BLLS` is BL with LS.
use Rattle.std.specs.Prelude.{ℕ, Bool, true, false, List, [], ◌∷◌, take, drop, codes, Option, Some, None, if◌then◌else◌}
use Rattle.arm_decode.specs.Refusals.{is_test}
use Rattle.arm_decode.specs.declared.condition.Condition.{Condition}
use Rattle.arm_decode.specs.declared.condition.Condition.TheVariants.{Always}
use Rattle.arm_decode.specs.declared.operation.Operation.{Operation}
use Rattle.assembler_text.specs.naming.Names.{condition_named, operation_named, block_mode_named}
use Rattle.assembler_text.specs.naming.Words.{is_same_name, ◌>>=◌, ◌or◌}
use Rattle.assembler_text.specs.declared.naming.mnemonics.Command.{Command}
use Rattle.assembler_text.specs.declared.naming.mnemonics.Command.TheVariants as command
use Rattle.assembler_text.specs.declared.naming.mnemonics.Mnemonic.{Mnemonic}

abbrev pub mnemonic : Condition → Command → Mnemonic
mnemonic c what = record { condition = c; command = what }

abbrev pub or_always : List ℕ → Option Condition → Condition × List ℕ
or_always letters (Some c) = (c, drop 2 letters)
or_always letters None = (Always, letters)

-- the condition at the front and the letters that follow it: of `EQS` Equal and `S`, of `S` Always
-- and `S`
abbrev pub condition_and_rest : List ℕ → Condition × List ℕ
condition_and_rest letters = or_always letters (condition_named (take 2 letters))

-- a suffix that is there or not, with nothing after it
abbrev pub suffix : List ℕ → List ℕ → Option Bool
suffix name [] = Some false
suffix name (c ∷ letters) = if is_same_name (c ∷ letters) name then Some true else None

-- whether it is the first of two names
abbrev pub first_name : List ℕ → List ℕ → List ℕ → Option Bool
first_name first second name = if is_same_name name first then Some true
    else (if is_same_name name second then Some false else None)

-- S; of a test P, since it always sets the flags
abbrev pub flag_text : Operation → List ℕ
flag_text o = if is_test o then codes "P" else codes "S"

-- AND to MVN, as `ADDEQS`
abbrev pub operate_mnemonic : List ℕ → Option Mnemonic
operate_mnemonic name = do
  operation ← operation_named (take 3 name)
  flag ← suffix (flag_text operation) (condition_and_rest (drop 3 name)).1
  Some (mnemonic (condition_and_rest (drop 3 name)).0 (command.Operate operation flag))

-- MUL, MLA, as `MULEQS`
abbrev pub multiply_mnemonic : List ℕ → Option Mnemonic
multiply_mnemonic name = do
  accumulates ← first_name (codes "MLA") (codes "MUL") (take 3 name)
  sets_flags ← suffix (codes "S") (condition_and_rest (drop 3 name)).1
  Some (mnemonic (condition_and_rest (drop 3 name)).0 (command.Multiply accumulates sets_flags))

-- B for a byte, T for a transfer of user mode, BT for both, or nothing
abbrev pub transfer_suffix : List ℕ → Option (Bool × Bool)
transfer_suffix letters =
    if is_same_name letters [] then Some (false, false) else (
    if is_same_name letters (codes "B") then Some (true, false) else (
    if is_same_name letters (codes "T") then Some (false, true) else (
    if is_same_name letters (codes "BT") then Some (true, true) else None)))

-- LDR, STR, as `LDREQBT`
abbrev pub transfer_mnemonic : List ℕ → Option Mnemonic
transfer_mnemonic name = do
  loads ← first_name (codes "LDR") (codes "STR") (take 3 name)
  kind ← transfer_suffix (condition_and_rest (drop 3 name)).1
  Some (mnemonic (condition_and_rest (drop 3 name)).0 (command.Transfer loads kind.0 kind.1))

-- LDM, STM, as `LDMEQFD`
abbrev pub block_mnemonic : List ℕ → Option Mnemonic
block_mnemonic name = do
  loads ← first_name (codes "LDM") (codes "STM") (take 3 name)
  mode ← block_mode_named loads (condition_and_rest (drop 3 name)).1
  Some (mnemonic (condition_and_rest (drop 3 name)).0 (command.BlockTransfer loads mode))

-- SWI, as `SWIEQ`
abbrev pub swi_mnemonic : List ℕ → Option Mnemonic
swi_mnemonic name = do
  condition ← if is_same_name (take 3 name) (codes "SWI") then condition_named (drop 3 name) else None
  Some (mnemonic condition command.SoftwareInterrupt)

-- BL with a condition or none after it, or else B, as `BLEQ`, `BLE`
abbrev pub linked_branch : List ℕ → Option Mnemonic
linked_branch name = do
  condition ← if is_same_name (take 2 name) (codes "BL") then condition_named (drop 2 name) else None
  Some (mnemonic condition (command.Branch true))

abbrev pub plain_branch : List ℕ → Option Mnemonic
plain_branch name = do
  condition ← if is_same_name (take 1 name) (codes "B") then condition_named (drop 1 name) else None
  Some (mnemonic condition (command.Branch false))

-- the first that fits
unfoldable pub mnemonic_named : List ℕ → Option Mnemonic
mnemonic_named name =
    operate_mnemonic name or multiply_mnemonic name or transfer_mnemonic name or block_mnemonic name or
    swi_mnemonic name
    or linked_branch name or plain_branch name
