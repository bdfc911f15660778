-- The one text of each word at its address (ARM2 data sheet, "Assembler syntax" of each
-- instruction; where that leaves a choice, as between `#&FF000000` and `#&FF,8`, between
-- `LDR R0,[R1]` and `LDR R0,[R1,#0]` or in the bases of numbers, the choice is this project's own).
use Rattle.std.specs.Prelude.{ℕ, Bool, ◌+◌, ◌*◌, ◌%◌, ◌^◌, List, ◌++◌, codes, Result, Ok, Err, if◌then◌else◌}
use Rattle.arm_decode.specs.Digits.{hex_word}
use Rattle.arm_decode.specs.Fault.{Fault}
use Rattle.arm_decode.specs.Decoded.{instruction_of_word}
use Rattle.arm_decode.specs.Refusals.{is_move, is_pc, is_test}
use Rattle.arm_decode.specs.declared.action.Action.{Action}
use Rattle.arm_decode.specs.declared.action.Action.TheVariants as action
use Rattle.arm_decode.specs.declared.action.Multiply.{Multiply}
use Rattle.arm_decode.specs.declared.action.Operate.{Operate}
use Rattle.arm_decode.specs.declared.condition.Condition.{Condition}
use Rattle.assembler_text.specs.Names.{choose_text, condition_text, operation_text, register_text, text_if}
use Rattle.assembler_text.specs.Numbers.{number_text}
use Rattle.assembler_text.specs.Operands.{operand_text}
use Rattle.assembler_text.specs.Transfers.{block_transfer_text, transfer_text}

-- S; of a test, which always has it, P where its Rd field is 15
abbrev pub flags_text : Operate → List ℕ
flags_text o = if is_test o.operation then text_if (is_pc o.rd) (codes "P")
    else text_if o.sets_flags (codes "S")

-- `ADDcS `
abbrev pub operate_head : Condition → Operate → List ℕ
operate_head c o = operation_text o.operation ++ (condition_text c ++ (flags_text o ++ codes " "))

-- `Rn,` of a test; `Rd,` of MOV and MVN; else `Rd,Rn,`
abbrev pub operate_registers_text : Operate → List ℕ
operate_registers_text o =
    if is_test o.operation then register_text o.rn ++ codes "," else (
    if is_move o.operation then register_text o.rd ++ codes "," else
    register_text o.rd ++ (codes "," ++ (register_text o.rn ++ codes ",")))

abbrev pub operate_text : Condition → Operate → List ℕ
operate_text c o = operate_head c o ++ (operate_registers_text o ++ operand_text o.operand)

-- `MULcS ` or `MLAcS `
abbrev pub multiply_head : Condition → Multiply → List ℕ
multiply_head c m =
    choose_text m.accumulates (codes "MLA") (codes "MUL")
    ++ (condition_text c ++ (text_if m.sets_flags (codes "S") ++ codes " "))

-- `Rd,Rm,Rs`, and of MLA `,Rn`
abbrev pub multiply_operands : Multiply → List ℕ
multiply_operands m =
    register_text m.rd ++ (codes "," ++ (register_text m.rm ++ (codes "," ++ (register_text m.rs ++
    (text_if m.accumulates (codes ",") ++ text_if m.accumulates (register_text m.rn))))))

abbrev pub multiply_text : Condition → Multiply → List ℕ
multiply_text c m = multiply_head c m ++ multiply_operands m

-- where a branch goes: the address plus 8 and the signed number of words, modulo 2^26
abbrev pub branch_target : ℕ → ℕ → ℕ
branch_target address distance = (address + 8 + 4 * distance) % 2 ^ 26

abbrev pub branch_text : Condition → Bool → ℕ → List ℕ
branch_text c links target = choose_text links (codes "BL") (codes "B")
    ++ (condition_text c ++ (codes " " ++ number_text target))

abbrev pub swi_text : Condition → ℕ → List ℕ
swi_text c number = codes "SWI" ++ (condition_text c ++ (codes " " ++ number_text number))

abbrev pub action_text : ℕ → Condition → Action → List ℕ
action_text address c (action.Operate o) = operate_text c o
action_text address c (action.Multiply m) = multiply_text c m
action_text address c (action.Transfer t) = transfer_text c t
action_text address c (action.BlockTransfer b) = block_transfer_text c b
action_text address c (action.Branch links distance) = branch_text c links (branch_target address distance)
action_text address c (action.SoftwareInterrupt number) = swi_text c number

-- a word that is no instruction, as a word of data
abbrev pub data_text : ℕ → List ℕ
data_text word = codes "DCD &" ++ hex_word word

abbrev pub text_or_data : ℕ → ℕ → Result (Condition × Action) Fault → List ℕ
text_or_data word address (Ok i) = action_text address i.0 i.1
text_or_data word address (Err f) = data_text word

unfoldable pub print : ℕ → ℕ → List ℕ
print word address = text_or_data word address (instruction_of_word word)
