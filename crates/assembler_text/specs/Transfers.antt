-- The addresses of LDR and STR, and the register lists of LDM and STM, as text (ARM2 data sheet,
-- "Single data transfer" and "Block data transfer", "Assembler syntax").
use Rattle.std.specs.Prelude.{ℕ, Bool, false, ◌-◌, ◌&&◌, ◌==◌, not, List, [], ◌∷◌, ◌++◌, codes, filter, if◌then◌else◌}
use Rattle.std.specs.List.{range_with_len}
use Rattle.arm_decode.specs.Word.{bit_of}
use Rattle.arm_decode.specs.Names.{is_up}
use Rattle.arm_decode.specs.declared.action.BlockTransfer.{BlockTransfer}
use Rattle.arm_decode.specs.declared.action.Transfer.{Transfer}
use Rattle.arm_decode.specs.declared.address.Address.{Address}
use Rattle.arm_decode.specs.declared.address.Direction.{Direction}
use Rattle.arm_decode.specs.declared.address.Indexing.{Indexing}
use Rattle.arm_decode.specs.declared.address.Indexing.TheVariants.{Post, Pre}
use Rattle.arm_decode.specs.declared.address.Offset.{Offset}
use Rattle.arm_decode.specs.declared.address.Offset.TheVariants as offset
use Rattle.arm_decode.specs.declared.condition.Condition.{Condition}
use Rattle.assembler_text.specs.Names.{block_mode_text, choose_text, condition_text, register_text, text_if}
use Rattle.assembler_text.specs.Numbers.{number_text}
use Rattle.assembler_text.specs.Operands.{shifted_text}

-- a minus where the offset is taken from the base
abbrev pub sign_text : Direction → List ℕ
sign_text d = text_if (not (is_up d)) (codes "-")

-- `#v`, `#-v`, `Rm` or `-Rm`, Rm with its shift
abbrev pub offset_text : Direction → Offset → List ℕ
offset_text d (offset.Immediate number) = codes "#" ++ (sign_text d ++ number_text number)
offset_text d (offset.Shifted s) = sign_text d ++ shifted_text s

-- an offset of +0, which isn't printed before `]`
abbrev pub is_nothing : Direction → Offset → Bool
is_nothing d (offset.Immediate number) = is_up d && (number == 0)
is_nothing d (offset.Shifted s) = false

-- `[Rn` and what follows it
abbrev pub base_text : ℕ → List ℕ → List ℕ
base_text rn after = codes "[" ++ (register_text rn ++ after)

-- `]`, with `!` where the address is written back
abbrev pub close_text : Bool → List ℕ
close_text writes_back = codes "]" ++ text_if writes_back (codes "!")

-- `[Rn]`, `[Rn,offset]`, `[Rn,offset]!`
abbrev pub before_text : Bool → Address → List ℕ
before_text writes_back a =
    if not writes_back && is_nothing a.direction a.offset
    then base_text a.rn (codes "]")
    else base_text a.rn (codes ",") ++ (offset_text a.direction a.offset ++ close_text writes_back)

-- `[Rn],offset`
abbrev pub after_text : Address → List ℕ
after_text a = base_text a.rn (codes "],") ++ offset_text a.direction a.offset

abbrev pub indexed_text : Indexing → Address → List ℕ
indexed_text (Pre writes_back) a = before_text writes_back a
indexed_text (Post user) a = after_text a

abbrev pub operand_address_text : Address → List ℕ
operand_address_text a = indexed_text a.indexing a

-- T: the transfer is one of user mode
abbrev pub is_user : Indexing → Bool
is_user (Pre writes_back) = false
is_user (Post user) = user

-- `LDRcBT Rd,`
abbrev pub transfer_head : Condition → Transfer → List ℕ
transfer_head c t =
    choose_text t.loads (codes "LDR") (codes "STR") ++ (condition_text c ++ (text_if t.is_byte (codes "B") ++
    (text_if (is_user t.address.indexing) (codes "T") ++ (codes " " ++ (register_text t.rd ++ codes ",")))))

abbrev pub transfer_text : Condition → Transfer → List ℕ
transfer_text c t = transfer_head c t ++ operand_address_text t.address

-- the registers of a list from the n-th on
abbrev pub listed_from : ℕ → ℕ → List ℕ
listed_from list n = filter (bit_of list) (range_with_len n (16 - n))

-- the names of registers, a comma before each but the first
abbrev pub register_names_text : List ℕ → List ℕ → List ℕ
register_names_text before [] = []
register_names_text before (n ∷ ns) = before ++ (register_text n ++ register_names_text (codes ",") ns)

unfoldable pub listed_text : ℕ → List ℕ
listed_text list = register_names_text [] (listed_from list 0)

-- what one register adds to the list's text
abbrev pub listed_piece : ℕ → ℕ → Bool → List ℕ
listed_piece list n is_first = if bit_of list n then text_if (not is_first) (codes ",") ++ register_text n
    else []

-- `LDMcIA Rn!,`
abbrev pub block_head : Condition → BlockTransfer → List ℕ
block_head c b =
    choose_text b.loads (codes "LDM") (codes "STM") ++ (condition_text c
    ++ (block_mode_text b.mode ++ (codes " " ++
    (register_text b.rn ++ (text_if b.writes_back (codes "!") ++ codes ",")))))

-- `{R0,R1}^`
abbrev pub braces_text : BlockTransfer → List ℕ
braces_text b = codes "{" ++ (listed_text b.list ++ (codes "}" ++ text_if b.psr_or_user (codes "^")))

abbrev pub block_transfer_text : Condition → BlockTransfer → List ℕ
block_transfer_text c b = block_head c b ++ braces_text b
