-- LDR and STR (ARM2 data sheet, "Single data transfer").
use Rattle.std.specs.Prelude.{ℕ, Bool, true, false, ◌+◌, ◌-◌, ◌*◌, ◌%◌, ◌^◌, if◌then◌else◌, Result, Ok}
use Rattle.address_map.specs.Outcome.{bind}
use Rattle.arm_decode.specs.Shifted.{rotated_right}
use Rattle.arm_core.specs.Fault.{Fault}
use Rattle.address_map.specs.Bytes.{Bytes, byte_loaded, word_loaded, byte_stored, word_stored}
use Rattle.arm_decode.specs.Refusals.{writes_base}
use Rattle.arm_decode.specs.declared.action.Transfer.{Transfer}
use Rattle.arm_decode.specs.declared.address.Address.{Address}
use Rattle.arm_decode.specs.declared.address.Direction.{Direction}
use Rattle.arm_decode.specs.declared.address.Direction.TheVariants.{Up, Down}
use Rattle.arm_decode.specs.declared.address.Indexing.{Indexing}
use Rattle.arm_decode.specs.declared.address.Indexing.TheVariants.{Pre, Post}
use Rattle.arm_decode.specs.declared.address.Offset.{Offset}
use Rattle.arm_decode.specs.declared.address.Offset.TheVariants as offset
use Rattle.arm_core.specs.State.{State}
use Rattle.arm_core.specs.Effect.{with_next_pc, plain_operand, status_operand, with_result}
use Rattle.arm_core.specs.Operand.{shifted_register}

abbrev pub offset_amount : State → Offset → ℕ
offset_amount s (offset.Immediate n) = n
offset_amount s (offset.Shifted r) = (shifted_register s r).value

abbrev pub moved_by : Direction → ℕ → ℕ → ℕ
moved_by Up base by = (base + by) % 2 ^ 32
moved_by Down base by = (2 ^ 32 + base - by) % 2 ^ 32

-- the base changed by the offset: what is written back
abbrev pub moved_base : State → Address → ℕ
moved_base s a = moved_by a.direction (plain_operand s a.rn 2) (offset_amount s a.offset)

abbrev pub address_by : Indexing → ℕ → ℕ → ℕ
address_by (Pre writes_back) base moved = moved
address_by (Post translates) base moved = base

abbrev pub transfer_address : State → Address → ℕ
transfer_address s a = address_by a.indexing (plain_operand s a.rn 2) (moved_base s a)

abbrev pub with_base : State → Address → ℕ → State
with_base s a moved = if writes_base a.indexing then with_result s a.rn moved else s

-- a word off a boundary is rotated so that the byte at the address is lowest
abbrev pub value_loaded : Bytes → Bool → ℕ → Result ℕ Fault
value_loaded b true a = byte_loaded b a
value_loaded b false a = bind (word_loaded b a) (λ w. Ok (rotated_right w (8 * (a % 4))))

-- the base is written first, so a loaded base wins
abbrev pub result_of_load : State → Bytes → Transfer → Result (State × Bytes) Fault
result_of_load s b t =
    bind (value_loaded b t.is_byte (transfer_address s t.address))
    (λ v. Ok (with_result (with_base (with_next_pc s) t.address (moved_base s t.address)) t.rd v, b))

abbrev pub value_stored : (ℕ → Bool) → Bytes → Bool → ℕ → ℕ → Result Bytes Fault
value_stored owned b true a v = byte_stored owned b a (v % 256)
value_stored owned b false a v = word_stored owned b a v

-- R15 is stored three words ahead with the status; a base that is stored has its old value
abbrev pub result_of_store : (ℕ → Bool) → State → Bytes → Transfer → Result (State × Bytes) Fault
result_of_store owned s b t =
    bind (value_stored owned b t.is_byte (transfer_address s t.address) (status_operand s.psr.mode s t.rd 3))
    (λ c. Ok (with_base (with_next_pc s) t.address (moved_base s t.address), c))

unfoldable pub result_of_transfer : (ℕ → Bool) → State → Bytes → Transfer → Result (State × Bytes) Fault
result_of_transfer owned s b t = if t.loads then result_of_load s b t else result_of_store owned s b t
