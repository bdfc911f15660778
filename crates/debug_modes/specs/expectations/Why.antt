-- The error block that R0 leads to: the number in its first word, and behind that the message, up to the
-- zero behind it or to where no memory is mapped, of 252 bytes at most (RISC OS 3 Programmer's Reference Manual, "Generating and handling
-- errors"). V is set after an error.
use Rattle.std.specs.Prelude.{ℕ, zero, suc, ◌==◌, ◌&&◌, ◌++◌, List, [], ◌∷◌, codes, Result, Ok, Err, if◌then◌else◌}
use Rattle.std.specs.Fmt.{decimal}
use Rattle.std.specs.List.{starts_with}
use Rattle.profile.specs.Digits.{hex_number}
use Rattle.profile.specs.Fault.{Fault}
use Rattle.address_map.specs.Bytes.{Bytes, byte_loaded, word_loaded}
use Rattle.arm_core.specs.State.{State, register_of}
use Rattle.profile.specs.Sums.{address_further}
use Rattle.command_shell.specs.MachineState.{MachineState}
use Rattle.debug_modes.specs.declared.modes.DebugModes.{DebugModes}
use Rattle.debug_modes.specs.expectations.Dump.{character_of}

abbrev pub loaded_or_zero : Result ℕ Fault → ℕ
loaded_or_zero (Ok byte) = byte
loaded_or_zero (Err fault) = 0

-- a message's byte, and what follows it; a zero ends the message
abbrev pub message_from : ℕ → List ℕ → List ℕ
message_from byte more = if byte == 0 then [] else (character_of byte ∷ []) ++ more

unfoldable pub message_text : ℕ → Bytes → ℕ → List ℕ
message_text zero b address = []
message_text (suc left) b address =
    message_from (loaded_or_zero (byte_loaded b address)) (message_text left b (address_further address 1))

-- `error 9 &9 HeapNoRoom`
abbrev pub error_line : Bytes → ℕ → ℕ → List ℕ
error_line b number message = codes "error " ++ (decimal number
    ++ (codes " &" ++ (hex_number number ++ (codes " " ++ (message_text 252 b message ++ codes "\n")))))

abbrev pub error_line_of : Bytes → ℕ → Result ℕ Fault → List ℕ
error_line_of b block (Ok number) = error_line b number (address_further block 4)
error_line_of b block (Err fault) = codes "no error block at R0\n"

abbrev pub why_text : State → Bytes → List ℕ
why_text cpu b =
    if cpu.psr.overflow then error_line_of b (register_of cpu 0) (word_loaded b (register_of cpu 0)) else
    codes "no error: V is clear\n"

-- While WHY is on, that stands below a line that ended with `error 9`.
abbrev pub why_below : DebugModes → MachineState → List ℕ → List ℕ
why_below m s ending = if m.is_explaining && starts_with (λ a b. a == b) ending (codes "error ")
    then why_text s.cpu s.store.bytes else []
