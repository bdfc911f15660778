-- The lines that hand in an image and boot one: HEX, ASM and BOOT.
use Rattle.std.specs.Prelude.{ℕ, false, List, length, codes, Option, Some, None, Result, Ok, Err}
use Rattle.profile.specs.images.Entries.{bytes_of_image, refusal_for, with_entry}
use Rattle.profile.specs.declared.images.error.ImageError.{ImageError}
use Rattle.profile.specs.images.ErrorNames.{image_error_name}
use Rattle.debugger.specs.MachineState.{MachineState}
use Rattle.debugger.specs.Boot.{machine_after_boot}
use Rattle.debugger.specs.BootError.{BootError}
use Rattle.debugger.specs.BootError.TheVariants as boot
use Rattle.assembler.specs.ErrorNames.{reason_name}
use Rattle.assembler.specs.Passes.{means_lines}
use Rattle.assembler.specs.declared.error.AsmError.{AsmError}
use Rattle.command_shell.specs.Answers.{image_text, line_refused_text, image_refused_text, boot_text, refused_text}
use Rattle.command_shell_lines.specs.Blocks.{block_bytes}
use Rattle.command_shell.specs.State.{ScriptState, Answered, answer}

-- An image of a block, by its bytes. `word` is what its answer begins with.
abbrev pub image_added : ScriptState → List ℕ → List ℕ → List ℕ → Option ImageError → Answered
image_added s word name bytes (Some error) = answer s (image_refused_text word name (image_error_name error))
image_added s word name bytes None =
    answer (record s { images = with_entry s.images name bytes }) (image_text word name (length bytes))

abbrev pub image_sized : ScriptState → List ℕ → List ℕ → List ℕ → Answered
image_sized s word name bytes = image_added s word name bytes (refusal_for s.images name (length bytes))

-- The name and the table are tested before the block is read; where they allow it, the answer is
-- what its lines mean.
abbrev pub image_opened : ScriptState → List ℕ → List ℕ → Answered → Option ImageError → Answered
image_opened s word name meant (Some error) = answer s (image_refused_text word name (image_error_name error))
image_opened s word name meant None = meant

-- HEX: the lines, then the size.
abbrev pub hex_block : ScriptState → List ℕ → Result (List ℕ) ℕ → Answered
hex_block s name (Err line) = answer s (line_refused_text (codes "hex ") name line (codes "Syntax"))
hex_block s name (Ok bytes) = image_sized s (codes "hex ") name bytes

abbrev pub hex_answer : ScriptState → List ℕ → List (List ℕ) → Answered
hex_answer s name block =
    image_opened s (codes "hex ") name (hex_block s name (block_bytes 0 block)) (refusal_for s.images name 0)

-- ASM: likewise, with the bytes that the lines mean at the origin.
abbrev pub asm_block : ScriptState → List ℕ → Result (List ℕ) AsmError → Answered
asm_block s name (Err e) = answer s (line_refused_text (codes "asm ") name e.line (reason_name e.reason))
asm_block s name (Ok bytes) = image_sized s (codes "asm ") name bytes

abbrev pub asm_answer : ScriptState → List ℕ → ℕ → List (List ℕ) → Answered
asm_answer s name origin block =
    image_opened s (codes "asm ") name (asm_block s name (means_lines block origin))
    (refusal_for s.images name 0)

-- BOOT: the image must be there, the machine as it was made, and the image no longer than the
-- application space, in this order.
abbrev pub boot_refusal_name : BootError → List ℕ
boot_refusal_name boot.Booted = codes "Booted"
boot_refusal_name boot.TooLarge = codes "TooLarge"

abbrev pub boot_done : ScriptState → List ℕ → Result MachineState BootError → Answered
boot_done s name (Ok machine) = answer (record s { machine = machine; is_fresh = false }) (boot_text name)
boot_done s name (Err error) = answer s (refused_text (boot_refusal_name error))

abbrev pub boot_found : ScriptState → List ℕ → Option (List ℕ) → Answered
boot_found s name None = answer s (refused_text (codes "NoImage"))
boot_found s name (Some program) = boot_done s name (machine_after_boot s.sizes s.is_fresh s.machine program)

abbrev pub boot_answer : ScriptState → List ℕ → Answered
boot_answer s name = boot_found s name (bytes_of_image s.images name)
