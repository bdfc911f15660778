-- A line of a script that takes no steps reads nothing of the budget, and leaves it.
use Rattle.std.proofs.Common.{◌≡◌, ℕ, false, List, Option, Some, None, Result, Ok, Err, refl}
use Rattle.std.specs.Prelude.{codes}
use Rattle.debug_tables.specs.Passes.{means_lines}
use Rattle.debug_tables.specs.AsmError.{AsmError}
use Rattle.debug_modules.specs.Flex.{flex_text}
use Rattle.debug_modules.specs.Heap.{heap_blocks_text}
use Rattle.debug_tables.specs.Boot.{machine_after_boot}
use Rattle.debug_tables.specs.BootError.{BootError}
use Rattle.arm_core.specs.breaks.Breaks.{with_break, without_break}
use Rattle.arm_core.specs.declared.breaks.breaks.BreakError.{BreakError}
use Rattle.profile.specs.images.Entries.{bytes_of_image, refusal_for}
use Rattle.profile.specs.declared.images.error.ImageError.{ImageError}
use Rattle.profile.specs.Fault.{Fault}
use Rattle.debug_tables.specs.MachineState.{MachineState}
use Rattle.debug_tables.specs.Writes.{machine_after_poke}
use Rattle.debug_tables.specs.Answers.{break_text, unbreak_text}
use Rattle.debug_tables.specs.Images.{asm_block, boot_done, boot_found, hex_block, image_added, image_opened}
use Rattle.debug_tables.specs.Memory.{poke_done, script_with_budget}
use Rattle.debug_tables.specs.Script.{request_answer}
use Rattle.debug_tables.specs.State.{Answered, ScriptState}
use Rattle.debug_tables.specs.Stepping.{breaks_changed}
use Rattle.debug_tables.specs.Views.{flex_answer, heap_answer, shown_or}
use Rattle.command_shell_lines.specs.Blocks.{block_bytes}
use Rattle.command_shell_lines.specs.Requests.{Request, Nothing, Hex, Asm, Boot, Run, Regs, Set, Poke, Call, Load, Step, Break, Unbreak, Mem, Code, Heap, Areas, Modules, Flex, Unknown}
use Rattle.debug_lines.specs.LineKinds.{takes_steps}

-- an answer, and the same with another budget
pub record IsUnread (s : ScriptState) (b : ℕ) (reported other : Answered) : Type 0 where
  pub text : other.text ≡ reported.text
  pub state : other.state ≡ script_with_budget reported.state b
  pub left : reported.state.left ≡ s.left

added : (s : ScriptState) (b : ℕ) (word name bytes : List ℕ) (o : Option ImageError)
    → IsUnread s b (image_added s word name bytes o) (image_added (script_with_budget s b) word name bytes o)
added s b word name bytes None = record { text = refl; state = refl; left = refl }
added s b word name bytes (Some error) = record { text = refl; state = refl; left = refl }

opened : (s : ScriptState) (b : ℕ) (word name : List ℕ) (meant other : Answered) (o : Option ImageError)
    → IsUnread s b meant other
    → IsUnread s b (image_opened s word name meant o) (image_opened (script_with_budget s b) word name other o)
opened s b word name meant other None same = same
opened s b word name meant other (Some error) same = record { text = refl; state = refl; left = refl }

hex : (s : ScriptState) (b : ℕ) (name : List ℕ) (r : Result (List ℕ) ℕ)
    → IsUnread s b (hex_block s name r) (hex_block (script_with_budget s b) name r)
hex s b name (Err line) = record { text = refl; state = refl; left = refl }
hex s b name (Ok bytes) = added s b (codes "hex ") name bytes (refusal_for s.images name _)

asm : (s : ScriptState) (b : ℕ) (name : List ℕ) (r : Result (List ℕ) AsmError)
    → IsUnread s b (asm_block s name r) (asm_block (script_with_budget s b) name r)
asm s b name (Err e) = record { text = refl; state = refl; left = refl }
asm s b name (Ok bytes) = added s b (codes "asm ") name bytes (refusal_for s.images name _)

boot_made : (s : ScriptState) (b : ℕ) (name : List ℕ) (r : Result MachineState BootError)
    → IsUnread s b (boot_done s name r) (boot_done (script_with_budget s b) name r)
boot_made s b name (Ok machine) = record { text = refl; state = refl; left = refl }
boot_made s b name (Err error) = record { text = refl; state = refl; left = refl }

boot : (s : ScriptState) (b : ℕ) (name : List ℕ) (o : Option (List ℕ))
    → IsUnread s b (boot_found s name o) (boot_found (script_with_budget s b) name o)
boot s b name None = record { text = refl; state = refl; left = refl }
boot s b name (Some program) = boot_made s b name (machine_after_boot s.sizes s.is_fresh s.machine program)

poke : (s : ScriptState) (b : ℕ) (r : Result MachineState Fault)
    → IsUnread s b (poke_done s r) (poke_done (script_with_budget s b) r)
poke s b (Ok machine) = record { text = refl; state = refl; left = refl }
poke s b (Err fault) = record { text = refl; state = refl; left = refl }

breaks : (s : ScriptState) (b : ℕ) (text : List ℕ) (r : Result (List ℕ) BreakError)
    → IsUnread s b (breaks_changed s text r) (breaks_changed (script_with_budget s b) text r)
breaks s b text (Ok to) = record { text = refl; state = refl; left = refl }
breaks s b text (Err error) = record { text = refl; state = refl; left = refl }

shown : (s : ScriptState) (b : ℕ) (refusal : List ℕ) (o : Option (List ℕ))
    → IsUnread s b (shown_or s refusal o) (shown_or (script_with_budget s b) refusal o)
shown s b refusal None = record { text = refl; state = refl; left = refl }
shown s b refusal (Some text) = record { text = refl; state = refl; left = refl }

heap : (s : ScriptState) (b address : ℕ) → IsUnread s b (heap_answer s address) (heap_answer (script_with_budget s b) address)
unfolding heap_answer
heap s b address = shown s b (codes "NoHeap") (heap_blocks_text s.machine.store address)

flex : (s : ScriptState) (b : ℕ) → IsUnread s b (flex_answer s) (flex_answer (script_with_budget s b))
unfolding flex_answer
flex s b = shown s b (codes "NoFlex") (flex_text s.machine.store.bytes s.machine.tables.flex)

pub budget_unread : (s : ScriptState) (b number : ℕ) (r : Request) (block : List (List ℕ)) → takes_steps r ≡ false
    → IsUnread s b (request_answer s number r block) (request_answer (script_with_budget s b) number r block)
budget_unread s b number (Hex name) block none =
    opened s b (codes "hex ") name _ _ (refusal_for s.images name 0) (hex s b name (block_bytes 0 block))
budget_unread s b number (Asm name origin) block none =
    opened s b (codes "asm ") name _ _ (refusal_for s.images name 0) (asm s b name (means_lines block origin))
budget_unread s b number Nothing block none = record { text = refl; state = refl; left = refl }
budget_unread s b number (Boot name) block none = boot s b name (bytes_of_image s.images name)
budget_unread s b number Run block none = absurd (cc)
budget_unread s b number Regs block none = record { text = refl; state = refl; left = refl }
budget_unread s b number (Set register value) block none = record { text = refl; state = refl; left = refl }
budget_unread s b number (Poke address value) block none = poke s b (machine_after_poke s.machine address value)
budget_unread s b number (Call called) block none = absurd (cc)
budget_unread s b number (Load text) block none = absurd (cc)
budget_unread s b number (Step count) block none = absurd (cc)
budget_unread s b number (Break address) block none = breaks s b (break_text address) (with_break s.breaks address)
budget_unread s b number (Unbreak address) block none = breaks s b (unbreak_text address) (without_break s.breaks address)
budget_unread s b number (Mem address count) block none = record { text = refl; state = refl; left = refl }
budget_unread s b number (Code address count) block none = record { text = refl; state = refl; left = refl }
budget_unread s b number (Heap address) block none = heap s b address
budget_unread s b number Areas block none = record { text = refl; state = refl; left = refl }
budget_unread s b number Modules block none = record { text = refl; state = refl; left = refl }
budget_unread s b number Flex block none = flex s b
budget_unread s b number Unknown block none = record { text = refl; state = refl; left = refl }
