-- What a script does and what it is answered, line by line, over the written machine.
use Rattle.std.specs.Prelude.{ℕ, Bool, true, false, ◌+◌, List, [], ◌∷◌, ◌++◌, Option, Some, None, is_none}
use Rattle.std.specs.Str.Lines.{lines}
use Rattle.profile.specs.Sizes.{Sizes}
use Rattle.profile.specs.images.Entries.{Entry, refusal_for}
use Rattle.command_shell.specs.Answers.{unknown_text}
use Rattle.command_shell.specs.Calls.{outside_call_answer, load_answer}
use Rattle.command_shell.specs.Images.{hex_answer, asm_answer, boot_answer}
use Rattle.command_shell.specs.Memory.{set_answer, poke_answer}
use Rattle.command_shell_lines.specs.Requests.{Request, Nothing, Hex, Asm, Boot, Run, Regs, Set, Poke, Call, Load, Step, Break, Unbreak, Mem, Code, Heap, Areas, Modules, Flex, Unknown, opens_block, request_of, is_end_of_block}
use Rattle.command_shell.specs.State.{ScriptState, Answered, answer, then_answered, script_start_state}
use Rattle.command_shell.specs.Stepping.{run_answer, step_answer, break_answer, unbreak_answer}
use Rattle.command_shell.specs.Views.{regs_answer, mem_answer, code_answer, heap_answer, areas_answer, modules_answer, flex_answer}

-- A request at the line of that number; of a HEX or an ASM line, with the lines of its block.
abbrev pub request_answer : ScriptState → ℕ → Request → List (List ℕ) → Answered
request_answer s number Nothing block = answer s []
request_answer s number (Hex name) block = hex_answer s name block
request_answer s number (Asm name origin) block = asm_answer s name origin block
request_answer s number (Boot name) block = boot_answer s name
request_answer s number Run block = run_answer s
request_answer s number Regs block = regs_answer s
request_answer s number (Set register value) block = set_answer s register value
request_answer s number (Poke address value) block = poke_answer s address value
request_answer s number (Call called) block = outside_call_answer s called
request_answer s number (Load text) block = load_answer s text
request_answer s number (Step count) block = step_answer s count
request_answer s number (Break address) block = break_answer s address
request_answer s number (Unbreak address) block = unbreak_answer s address
request_answer s number (Mem address count) block = mem_answer s address count
request_answer s number (Code address count) block = code_answer s address count
request_answer s number (Heap address) block = heap_answer s address
request_answer s number Areas block = areas_answer s
request_answer s number Modules block = modules_answer s
request_answer s number Flex block = flex_answer s
request_answer s number Unknown block = answer s (unknown_text number)

-- a block whose end has not come yet: the request that opened it, the number of its line, and the
-- block's lines so far
abbrev pub takes_memory : List Entry → Request → Bool
takes_memory images (Hex name) = is_none (refusal_for images name 0)
takes_memory images (Asm name origin) = is_none (refusal_for images name 0)
takes_memory images request = false

pub record OpenBlock : Type 0 where
  pub request : Request
  pub number : ℕ
  pub block : List (List ℕ)

-- A line that opens a block is answered at the block's end; any other is answered at once.
abbrev pub on_opened : ScriptState → ℕ → Request → Bool → (ScriptState → Option OpenBlock → Answered) →
    Answered
on_opened s number request true next = next s (Some (record
    { request = request; number = number; block = [] }))
on_opened s number request false next = then_answered (request_answer s number request [])
    (λ after. next after None)

abbrev pub on_request : ScriptState → ℕ → Request → (ScriptState → Option OpenBlock → Answered) → Answered
on_request s number request next = on_opened s number request (opens_block request) next

abbrev pub answer_to_block : ScriptState → OpenBlock → Answered
answer_to_block s open_block = request_answer s open_block.number open_block.request open_block.block

abbrev pub in_block : ScriptState → OpenBlock → List ℕ → Bool → (ScriptState → Option OpenBlock → Answered) →
    Answered
in_block s open_block line true next = then_answered (answer_to_block s open_block) (λ after. next after None)
in_block s open_block line false next = next s (Some (record open_block
    { block = open_block.block ++ line ∷ [] }))

abbrev pub on_line : ScriptState → ℕ → Option OpenBlock → List ℕ → (ScriptState → Option OpenBlock → Answered)
    → Answered
on_line s number None line next = on_request s number (request_of line) next
on_line s number (Some open_block) line next = in_block s open_block line (is_end_of_block line) next

-- A block without its last line ends with the script.
abbrev pub at_the_end : ScriptState → Option OpenBlock → Answered
at_the_end s None = answer s []
at_the_end s (Some open_block) = answer_to_block s open_block

-- lines, where so many came before
unfoldable pub lines_answer : ℕ → ScriptState → Option OpenBlock → List (List ℕ) → Answered
lines_answer number s open_block [] = at_the_end s open_block
lines_answer number s open_block (line ∷ rest) =
    on_line s (number + 1) open_block line (λ after still_open. lines_answer (number + 1) after still_open
    rest)

unfoldable pub script_answer : Sizes → List Entry → ℕ → List ℕ → Answered
script_answer sizes images budget script = lines_answer 0 (script_start_state sizes images budget) None
    (lines script)
