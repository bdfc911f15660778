-- The lines that look at the machine and change nothing: REGS, MEM, CODE, HEAP, AREAS, MODULES and
-- FLEX.
use Rattle.std.specs.Prelude.{ℕ, List, codes, Option, Some, None}
use Rattle.debugger.specs.Areas.{areas_text}
use Rattle.debugger.specs.Code.{code_text}
use Rattle.debugger.specs.Flex.{flex_text}
use Rattle.debugger.specs.Heap.{heap_blocks_text}
use Rattle.debugger.specs.Memory.{memory_text}
use Rattle.debugger.specs.Modules.{modules_text}
use Rattle.debugger.specs.Registers.{cpu_registers_text}
use Rattle.command_shell.specs.Answers.{refused_text}
use Rattle.command_shell.specs.State.{ScriptState, Answered, answer}

abbrev pub regs_answer : ScriptState → Answered
regs_answer s = answer s (cpu_registers_text s.machine.cpu)

abbrev pub mem_answer : ScriptState → ℕ → ℕ → Answered
mem_answer s address count = answer s (memory_text s.machine.store.bytes address count)

abbrev pub code_answer : ScriptState → ℕ → ℕ → Answered
code_answer s address count = answer s (code_text s.machine.store.bytes address count)

-- a text, or `refused` and a word where there is none
abbrev pub shown_or : ScriptState → List ℕ → Option (List ℕ) → Answered
shown_or s refusal None = answer s (refused_text refusal)
shown_or s refusal (Some text) = answer s text

-- `refused NoHeap` where no heap starts there
unfoldable pub heap_answer : ScriptState → ℕ → Answered
heap_answer s address = shown_or s (codes "NoHeap") (heap_blocks_text s.machine.store address)

abbrev pub areas_answer : ScriptState → Answered
areas_answer s = answer s (areas_text s.machine.tables.area_table.areas s.machine.pool)

abbrev pub modules_answer : ScriptState → Answered
modules_answer s = answer s (modules_text s.machine.store.bytes s.machine.tables.modules)

-- `refused NoFlex` where there is no flex store
unfoldable pub flex_answer : ScriptState → Answered
flex_answer s = shown_or s (codes "NoFlex") (flex_text s.machine.store.bytes s.machine.tables.flex)
