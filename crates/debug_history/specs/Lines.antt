-- The lines of a debugging script that go back, or look into the past.
use Rattle.std.specs.Prelude.{ℕ, ◌&&◌, ◌^◌, ◌-◌, ◌∷◌, drop, take, List, [], codes, Option, Some, None, if◌then◌else◌}
use Rattle.std.specs.Option.{option_map}
use Rattle.arm_core.specs.declared.psr.Mode.{Mode}
use Rattle.command_shell_lines.specs.Numbers.{script_number}
use Rattle.command_shell_lines.specs.Operands.{count_up_to, origin_of, word_address}
use Rattle.command_shell_lines.specs.Requests.{is_same_word, words}
use Rattle.debug_lines.specs.Registers.{banked_register_named, register_of_name}
use Rattle.debug_history.specs.declared.lines.PastCommand.{PastCommand}
use Rattle.debug_history.specs.declared.lines.PastCommand.TheVariants.{Back, BackTo, BackUntil, Last, Undo, When}
use Rattle.debug_history.specs.declared.search.Sought.{Sought}
use Rattle.debug_history.specs.declared.search.Sought.TheVariants as sought

-- `BACK` is `BACK 1`.
abbrev pub past_line_of_word : List ℕ → Option PastCommand
past_line_of_word word =
    if is_same_word word (codes "BACK") then Some (Back 1) else (
    if is_same_word word (codes "UNDO") then Some Undo else (
    if is_same_word word (codes "WHEN") then Some When else
    None))

-- `BACK n`
abbrev pub past_line_of_two : List ℕ → List ℕ → Option PastCommand
past_line_of_two word count = if is_same_word word (codes "BACK")
    then option_map Back (count_up_to (2 ^ 32 - 1) count) else None

-- a register of the present mode by its name, one of a mode's bank, or the address of a word
abbrev pub sought_in : Mode → Option ℕ → Option (Mode × ℕ) → Option ℕ → Option Sought
sought_in mode (Some number) banked address = Some (sought.Register mode number)
sought_in mode None (Some (bank, number)) address = Some (sought.Banked bank number)
sought_in mode None None address = option_map sought.Word address

unfoldable pub sought_place : Mode → List ℕ → Option Sought
sought_place mode word = sought_in mode (register_of_name word) (banked_register_named word) (word_address word)

-- the same, or `FLAGS`
abbrev pub sought_named : Mode → List ℕ → Option Sought
sought_named mode word = if is_same_word word (codes "FLAGS") then Some sought.Status
    else sought_place mode word

-- `CHANGE x`, `CLAIM a`, `FREE a`
abbrev pub sought_by : Mode → List ℕ → List ℕ → Option Sought
sought_by mode word place =
    if is_same_word word (codes "CHANGE") then sought_named mode place else (
    if is_same_word word (codes "CLAIM") then option_map sought.Claimed (script_number place) else (
    if is_same_word word (codes "FREE") then option_map sought.Freed (script_number place) else
    None))

-- `BACK TO n`, `BACK UNTIL a`, `LAST CHANGE x`, `LAST CLAIM a`, `LAST FREE a`
abbrev pub past_line_of_three : Mode → List ℕ → List ℕ → List ℕ → Option PastCommand
past_line_of_three mode word second third =
    if is_same_word word (codes "BACK") && is_same_word second (codes "TO")
    then option_map BackTo (script_number third) else (
    if is_same_word word (codes "BACK") && is_same_word second (codes "UNTIL")
    then option_map BackUntil (origin_of third) else (
    if is_same_word word (codes "LAST") then option_map Last (sought_by mode second third) else
    None))

-- `WORD a`, `BYTE a`, `BLOCK a`
abbrev pub sought_sized : List ℕ → List ℕ → Option Sought
sought_sized size address =
    if is_same_word size (codes "WORD") then option_map sought.Word (word_address address) else (
    if is_same_word size (codes "BYTE") then option_map sought.Byte (script_number address) else (
    if is_same_word size (codes "BLOCK") then option_map sought.Block (script_number address) else
    None))

abbrev pub past_line_of_four : List ℕ → List ℕ → List ℕ → List ℕ → Option PastCommand
past_line_of_four word second third fourth =
    if is_same_word word (codes "LAST") && is_same_word second (codes "CHANGE")
    then option_map Last (sought_sized third fourth) else None

abbrev pub past_line_of : Mode → List (List ℕ) → Option PastCommand
past_line_of mode (word ∷ []) = past_line_of_word word
past_line_of mode (word ∷ count ∷ []) = past_line_of_two word count
past_line_of mode (word ∷ second ∷ third ∷ []) = past_line_of_three mode word second third
past_line_of mode (word ∷ second ∷ third ∷ fourth ∷ []) = past_line_of_four word second third fourth
past_line_of mode _ = None

-- what a tidy line asks for, where the machine is in a mode
abbrev pub past_line : Mode → List ℕ → Option PastCommand
past_line mode line = past_line_of mode (words line)

-- how many steps a line asks for that shows the last ones: `LAST STEPS n`
abbrev pub last_steps_asked : List ℕ → Option ℕ
last_steps_asked line = if is_same_word (take 11 line) (codes "LAST STEPS ") then count_up_to 1000 (drop 11 line)
    else None
