-- What a line COMMAND is to do, before anything is done: the code of the command is to be entered, or there is a
-- reason why not (RISC OS 3 Programmer's Reference Manual, volume 1, "*Commands and the CLI" and "Modules", "Help
-- and command keyword table": byte 0 of the word behind the code is how many words there must be at least, and
-- byte 2 how many there may be; error 220 has the table's text on the syntax). The names of the other reasons
-- are this project's own.
use Rattle.std.specs.Prelude.{ℕ, Bool, false, ◌%◌, ◌/◌, ◌||◌, is_some, nat_lt, List, [], ◌∷◌, ◌++◌, length, codes, Option, Some, None, Result, Ok, Err, if◌then◌else◌}
use Rattle.address_map.specs.Bytes.{Bytes}
use Rattle.debug_modes.specs.Answers.{refused_text}
use Rattle.debug_modes.specs.MachineState.{MachineState}
use Rattle.debug_listing.specs.Commands.{command_found}
use Rattle.debug_listing.specs.ImageParts.{code_place, syntax_line, text_of_image}
use Rattle.debug_listing.specs.Tails.{tail_words}
use Rattle.debug_listing.specs.declared.commands.CommandSearch.{CommandSearch}
use Rattle.debug_listing.specs.declared.commands.CommandSearch.TheVariants.{Outside, Found}
use Rattle.debug_listing.specs.declared.commands.FoundCommand.{FoundCommand}
use Rattle.debug_modules.specs.declared.entering.ModuleEntry.{ModuleEntry}
use Rattle.debug_modules.specs.declared.plans.CommandPlan.{CommandPlan}
use Rattle.debug_modules.specs.declared.plans.CommandPlan.TheVariants.{Refused, Ready}

-- where a tail stands, and how it ends
abbrev pub tail_address : ℕ
tail_address = 0x01C02300

abbrev pub tail_bytes : List ℕ → List ℕ
tail_bytes tail = tail ++ 13 ∷ []

-- R0: the tail; R1: how many words it has; R12: the private word
abbrev pub entry_of_command : FoundCommand → ℕ → Option ℕ → Result ModuleEntry (List ℕ)
entry_of_command f count (Some code) = Ok (record { code = code; r0 = tail_address; r1 = count; r12 = f.word })
entry_of_command f count None = Err (refused_text (codes "BadTable"))

abbrev pub is_outside : ℕ → ℕ → Bool
is_outside limits count = nat_lt count (limits % 256) || nat_lt (limits / 65536 % 256) count

abbrev pub plan_of_count : Bytes → FoundCommand → ℕ → Result ModuleEntry (List ℕ)
plan_of_count b f count =
    if is_outside f.entry.limits count then Err (syntax_line (text_of_image b f.image f.len f.entry.syntax))
    else entry_of_command f count (code_place f.image f.len f.entry.code)

abbrev pub found_plan : Bytes → FoundCommand → List ℕ → Result ModuleEntry (List ℕ)
found_plan b f tail = plan_of_count b f (tail_words false false tail)

abbrev pub plan_by : Bytes → List ℕ → Option CommandSearch → Result ModuleEntry (List ℕ)
plan_by b tail (Some (Found f)) = found_plan b f tail
plan_by b tail (Some Outside) = Err (refused_text (codes "BadTable"))
plan_by b tail None = Err (refused_text (codes "NoCommand"))

abbrev pub command_plan : MachineState → List ℕ → List ℕ → Result ModuleEntry (List ℕ)
command_plan s name tail =
    if is_some s.halt then Err (refused_text (codes "Halted")) else (
    if nat_lt 255 (length tail) then Err (refused_text (codes "TailTooLong")) else
    plan_by s.store.bytes tail (command_found s.store.bytes s.tables.modules name))

-- a plan as the code has it
abbrev pub command_plan_of : CommandPlan → Result ModuleEntry (List ℕ)
command_plan_of (Refused text) = Err text.items
command_plan_of (Ready e) = Ok e
