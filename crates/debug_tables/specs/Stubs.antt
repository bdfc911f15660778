-- Stubs: what a debugger lets a SWI do that the machine doesn't have. A stub sets registers and flags and
-- stores words, and the guest goes on as after a real call; or the guest's own code is entered, as the
-- handler of a module's SWI would be (RISC OS 3 Programmer's Reference Manual, "Modules", "SWI handler
-- code"; where what must come back is kept, and where that code returns to, are this project's own).
use Rattle.std.specs.Prelude.{ℕ, Bool, true, false, ◌+◌, ◌-◌, ◌*◌, ◌/◌, ◌%◌, ◌^◌, ◌==◌, ◌&&◌, ◌||◌, nat_le, length, map, List, [], ◌∷◌, ◌++◌, Option, Some, None, is_some, Result, Ok, Err, slice_get, slice_index, if◌then◌else◌}
use Rattle.std.specs.Int.{from_bool, to_le_bytes, w32}
use Rattle.std.specs.List.{flat_map, position, remove}
use Rattle.std.specs.Option.{option_map, unwrap_or}
use Rattle.profile.specs.SwiNames.{swi_of}
use Rattle.profile.specs.Fault.{Fault}
use Rattle.profile.specs.MemoryMap.{return_gate}
use Rattle.profile.specs.Sums.{address_further}
use Rattle.profile.specs.Word.{bit_of}
use Rattle.address_map.specs.Bytes.{Bytes, with_bytes, word_loaded}
use Rattle.command_shell.specs.Conditions.{condition_holds}
use Rattle.command_shell.specs.Psr.{psr_bits, psr_of}
use Rattle.command_shell.specs.ArmCoreState.{State, register_in}
use Rattle.command_shell.specs.Mode.TheVariants.{Supervisor, User}
use Rattle.command_shell.specs.Mode.{Mode}
use Rattle.command_shell.specs.ArmCorePsr.{Psr}
use Rattle.command_shell.specs.StepEnd.{StepEnd}
use Rattle.command_shell.specs.StepEnd.TheVariants as turn
use Rattle.arm_decode.specs.Decoded.{instruction_of_word}
use Rattle.arm_decode.specs.Fields.{condition_in}
use Rattle.arm_decode.specs.declared.action.Action.{Action}
use Rattle.arm_decode.specs.declared.action.Action.TheVariants as action
use Rattle.arm_decode.specs.declared.condition.Condition.{Condition}
use Rattle.arm_decode.specs.declared.form.Form.{Form}
use Rattle.arm_decode.specs.declared.form.Form.TheVariants as form
use Rattle.profile.specs.images.Entries.{Entry}
use Rattle.command_shell.specs.Lookup.{handler_of}
use Rattle.command_shell.specs.MachineState.{MachineState, StepOutcome, silent, with_memory}
use Rattle.command_shell.specs.Step.{machine_step, result_of_instruction, without_x}
use Rattle.command_shell.specs.Writes.{machine_at, machine_with_bank_register, machine_with_status}
use Rattle.command_shell.specs.Halt.{Halt}
use Rattle.command_shell.specs.Memory.{script_at, script_with_bank_register, script_with_budget, script_with_status}
use Rattle.command_shell.specs.State.{ScriptState}
use Rattle.command_shell.specs.WordWatches.{mapped_word}
use Rattle.command_shell.specs.Stub.{Stub}
use Rattle.command_shell.specs.StubFlags.{StubFlags}
use Rattle.command_shell.specs.StubRegister.{StubRegister}
use Rattle.debug_tables.specs.byte_writes.Put.{bytes_fit, script_after_put}
use Rattle.debug_tables.specs.declared.stub_deeds.BankSetting.{BankSetting}
use Rattle.debug_tables.specs.declared.stubs.StubError.{StubError}
use Rattle.debug_tables.specs.declared.stubs.StubError.TheVariants.{Known, StubTableFull, NoStub}

-- the SWI that the next step calls, if it calls one
abbrev pub swi_in_turn : Result (State × Bytes) StepEnd → Option ℕ
swi_in_turn (Err (turn.Swi number)) = Some number
swi_in_turn _ = None

-- the same by the word that is fetched, if it isn't the gate that is next
abbrev pub swi_in_action : Action → Option ℕ
swi_in_action (action.SoftwareInterrupt number) = Some number
swi_in_action _ = None

-- whether a word of this form is a SWI
abbrev pub has_swi_form : Result Form Fault → Bool
has_swi_form (Ok form.SoftwareInterrupt) = true
has_swi_form row = false

abbrev pub swi_decoded : Result (Condition × Action) Fault → Option ℕ
swi_decoded (Ok i) = swi_in_action i.1
swi_decoded (Err fault) = None

abbrev pub swi_in_word : Psr → ℕ → Option ℕ
swi_in_word psr word =
    if condition_holds (condition_in word) psr then swi_decoded (instruction_of_word word) else None

abbrev pub swi_fetched : Psr → Result ℕ Fault → Option ℕ
swi_fetched psr (Ok word) = swi_in_word psr word
swi_fetched psr (Err fault) = None

abbrev pub swi_next : State → Bytes → Option ℕ
swi_next cpu b = if cpu.pc == return_gate then None else swi_fetched cpu.psr (word_loaded b cpu.pc)

-- whether the machine has a call of a number without its X bit: of its own, or a module's
abbrev pub is_known_swi : MachineState → ℕ → Bool
is_known_swi s number = is_some (swi_of number) || is_some (handler_of number s.tables.modules)

-- the stub of a number, if there is one
abbrev pub stub_at : List Stub → Option ℕ → Option Stub
stub_at stubs None = None
stub_at stubs (Some place) = slice_get stubs place

abbrev pub stub_place : ℕ → List Stub → Option ℕ
stub_place number stubs = position (λ (stub : Stub). stub.number == number) stubs

abbrev pub stub_numbered : ℕ → List Stub → Option Stub
stub_numbered number stubs = stub_at stubs (stub_place number stubs)

abbrev pub with_one_more : List Stub → Stub → Result (List Stub) StubError
with_one_more stubs stub = if nat_le 64 (length stubs) then Err StubTableFull else Ok (stubs ++ stub ∷ [])

-- STUB: one more, in place of the one of its number; it comes last
abbrev pub with_stub_for : List Stub → Stub → Option ℕ → Result (List Stub) StubError
with_stub_for stubs stub (Some place) = Ok (remove stubs place ++ stub ∷ [])
with_stub_for stubs stub None = with_one_more stubs stub

abbrev pub with_stub : MachineState → List Stub → Stub → Result (List Stub) StubError
with_stub s stubs stub =
    if is_known_swi s stub.number then Err Known else with_stub_for stubs stub (stub_place stub.number stubs)

-- UNSTUB: one less
abbrev pub without_stub_at : List Stub → Option ℕ → Result (List Stub) StubError
without_stub_at stubs None = Err NoStub
without_stub_at stubs (Some place) = Ok (remove stubs place)

abbrev pub without_stub : List Stub → ℕ → Result (List Stub) StubError
without_stub stubs number = without_stub_at stubs (stub_place number stubs)

-- WHAT A STUB DOES IN PLACE OF A STEP
-- Bytes are written, registers of banks are set, one after another, and then the status and the program
-- counter.

pub record StubDeedState : Type 0 where
  pub at : ℕ
  pub bytes : List ℕ
  pub settings : List BankSetting
  pub status : Psr
  pub next : ℕ

abbrev pub bank_setting : Mode → ℕ → ℕ → BankSetting
bank_setting mode register value = record { mode = mode; register = register; value = value }

-- the registers that a line names are those of the caller's mode
abbrev pub stub_settings_in : Mode → List StubRegister → List BankSetting
stub_settings_in mode registers = map (λ (r : StubRegister). bank_setting mode r.register r.value) registers

-- words as bytes
abbrev pub bytes_of_stub_words : List ℕ → List ℕ
bytes_of_stub_words words = flat_map (λ word. to_le_bytes w32 word) words

-- V is clear where the line doesn't set it
abbrev pub status_with_flags : StubFlags → Psr → Psr
status_with_flags f p = record p {
  negative = unwrap_or f.negative p.negative;
  zero = unwrap_or f.zero p.zero;
  carry = unwrap_or f.carry p.carry;
  overflow = unwrap_or f.overflow false;
}

abbrev pub next_address : State → ℕ
next_address cpu = (cpu.pc + 4) % 2 ^ 26

-- where a SWI goes back to, with the caller's status
abbrev pub word_back : State → ℕ
word_back cpu = psr_bits cpu.psr + next_address cpu

-- A stub without code: the guest goes on after the SWI, and R14 of supervisor mode is where that went back
-- to.
abbrev pub deed_of_answer : Stub → State → StubDeedState
deed_of_answer stub cpu = record {
  at = stub.at;
  bytes = bytes_of_stub_words stub.words.items;
  settings = stub_settings_in cpu.psr.mode stub.registers.items ++ bank_setting Supervisor 14 (word_back cpu) ∷ [];
  status = status_with_flags stub.flags cpu.psr;
  next = next_address cpu;
}

-- CODE OF A STUB

-- where it returns to: nothing is fetched there
abbrev pub stub_end : ℕ
stub_end = 0x3FFFFF8

-- Six words below the stack pointer of supervisor mode are kept for its return.
abbrev pub kept_at : State → ℕ
kept_at cpu = (register_in Supervisor cpu 13 + (2 ^ 32 - 24)) % 2 ^ 32

-- R10 to R12 of the caller, where the SWI goes back to, where the words are, 1 further where the SWI has
-- the X bit, and an instruction SWI OS_GenerateError (EF00002B)
abbrev pub words_kept : State → ℕ → List ℕ
words_kept cpu swi =
    register_in User cpu 10 ∷ register_in User cpu 11 ∷ register_in User cpu 12 ∷ word_back cpu
    ∷ address_further (kept_at cpu) (from_bool (bit_of swi 17)) ∷ 0xEF00002B ∷ []

abbrev pub status_in_code : Stub → State → Psr
status_in_code stub cpu = record (status_with_flags stub.flags cpu.psr) { mode = Supervisor }

-- The code is entered in supervisor mode, with V clear. R11 is the number of the SWI in its chunk of 64.
abbrev pub deed_of_entry : Stub → State → ℕ → ℕ → StubDeedState
deed_of_entry stub cpu swi entry = record {
  at = kept_at cpu;
  bytes = bytes_of_stub_words (words_kept cpu swi);
  settings = stub_settings_in cpu.psr.mode stub.registers.items ++ bank_setting User 11 (swi % 64)
      ∷ bank_setting Supervisor 13 (kept_at cpu)
      ∷ bank_setting Supervisor 14 (psr_bits (status_in_code stub cpu) + stub_end) ∷ [];
  status = status_in_code stub cpu;
  next = entry;
}

-- five words of memory, where all of them are mapped
abbrev pub word_before : Option ℕ → Option (List ℕ) → Option (List ℕ)
word_before (Some word) (Some others) = Some (word ∷ others)
word_before (Some word) None = None
word_before None others = None

abbrev pub words_found : Bytes → ℕ → Option (List ℕ)
words_found b at = word_before (mapped_word b at) (word_before (mapped_word b (address_further at 4))
    (word_before (mapped_word b (address_further at 8)) (word_before (mapped_word b (address_further at 12))
    (word_before (mapped_word b (address_further at 16)) (Some [])))))

-- N, Z, C and V as the code left them, and of the caller's status the rest
abbrev pub status_back : Psr → ℕ → Psr
status_back now back = record (psr_of back) {
  negative = now.negative;
  zero = now.zero;
  carry = now.carry;
  overflow = now.overflow;
}

-- an address of a word below 2^26
abbrev pub word_place : ℕ → ℕ
word_place address = address % 2 ^ 26 / 4 * 4

-- The code has come back. An error to a caller that takes none is one that the guest generates then.
abbrev pub deed_of_error : State → ℕ → StubDeedState
deed_of_error cpu at = record {
  at = 0;
  bytes = [];
  settings = [];
  status = cpu.psr;
  next = word_place (address_further at 20);
}

-- Else R10 to R12, the stack and R14 are as after a SWI of a module.
abbrev pub deed_of_return : State → ℕ → List ℕ → ℕ → StubDeedState
deed_of_return cpu at saved back = record {
  at = 0;
  bytes = [];
  settings = bank_setting User 10 (slice_index saved 0) ∷ bank_setting User 11 (slice_index saved 1)
      ∷ bank_setting User 12 (slice_index saved 2) ∷ bank_setting Supervisor 13 (address_further at 24) ∷ bank_setting Supervisor 14 back ∷ [];
  status = status_back cpu.psr back;
  next = word_place back;
}

-- The words say where they are: else the stack isn't as it was when the code was entered, or no code was.
abbrev pub deed_by_words : State → ℕ → Option (List ℕ) → Option StubDeedState
deed_by_words cpu at (Some (r10 ∷ r11 ∷ r12 ∷ back ∷ own ∷ [])) =
    if own - own % 2 == at then Some (if cpu.psr.overflow && own % 2 == 0 then deed_of_error cpu at
    else deed_of_return cpu at (r10 ∷ r11 ∷ r12 ∷ []) back) else None
deed_by_words cpu at words = None

abbrev pub deed_back : State → Bytes → Option StubDeedState
deed_back cpu b =
    let at : ℕ = register_in Supervisor cpu 13 in
    deed_by_words cpu at (words_found b at)

abbrev pub deed_unless_fetched : State → Bytes → Result ℕ Fault → Option StubDeedState
deed_unless_fetched cpu b (Ok word) = None
deed_unless_fetched cpu b (Err fault) = deed_back cpu b

-- THE NEXT STEP

abbrev pub deed_by_entry : Stub → State → ℕ → Option ℕ → StubDeedState
deed_by_entry stub cpu swi None = deed_of_answer stub cpu
deed_by_entry stub cpu swi (Some entry) = deed_of_entry stub cpu swi entry

abbrev pub deed_of_stub : Stub → State → ℕ → StubDeedState
deed_of_stub stub cpu swi = deed_by_entry stub cpu swi stub.entry

abbrev pub stub_unless_known : List Stub → MachineState → ℕ → Option Stub
stub_unless_known stubs s number = if is_known_swi s number then None else stub_numbered number stubs

abbrev pub deed_of_swi : List Stub → MachineState → Option ℕ → Option StubDeedState
deed_of_swi stubs s None = None
deed_of_swi stubs s (Some swi) =
    option_map (λ stub. deed_of_stub stub s.cpu swi) (stub_unless_known stubs s (without_x swi))

abbrev pub deed_next : List Stub → MachineState → Option StubDeedState
deed_next stubs s =
    if s.cpu.pc == stub_end then deed_unless_fetched s.cpu s.store.bytes (word_loaded s.store.bytes s.cpu.pc)
    else deed_of_swi stubs s (swi_in_turn (result_of_instruction s))

-- its bytes can be written
abbrev pub deed_that_fits : MachineState → Option StubDeedState → Option StubDeedState
deed_that_fits s (Some deed) = if bytes_fit s.store deed.at deed.bytes then Some deed else None
deed_that_fits s None = None

abbrev pub deed_unless_halted : Option Halt → Option StubDeedState → Option StubDeedState
deed_unless_halted (Some halt) deed = None
deed_unless_halted None deed = deed

abbrev pub deed_unless_empty : List Stub → Option StubDeedState → Option StubDeedState
deed_unless_empty [] deed = None
deed_unless_empty (stub ∷ others) deed = deed

-- what a stub does in place of the next step, if one does
abbrev pub deed_ahead : List Stub → MachineState → Option StubDeedState
deed_ahead stubs s =
    deed_unless_empty stubs (deed_unless_halted s.halt (deed_that_fits s (deed_next stubs s)))

-- THE MACHINE AFTER IT

abbrev pub machine_with_settings : List BankSetting → MachineState → MachineState
machine_with_settings [] s = s
machine_with_settings (x ∷ xs) s =
    machine_with_settings xs (machine_with_bank_register s x.mode x.register x.value)

abbrev pub machine_with_bytes : MachineState → ℕ → List ℕ → MachineState
machine_with_bytes s at bytes = record s { store = with_memory s.store (with_bytes s.store.bytes at bytes) }

abbrev pub machine_after_put : MachineState → ℕ → List ℕ → MachineState
machine_after_put s at [] = s
machine_after_put s at (byte ∷ bytes) =
    if bytes_fit s.store at (byte ∷ bytes) then machine_with_bytes s at (byte ∷ bytes) else s

abbrev pub machine_after_deed : StubDeedState → MachineState → MachineState
machine_after_deed deed s = machine_at
    (machine_with_status (machine_with_settings deed.settings
    (machine_after_put s deed.at deed.bytes)) deed.status) deed.next

abbrev pub step_or_deed : List Entry → MachineState → Option StubDeedState → StepOutcome
step_or_deed images s (Some deed) = silent (machine_after_deed deed s)
step_or_deed images s None = machine_step images s

-- a step, with stubs for SWIs that the machine doesn't have
abbrev pub stubbed_step : List Stub → List Entry → MachineState → StepOutcome
stubbed_step stubs images s = step_or_deed images s (deed_ahead stubs s)

-- the same of a script: the step is one of the budget's
abbrev pub script_with_settings : List BankSetting → ScriptState → ScriptState
script_with_settings [] s = s
script_with_settings (x ∷ xs) s =
    script_with_settings xs (script_with_bank_register s x.mode x.register x.value)

abbrev pub script_or : ScriptState → Result ScriptState Fault → ScriptState
script_or s (Ok after) = after
script_or s (Err fault) = s

abbrev pub script_after_deed : StubDeedState → ScriptState → ScriptState
script_after_deed deed s =
    let left : ScriptState = script_with_budget s (s.left - 1) in
    script_at (script_with_status (script_with_settings deed.settings
    (script_or left (script_after_put left deed.at deed.bytes))) deed.status) deed.next
