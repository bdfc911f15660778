-- What a stub does is a step.
use Rattle.std.proofs.lemmas.Bool.{cases_Bool, eqb-true}
use Rattle.std.proofs.lemmas.List.{drop_more}
use Rattle.std.proofs.Common.{◌≡◌, ℕ, ◌+◌, ◌-◌, ◌<◌, drop, get_or, length, Bool, true, false, List, [], ◌∷◌, Option, Some, None, Result, Ok, Err, if◌then◌else◌, refl, sym, ap, ◌∙◌, inl, inr}
use Rattle.std.specs.Prelude.{◌==◌, is_some}
use Rattle.std.specs.Option.{option_map}
use Rattle.address_map.specs.Bytes.{ok_unless_fault, word_loaded}
use Rattle.profile.specs.images.Entries.{Entry}
use Rattle.command_shell.specs.Store.{owned_in}
use Rattle.profile.specs.Outcome.{Leaves}
use Rattle.profile.specs.Fault.{Fault}
use Rattle.profile.specs.declared.stop.Stop.{Stop}
use Rattle.command_shell.specs.MachineState.{MachineState, silent, stop_of}
use Rattle.command_shell.specs.ArmCorePsr.{Psr}
use Rattle.command_shell.specs.Run.{count_after}
use Rattle.command_shell.specs.Step.{machine_step, result_of_instruction}
use Rattle.command_shell.specs.Writes.{machine_at, machine_with_bank_register, machine_with_status}
use Rattle.command_shell.specs.Halt.{Halt}
use Rattle.command_shell.specs.Calls.{step_made}
use Rattle.command_shell.specs.Memory.{script_at, script_with_bank_register, script_with_budget, script_with_machine, script_with_status}
use Rattle.command_shell.specs.State.{ScriptState}
use Rattle.command_shell.specs.Stub.{Stub}
use Rattle.debug_tables.specs.byte_writes.Put.{bytes_fit, put_fault, script_after_put, script_with_bytes}
use Rattle.debug_tables.specs.Stubs.{StubDeedState, deed_ahead, deed_next, deed_of_swi, deed_that_fits, deed_unless_empty, deed_unless_fetched, deed_unless_halted, is_known_swi, machine_after_deed, machine_after_put, machine_with_settings, script_after_deed, script_or, script_with_settings, step_or_deed, stub_end, stub_numbered, stub_unless_known, stubbed_step, swi_in_turn, swi_next}
use Rattle.debug_tables.specs.declared.stub_deeds.BankSetting.{BankSetting}
use Rattle.debug_tables.proofs.AheadLemmas.{swi_of_step}

-- A SCRIPT AFTER IT

-- what is left of a deed once its bytes are written, in a script and in its machine
settings_end : (xs : List BankSetting) (status : Psr) (next : ℕ) (s : ScriptState)
    → script_at (script_with_status (script_with_settings xs s) status) next
    ≡ script_with_machine s (machine_at (machine_with_status (machine_with_settings xs s.machine) status) next)
settings_end [] status next s = refl
settings_end (x ∷ xs) status next s =
    settings_end xs status next (script_with_bank_register s x.mode x.register x.value)

pub settings_halt : (xs : List BankSetting) (m : MachineState) → (machine_with_settings xs m).halt ≡ m.halt
settings_halt [] m = refl
settings_halt (x ∷ xs) m = settings_halt xs (machine_with_bank_register m x.mode x.register x.value)

put_end : (s : ScriptState) (deed : StubDeedState) (at byte : ℕ) (bytes : List ℕ) (o : Option Fault)
    → put_fault s.machine.store at (length (byte ∷ bytes)) ≡ o
    → script_at (script_with_status (script_with_settings deed.settings
    (script_or s (ok_unless_fault (put_fault s.machine.store at (length (byte ∷ bytes))) (script_with_bytes s at (byte ∷ bytes)))))
    deed.status) deed.next
    ≡ script_with_machine s (machine_at (machine_with_status (machine_with_settings deed.settings
    (machine_after_put s.machine at (byte ∷ bytes))) deed.status) deed.next)
put_end s deed at byte bytes None is =
    rw is (settings_end deed.settings deed.status deed.next (script_with_bytes s at (byte ∷ bytes)))
put_end s deed at byte bytes (Some fault) is =
    rw is (settings_end deed.settings deed.status deed.next s)

put_by : (s : ScriptState) (deed : StubDeedState) (bytes : List ℕ)
    → script_at (script_with_status (script_with_settings deed.settings (script_or s (script_after_put s deed.at bytes)))
    deed.status) deed.next
    ≡ script_with_machine s (machine_at (machine_with_status (machine_with_settings deed.settings
    (machine_after_put s.machine deed.at bytes)) deed.status) deed.next)
put_by s deed [] = settings_end deed.settings deed.status deed.next s
put_by s deed (byte ∷ bytes) =
    put_end s deed deed.at byte bytes (put_fault s.machine.store deed.at (length (byte ∷ bytes))) refl

put_halt_if : (fits : Bool) (t m : MachineState) → t.halt ≡ m.halt → (if fits then t else m).halt ≡ m.halt
put_halt_if true t m same = same
put_halt_if false t m same = refl

pub put_halt : (m : MachineState) (at : ℕ) (bytes : List ℕ) → (machine_after_put m at bytes).halt ≡ m.halt
put_halt m at [] = refl
put_halt m at (byte ∷ bytes) = put_halt_if (bytes_fit m.store at (byte ∷ bytes)) _ m refl

pub deed_is_step : (deed : StubDeedState) (s : ScriptState) → s.machine.halt ≡ None
    → script_after_deed deed s ≡ step_made s (silent (machine_after_deed deed s.machine))
deed_is_step deed s unhalted =
    let after : MachineState = machine_after_put s.machine deed.at deed.bytes in
    let halt : (machine_with_settings deed.settings after).halt ≡ None =
    settings_halt deed.settings after ∙ put_halt s.machine deed.at deed.bytes ∙ unhalted in
    put_by (script_with_budget s (s.left - 1)) deed deed.bytes
    ∙ ap (λ (o : Option Halt). script_with_machine (script_with_budget s (s.left - count_after o)) (machine_after_deed deed s.machine))
    (sym halt)

-- what a write of bytes left
pub put_left : {U : Type 0} (s now : ScriptState) (o : Result ScriptState Fault) (result : Result U Fault)
    → Leaves s o result now → now ≡ script_or s o
put_left s now (Ok after) (Ok u) leaves = leaves
put_left s now (Ok after) (Err f) leaves = absurd leaves
put_left s now (Err fault) (Ok u) leaves = absurd leaves
put_left s now (Err fault) (Err f) leaves = leaves.1

-- THE NEXT STEP

pub deed_steps : (stubs : List Stub) (images : List Entry) (m : MachineState) (deed : StubDeedState) → deed_ahead stubs m ≡ Some deed
    → stubbed_step stubs images m ≡ silent (machine_after_deed deed m)
deed_steps stubs images m deed is = ap (step_or_deed images m) is

pub real_steps : (stubs : List Stub) (images : List Entry) (m : MachineState) → deed_ahead stubs m ≡ None
    → stubbed_step stubs images m ≡ machine_step images m
real_steps stubs images m is = ap (step_or_deed images m) is

unhalted_by : (stubs : List Stub) (o : Option Halt) (next : Option StubDeedState) (deed : StubDeedState)
    → deed_unless_empty stubs (deed_unless_halted o next) ≡ Some deed → o ≡ None
unhalted_by [] o next deed is = absurd (cc)
unhalted_by (stub ∷ others) None next deed is = refl
unhalted_by (stub ∷ others) (Some halt) next deed is = absurd (cc)

pub stub_unhalted : (stubs : List Stub) (m : MachineState) (deed : StubDeedState) → deed_ahead stubs m ≡ Some deed → m.halt ≡ None
stub_unhalted stubs m deed is = unhalted_by stubs m.halt (deed_that_fits m (deed_next stubs m)) deed is

-- where there is no stub, none is met
pub no_stub : (m : MachineState) → deed_ahead [] m ≡ None
no_stub m = refl

pub none_met : (stubs : List Stub) (m : MachineState) → stubs ≡ [] → None ≡ deed_ahead stubs m
none_met stubs m none = sym (ap (λ (xs : List Stub). deed_ahead xs m) none)

-- nor in a machine that is halted
halted_by : (stubs : List Stub) (o : Option Halt) (stop : Option Stop) (next : Option StubDeedState) → stop ≡ option_map stop_of o
    → is_some stop ≡ true → None ≡ deed_unless_empty stubs (deed_unless_halted o next)
halted_by [] o stop next is halted = refl
halted_by (stub ∷ others) (Some halt) stop next is halted = refl
halted_by (stub ∷ others) None None next is halted = absurd (cc)
halted_by (stub ∷ others) None (Some s) next is halted = absurd (cc)

pub halted_none : (stubs : List Stub) (m : MachineState) (stop : Option Stop) → stop ≡ option_map stop_of m.halt
    → is_some stop ≡ true → None ≡ deed_ahead stubs m
halted_none stubs m stop is halted = halted_by stubs m.halt stop (deed_that_fits m (deed_next stubs m)) is halted

running_by : (stubs : List Stub) (o : Option Halt) (stop : Option Stop) (next : Option StubDeedState) → (stubs ≡ [] → ⊥)
    → stop ≡ option_map stop_of o → is_some stop ≡ false → next ≡ deed_unless_empty stubs (deed_unless_halted o next)
running_by [] o stop next some is runs = absurd (some refl)
running_by (stub ∷ others) None stop next some is runs = refl
running_by (stub ∷ others) (Some halt) None next some is runs = absurd (cc)
running_by (stub ∷ others) (Some halt) (Some s) next some is runs = absurd (cc)

-- else it is what fits of the next step
pub ahead_by : (stubs : List Stub) (m : MachineState) (stop : Option Stop) (next : Option StubDeedState) → (stubs ≡ [] → ⊥)
    → stop ≡ option_map stop_of m.halt → is_some stop ≡ false → next ≡ deed_next stubs m
    → deed_that_fits m next ≡ deed_ahead stubs m
ahead_by stubs m stop next some is runs same =
    ap (deed_that_fits m) same ∙ running_by stubs m.halt stop (deed_that_fits m (deed_next stubs m)) some is runs

pub fitting : (m : MachineState) (deed : StubDeedState) (fits : Bool) → fits ≡ bytes_fit m.store deed.at deed.bytes
    → (if fits then Some deed else None) ≡ deed_that_fits m (Some deed)
fitting m deed fits is = ap (λ (b : Bool). if b then Some deed else None) is

-- WHAT IT MEETS

pub next_at_end : (stubs : List Stub) (m : MachineState) → (m.cpu.pc == stub_end) ≡ true
    → deed_unless_fetched m.cpu m.store.bytes (word_loaded m.store.bytes m.cpu.pc) ≡ deed_next stubs m
next_at_end stubs m at = sym (ap (λ (b : Bool). if b
    then deed_unless_fetched m.cpu m.store.bytes (word_loaded m.store.bytes m.cpu.pc)
    else deed_of_swi stubs m (swi_in_turn (result_of_instruction m))) at)

not_at_end : (m : MachineState) → (m.cpu.pc ≡ stub_end → ⊥) → (m.cpu.pc == stub_end) ≡ false
not_at_end m other = elim (cases_Bool (m.cpu.pc == stub_end)) [
  | inl at ↦ absurd (other (eqb-true m.cpu.pc stub_end at))
  | inr off ↦ off
]

pub next_by_swi : (stubs : List Stub) (m : MachineState) (swi : Option ℕ) → (m.cpu.pc ≡ stub_end → ⊥)
    → swi ≡ swi_next m.cpu m.store.bytes → deed_of_swi stubs m swi ≡ deed_next stubs m
next_by_swi stubs m swi other is =
    ap (deed_of_swi stubs m) (is ∙ sym (swi_of_step (owned_in m.store) m.cpu m.store.bytes))
    ∙ sym (ap (λ (b : Bool). if b
    then deed_unless_fetched m.cpu m.store.bytes (word_loaded m.store.bytes m.cpu.pc)
    else deed_of_swi stubs m (swi_in_turn (result_of_instruction m))) (not_at_end m other))

-- a stub of a call that the machine has is none
pub none_known : (stubs : List Stub) (m : MachineState) (number : ℕ) → is_known_swi m number ≡ true
    → stub_unless_known stubs m number ≡ None
none_known stubs m number known = ap (λ (b : Bool). if b then None else stub_numbered number stubs) known

pub numbered_unless_known : (stubs : List Stub) (m : MachineState) (number : ℕ) → is_known_swi m number ≡ false
    → stub_unless_known stubs m number ≡ stub_numbered number stubs
numbered_unless_known stubs m number other =
    ap (λ (b : Bool). if b then None else stub_numbered number stubs) other

-- one register more is set
pub next_set : (xs : List BankSetting) (i : ℕ) (x : BankSetting) (s : ScriptState) → i < length xs → x ≡ get_or xs i x
    → script_with_settings (drop i xs) s
    ≡ script_with_settings (drop (i + 1) xs) (script_with_bank_register s x.mode x.register x.value)
next_set xs i x s within is =
    ap (λ (ys : List BankSetting). script_with_settings ys s) (drop_more xs i x within)
    ∙ ap (λ (y : BankSetting). script_with_settings (drop (i + 1) xs) (script_with_bank_register s y.mode y.register y.value)) (sym is)
