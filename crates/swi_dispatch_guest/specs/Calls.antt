-- The store calls: what each answers, by the registers of the caller's mode, and what it leaves
-- (RISC OS 3 Programmer's Reference Manual, the chapters on character output, program environment,
-- generating and handling errors, memory management, and "OS_Heap").
use Rattle.std.specs.Prelude.{ℕ, ◌+◌, ◌%◌, ◌==◌, ◌&&◌, Option, Some, None, option_map, Result, Ok, List, [], ◌∷◌, length, if◌then◌else◌}
use Rattle.profile.specs.Outcome.{bind}
use Rattle.profile.specs.ErrorNumber.{ErrorNumber}
use Rattle.profile.specs.ErrorNumber.TheVariants.{BadString, BadPointer}
use Rattle.profile.specs.declared.swi.SwiName.{SwiName}
use Rattle.profile.specs.declared.swi.SwiName.TheVariants as swi
use Rattle.os_heap.specs.Bytes.{Bytes}
use Rattle.arm_run.specs.Mode.TheVariants.{Supervisor}
use Rattle.arm_run.specs.State.{State, register_of, with_mode}
use Rattle.os_heap.specs.Store.{Store}
use Rattle.swi_dispatch_plans.specs.Ground.{AreaStore}
use Rattle.swi_dispatch_plans.specs.ModuleState.{ModuleState}
use Rattle.swi_dispatch_plans.specs.Refusal.{Refusal}
use Rattle.swi_dispatch_plans.specs.Refusal.TheVariants as refusal
use Rattle.swi_dispatch_plans.specs.TextEnd.TheVariants as end
use Rattle.swi_dispatch_plans.specs.Strings.{ends, text_at, next_word}
use Rattle.swi_dispatch_plans.specs.flex.Calls.{FlexMemory, flex_called}
use Rattle.swi_dispatch_plans.specs.store.Areas.{area_called, area_changed, area_read, change_asked}
use Rattle.swi_dispatch_plans.specs.store.Heaps.{heap_called}
use Rattle.swi_dispatch_plans.specs.modules.Calls.{result_of_module_call}
use Rattle.swi_dispatch_guest.specs.Answers.{Answer, answer_without_error, refusal_answer, went_on, with_answer}
use Rattle.swi_dispatch_guest.specs.MachineState.{MachineState, machine_area_store, machine_module_state, silent, with_area_store, with_module_state}

abbrev pub machine_in_supervisor : MachineState → MachineState
machine_in_supervisor s = record s { cpu = with_mode s.cpu Supervisor }

-- the string to be printed that stands at an address
abbrev pub printable_at : Bytes → ℕ → Option (List ℕ)
printable_at b at = text_at (ends end.Zero) 4096 b at

-- OS_WriteS prints the text after its own instruction, and the guest goes on at the next word after
-- it.
abbrev pub wrote_text_after : MachineState → ℕ → Option (List ℕ) → Answer
wrote_text_after s next None = refusal_answer s next (refusal.System BadString)
wrote_text_after s next (Some text) = answer_without_error s text (next_word (next + length text + 1))

-- OS_Write0 prints the text that R0 points to, and R0 points past its zero then.
abbrev pub wrote_text_at : MachineState → ℕ → ℕ → Option (List ℕ) → Answer
wrote_text_at s next at None = refusal_answer s next (refusal.System BadString)
wrote_text_at s next at (Some text) = answer_without_error (with_answer s 0 (at + length text + 1)) text next

-- OS_GenerateError is always an error: that of the block that R0 points to, if there can be one.
abbrev pub generated_refusal : MachineState → ℕ → Refusal
generated_refusal s at = if at % 4 == 0 && s.store.bytes.mapped at then refusal.Own
    else refusal.System BadPointer

-- The machine with what a family of calls leaves of the parts that it acts on: the core, and the
-- store, the area store, the module state, or the store with the flex store.
abbrev pub on_store : MachineState → Result (State × Store) Refusal → Result MachineState Refusal
on_store s r = bind r (λ q. Ok (record s { cpu = q.0; store = q.1 }))

abbrev pub with_guest : MachineState → State × AreaStore → MachineState
with_guest s q = with_area_store (record s { cpu = q.0 }) q.1

abbrev pub on_area_store : MachineState → Result (State × AreaStore) Refusal → Result MachineState Refusal
on_area_store s r = bind r (λ q. Ok (with_guest s q))

abbrev pub on_module_state : MachineState → Result (State × ModuleState) Refusal → Result MachineState Refusal
on_module_state s r = bind r (λ q. Ok (with_module_state (record s { cpu = q.0 }) q.1))

abbrev pub machine_flex : MachineState → FlexMemory
machine_flex s = record { store = s.store; flex = s.tables.flex }

abbrev pub machine_with_flex : MachineState → State × FlexMemory → MachineState
machine_with_flex s q = record s {
  cpu = q.0;
  store = q.1.store;
  tables = record s.tables { flex = q.1.flex };
}

abbrev pub on_flex : MachineState → Result (State × FlexMemory) Refusal → Result MachineState Refusal
on_flex s r = bind r (λ q. Ok (machine_with_flex s q))

-- OS_ChangeDynamicArea may change something and err.
abbrev pub area_changing : MachineState → ℕ → Answer
area_changing s next = record {
  left = silent (with_guest s (area_changed s.cpu (machine_area_store s)));
  next = next;
  error = option_map refusal.System (change_asked s.cpu (machine_area_store s)).error;
}

-- the error with which a call ends after it changed something
abbrev pub moving_error : MachineState → Option SwiName → Option ErrorNumber
moving_error s (Some swi.ChangeDynamicArea) = (change_asked s.cpu (machine_area_store s)).error
moving_error s name = None

-- A call by its name and its number without the X bit; `next` is where the guest goes on. What is
-- none of the others is a flex call, or unknown.
unfoldable pub call_answer : MachineState → ℕ → ℕ → Option SwiName → Answer
call_answer s next number (Some swi.WriteC) = answer_without_error s (register_of s.cpu 0 % 256 ∷ []) next
call_answer s next number (Some swi.WriteS) = wrote_text_after s next (printable_at s.store.bytes next)
call_answer s next number (Some swi.Write0) =
    wrote_text_at s next (register_of s.cpu 0) (printable_at s.store.bytes (register_of s.cpu 0))
call_answer s next number (Some swi.NewLine) = answer_without_error s (10 ∷ 13 ∷ []) next
call_answer s next number (Some swi.EnterOs) = answer_without_error (machine_in_supervisor s) [] next
call_answer s next number (Some swi.Heap) = went_on s next (on_store s (heap_called s.cpu s.store))
call_answer s next number (Some swi.Module) = went_on s next
    (on_module_state s (result_of_module_call s.cpu (machine_module_state s)))
call_answer s next number (Some swi.ChangeDynamicArea) = area_changing s next
call_answer s next number (Some swi.ReadDynamicArea) = went_on s next
    (on_area_store s (area_read s.cpu (machine_area_store s)))
call_answer s next number (Some swi.DynamicArea) = went_on s next
    (on_area_store s (area_called s.cpu (machine_area_store s)))
call_answer s next number (Some swi.GenerateError) = refusal_answer s next
    (generated_refusal s (register_of s.cpu 0))
call_answer s next number (Some swi.WriteI) = answer_without_error s (number % 256 ∷ []) next
call_answer s next number name = went_on s next (on_flex s (flex_called s.cpu (machine_flex s) name))
