-- OS_ChangeDynamicArea: what it answers, and that without the X bit it is a fault before anything
-- moves.
use Rattle.profile.specs.MemoryMap.{error_block_start}
use Rattle.std.proofs.Common.{◌≡◌, ℕ, true, false, length, List, [], Option, Some, None, Result, Ok, Err, refl, sym, ◌∙◌, ap}
use Rattle.std.proofs.lemmas.List.{length-set}
use Rattle.std.specs.Prelude.{OnErr, option_map}
use Rattle.profile.specs.ErrorNumber.{ErrorNumber}
use Rattle.profile.specs.Fault.TheVariants.{ErrorStop}
use Rattle.profile.specs.declared.swi.SwiName.{SwiName}
use Rattle.profile.specs.declared.swi.SwiName.TheVariants as swi
use Rattle.profile.specs.ErrorNames.{error_code}
use Rattle.arm_run.specs.State.{State, register_of, slot_of, with_register}
use Rattle.swi_dispatch_plans.specs.Area.{Area}
use Rattle.swi_dispatch_plans.specs.Areas.{find_area}
use Rattle.swi_dispatch_plans.specs.Ground.{AreAreas}
use Rattle.swi_dispatch_plans.proofs.HeapCalls.{system_mapped}
use Rattle.swi_dispatch_plans.proofs.SystemPages.{change_keeps_system}
use Rattle.swi_dispatch_guest.specs.declared.halt.Halt.TheVariants as halt
use Rattle.swi_dispatch_plans.specs.Refusal.{Refusal}
use Rattle.swi_dispatch_plans.specs.Refusal.TheVariants as refusal
use Rattle.swi_dispatch_plans.specs.store.Areas.{change_asked, change_left}
use Rattle.swi_dispatch_guest.specs.Calls.{area_changing, call_answer, moving_error, with_guest}
use Rattle.swi_dispatch_guest.specs.MachineState.{MachineState, machine_area_store, outcome_with, silent}
use Rattle.swi_dispatch_guest.specs.GuestState.{Answers, IsWellFormed, GuestState, state_of}
use Rattle.swi_dispatch_guest.specs.Step.{outcome_of_answer, outcome_of_end}
use Rattle.swi_dispatch_guest.specs.Returns.{outcome_of_halt}
use Rattle.swi_dispatch_guest.proofs.ErrorNumbers.{block_read}

-- what it answers, wherever the guest goes on
abbrev Changes : MachineState → MachineState → Result (Unit {0}) Refusal → Type 0
Changes s t r = (next : ℕ) → Answers (area_changing s next) next r (silent t)

pub change_answers : (s t : MachineState) (next number : ℕ) (name : Option SwiName) (r : Result (Unit {0}) Refusal) (printed : List ℕ)
    → name ≡ Some swi.ChangeDynamicArea → Changes s t r → printed ≡ []
    → Answers (call_answer s next number name) next r (outcome_with t printed)
unfolding call_answer
change_answers s t next number name r printed is done unprinted = rw (is, unprinted) (done next)

-- where it errs something may have moved
pub errs_moving : (s t : MachineState) (name : Option SwiName) (r : Result (Unit {0}) Refusal) → name ≡ Some swi.ChangeDynamicArea
    → Changes s t r → OnErr r (moving_error s name ≡ None → t ≡ s)
errs_moving s t name (Ok u) is done = tt
errs_moving s t name (Err e) is done = λ still.
    let none : (change_asked s.cpu (machine_area_store s)).error ≡ None = sym (ap (moving_error s) is) ∙ still in
    let some : None ≡ Some e = sym (ap (option_map refusal.System) none) ∙ (done 0).error in
    absurd (let never = some in cc)

size_set : (s : State) (n v : ℕ) → length (with_register s n v).file ≡ length s.file
size_set s n v = length-set s.file (slot_of s.psr.mode n) v

abbrev after_change : MachineState → Option Area → MachineState
after_change s found = with_guest s (change_left s.cpu (machine_area_store s) found (change_asked s.cpu (machine_area_store s)).bytes)

left_mapped : (s : MachineState) (found : Option Area) → AreAreas s.store s.pool s.tables.area_table → find_area (register_of s.cpu 0) s.tables.area_table.areas ≡ found
    → (after_change s found).store.bytes.mapped error_block_start ≡ true
left_mapped s None areas e = system_mapped s.store s.pool s.tables.area_table areas error_block_start refl
left_mapped s (Some a) areas e =
    change_keeps_system s.store s.pool s.tables.area_table (register_of s.cpu 0) (register_of s.cpu 1) a error_block_start areas e refl

left_size : (s : MachineState) (found : Option Area) → length s.cpu.file ≡ 26 → length (after_change s found).cpu.file ≡ 26
left_size s None size = size
left_size s (Some a) size = size_set s.cpu 1 (change_asked s.cpu (machine_area_store s)).bytes ∙ size

pub change_stop : (s : MachineState) (next : ℕ) (e : ErrorNumber) → AreAreas s.store s.pool s.tables.area_table → length s.cpu.file ≡ 26
    → (change_asked s.cpu (machine_area_store s)).error ≡ Some e
    → outcome_of_answer s false (area_changing s next) ≡ outcome_of_halt s (halt.Fault (ErrorStop (error_code e)))
change_stop s next e areas size err =
    let left : MachineState = after_change s (find_area (register_of s.cpu 0) s.tables.area_table.areas) in
    ap (λ (o : Option ErrorNumber). outcome_of_end s false (area_changing s next) (option_map refusal.System o)) err
    ∙ ap (λ (n : ℕ). outcome_of_halt s (halt.Fault (ErrorStop n))) (block_read left s.cpu.psr next e
    (left_mapped s (find_area (register_of s.cpu 0) s.tables.area_table.areas) areas refl)
    (left_size s (find_area (register_of s.cpu 0) s.tables.area_table.areas) size))

pub moving_stop : (p : GuestState) (next number : ℕ) (name : Option SwiName) (e : ErrorNumber) → IsWellFormed p → length p.cpu.file ≡ 26
    → name ≡ Some swi.ChangeDynamicArea → (change_asked (state_of p).cpu (machine_area_store (state_of p))).error ≡ Some e
    → outcome_of_answer (state_of p) false (call_answer (state_of p) next number name) ≡ outcome_of_halt (state_of p) (halt.Fault (ErrorStop (error_code e)))
unfolding call_answer
moving_stop p next number name e well size is err = rw is (change_stop (state_of p) next e well.areas size err)
