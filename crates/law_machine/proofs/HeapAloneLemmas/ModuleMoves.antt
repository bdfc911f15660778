-- Moves that call OS_Module, or in which module code comes back.
use Rattle.std.proofs.Common.{ℕ, ◌≡◌, ◌+◌, ◌%◌, ◌^◌, ◌||◌, ◌∙◌, Bool, true, List, Option, Some, None, Result, Ok, Err, sym, subst, inl, inr}
use Rattle.std.specs.Prelude.{if◌then◌else◌}
use Rattle.std.proofs.lemmas.Bool.{false≢true, or_cases}
use Rattle.profile.specs.SwiNames.{swi_of}
use Rattle.profile.specs.Word.{bit_of}
use Rattle.profile.specs.declared.swi.SwiName.{SwiName}
use Rattle.profile.specs.declared.swi.SwiName.TheVariants as swi
use Rattle.address_map.specs.Bytes.{Bytes}
use Rattle.arm_core.specs.State.{State}
use Rattle.arm_core.specs.declared.turn.StepEnd.{StepEnd}
use Rattle.arm_core.specs.declared.turn.StepEnd.TheVariants as turn
use Rattle.profile.specs.images.Entries.{Entry}
use Rattle.os_heap_words.specs.lists.Heap.{HeapList}
use Rattle.os_heap.specs.Store.{Store}
use Rattle.swi_dispatch_guest.specs.declared.halt.Halt.{Halt}
use Rattle.swi_dispatch_guest.specs.declared.halt.Halt.TheVariants as halt
use Rattle.swi_dispatch_guest.specs.MachineState.{MachineState}
use Rattle.swi_dispatch_guest.specs.Returns.{outcome_of_halt}
use Rattle.swi_dispatch_guest.specs.Step.{outcome_of_call, called_by, result_of_instruction, is_exit, machine_step, store_called, outcome_of_turn, unless_halted, without_x}
use Rattle.law_machine.proofs.HeapAloneLemmas.Gates.{gate_keeps}
use Rattle.law_machine.proofs.HeapAloneLemmas.ModuleCalls.{os_module_keeps}
use Rattle.law_machine.proofs.HeapAloneLemmas.ModuleHosts.{IsHost, KeepsRecorded}
use Rattle.law_machine.proofs.HeapAloneLemmas.ModuleLaws.{IsAsked, asked, host}
use Rattle.law_machine.specs.heap_alone.ModuleLaws.{ModuleMovesKeepHeap}
use Rattle.law_machine.specs.heap_alone.ModuleMoves.{is_at_gate, is_module_name}
use Rattle.swi_dispatch_guest.specs.Moves.{Call, Step, machine_with_words, swi_of_turn}

module _ (images : List Entry) (s : MachineState) (h : HeapList) (here : IsHost s h) where
  named_keeps : (x : Bool) (next number : ℕ) (name : Option SwiName) → is_module_name name ≡ true
      → KeepsRecorded h s.store (if is_exit name then outcome_of_halt s halt.Exit else called_by images s x next number name).now.store
  named_keeps x next number (Some swi.Module) is = os_module_keeps s h here images x next number
  named_keeps x next number None is = absurd (false≢true is)
  named_keeps x next number (Some name) is = absurd (false≢true is)

  pub module_called_keeps : (x : Bool) (next number : ℕ) → is_module_name (swi_of number) ≡ true
      → KeepsRecorded h s.store (outcome_of_call images s x next number).now.store
  unfolding outcome_of_call
  module_called_keeps x next number is = named_keeps x next number (swi_of number) is

  not_done : (r : Result (State × Bytes) StepEnd) → is_module_name (swi_of_turn r) ≡ true → KeepsRecorded h s.store (outcome_of_turn images s r).now.store
  not_done (Ok w) is = absurd (false≢true is)
  not_done (Err turn.Done) is = absurd (false≢true is)
  not_done (Err (turn.Swi n)) is = module_called_keeps (bit_of n 17) ((s.cpu.pc + 4) % 2 ^ 26) (without_x n) is
  not_done (Err turn.Gate) is = absurd (false≢true is)
  not_done (Err (turn.Fault f)) is = absurd (false≢true is)

  at_gate : (r : Result (State × Bytes) StepEnd) → is_at_gate r ≡ true → KeepsRecorded h s.store (outcome_of_turn images s r).now.store
  at_gate (Ok w) is = absurd (false≢true is)
  at_gate (Err turn.Done) is = absurd (false≢true is)
  at_gate (Err (turn.Swi n)) is = absurd (false≢true is)
  at_gate (Err turn.Gate) is = gate_keeps s h here
  at_gate (Err (turn.Fault f)) is = absurd (false≢true is)

  turn_keeps : (r : Result (State × Bytes) StepEnd) → (is_module_name (swi_of_turn r) || is_at_gate r) ≡ true → KeepsRecorded h s.store (outcome_of_turn images s r).now.store
  turn_keeps r is = elim (or_cases (is_module_name (swi_of_turn r)) (is_at_gate r) is) [
    | inl name ↦ not_done r name
    | inr gate ↦ at_gate r gate
  ]

step_keeps : (images : List Entry) (s : MachineState) (h : HeapList) → s.halt ≡ None → KeepsRecorded h s.store (outcome_of_turn images s (result_of_instruction s)).now.store
    → KeepsRecorded h s.store (machine_step images s).now.store
unfolding machine_step
step_keeps images s h goes kept =
    subst (λ (o : Option Halt). KeepsRecorded h s.store (unless_halted s o (outcome_of_turn images s (result_of_instruction s))).now.store) (sym goes) kept

outside_keeps : (images : List Entry) (s : MachineState) (h : HeapList) (number : ℕ) (o : Option Halt) → o ≡ None
    → KeepsRecorded h s.store (outcome_of_call images s true s.cpu.pc (without_x (number % 2 ^ 24))).now.store
    → KeepsRecorded h s.store (unless_halted s o (outcome_of_call images s true s.cpu.pc (without_x (number % 2 ^ 24)))).now.store
outside_keeps images s h number o goes kept =
    subst (λ (w : Option Halt). KeepsRecorded h s.store (unless_halted s w (outcome_of_call images s true s.cpu.pc (without_x (number % 2 ^ 24)))).now.store)
    (sym goes) kept

pub module_moves_keep : ModuleMovesKeepHeap
unfolding store_called
module_moves_keep images s h Step has is = step_keeps images s h has.goes (turn_keeps images s h (host s h has) (result_of_instruction s) is)
module_moves_keep images s h (Call number words) has is =
    let u : MachineState = machine_with_words s words in
    let a : IsAsked s h words = asked s h words has in
    let kept : KeepsRecorded h u.store (outcome_of_call images u true u.cpu.pc (without_x (number % 2 ^ 24))).now.store =
    module_called_keeps images u h a.host true u.cpu.pc (without_x (number % 2 ^ 24)) is in
    subst (λ (t : Store). KeepsRecorded h t (store_called images u number).now.store) a.stays
    (outside_keeps images u h number u.halt (a.goes ∙ has.goes) kept)
